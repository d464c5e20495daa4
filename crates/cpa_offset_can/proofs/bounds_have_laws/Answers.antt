use Rattle.cpa_offset_can.proofs.CanLaws.{can_start_is_enough, can_offset_bound-grows, can_offset_bound-low, can_offset_bound-limit, can_offset_bound-le_plain, can_offset_bound-alone, can_apart_bound-grows, can_apart_bound-plain}
use Rattle.cpa_offset_can.proofs.bounds_have_laws.Goals as goal

pub returns-clause-starts : goal.returns-clause-starts
returns-clause-starts c = can_start_is_enough

pub returns-clause-grow : goal.returns-clause-grow
returns-clause-grow c = can_offset_bound-grows

pub returns-clause-in_range : goal.returns-clause-in_range
returns-clause-in_range c own blocking joint rest bit limit cycle one long =
    (can_offset_bound-low own blocking joint rest bit limit cycle one long, can_offset_bound-limit own blocking joint rest bit limit cycle)

pub returns-clause-below : goal.returns-clause-below
returns-clause-below c = can_offset_bound-le_plain

pub returns-clause-alone : goal.returns-clause-alone
returns-clause-alone c = can_offset_bound-alone

pub returns-clause-apart : goal.returns-clause-apart
returns-clause-apart c = (can_apart_bound-grows, can_apart_bound-plain)
