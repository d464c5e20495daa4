use Rattle.cpa_offset.proofs.BoundLaws.{start_is_enough, others-grow, others-le_plain, offset_bound-grows, offset_bound-low, offset_bound-limit, offset_bound-le_plain, offset_bound-alone}
use Rattle.cpa_offset.proofs.ApartLaws.{elsewhere-grows, elsewhere-le_plain, elsewhere-singles, apart_bound-grows, apart_bound-plain}
use Rattle.cpa_offset.proofs.bounds_have_laws.Goals as goal

pub returns-clause-starts : goal.returns-clause-starts
returns-clause-starts c = start_is_enough

pub returns-clause-grow : goal.returns-clause-grow
returns-clause-grow c = offset_bound-grows

pub returns-clause-in_range : goal.returns-clause-in_range
returns-clause-in_range c own blocking joint rest limit cycle one long =
    (offset_bound-low own blocking joint rest limit cycle one long, offset_bound-limit own blocking joint rest limit cycle)

pub returns-clause-below : goal.returns-clause-below
returns-clause-below c = offset_bound-le_plain

pub returns-clause-alone : goal.returns-clause-alone
returns-clause-alone c = offset_bound-alone

pub returns-clause-others_grow : goal.returns-clause-others_grow
returns-clause-others_grow c = (others-grow, elsewhere-grows)

pub returns-clause-others_below : goal.returns-clause-others_below
returns-clause-others_below c = (others-le_plain, elsewhere-le_plain, elsewhere-singles)

pub returns-clause-apart : goal.returns-clause-apart
returns-clause-apart c = (apart_bound-grows, apart_bound-plain)
