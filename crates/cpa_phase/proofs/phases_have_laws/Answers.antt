use Rattle.cpa_phase.proofs.UpToLaws.{up_to-later}
use Rattle.cpa_phase.proofs.PhaseLaws.{earliest_arrival-below, earliest_arrival-plain, earliest_arrival-ge, arrivals-reach, arrivals-plain, arrivals-le_plain}
use Rattle.cpa_phase.proofs.MomentLaws.{phase_is_some, phase-least, arrivals_come_later, arrivals_are_counted}
use Rattle.cpa_phase.proofs.phases_have_laws.Goals as goal

pub returns-clause-fit : goal.returns-clause-fit
returns-clause-fit c m phase n window p one = (earliest_arrival-below m phase n window one, arrivals-reach m phase n window p)

pub returns-clause-thin : goal.returns-clause-thin
returns-clause-thin c m = (earliest_arrival-plain m, arrivals-plain m, earliest_arrival-ge m, arrivals-le_plain m)

pub returns-clause-first : goal.returns-clause-first
returns-clause-first c p x regular = (up_to-later p.stream.period regular _ x, phase_is_some p x regular)

pub returns-clause-least : goal.returns-clause-least
returns-clause-least c = phase-least

pub returns-clause-later : goal.returns-clause-later
returns-clause-later c p x m gaps regular still =
    (arrivals_come_later p x m gaps regular still, λ window apart within. arrivals_are_counted p x m gaps window regular still apart within)
