use Rattle.cpa_events.proofs.EventLaws.{eta_plus-mono, eta_plus-denser, delta_minus-denser, after_response-denser}
use Rattle.cpa_events.proofs.events_are_monotone.Goals as goal

pub returns-clause-longer : goal.returns-clause-longer
returns-clause-longer c = eta_plus-mono

pub returns-clause-denser : goal.returns-clause-denser
returns-clause-denser c m m' d = (λ window. eta_plus-denser m m' window d, λ n. delta_minus-denser m m' n d)

pub returns-clause-later : goal.returns-clause-later
returns-clause-later c = after_response-denser
