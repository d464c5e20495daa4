use Rattle.cpa_local.proofs.VectorLaws.{least-one}
use Rattle.cpa_local.proofs.SolutionLaws.{least_of-is_least, responses-least_of, least_of-from_closed}
use Rattle.cpa_local.proofs.RaisedLaws.{least_up}
use Rattle.cpa_local.proofs.laws.least_solutions_have_laws.Goals as goal

pub returns-clause-exists : goal.returns-clause-exists
returns-clause-exists c = least_of-is_least

pub returns-clause-unique : goal.returns-clause-unique
returns-clause-unique c = least-one

pub returns-clause-fixed : goal.returns-clause-fixed
returns-clause-fixed c = responses-least_of

pub returns-clause-closed_below : goal.returns-clause-closed_below
returns-clause-closed_below c s x rules vector = least_of-from_closed s x vector.long

pub returns-clause-raising : goal.returns-clause-raising
returns-clause-raising c = least_up
