use Rattle.cpa_fix.proofs.DependLaws.{response-same, response-outside}
use Rattle.cpa_fix.proofs.laws.bounds_depend_on_reads.Goals as goal

pub returns-clause-reads : goal.returns-clause-reads
returns-clause-reads c = response-same

pub returns-clause-outside : goal.returns-clause-outside
returns-clause-outside c = response-outside
