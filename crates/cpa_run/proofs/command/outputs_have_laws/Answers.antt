use Rattle.cpa_run.proofs.OutputLaws.{some-output, one-output}
use Rattle.cpa_run.proofs.SessionLaws.{ends-edited}
use Rattle.cpa_run.proofs.command.outputs_have_laws.Goals as goal

pub returns-clause-exist : goal.returns-clause-exist
returns-clause-exist c = some-output

pub returns-clause-one : goal.returns-clause-one
returns-clause-one c = one-output

pub returns-clause-edited : goal.returns-clause-edited
returns-clause-edited c = λ s steps. ends-edited steps s
