use Rattle.std.proofs.Common.{◌≡◌, Option, None, Result, Ok, Err}
use Rattle.std.specs.Result.{IfErr}
use Rattle.cpa_draft.specs.Validated.{Validates}
use Rattle.cpa_draft.specs.declared.refusal.BuildFault.{BuildFault}
use Rattle.cpa_draft.specs.declared.refusal.BuildFault.TheVariants.{Memory}
use Rattle.cpa_draft.specs.declared.refusal.Refusal.{Refusal}
use Rattle.cpa_model.proofs.system.System.build.Goals as goal

-- where no reason applies, memory alone may fail
unrefused-judged : {X : Type 0} (r : Result X BuildFault) (first : Option Refusal) → first ≡ None → IfErr r (λ e. e ≡ Memory) → Validates r first
unrefused-judged (Ok x) first none memory = none
unrefused-judged (Err e) first none memory = rw memory tt

pub returns-clause-refused : goal.returns-clause-refused
returns-clause-refused c = unrefused-judged _ _ c.in_ok-tables.ensures.refusal c.build_validated.ensures.err
