use Rattle.cpa_draft.proofs.NameLaws.{same-more}
use Rattle.std.proofs.Common.{arith}
use Rattle.std.proofs.lemmas.Result.{IfOk-from_err}
use Rattle.cpa_draft.proofs.names.different.Goals as goal

pub loop-name-preserved : goal.loop-name-preserved
loop-name-preserved c =
    same-more c.args.names.now c.loop-name.name-index c.name-item.result c.loop-name.found c.add.new.self c.in_ok-add.field-0 (omega arith) c.name-item.is
    (λ e. rw c.bytes.ensures at (c.in_ok-add.ensures.added cc))
    (λ e. rw c.bytes.ensures at (c.in_ok-add.ensures.known cc))
    (λ e. c.in_ok-add.ensures.unchanged cc)
    c.loop-name.invariant

pub returns-in_err-add : goal.returns-in_err-add
returns-in_err-add c = IfOk-from_err _ _ c.from_residual.ensures.0
