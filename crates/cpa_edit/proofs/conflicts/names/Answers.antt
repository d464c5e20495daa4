use Rattle.std.proofs.Common.{◌<◌, length, arith, ap, sym, ◌∙◌, eq-eqb}
use Rattle.std.specs.Prelude.{◌==◌}
use Rattle.std.proofs.lemmas.Bool.{ne_eqb}
use Rattle.std.proofs.lemmas.Option.{get_or_from_slice_get}
use Rattle.cpa_units.specs.declared.places.TaskId.{TaskId}
use Rattle.cpa_edit.proofs.AnyLaws.{one-at, none-more}
use Rattle.cpa_edit.proofs.conflicts.names.Goals as goal

pub returns-then-get-task : goal.returns-then-get-task
returns-then-get-task c =
    let at = get_or_from_slice_get c.args.path.now.tasks c.loop-k.k c.get.result (record { 0 = 0 }) c.get.ensures in
    let same = ap (λ (j : TaskId). j.0) at ∙ c.if-get-task.true in
    let within : c.loop-k.k < length c.args.path.now.tasks = omega (arith, c.loop-k-test.true, c.len-k-end.ensures) in
    one-at (λ (j : TaskId). j.0 == c.args.task.0) c.args.path.now.tasks c.loop-k.k (record { 0 = 0 }) within (eq-eqb _ _ same)

pub loop-k-preserved : goal.loop-k-preserved
loop-k-preserved c =
    let at = get_or_from_slice_get c.args.path.now.tasks c.loop-k.k c.get.result (record { 0 = 0 }) c.get.ensures in
    let within : c.loop-k.k < length c.args.path.now.tasks = omega (arith, c.loop-k-test.true, c.len-k-end.ensures) in
    none-more (λ (j : TaskId). j.0 == c.args.task.0) c.args.path.now.tasks c.loop-k.k (record { 0 = 0 }) within c.loop-k.invariant
    (ne_eqb _ _ (λ same. c.if-get-task.false (sym (ap (λ (j : TaskId). j.0) at) ∙ same)))
