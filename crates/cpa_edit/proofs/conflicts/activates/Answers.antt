use Rattle.std.proofs.Common.{length, ap, sym, ◌∙◌, arith}
use Rattle.std.specs.List.{list_any}
use Rattle.cpa_model.specs.declared.entries.Task.{Task}
use Rattle.cpa_model.specs.SystemLists.{is_task, is_activated_by}
use Rattle.cpa_edit.proofs.AnyLaws.{place-any, none-places_more}
use Rattle.cpa_edit.proofs.conflicts.activates.Goals as goal

pub returns-then-has_task : goal.returns-then-has_task
returns-then-has_task c =
    place-any (is_activated_by c.args.system.now c.args.task.0) (length c.args.system.now.tasks) c.loop-place.place (omega (arith, c.loop-place-test.true, c.tasks-place-end.ensures.count))
    (ap (λ (t : Task). list_any (is_task c.args.task.0) t.after) (sym c.task.ensures.value) ∙ sym c.has_task.ensures ∙ c.if-has_task.true)

pub loop-place-preserved : goal.loop-place-preserved
loop-place-preserved c =
    none-places_more (is_activated_by c.args.system.now c.args.task.0) c.loop-place.place c.loop-place.invariant
    (ap (λ (t : Task). list_any (is_task c.args.task.0) t.after) (sym c.task.ensures.value) ∙ sym c.has_task.ensures ∙ c.if-has_task.false)
