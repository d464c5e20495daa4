use Rattle.std.proofs.Common.{ap, sym, ◌∙◌}
use Rattle.std.specs.Prelude.{◌==◌}
use Rattle.std.specs.List.{list_any}
use Rattle.cpa_units.specs.Sets.{holds}
use Rattle.cpa_model.specs.declared.entries.Task.{Task}
use Rattle.cpa_model.specs.SystemLists.{is_source, is_fed_by, is_on}
use Rattle.cpa_edit.proofs.AnyLaws.{passing-any_more, with-passing, without-passing, same-flipped}
use Rattle.cpa_edit.proofs.touched_resources.fed_by.Goals as goal
use Rattle.cpa_edit.proofs.touched_resources.fed_by.Goals.{then-has_source, else-has_source}

pub loop-place-preserved : goal.loop-place-preserved
loop-place-preserved c r =
    let fed = ap (λ (t : Task). list_any (is_source c.args.source.0) t.after) (sym c.task-task.ensures.value) ∙ sym c.has_source.ensures in
    let on = same-flipped r c.task-task.result.now.res.0 ∙ ap (λ (t : Task). t.res.0 == r) c.task-task.ensures.value in
    let further = sym (passing-any_more (is_fed_by c.args.system.now c.args.source.0) (is_on c.args.system.now r) c.loop-place.place) in
    elim c.if-has_source.branch [
      | then-has_source w ↦ ap (λ set. holds set r) w.set-is ∙ w.with-set.ensures r ∙ with-passing _ _ _ _ _ (c.loop-place.invariant r) on (fed ∙ w.if-has_source.true) ∙ further
      | else-has_source w ↦ ap (λ set. holds set r) w.set-is ∙ without-passing _ _ _ _ (c.loop-place.invariant r) (fed ∙ w.if-has_source.false) ∙ further
    ]
