use Rattle.std.proofs.Common.{◌≡◌, ◌==◌, not, map, ap, ◌∙◌, rules, arith}
use Rattle.std.specs.Prelude.{filter}
use Rattle.std.proofs.lemmas.List.{with_items_is}
use Rattle.std.proofs.lemmas.Fn.{filter_same}
use Rattle.cpa_units.specs.declared.places.TaskId.{TaskId}
use Rattle.cpa_model.specs.Changes.{id_without}
use Rattle.cpa_model.proofs.task_lists.ResourceTasks.take_out.Goals as goal

pub returns : goal.returns
returns c =
    let left : c.retain.new.self.items ≡ filter (λ (t : TaskId). not (t.0 == c.args.removed.0)) c.self.inside.tasks.items = filter_same _ _ _ (λ x b f' k. search rules) _ _ c.retain.ensures.filtered in
    with_items_is c.retain.new.self c.close_up_ids.new.tasks (omega arith) ∙ c.close_up_ids.ensures ∙ ap (map (id_without c.args.removed.0)) (c.as_mut_slice.ensures.value ∙ left ∙ ap (filter (λ (t : TaskId). not (t.0 == c.args.removed.0))) c.self.view_is)
