use Rattle.std.proofs.Common.{◌≡◌, map, ap, ◌∙◌, arith}
use Rattle.std.specs.List.{remove}
use Rattle.std.specs.Vec.{with_items}
use Rattle.std.proofs.lemmas.List.{with_items_is}
use Rattle.cpa_model.specs.Changes.{task_without, path_without, ids_without, without_task}
use Rattle.cpa_model.proofs.ChangedLaws.{lists-same, system-same}
use Rattle.cpa_model.proofs.ResourceTaskLaws.{task_lists-by, task_lists-without}
use Rattle.cpa_model.proofs.system.System.remove_task.Goals as goal

pub invariant_of-self : goal.invariant_of-self
unfolding without_task
invariant_of-self c =
    let rules = rw (← c.self.view_is) at c.requires.rules in
    let tasks : (with_items c.remove-removed.new.self c.close_up_tasks.new.tasks).items ≡ map (task_without c.args.task.0) (remove c.self.inside.tasks.items c.args.task.0) =
    with_items_is c.remove-removed.new.self c.close_up_tasks.new.tasks (omega arith)
    ∙ c.close_up_tasks.ensures
    ∙ ap (map (task_without c.args.task.0)) (c.as_mut_slice.ensures.value ∙ c.remove-removed.ensures.items) in
    let paths : (with_items c.self.inside.paths c.close_up_paths.new.paths).items ≡ map (path_without c.args.task.0) c.self.inside.paths.items =
    with_items_is c.self.inside.paths c.close_up_paths.new.paths (omega arith) ∙ c.close_up_paths.ensures ∙ ap (map (path_without c.args.task.0)) c.as_mut_slice-2.ensures.value in
    let task_lists : (with_items c.self.inside.task_lists c.take_out.new.task_lists).items ≡ map (ids_without c.args.task.0) c.self.inside.task_lists.items =
    with_items_is c.self.inside.task_lists c.take_out.new.task_lists (omega arith) ∙ c.take_out.ensures ∙ ap (map (ids_without c.args.task.0)) c.as_mut_slice-3.ensures.value in
    let there = rw (← c.self.view_is) at c.requires.there in (
      system-same _ _ (lists-same _ _ _ _ _ _ _ tasks paths) rules,
      task_lists-by _ _ _ _ _ tasks task_lists (task_lists-without _ c.self.inside.tasks.items c.args.task.0 c.self.inside.task_lists.items there c.self.invariant.1),
      c.self.invariant.2,
    )

pub returns : goal.returns
unfolding without_task
returns c =
    let tasks : (with_items c.remove-removed.new.self c.close_up_tasks.new.tasks).items ≡ map (task_without c.args.task.0) (remove c.self.inside.tasks.items c.args.task.0) =
    with_items_is c.remove-removed.new.self c.close_up_tasks.new.tasks (omega arith)
    ∙ c.close_up_tasks.ensures
    ∙ ap (map (task_without c.args.task.0)) (c.as_mut_slice.ensures.value ∙ c.remove-removed.ensures.items) in
    let paths : (with_items c.self.inside.paths c.close_up_paths.new.paths).items ≡ map (path_without c.args.task.0) c.self.inside.paths.items =
    with_items_is c.self.inside.paths c.close_up_paths.new.paths (omega arith) ∙ c.close_up_paths.ensures ∙ ap (map (path_without c.args.task.0)) c.as_mut_slice-2.ensures.value in
    rw (← c.self.view_is) (lists-same _ _ _ _ _ _ _ tasks paths)
