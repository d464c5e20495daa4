use Rattle.std.proofs.Common.{◌≡◌, ◌∙◌, length, ap, rules, sym}
use Rattle.std.proofs.lemmas.List.{length-map}
use Rattle.cpa_model.specs.SystemLists.{place_of, tasks_on}
use Rattle.cpa_gen.proofs.TaskLaws.{has_tasks-by_list}
use Rattle.cpa_gen.proofs.traces.has_tasks.Goals as goal

pub returns : goal.returns
returns c =
    let tasks = c.tasks_on.result.now in
    let long : length (tasks_on c.args.system.now c.args.res.0) ≡ length tasks = sym (ap length c.tasks_on.ensures.places) ∙ length-map tasks place_of in
    rw (has_tasks-by_list c.args.system.now c.args.res.0, long) (search rules)
