use Rattle.std.proofs.Common.{◌≡◌, ◌<◌, length, [], ap, ◌∙◌, arith}
use Rattle.cpa_draft.proofs.ListLaws.{get_or-any}
use Rattle.cpa_model.specs.SystemLists.{places_of}
use Rattle.cpa_model.specs.ResourceTasks.{listed_on, is_placed_on}
use Rattle.cpa_model.proofs.ResourceTaskLaws.{task_list-there}
use Rattle.cpa_model.proofs.system.System.tasks_on.Goals as goal

pub returns-clause-there : goal.returns-clause-there
returns-clause-there c =
    let less : c.args.res.0 < length c.self.inside.resources.items = rw (← c.self.view_is) at c.requires in
    let room : c.args.res.0 < length c.self.inside.task_lists.items = omega (arith, c.self.invariant.1.long) in
    let is : c.tasks.result.now ≡ listed_on c.self.inside.task_lists.items c.args.res.0 =
    c.tasks.ensures ∙ c.index.ensures ∙ get_or-any c.self.inside.task_lists.items c.args.res.0 c.index.result.now [] room in
    rw (← c.self.view_is)
    (task_list-there (is_placed_on c.self.inside.tasks.items c.args.res.0) (length c.self.inside.tasks.items) c.tasks.result.now (ap places_of is ∙ c.self.invariant.1.each c.args.res.0 less))
