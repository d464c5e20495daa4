use Rattle.std.proofs.Common.{◌≡◌, ◌≤◌, ◌∙◌, refl, ap, arith}
use Rattle.cpa_units.specs.Sizes.{most_execution}
use Rattle.cpa_model.specs.declared.entries.Task.{Task}
use Rattle.cpa_model.specs.SystemLists.{SystemLists, task_at, no_task}
use Rattle.cpa_slack.proofs.SlackLaws.{judged, most-of_all}
use Rattle.cpa_slack.proofs.search.find_slack.Goals as goal

-- an execution is no greater than the size of its system allows
pub overflow_sub-room : goal.overflow_sub-room
overflow_sub-room g c =
    let small : (task_at c.args.system.now c.args.task.0).worst ≤ most_execution c.args.system.now.size = (c.has_rules.ensures.sized.times c.args.task.0 no_task c.requires.there).worst in
    let most : c.most_execution.result ≡ most_execution c.args.system.now.size = c.most_execution.ensures ∙ ap most_execution c.size.ensures in
    omega (arith, small, most, ap (λ (t : Task). t.worst) c.task.ensures.value)

pub returns-clause-slack : goal.returns-clause-slack
returns-clause-slack g c =
    let s : SystemLists = c.args.system.now in
    let small : (task_at c.args.system.now c.args.task.0).worst ≤ most_execution c.args.system.now.size = (c.has_rules.ensures.sized.times c.args.task.0 no_task c.requires.there).worst in
    let most : c.most_execution.result ≡ most_execution c.args.system.now.size = c.most_execution.ensures ∙ ap most_execution c.size.ensures in (
      judged s s c.in_ok-bounds.bounds refl c.in_ok-bounds.ensures.least (c.all_hold.ensures.0 c.if-not-all_hold.false),
      most-of_all s c.args.task.0 _ c.in_ok-ticks.ticks _ (omega (arith, small, most, ap (λ (t : Task). t.worst) c.task.ensures.value)) refl c.in_ok-ticks.ensures.found,
    )
