use Rattle.std.proofs.Common.{◌∙◌, ap, arith}
use Rattle.cpa_sched.specs.Steps.{owner_at}
use Rattle.cpa_sched.specs.Stretches.{ticks_to_end}
use Rattle.cpa_sched.proofs.StretchLaws.{slots_of, cycle-is}
use Rattle.cpa_sched.proofs.choices.owner_on.Goals as goal

pub owner_at-requires-clause-place : goal.owner_at-requires-clause-place
owner_at-requires-clause-place c =
    let s = c.args.system.now in
    let all = ap (slots_of s) c.tasks_on.ensures.places in
    omega (arith, all, cycle-is s c.args.res.0 c.args.gap c.requires.kind, c.requires.place)

pub returns-clause-task : goal.returns-clause-task
returns-clause-task c = c.owner_at.ensures.task ∙ ap (λ js. owner_at c.args.system.now js c.args.place) c.tasks_on.ensures.places

pub returns-clause-left : goal.returns-clause-left
returns-clause-left c = c.owner_at.ensures.left ∙ ap (λ js. ticks_to_end c.args.system.now c.args.gap js c.args.place) c.tasks_on.ensures.places
