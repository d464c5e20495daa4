use Rattle.std.proofs.Common.{inl, arith}
use Rattle.cpa_model.proofs.SystemLaws.{no_id}
use Rattle.cpa_local.proofs.TrailLaws.{IsKept_refl}
use Rattle.cpa_local.proofs.RisingLaws.{mark-task, marked-whole}
use Rattle.cpa_local.proofs.trail.Trail.mark_all.Goals as goal

pub loop-task-init : goal.loop-task-init
loop-task-init c =
    record { marked = record { kept = IsKept_refl c.args.self.now; fresh = λ i m. inl m; marked = λ k less. absurd (let none : ⊥ = omega (arith, less) in none) } }

pub mark-requires : goal.mark-requires
mark-requires c =
    let there = c.tasks_on-task-items.ensures.there c.loop-task.task-index no_id c.loop-task-test.true in
    omega (arith, there, c.tasks_on-task-items.ensures.rules.few_tasks)

pub loop-task-preserved : goal.loop-task-preserved
loop-task-preserved c =
    let k = c.loop-task.task-index in
    record {
      marked =
          mark-task c.args.system.now c.args.res.0 c.tasks_on-task-items.result.now c.args.self.now c.loop-task.self c.mark.new.self k
          c.tasks_on-task-items.ensures.places c.loop-task-test.true (c.tasks_on-task-items.ensures.there k no_id c.loop-task-test.true)
          c.mark.ensures.kept c.mark.ensures.fresh c.mark.ensures.marked c.loop-task.invariant.marked;
    }

pub returns-clause-marked : goal.returns-clause-marked
returns-clause-marked c =
    marked-whole c.args.system.now c.args.res.0 c.tasks_on-task-items.result.now c.args.self.now c.loop-task.self c.loop-task.task-index
    c.tasks_on-task-items.ensures.places c.loop-task-test.false c.loop-task.invariant.marked
