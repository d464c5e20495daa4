use Rattle.std.proofs.Common.{◌≡◌, ◌<◌, ◌∙◌, ◌||◌, ◌==◌, ℕ, ap, arith}
use Rattle.cpa_units.specs.Sets.{holds}
use Rattle.cpa_model.specs.declared.entries.Task.{Task as Entry}
use Rattle.cpa_model.specs.SystemLists.{task_at, depth_of}
use Rattle.cpa_model.proofs.SystemLaws.{activated-there, depth_of-activated}
use Rattle.cpa_depend.proofs.ChainLaws.{collecting-task, collecting-source, collecting-all, walked-task}
use Rattle.cpa_depend.proofs.chains.+with_each_chain.Goals as goal
use Rattle.cpa_depend.proofs.chains.+with_each_chain.Goals.{in-Task, in_default}

pub task-requires-in-Task : goal.task-requires-in-Task
task-requires-in-Task t c =
    let s = c.args.system.now in
    let are = c.as_slice-after-items.ensures.value ∙ ap (λ (e : Entry). e.after) c.task.ensures.value in
    let activates = walked-task s c.args.task.0 c.in-Task.earlier c.as_slice-after-items.result.now c.loop-after.after-index _ are c.loop-after-test.true c.in-Task.is in
    activated-there s c.requires.rules c.args.task.0 c.in-Task.earlier.0 c.requires.there activates

pub with_each_chain-all-requires : goal.with_each_chain-all-requires
with_each_chain-all-requires t c =
    let s = c.args.system.now in
    let are = c.as_slice-after-items.ensures.value ∙ ap (λ (e : Entry). e.after) c.task.ensures.value in
    let activates = walked-task s c.args.task.0 c.in-Task.earlier c.as_slice-after-items.result.now c.loop-after.after-index _ are c.loop-after-test.true c.in-Task.is in
    let deep = depth_of-activated s c.requires.rules c.args.task.0 c.in-Task.earlier.0 c.requires.there activates in (
      let less : depth_of s c.in-Task.earlier.0 < t = omega (arith, deep, c.decreases) in less,
      (c.requires.rules, activated-there s c.requires.rules c.args.task.0 c.in-Task.earlier.0 c.requires.there activates),
    )

pub loop-after-preserved : goal.loop-after-preserved
loop-after-preserved t c =
    let s = c.args.system.now in
    let are = c.as_slice-after-items.ensures.value ∙ ap (λ (e : Entry). e.after) c.task.ensures.value in
    elim c.match-after.branch [
      | in-Task w ↦
          let activates = walked-task s c.args.task.0 w.in-Task.earlier c.as_slice-after-items.result.now c.loop-after.after-index _ are c.loop-after-test.true w.in-Task.is in
          let with_k : (q : ℕ) → holds w.with-wider.result q ≡ (q == (task_at s w.in-Task.earlier.0).res.0 || holds c.loop-after.all q) =
          λ q. w.with-wider.ensures q ∙ ap (λ (e : Entry). q == e.res.0 || holds c.loop-after.all q) w.task-in-Task.ensures.value in
          rw w.all-is
          (collecting-task s c.args.task.0 c.args.set c.loop-after.all w.with-wider.result w.with_each_chain-all.result c.as_slice-after-items.result.now c.loop-after.after-index _ w.in-Task.earlier activates c.loop-after-test.true w.in-Task.is
          with_k w.with_each_chain-all.ensures c.loop-after.invariant)
      | in_default w ↦
          rw w.all-is
          (collecting-source s c.args.task.0 c.args.set c.loop-after.all c.as_slice-after-items.result.now c.loop-after.after-index _ w.in_default.field-0 c.loop-after-test.true w.in_default.is c.loop-after.invariant)
    ]

pub returns : goal.returns
returns t c =
    let are = c.as_slice-after-items.ensures.value ∙ ap (λ (e : Entry). e.after) c.task.ensures.value in
    collecting-all c.args.system.now c.args.task.0 c.args.set c.loop-after.all c.as_slice-after-items.result.now c.loop-after.after-index are c.loop-after-test.false c.loop-after.invariant
