use Rattle.std.proofs.Common.{◌≡◌, ◌<◌, ◌∙◌, ◌++◌, ◌∷◌, [], ap, arith, length}
use Rattle.cpa_model.specs.declared.entries.Activator.TheVariants.{Source as FromSource, Task as FromTask}
use Rattle.cpa_model.specs.declared.entries.Task.{Task}
use Rattle.cpa_model.specs.SystemLists.{depth_of}
use Rattle.cpa_model.proofs.SystemLaws.{activated-there, depth_of-activated}
use Rattle.cpa_local.proofs.AnchorLists.{put-step, put-task, put-room, put-all, put-late}
use Rattle.cpa_local.proofs.GatherLaws.{walked-task}
use Rattle.cpa_local.proofs.anchoring.+put_anchors.Goals as goal
use Rattle.cpa_local.proofs.anchoring.+put_anchors.Goals.{in-Source, in-Task}

pub push-requires : goal.push-requires
push-requires t c =
    let are = c.as_slice-after-items.ensures.value ∙ ap (λ (e : Task). e.after) c.task.ensures.value in
    let room = put-room c.args.system.now c.args.late c.args.found.now c.loop-after.found c.as_slice-after-items.result.now c.loop-after.after-index _ c.loop-after-test.true c.loop-after.invariant
    c.has_rules.ensures c.args.task.0 (FromSource c.in-Source.source) c.requires.there are c.in-Source.is c.requires.room in
    omega (arith, room)

pub put_anchors-requires : goal.put_anchors-requires
put_anchors-requires t c =
    let s = c.args.system.now in
    let are = c.as_slice-after-items.ensures.value ∙ ap (λ (e : Task). e.after) c.task.ensures.value in
    let after = walked-task s c.args.task.0 c.in-Task.earlier c.as_slice-after-items.result.now c.loop-after.after-index _ are c.loop-after-test.true c.in-Task.is in
    let there = activated-there s c.has_rules.ensures c.args.task.0 c.in-Task.earlier.0 c.requires.there after in
    let deep = depth_of-activated s c.has_rules.ensures c.args.task.0 c.in-Task.earlier.0 c.requires.there after in
    let late = put-late s c.has_rules.ensures c.args.late c.args.task.0 c.in-Task.earlier.0 c.requires.there after c.requires.late in
    let room = put-room s c.args.late c.args.found.now c.loop-after.found c.as_slice-after-items.result.now c.loop-after.after-index _ c.loop-after-test.true c.loop-after.invariant
    c.has_rules.ensures c.args.task.0 (FromTask c.in-Task.earlier) c.requires.there are c.in-Task.is c.requires.room in (
      let less : depth_of s c.in-Task.earlier.0 < t = omega (arith, deep, c.decreases) in less,
      (there, (rw c.task-in-Task.ensures.value late, room)),
    )

pub loop-after-preserved : goal.loop-after-preserved
loop-after-preserved t c =
    let s = c.args.system.now in
    let items = c.as_slice-after-items.result.now in
    let k = c.loop-after.after-index in
    elim c.match-after.branch [
      | in-Source w ↦
          rw w.found-is
          (put-step s c.args.late c.args.found.now c.loop-after.found items k _ c.loop-after-test.true c.loop-after.invariant w.push.new.self (FromSource w.in-Source.source) w.in-Source.is
          (w.push.ensures ∙ ap (λ o. c.loop-after.found ++ o ∷ []) w.anchor_after.ensures))
      | in-Task w ↦
          let put = rw w.task-in-Task.ensures.value at w.put_anchors.ensures in
          rw w.found-is (put-task s c.args.late c.args.found.now c.loop-after.found items k _ c.loop-after-test.true c.loop-after.invariant w.put_anchors.new.found w.in-Task.earlier w.in-Task.is put)
    ]

pub returns : goal.returns
returns t c =
    let are = c.as_slice-after-items.ensures.value ∙ ap (λ (e : Task). e.after) c.task.ensures.value in
    put-all c.args.system.now c.has_rules.ensures c.args.late c.args.found.now c.loop-after.found c.as_slice-after-items.result.now c.loop-after.after-index c.args.task.0 c.requires.there are c.loop-after-test.false c.loop-after.invariant
