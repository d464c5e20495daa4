use Rattle.std.proofs.Common.{ap, ◌∙◌, get_or, arith}
use Rattle.cpa_units.specs.Sets.{holds}
use Rattle.cpa_local.proofs.SolutionLaws.{least_of-is_least}
use Rattle.cpa_model.proofs.SystemLaws.{no_id}
use Rattle.cpa_model.proofs.ResourceTaskLaws.{on-each}
use Rattle.cpa_workers.proofs.SeatLaws.{seated-range}
use Rattle.cpa_workers.proofs.WordLaws.{IsNoLower_refl}
use Rattle.cpa_workers.proofs.FindingLaws.{looking-load}
use Rattle.cpa_workers.proofs.worker.look_on.Goals as goal

pub loop-task-init : goal.loop-task-init
loop-task-init c = record { seated = c.requires.seated; grew = IsNoLower_refl c.args.seat.now.seen; look = c.requires.look }

pub load-word-requires-clause-word : goal.load-word-requires-clause-word
load-word-requires-clause-word c =
    let s = c.args.job.now.system.now in
    let range = seated-range s _ _ c.loop-task.seat (least_of-is_least s c.tasks_on-task-items.ensures.rules).vector c.loop-task.invariant.seated in
    let there = c.tasks_on-task-items.ensures.there c.loop-task.task-index no_id c.loop-task-test.true in
    omega (arith, range, there)

pub loop-task-preserved : goal.loop-task-preserved
loop-task-preserved c =
    let s = c.args.job.now.system.now in
    let dirty = c.args.job.now.dirty in
    let k = c.loop-task.task-index in
    let tasks = c.tasks_on-task-items.result.now in
    let there = c.tasks_on-task-items.ensures.there k no_id c.loop-task-test.true in
    let least = (least_of-is_least s c.tasks_on-task-items.ensures.rules).vector in
    let on = on-each s c.args.res.0 tasks c.tasks_on-task-items.ensures.places k no_id c.loop-task-test.true in
    rw (c.set.ensures)
    (looking-load s _ dirty c.args.job.now.starts.now _ c.loop-task.seat c.load-word.new.self c.loop-task.x (get_or tasks k no_id).0 c.load-word.result c.read_word.result least c.requires.vector there
    (ap (holds dirty) on ∙ c.requires.dirty) c.load-word.ensures.value c.load-word.ensures.seen c.read_word.ensures c.loop-task.invariant)
