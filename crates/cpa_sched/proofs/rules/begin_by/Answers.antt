use Rattle.std.proofs.Common.{option_map, arith}
use Rattle.cpa_model.specs.SystemLists.{place_of}
use Rattle.cpa_sched.specs.Steps.{kind_of}
use Rattle.cpa_sched.specs.States.{seen, IsWaiting}
use Rattle.cpa_sched.specs.Stretches.{state_later}
use Rattle.cpa_sched.proofs.StretchLaws.{stretch-waits, for-task}
use Rattle.cpa_sched.proofs.rules.begin_by.Goals as goal

pub returns-clause-waits : goal.returns-clause-waits
returns-clause-waits g c =
    let s = c.args.system.now in
    let o = option_map place_of c.stretch_by_order.result.task in
    for-task (IsWaiting s c.args.ranking.now.res.0 (g.Q.Queue.ready c.args.queue.now).waits) c.stretch_by_order.result.task
    (stretch-waits s c.args.ranking.now.res.0 (seen c.args.state.now) (g.Q.Queue.ready c.args.queue.now) c.args.tick c.args.phase 1
    o (state_later (kind_of s c.args.ranking.now.res.0) o (seen c.stretch_by_order.new.state) 0) (c.stretch_by_order.ensures.stretch 0 (omega (arith, c.stretch_by_order.ensures.some))) c.requires.belongs c.requires.frame (omega arith))
