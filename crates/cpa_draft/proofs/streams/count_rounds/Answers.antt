use Rattle.std.proofs.Common.{◌≡◌, length, replicate, rules}
use Rattle.cpa_draft.specs.Search.{AreStreams}
use Rattle.cpa_draft.proofs.StreamLaws.{streams-none, streams-next}
use Rattle.cpa_draft.proofs.streams.count_rounds.Goals as goal

pub loop-tasks-init : goal.loop-tasks-init
loop-tasks-init c =
    let zeros : c.in_ok-counts.counts.items ≡ replicate (length c.args.links.now) 0 = search rules in
    let none : AreStreams c.args.links.now 0 c.in_ok-counts.counts.items = rw zeros (streams-none c.args.links.now (length c.args.links.now)) in none

pub loop-tasks-preserved : goal.loop-tasks-preserved
loop-tasks-preserved c =
    let counted = rw c.as_slice.ensures.value at c.in_ok-counts-2.ensures in
    let next : AreStreams c.args.links.now _ c.in_ok-counts-2.counts.items = rw counted (streams-next c.args.links.now c.loop-tasks._tasks c.loop-tasks.counts.items c.loop-tasks.invariant) in
    next
