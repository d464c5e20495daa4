use Rattle.cpa_draft.specs.Search.{AreStreams}
use Rattle.cpa_draft.proofs.streams.count_rounds.Given as goal

abbrev pub invariant-loop-tasks : goal.invariant-loop-tasks
invariant-loop-tasks l = AreStreams l.links l._tasks l.counts.items
