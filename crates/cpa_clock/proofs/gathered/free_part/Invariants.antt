use Rattle.std.proofs.Common.{◌≡◌, take}
use Rattle.cpa_clock.specs.Gathered.{anchors_at, free_streams, model_of}
use Rattle.cpa_clock.proofs.gathered.free_part.Given as goal

abbrev pub invariant-loop-k : goal.invariant-loop-k
invariant-loop-k l = l.free ≡ model_of (free_streams (anchors_at l.anchors) 0 (take l.k l.model))
