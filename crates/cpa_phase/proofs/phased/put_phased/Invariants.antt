use Rattle.std.proofs.Common.{◌≡◌, map, take}
use Rattle.cpa_phase.specs.Streams.{phased_from}
use Rattle.cpa_phase.proofs.phased.put_phased.Given as goal

abbrev pub invariant-loop-stream : goal.invariant-loop-stream
invariant-loop-stream l = l.phased.items ≡ map (phased_from l.x) (take l.stream-index l.streams)
