use Rattle.std.proofs.Common.{◌≡◌, map, take}
use Rattle.cpa_events.specs.Streams.{stream_after_response}
use Rattle.cpa_events.proofs.model.Model.set_after_response.Given as goal

abbrev pub invariant-loop-k : goal.invariant-loop-k
invariant-loop-k l = l.self ≡ map (stream_after_response l.best l.bound) (take l.k l.received)
