use Rattle.std.proofs.Common.{◌≡◌, ◌*◌, ◌^◌, ◌≤◌, take}
use Rattle.cpa_events.specs.Events.{eta_plus}
use Rattle.cpa_events.proofs.model.events_in.Given as goal

abbrev pub invariant-loop-stream : goal.invariant-loop-stream
invariant-loop-stream l =
    record {
      told : l.total ≡ eta_plus (take l.stream-index l.streams) l.delta;
      small : l.total ≤ l.stream-index * 2 ^ 64;
    }
