use Rattle.std.proofs.Common.{◌≡◌, ◌*◌, ◌^◌, ◌≤◌, take}
use Rattle.cpa_phase.specs.Streams.{work_from}
use Rattle.cpa_phase.proofs.clock.work_from.Given as goal

abbrev pub invariant-loop-stream : goal.invariant-loop-stream
invariant-loop-stream l =
    record {
      told : l.total ≡ work_from (take l.stream-index l.streams) l.x l.window;
      small : l.total ≤ l.stream-index * 2 ^ 57;
    }
