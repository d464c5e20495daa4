use Rattle.std.proofs.Common.{◌≡◌, ◌*◌, ◌^◌, ◌≤◌, take}
use Rattle.cpa_phase.specs.Streams.{phased_work}
use Rattle.cpa_phase.proofs.phased.phased_work.Given as goal

abbrev pub invariant-loop-stream : goal.invariant-loop-stream
invariant-loop-stream l =
    record {
      told : l.total ≡ phased_work (take l.stream-index l.phased) l.window;
      small : l.total ≤ l.stream-index * 2 ^ 57;
    }
