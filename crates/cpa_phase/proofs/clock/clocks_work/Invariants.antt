use Rattle.std.proofs.Common.{◌≡◌, ◌*◌, ◌^◌, ◌≤◌, take}
use Rattle.cpa_phase.specs.Clocks.{clocks_work}
use Rattle.cpa_phase.proofs.clock.clocks_work.Given as goal

abbrev pub invariant-loop-clock : goal.invariant-loop-clock
invariant-loop-clock l =
    record {
      told : l.total ≡ clocks_work (take l.clock-index l.clocks) l.window;
      small : l.total ≤ l.clock-index * 2 ^ 75;
    }
