use Rattle.std.proofs.Common.{◌≡◌, length}
use Rattle.std.specs.Prelude.{All}
use Rattle.cpa_window.specs.Rivals.{IsRival}
use Rattle.cpa_bench.proofs.bounds.rivals_from.Given as goal

abbrev pub invariant-loop-place : goal.invariant-loop-place
invariant-loop-place l =
    record {
      count : length l.list.items ≡ l.place;
      each : All IsRival l.list.items;
    }
