use Rattle.std.proofs.Common.{◌≤◌, ◌+◌, map, nat_lt, cond}
use Rattle.std.specs.Prelude.{filter}
use Rattle.std.specs.List.{range_with_len}
use Rattle.cpa_units.specs.Sets.{holds}
use Rattle.cpa_clock.specs.Gathered.{IsGathered}
use Rattle.cpa_assign.specs.Placing.{clocked_rival_at, without}
use Rattle.cpa_assign.proofs.by_clocks.gather_by_clocks.Given as goal

abbrev pub invariant-loop-k : goal.invariant-loop-k
invariant-loop-k l = record {
  found : IsGathered l.fn.own l.cycles (map (clocked_rival_at l.system) (filter (without (holds l.free) l.fn.task.0) (range_with_len 0 l.k))) l.gathered;
  few : l.gathered.added + cond (nat_lt l.fn.task.0 l.k) 1 0 ≤ l.k;
}
