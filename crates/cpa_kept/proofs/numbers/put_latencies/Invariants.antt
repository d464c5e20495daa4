use Rattle.std.proofs.Common.{◌≡◌, ◌++◌, map, take, drop}
use Rattle.cpa_units.specs.Words.{word_of}
use Rattle.cpa_kept.specs.Numbers.{latencies_of}
use Rattle.cpa_kept.proofs.numbers.put_latencies.Given as goal

abbrev pub invariant-loop-k : goal.invariant-loop-k
invariant-loop-k l = l.out ≡ take l.k (map word_of (latencies_of l.system l.bounds)) ++ drop l.k l.initial.out
