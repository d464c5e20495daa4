use Rattle.std.proofs.Common.{◌≡◌, take, fold, None}
use Rattle.cpa_sim.specs.SimText.{greater_of}
use Rattle.cpa_sim.proofs.text.greatest.Given as goal

abbrev pub invariant-loop-time : goal.invariant-loop-time
invariant-loop-time l = l.worst ≡ fold greater_of None (take l.time-index l.times)
