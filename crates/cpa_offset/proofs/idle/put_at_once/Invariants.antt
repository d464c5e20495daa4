use Rattle.std.proofs.Common.{◌≡◌, map, take}
use Rattle.cpa_offset.specs.Idle.{at_once}
use Rattle.cpa_offset.proofs.idle.put_at_once.Given as goal

abbrev pub invariant-loop-placed : goal.invariant-loop-placed
invariant-loop-placed l = l.phased.items ≡ map at_once (take l.placed-index l.streams)
