use Rattle.std.proofs.lemmas.Nat.{or_lt}
use Rattle.cpa_units.proofs.SetLaws.{union-holds}
use Rattle.cpa_units.proofs.res_set.ResSet.union.Goals as goal

pub invariant_of-result : goal.invariant_of-result
invariant_of-result c = or_lt 128 c.self.inside.bits c.other.inside.bits c.self.invariant c.other.invariant

pub returns : goal.returns
returns c r = rw (← c.self.view_is, ← c.other.view_is) (union-holds c.self.inside.bits c.other.inside.bits r)
