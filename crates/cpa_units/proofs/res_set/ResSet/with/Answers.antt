use Rattle.std.proofs.Common.{◌*◌, ◌^◌, ◌%◌, arith}
use Rattle.std.proofs.lemmas.Nat.{or_lt}
use Rattle.cpa_units.proofs.SetLaws.{with-holds}
use Rattle.cpa_units.proofs.res_set.ResSet.with.Goals as goal

pub invariant_of-result : goal.invariant_of-result
invariant_of-result c = or_lt 128 c.self.inside.bits (1 * 2 ^ c.args.res.0 % 2 ^ 128) c.self.invariant (omega arith)

pub returns : goal.returns
returns c r = rw (← c.self.view_is) (with-holds c.self.inside.bits c.args.res.0 c.requires r)
