use Rattle.std.proofs.Common.{arith}
use Rattle.cpa_units.proofs.SetLaws.{next-none, next-is, holds-past}
use Rattle.cpa_units.proofs.res_set.ResSet.next.Goals as goal

pub returns-then-from-eq128 : goal.returns-then-from-eq128
returns-then-from-eq128 c r past =
    rw (← c.self.view_is) (holds-past 128 c.self.inside.bits r (omega (arith, c.if-from-eq128.true, past)))

pub returns-then-rest-eq0 : goal.returns-then-rest-eq0
returns-then-rest-eq0 c r past =
    rw (← c.self.view_is) (next-none c.self.inside.bits c.args.from c.if-rest-eq0.true r past)

pub returns-else-rest-eq0 : goal.returns-else-rest-eq0
returns-else-rest-eq0 c =
    rw (← c.self.view_is) (next-is c.self.inside.bits c.args.from c.self.invariant (omega (arith, c.requires, c.if-from-eq128.false)) c.if-rest-eq0.false)
