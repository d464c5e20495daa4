use Rattle.std.proofs.Common.{◌≡◌, arith}
use Rattle.cpa_units.proofs.SetLaws.{first-holds, power}
use Rattle.cpa_units.proofs.res_set.ResSet.first.Goals as goal

pub returns-then-count-lt128 : goal.returns-then-count-lt128
returns-then-count-lt128 c = rw (power c.args.count c.if-count-lt128.true) (first-holds c.args.count c.requires)

pub returns-else-count-lt128 : goal.returns-else-count-lt128
returns-else-count-lt128 c =
    let all : c.args.count ≡ 128 = omega (arith, c.requires) in
    rw all (first-holds 128 (omega arith))
