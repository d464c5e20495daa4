use Rattle.std.proofs.Common.{arith}
use Rattle.std.proofs.lemmas.Nat.Gcd.{IsGcd-from_zero, IsGcd-from_mod}
use Rattle.cpa_draft.proofs.clocks.greatest_divisor.Goals as goal

pub loop-low-preserved : goal.loop-low-preserved
loop-low-preserved c g h = c.loop-low.invariant g (IsGcd-from_mod _ _ g h)

pub returns : goal.returns
returns c = c.loop-low.invariant _ (IsGcd-from_zero _ _ (omega arith))
