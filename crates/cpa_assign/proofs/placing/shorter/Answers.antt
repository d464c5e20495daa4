use Rattle.cpa_assign.proofs.PlacingLaws.{within-shorter}
use Rattle.cpa_assign.proofs.placing.shorter.Goals as goal

pub returns-in-Some-Some : goal.returns-in-Some-Some
returns-in-Some-Some c =
    rw (c.in-Some-Some.is-0, c.in-Some-Some.is-1, c.min.ensures) (λ b. within-shorter c.in-Some-Some.a c.in-Some-Some.b b)
