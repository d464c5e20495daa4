use Rattle.std.proofs.Common.{◌↔◌, refl}
use Rattle.std.specs.Prelude.{IsTrue}
use Rattle.cpa_units.specs.declared.bound.Bound.TheVariants.{Within}
use Rattle.cpa_units.specs.Bounds.{IsAtMost}
use Rattle.cpa_units.specs.Sets.{holds}
use Rattle.cpa_assign.specs.Placing.{placed_bound, Fits, without}
use Rattle.cpa_assign.proofs.PlacingLaws.{within-none, within-some, ok-maps}
use Rattle.cpa_assign.proofs.placing.is_lowest_in_time.Goals as goal

pub returns-in-None-clause-value : goal.returns-in-None-clause-value
returns-in-None-clause-value c =
    let bound = placed_bound c.args.system.now c.args.res.0 (without (holds c.args.free.now) c.args.task.0) c.args.task.0 in
    let told = rw c.in-None.is at (c.least_deadline.ensures bound) in
    (λ yes. told.1 (within-none bound), λ h. refl)

pub returns-in-Some-clause-value : goal.returns-in-Some-clause-value
returns-in-Some-clause-value c =
    let above = without (holds c.args.free.now) c.args.task.0 in
    let bound = placed_bound c.args.system.now c.args.res.0 above c.args.task.0 in
    let told = rw c.in-Some.is at (c.least_deadline.ensures bound) in
    let is = within-some c.in-Some.deadline bound in
    ok-maps (λ b. IsTrue b ↔ IsAtMost bound (Within c.in-Some.deadline)) (λ b. IsTrue b ↔ Fits c.args.system.now c.args.res.0 above c.args.task.0) c.is_lowest_within.result
    (λ b h. (λ yes. told.1 (is.1 (h.0 yes)), λ k. h.1 (is.0 (told.0 k))))
    c.is_lowest_within.ensures.value
