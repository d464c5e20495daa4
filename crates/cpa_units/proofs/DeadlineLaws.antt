-- Whether a bound meets a deadline, where there is one.
use Rattle.std.proofs.Common.{ℕ, Bool, true, Option, Some, None, refl, subst}
use Rattle.std.specs.Bool.{Decides}
use Rattle.std.specs.Option.{ForSome}
use Rattle.std.proofs.lemmas.Option.{same_Some, none-some}
use Rattle.cpa_units.specs.declared.bound.Bound.{Bound}
use Rattle.cpa_units.specs.declared.bound.Bound.TheVariants.{Within}
use Rattle.cpa_units.specs.Bounds.{IsAtMost, fits}
use Rattle.cpa_units.proofs.BoundLaws.{fits-true, fits-from}

abbrev pub meets_deadline : Option ℕ → Bound → Bool
meets_deadline None bound = true
meets_deadline (Some d) bound = fits bound d

pub deadline-decides : (deadline : Option ℕ) (bound : Bound) → Decides (meets_deadline deadline bound) (ForSome deadline (λ d. IsAtMost bound (Within d)))
deadline-decides None bound = (λ told d is. absurd (none-some d is), λ h. refl)
deadline-decides (Some d) bound = (
  λ told e is. subst (λ (n : ℕ). IsAtMost bound (Within n)) (same_Some d e is) (fits-true bound d told),
  λ h. fits-from bound d (h d refl),
)
