-- Windows grow with the demand.
use Rattle.std.proofs.Common.{◌≡◌, ℕ, ◌+◌, ◌-◌, ◌<◌, ◌≤◌, Bool, refl, sym, ◌∙◌, inl, inr, arith, ap, subst}
use Rattle.std.proofs.lemmas.Bool.{cases_lt, cases_order, false≢true}
use Rattle.cpa_units.specs.declared.bound.Bound.{Bound}
use Rattle.cpa_units.specs.declared.bound.Bound.TheVariants.{Within, Overload}
use Rattle.cpa_units.specs.Bounds.{IsAtMost, RespectsLimit, fits}
use Rattle.cpa_units.specs.Search.{least_from}
use Rattle.cpa_window.specs.Windows.{window, IsWindow}
use Rattle.cpa_units.proofs.SearchLaws.{least_from-ge, least_from-passes, least_from-above, least_from-least}
use Rattle.cpa_units.proofs.BoundLaws.{fits-true, fits-from, capped-within, capped-past, IsAtMost_trans}

module _ (demand : ℕ → Bound) (first limit : ℕ) where
  test : ℕ → Bool
  test w = fits (demand w) w

  found : ℕ
  found = least_from test first (limit + 1 - first)

  refused : (v : ℕ) → first ≤ v → v < found → ¬ IsAtMost (demand v) (Within v)
  unfolding found test
  refused v f below h =
      false≢true (sym (least_from-above test first (limit + 1 - first) v f below) ∙ fits-from (demand v) v h)

  -- the computed window is the one that the relation says
  pub window-is : IsWindow demand first limit (window demand first limit)
  unfolding window found test
  window-is =
      elim (cases_lt limit found) [
        | inl past ↦ rw (capped-past limit found past) (λ v f le. refused v f (omega arith))
        | inr within ↦
            let later : first ≤ found = least_from-ge test first (limit + 1 - first) in
            let passes : found < first + (limit + 1 - first) = omega arith in
            rw (capped-within limit found within)
            (least_from-ge test first (limit + 1 - first), within, fits-true (demand found) found (least_from-passes test first (limit + 1 - first) passes), refused)
      ]

-- a window is at most each length that has room
pub window-least : (demand : ℕ → Bound) (first limit v : ℕ) → first ≤ v → v ≤ limit → IsAtMost (demand v) (Within v) → IsAtMost (window demand first limit) (Within v)
unfolding window
window-least demand first limit v f le h =
    let least = least_from-least (λ w. fits (demand w) w) first (limit + 1 - first) v f (fits-from (demand v) v h) in
    rw (capped-within limit (least_from (λ w. fits (demand w) w) first (limit + 1 - first)) (omega arith)) least

-- no two windows differ
pub IsWindow-unique : (demand : ℕ → Bound) (first limit : ℕ) (a b : Bound) → IsWindow demand first limit a → IsWindow demand first limit b → a ≡ b
IsWindow-unique demand first limit Overload Overload h k = refl
IsWindow-unique demand first limit Overload (Within b) h k = absurd (h b k.0 k.1 k.2)
IsWindow-unique demand first limit (Within a) Overload h k = absurd (k a h.0 h.1 h.2)
IsWindow-unique demand first limit (Within a) (Within b) h k =
    elim (cases_order a b) [
      | inl same ↦ ap Within same
      | inr o ↦ elim o [ inl lt ↦ absurd (k.3 a h.0 lt h.2) | inr gt ↦ absurd (h.3 b k.0 gt k.2) ]
    ]

window-mono_at : (demand demand' : ℕ → Bound) (first limit : ℕ) (w : Bound) → ((v : ℕ) → IsAtMost (demand v) (demand' v)) → IsWindow demand' first limit w → IsAtMost (window demand first limit) w
window-mono_at demand demand' first limit Overload d h = tt
window-mono_at demand demand' first limit (Within w) d h =
    window-least demand first limit w h.0 h.1 (IsAtMost_trans (demand w) (demand' w) (Within w) (d w) h.2)

-- more demand, no shorter a window
pub window-mono : (demand demand' : ℕ → Bound) (first limit : ℕ) → ((v : ℕ) → IsAtMost (demand v) (demand' v)) → IsAtMost (window demand first limit) (window demand' first limit)
window-mono demand demand' first limit d = window-mono_at demand demand' first limit (window demand' first limit) d (window-is demand' first limit)

-- a window of a demand that is the same everywhere
pub window-from : (demand demand' : ℕ → Bound) (first limit : ℕ) (w : Bound) → ((v : ℕ) → demand v ≡ demand' v) → IsWindow demand first limit w → window demand' first limit ≡ w
window-from demand demand' first limit w same h =
    let e : demand ≡ demand' = λ i v. same v i in
    IsWindow-unique demand' first limit (window demand' first limit) w (window-is demand' first limit) (subst (λ d. IsWindow d first limit w) e h)

-- where no length has room, the window is past the limit
pub window-overload : (demand : ℕ → Bound) (first limit : ℕ) → ((v : ℕ) → first ≤ v → v ≤ limit → ¬ IsAtMost (demand v) (Within v)) → window demand first limit ≡ Overload
window-overload demand first limit h = window-from demand demand first limit Overload (λ v. refl) h

-- ---- within the limit, and no less than is asked for

window-limit_at : (demand : ℕ → Bound) (first limit : ℕ) (w : Bound) → IsWindow demand first limit w → RespectsLimit limit w
window-limit_at demand first limit (Within w) h = h.1
window-limit_at demand first limit Overload h = tt

pub window-limit : (demand : ℕ → Bound) (first limit : ℕ) → RespectsLimit limit (window demand first limit)
window-limit demand first limit = window-limit_at demand first limit (window demand first limit) (window-is demand first limit)

window-ge_at : (demand : ℕ → Bound) (first limit c : ℕ) (w : Bound) → ((v : ℕ) → IsAtMost (Within c) (demand v)) → IsWindow demand first limit w → IsAtMost (Within c) w
window-ge_at demand first limit c (Within w) d h = IsAtMost_trans (Within c) (demand w) (Within w) (d w) h.2
window-ge_at demand first limit c Overload d h = tt

pub window-ge : (demand : ℕ → Bound) (first limit c : ℕ) → ((v : ℕ) → IsAtMost (Within c) (demand v)) → IsAtMost (Within c) (window demand first limit)
window-ge demand first limit c d = window-ge_at demand first limit c (window demand first limit) d (window-is demand first limit)
