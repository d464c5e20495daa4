-- Windows: the least length that has room for the demand in it, as the busy windows of Richter's thesis (2005) and pyCPA.
use Rattle.std.specs.Prelude.{ℕ, ◌+◌, ◌-◌, ◌≤◌, ◌<◌}
use Rattle.cpa_units.specs.declared.bound.Bound.{Bound}
use Rattle.cpa_units.specs.declared.bound.Bound.TheVariants.{Within, Overload}
use Rattle.cpa_units.specs.Bounds.{IsAtMost, fits, capped}
use Rattle.cpa_units.specs.Search.{least_from}

-- the least w from `first` to `limit` with `demand w` at most w; `Overload` where the window is past the limit
unfoldable pub window : (ℕ → Bound) → ℕ → ℕ → Bound
window demand first limit = capped limit (Within (least_from (λ w. fits (demand w) w) first (limit + 1 - first)))

-- the same as a relation
abbrev pub IsWindow : (ℕ → Bound) → ℕ → ℕ → Bound → Type 0
IsWindow demand first limit (Within w) =
    (first ≤ w) × (w ≤ limit) × IsAtMost (demand w) (Within w) × ((v : ℕ) → first ≤ v → v < w → ¬ IsAtMost (demand v) (Within v))
IsWindow demand first limit Overload =
    (v : ℕ) → first ≤ v → v ≤ limit → ¬ IsAtMost (demand v) (Within v)
