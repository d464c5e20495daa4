-- What code that looks at a busy window knows, whose first job may come late.
use Rattle.std.proofs.Common.{◌≡◌, ℕ, zero, suc, ◌+◌, ◌<◌, ◌≤◌, refl, ◌∙◌, inl, inr, arith}
use Rattle.std.proofs.lemmas.Bool.{cases_lt, le-leb, lt-leb}
use Rattle.cpa_units.specs.declared.bound.Bound.{Bound}
use Rattle.cpa_units.specs.declared.bound.Bound.TheVariants.{Within, Overload}
use Rattle.cpa_units.specs.Bounds.{IsAtMost}
use Rattle.cpa_window.specs.Windows.{window, IsWindow}
use Rattle.cpa_window.specs.Walk.{IsSteady}
use Rattle.cpa_window.specs.BusyWindow.{busy_window_bound, windows_of}
use Rattle.cpa_window.proofs.WindowLaws.{window-from, window-least, window-overload}
use Rattle.cpa_units.proofs.BoundLaws.{IsAtMost_trans, fits-from}
use Rattle.cpa_window.proofs.BusyWindowLaws.{busy_window_bound-overload}
use Rattle.cpa_window.proofs.WalkLaws.{numbers, IsReady-start, IsUnderWay}
use Rattle.cpa_offset.specs.Offsets.{window_bound}
use Rattle.cpa_offset.proofs.WindowBoundLaws.{late-none, late-some}

module _ (demand : ℕ → ℕ → ℕ) (earliest : ℕ → ℕ) (limit : ℕ) where
  -- the window of the others alone
  alone-is : (w : Bound) → IsWindow (numbers demand 0) 1 limit w → window (numbers demand 0) 1 limit ≡ w
  alone-is w h = window-from (numbers demand 0) (numbers demand 0) 1 limit w (λ v. refl) h

  -- it is over before the first job can come
  pub late-over : (end : ℕ) → IsWindow (numbers demand 0) 1 limit (Within end) → end ≤ earliest 1 → window_bound (numbers demand) earliest limit ≡ Within 0
  late-over end h over = late-none (numbers demand) earliest limit (rw (alone-is (Within end) h) (le-leb end (earliest 1) over))

  -- as is seen at once, where they have room in some window that ends by then
  pub late-done : (v : ℕ) → 0 < v → v ≤ limit → demand 0 v ≤ v → v ≤ earliest 1 → window_bound (numbers demand) earliest limit ≡ Within 0
  late-done v some within room over =
      let short = window-least (numbers demand 0) 1 limit v some within room in
      late-none (numbers demand) earliest limit
      (fits-from (window (numbers demand 0) 1 limit) (earliest 1) (IsAtMost_trans (window (numbers demand 0) 1 limit) (Within v) (Within (earliest 1)) short over))

  -- or not
  pub late-on : (end : ℕ) → IsWindow (numbers demand 0) 1 limit (Within end) → earliest 1 < end → window_bound (numbers demand) earliest limit ≡ busy_window_bound (windows_of (numbers demand) limit) earliest limit
  late-on end h on = late-some (numbers demand) earliest limit (rw (alone-is (Within end) h) (lt-leb end (earliest 1) on))

  module _ (each : ℕ) (more : (q w : ℕ) → demand q w + each ≤ demand (q + 1) w) (some : 0 < each) where
    first_more : (v : ℕ) → demand 0 v + each ≤ demand 1 v
    first_more v = more 0 v

    -- no window has room for the first job before the others are done
    pub first_crowded : (end : ℕ) → IsWindow (numbers demand 0) 1 limit (Within end) → (v : ℕ) → v < end → v < demand 1 v
    first_crowded end h zero below = omega (arith, first_more 0)
    first_crowded end h (suc v) below =
        elim (cases_lt (suc v) (demand 0 (suc v))) [
          | inl full ↦ omega (arith, first_more (suc v))
          | inr room ↦ absurd (h.3 (suc v) (omega arith) below room)
        ]

    none_has_room : IsWindow (numbers demand 0) 1 limit Overload → (v : ℕ) → 0 ≤ v → v ≤ limit → ¬ IsAtMost (numbers demand 1 v) (Within v)
    none_has_room h zero f le room = absurd (omega (arith, first_more 0))
    none_has_room h (suc v) f le room = h (suc v) (omega arith) le (omega (arith, first_more (suc v)))

    -- they are never done within the limit
    pub late-past : IsWindow (numbers demand 0) 1 limit Overload → window_bound (numbers demand) earliest limit ≡ Overload
    late-past h =
        late-some (numbers demand) earliest limit (rw (alone-is Overload h) refl)
        ∙ busy_window_bound-overload (windows_of (numbers demand) limit) earliest limit (window-overload (numbers demand 1) 0 limit (none_has_room h))

  -- before the first job
  pub start : (each from : ℕ) → ((v : ℕ) → v < from → v < demand 1 v) → earliest 1 ≤ from → IsUnderWay demand each earliest limit 1 from 0 (earliest 1) 0
  start each from crowded pending =
      record {
        ready = IsReady-start demand each 1 from crowded;
        earliest_arrival = refl;
        pending = pending;
        none_last = λ q one below. absurd (omega arith);
        so_far = refl;
      }

-- where nothing is looked ahead, nothing is said
pub nothing_steady : (demand : ℕ → ℕ → ℕ) (each jobs from : ℕ) → IsSteady demand each jobs from 0
nothing_steady demand each jobs from = record { adds = λ q v w more low less le. absurd (omega arith) }

-- no window has room that is shorter than what one without room asks for
pub refused-next : (demand : ℕ → ℕ) → ((v w : ℕ) → v ≤ w → demand v ≤ demand w) → (from window : ℕ) → ((v : ℕ) → from ≤ v → v < window → v < demand v) → (v : ℕ) → from ≤ v → v < demand window → v < demand v
refused-next demand mono from window refused v low less =
    elim (cases_lt v window) [
      | inl before ↦ refused v low before
      | inr after ↦ omega (arith, mono window v after, less)
    ]
