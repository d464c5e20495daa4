-- Busy windows: the jobs of a task until its resource is done with it before the next can come. Richter's thesis (2005)
-- and Henia et al. (2005) take the greatest response among those jobs for the bound.
use Rattle.std.specs.Prelude.{ℕ, ◌+◌, nat_le, Bool, true}
use Rattle.cpa_units.specs.declared.bound.Bound.{Bound}
use Rattle.cpa_units.specs.declared.bound.Bound.TheVariants.{Within, Overload}
use Rattle.cpa_units.specs.Search.{least_from}
use Rattle.cpa_units.specs.Bounds.{bound_minus, greatest_of}
use Rattle.cpa_window.specs.Windows.{window}

-- whether the window of some jobs is past the limit, or over when the next job comes at its earliest
abbrev pub is_last : Bound → ℕ → Bool
is_last (Within w) next = nat_le w next
is_last Overload next = true

-- how many jobs of the task a busy window has at most: the least q whose window is the last
unfoldable pub jobs_in_busy_window : (ℕ → Bound) → (ℕ → ℕ) → ℕ → ℕ
jobs_in_busy_window window_of earliest limit = least_from (λ q. is_last (window_of q) (earliest (q + 1))) 1 limit

-- the greatest response of the jobs of a busy window, where `window_of q` is the window of q jobs and `earliest q` the
-- least time in which q jobs arrive
unfoldable pub busy_window_bound : (ℕ → Bound) → (ℕ → ℕ) → ℕ → Bound
busy_window_bound window_of earliest limit =
    greatest_of (λ q. bound_minus (window_of q) (earliest q)) (jobs_in_busy_window window_of earliest limit)

-- the windows of a demand that counts jobs
abbrev pub windows_of : (ℕ → ℕ → Bound) → ℕ → ℕ → Bound
windows_of demand limit q = window (demand q) 0 limit
