-- The main laws of windows, as the public functions of the crate state them.
use Rattle.std.specs.Prelude.{ℕ, ◌+◌, ◌<◌, ◌≤◌, ◌≡◌, true}
use Rattle.cpa_units.specs.declared.bound.Bound.{Bound}
use Rattle.cpa_units.specs.declared.bound.Bound.TheVariants.{Within}
use Rattle.cpa_units.specs.Bounds.{IsAtMost}
use Rattle.cpa_window.specs.Windows.{window, IsWindow}
use Rattle.cpa_window.specs.Walk.{IsSteady, IsReady}
use Rattle.cpa_window.specs.BusyWindow.{is_last, jobs_in_busy_window, busy_window_bound, windows_of}

-- the computed window is the least length that has room
abbrev pub WindowIsLeast : Type 0
WindowIsLeast = (demand : ℕ → Bound) (first limit : ℕ) → IsWindow demand first limit (window demand first limit)

-- more demand, no shorter a window
abbrev pub WindowsGrow : Type 0
WindowsGrow =
    (demand demand' : ℕ → Bound) (first limit : ℕ) → ((w : ℕ) → IsAtMost (demand w) (demand' w)) → IsAtMost (window demand first limit) (window demand' first limit)

-- where q jobs ask for at least q ticks, some job up to the limit plus one is the last of a busy window
abbrev pub LastJobExists : Type 0
LastJobExists =
    (demand : ℕ → ℕ → Bound) (earliest : ℕ → ℕ) (limit : ℕ) → ((q w : ℕ) → IsAtMost (Within q) (demand q w)) →
    let q = jobs_in_busy_window (windows_of demand limit) earliest limit in
    (1 ≤ q) × (q ≤ limit + 1) × (is_last (windows_of demand limit q) (earliest (q + 1)) ≡ true)

-- longer windows of jobs that come sooner leave no smaller a bound
abbrev pub BusyWindowsGrow : Type 0
BusyWindowsGrow =
    (windows windows' : ℕ → Bound) (earliest earliest' : ℕ → ℕ) (limit : ℕ) → ((q : ℕ) → 0 < q → IsAtMost (windows q) (windows' q)) →
    ((q : ℕ) → earliest' q ≤ earliest q) → IsAtMost (busy_window_bound windows earliest limit) (busy_window_bound windows' earliest' limit)

-- where each job asks for so much at least, the search for the window of a job more may go on from the end of the last one
-- and that much later
abbrev pub WalksGoOn : Type 0
WalksGoOn =
    (demand : ℕ → ℕ → ℕ) (each jobs limit end steady : ℕ) → ((q v w : ℕ) → v ≤ w → demand q v ≤ demand q w) →
    ((q w : ℕ) → demand q w + each ≤ demand (q + 1) w) → 0 < each → IsWindow (λ w. Within (demand jobs w)) 0 limit (Within end) →
    IsSteady demand each jobs end steady → IsReady demand each (jobs + 1) (end + each) steady
