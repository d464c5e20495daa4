-- What code that walks through the jobs of a busy window knows.
use Rattle.std.proofs.Common.{◌≡◌, ℕ, zero, suc, ◌+◌, ◌-◌, ◌<◌, ◌≤◌, true, false, max, refl, sym, ◌∙◌, ap, inl, inr, arith}
use Rattle.std.proofs.lemmas.Bool.{cases_lt, le-leb, lt-leb, false≢true}
use Rattle.std.proofs.Math.Nat.{le_refl}
use Rattle.cpa_units.specs.declared.bound.Bound.{Bound}
use Rattle.cpa_units.specs.declared.bound.Bound.TheVariants.{Within, Overload}
use Rattle.cpa_units.specs.Bounds.{IsAtMost, bound_minus, greatest_of}
use Rattle.cpa_units.proofs.BoundLaws.{greatest_of-overload, greatest_of-next}
use Rattle.cpa_window.specs.Windows.{IsWindow}
use Rattle.cpa_window.specs.BusyWindow.{is_last, busy_window_bound, windows_of}
use Rattle.cpa_window.specs.Walk.{IsSteady, IsReady}
use Rattle.cpa_window.proofs.WindowLaws.{window-from, window-is}
use Rattle.cpa_window.proofs.BusyWindowLaws.{busy_window_bound-at, busy_window_bound-within, window-past}

-- ---- a search that goes on from an earlier window

-- what is found from a length below which none has room is the window
pub window-goes_on : (demand : ℕ → ℕ) (from limit : ℕ) (found : Bound) → ((v : ℕ) → v < from → v < demand v) → IsWindow (λ v. Within (demand v)) from limit found → IsWindow (λ v. Within (demand v)) 0 limit found
window-goes_on demand from limit (Within end) crowded h = (
  omega arith,
  h.1,
  h.2,
  λ v first below room. elim (cases_lt v from) [
    | inl early ↦ absurd (let full = crowded v early in omega arith)
    | inr late ↦ h.3 v late below room
  ],
)
window-goes_on demand from limit Overload crowded h =
    λ v first le room. elim (cases_lt v from) [
      | inl early ↦ absurd (let full = crowded v early in omega arith)
      | inr late ↦ h v late le room
    ]

-- and so is such a length that has room
pub window-here : (demand : ℕ → ℕ) (from limit : ℕ) → ((v : ℕ) → v < from → v < demand v) → from ≤ limit → demand from ≤ from → IsWindow (λ v. Within (demand v)) 0 limit (Within from)
window-here demand from limit crowded within room =
    (omega arith, within, room, λ v first below fits. absurd (let full = crowded v below in omega arith))

-- a window within a lower limit is the window
pub window-longer : (demand : ℕ → ℕ) (latest limit end : ℕ) → latest ≤ limit → IsWindow (λ v. Within (demand v)) 0 latest (Within end) → IsWindow (λ v. Within (demand v)) 0 limit (Within end)
window-longer demand latest limit end lower h = (h.0, omega (arith, h.1), h.2, h.3)

-- where there is none within a lower limit, it is past that limit
pub window-later : (demand : ℕ → ℕ) (latest limit reach : ℕ) (w : Bound) → ((v : ℕ) → v ≤ limit → v ≤ reach → v ≤ latest) → IsWindow (λ v. Within (demand v)) 0 latest Overload → IsWindow (λ v. Within (demand v)) 0 limit w → ¬ IsAtMost w (Within reach)
window-later demand latest limit reach (Within w) cut none h within = none w (omega arith) (cut w h.1 within) h.2
window-later demand latest limit reach Overload cut none h within = within

-- a window has no room left
window-full : (demand : ℕ → ℕ) (limit end : ℕ) → ((v w : ℕ) → v ≤ w → demand v ≤ demand w) → IsWindow (λ v. Within (demand v)) 0 limit (Within end) → end ≤ demand end
window-full demand limit end mono h =
    elim (cases_lt (demand end) end) [
      | inl less ↦ absurd (h.3 (demand end) (omega arith) less (mono (demand end) end h.2))
      | inr full ↦ full
    ]

window-crowded : (demand : ℕ → ℕ) (limit end v : ℕ) → IsWindow (λ v. Within (demand v)) 0 limit (Within end) → v < end → v < demand v
window-crowded demand limit end v h below =
    elim (cases_lt v (demand v)) [ inl full ↦ full | inr room ↦ absurd (h.3 v (omega arith) below room) ]

module _ (demand : ℕ → ℕ → ℕ) (each : ℕ) where
  IsSteady-none : (jobs from until : ℕ) → until ≤ from → IsSteady demand each jobs from until
  IsSteady-none jobs from until h = record { adds = λ q v w j f lt le. absurd (omega arith) }

  -- before the first search
  pub IsReady-start : (jobs from : ℕ) → ((v : ℕ) → v < from → v < demand jobs v) → IsReady demand each jobs from 0
  IsReady-start jobs from crowded =
      record { crowded = crowded; room = λ h. absurd (omega arith); onward = IsSteady-none jobs from 0 (omega arith) }

  -- and before the next
  pub IsReady-next : (jobs limit end steady : ℕ) → ((q v w : ℕ) → v ≤ w → demand q v ≤ demand q w) → ((q w : ℕ) → demand q w + each ≤ demand (q + 1) w) → 0 < each → IsWindow (λ w. Within (demand jobs w)) 0 limit (Within end) → IsSteady demand each jobs end steady → IsReady demand each (jobs + 1) (end + each) steady
  IsReady-next jobs limit end steady mono more some h s =
      record {
        crowded = λ v below. elim (cases_lt v end) [
          | inl early ↦ let full = window-crowded (demand jobs) limit end v h early in omega (arith, more jobs v)
          | inr late ↦ let full = window-full (demand jobs) limit end (mono jobs) h in omega (arith, more jobs v, mono jobs end v late)
        ];
        room = λ below. let added = s.adds jobs end (end + each) (le_refl jobs) (le_refl end) (omega arith) (omega arith) in let room : demand jobs end ≤ end = h.2 in omega arith;
        onward = record { adds = λ q v w j f lt le. s.adds q v w (omega arith) (omega arith) lt le };
      }

  -- each job asks for a tick
  pub demand-ge_jobs : ((q w : ℕ) → demand q w + each ≤ demand (q + 1) w) → 0 < each → (q w : ℕ) → q ≤ demand q w
  demand-ge_jobs more some zero w = omega arith
  demand-ge_jobs more some (suc q) w =
      let fewer : q ≤ demand q w = demand-ge_jobs more some q w in
      let e : q + 1 ≡ suc q = omega arith in
      let step = rw e at (more q w) in
      omega arith

-- ---- the walk

pub at_most : (b : Bound) (ticks most : ℕ) → b ≡ Within ticks → ticks ≤ most → IsAtMost b (Within most)
at_most b ticks most is h = rw is h

pub not_at_most : (b : Bound) (most : ℕ) → b ≡ Overload → ¬ IsAtMost b (Within most)
not_at_most b most is h = rw is at h

-- a window that is over when the next job comes is the last
is_last-over : (w : Bound) (next : ℕ) → IsAtMost w (Within next) → is_last w next ≡ true
is_last-over (Within w) next h = le-leb _ _ h
is_last-over Overload next h = refl

-- a demand in numbers, as a demand in bounds
abbrev pub numbers : (ℕ → ℕ → ℕ) → ℕ → ℕ → Bound
numbers demand q w = Within (demand q w)

-- the walk stands before this job, which comes at `arrival` at the earliest, and has looked at the jobs before it
pub record IsUnderWay (demand : ℕ → ℕ → ℕ) (each : ℕ) (earliest : ℕ → ℕ) (limit job from steady arrival greatest : ℕ) : Type 0 where
  pub ready : IsReady demand each job from steady
  pub earliest_arrival : arrival ≡ earliest job
  pub pending : arrival ≤ from
  pub none_last : (q : ℕ) → 0 < q → q < job → is_last (windows_of (numbers demand) limit q) (earliest (q + 1)) ≡ false
  pub so_far : greatest_of (λ q. bound_minus (windows_of (numbers demand) limit q) (earliest q)) (job - 1) ≡ Within greatest

module _ (demand : ℕ → ℕ → ℕ) (each : ℕ) (earliest : ℕ → ℕ) (limit : ℕ) where
  windows : ℕ → Bound
  windows q = windows_of (numbers demand) limit q

  response : ℕ → Bound
  response q = bound_minus (windows q) (earliest q)

  pub start : earliest 1 ≡ 0 → ((q w : ℕ) → demand q w + each ≤ demand (q + 1) w) → IsUnderWay demand each earliest limit 1 each 0 0 0
  start e more =
      record {
        ready = IsReady-start demand each 1 each (λ v h. omega (arith, more 0 v));
        earliest_arrival = omega arith;
        pending = omega arith;
        none_last = λ q one below. absurd (omega arith);
        so_far = refl;
      }

  module _ (job from steady arrival greatest : ℕ) (some : 0 < job) (now : IsUnderWay demand each earliest limit job from steady arrival greatest) where
    is_window : (w : Bound) → IsWindow (numbers demand job) 0 limit w → windows_of (numbers demand) limit job ≡ w
    is_window w h = window-from (numbers demand job) (numbers demand job) 0 limit w (λ v. refl) h

    at_last : job ≤ limit + 1 → is_last (windows job) (earliest (job + 1)) ≡ true → busy_window_bound (windows_of (numbers demand) limit) earliest limit ≡ greatest_of response job
    unfolding windows response
    at_last in_range last = busy_window_bound-at windows earliest limit job some in_range now.none_last last

    past_limit : job ≤ limit + 1 → windows_of (numbers demand) limit job ≡ Overload → busy_window_bound (windows_of (numbers demand) limit) earliest limit ≡ Overload
    unfolding windows response
    past_limit in_range e =
        at_last in_range (rw e refl) ∙ greatest_of-overload response job job some (omega arith) (rw e refl)

    -- no window: no bound
    pub past : job ≤ limit + 1 → IsWindow (numbers demand job) 0 limit Overload → busy_window_bound (windows_of (numbers demand) limit) earliest limit ≡ Overload
    past in_range h = past_limit in_range (is_window Overload h)

    module _ (end : ℕ) (here : IsWindow (numbers demand job) 0 limit (Within end)) where
      greater : greatest_of response job ≡ Within (max greatest (end - arrival))
      unfolding windows response
      greater = greatest_of-next response job greatest (end - arrival) some now.so_far (rw (is_window (Within end) here) (ap Within (omega (arith, now.earliest_arrival))))

      -- the window ends before the next job can come
      pub last : job ≤ limit + 1 → end ≤ earliest (job + 1) → busy_window_bound (windows_of (numbers demand) limit) earliest limit ≡ Within (max greatest (end - arrival))
      unfolding windows
      last in_range over = at_last in_range (rw (is_window (Within end) here) (le-leb _ _ over)) ∙ greater

      -- or the walk goes on
      pub next : (steady' : ℕ) → earliest (job + 1) < end → IsReady demand each (job + 1) (end + each) steady' → IsUnderWay demand each earliest limit (job + 1) (end + each) steady' (earliest (job + 1)) (max greatest (end - arrival))
      unfolding windows response
      next steady' goes_on ready =
          record {
            ready = ready;
            earliest_arrival = refl;
            pending = omega arith;
            none_last = λ q one below. elim (cases_lt q job) [
              | inl before ↦ now.none_last q one before
              | inr now ↦
                  let same : q ≡ job = omega arith in
                  rw (same, is_window (Within end) here) (lt-leb _ _ goes_on)
            ];
            so_far = let e : job + 1 - 1 ≡ job = omega arith in rw e greater;
          }

    -- after the limit there is no window
    pub all : job ≡ limit + 1 → ((q w : ℕ) → q ≤ demand q w) → busy_window_bound (windows_of (numbers demand) limit) earliest limit ≡ Overload
    all e ticks = past_limit (omega arith) (rw e (window-past (numbers demand) limit ticks))

    -- where the job's window is past that many ticks after the job comes, so is the bound
    pub late : (latest most : ℕ) → latest ≤ limit → ((v : ℕ) → v ≤ limit → v ≤ most + arrival → v ≤ latest) → ((q w : ℕ) → q ≤ demand q w) → IsWindow (numbers demand job) 0 latest Overload → ¬ IsAtMost (busy_window_bound (windows_of (numbers demand) limit) earliest limit) (Within most)
    unfolding windows
    late latest most lower cut ticks none h =
        let found = busy_window_bound-within windows earliest limit most (window-past (numbers demand) limit ticks) h in
        elim (cases_lt found.0 job) [
          | inl before ↦ false≢true (sym (now.none_last found.0 found.1 before) ∙ is_last-over (windows found.0) (earliest (found.0 + 1)) found.2)
          | inr after ↦
              window-later (demand job) latest limit (most + arrival) (windows job) cut none (window-is (numbers demand job) 0 limit)
              (let e : earliest job ≡ arrival = sym now.earliest_arrival in rw e at (found.3 job some (omega arith)))
        ]
