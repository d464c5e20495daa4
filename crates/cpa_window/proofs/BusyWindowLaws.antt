-- What the bound of a busy window is, and that it grows with the windows.
use Rattle.std.proofs.Common.{◌≡◌, ℕ, ◌+◌, ◌<◌, ◌≤◌, Bool, true, false, refl, sym, ◌∙◌, ap, inl, inr, ◌⊎◌, subst, arith}
use Rattle.std.proofs.lemmas.Bool.{cases_lt, leb-true, le-leb, false≢true}
use Rattle.cpa_units.specs.declared.bound.Bound.{Bound}
use Rattle.cpa_units.specs.declared.bound.Bound.TheVariants.{Within, Overload}
use Rattle.cpa_units.specs.Search.{least_from}
use Rattle.cpa_units.specs.Bounds.{IsAtMost, RespectsLimit, bound_minus, bound_max, greatest_of}
use Rattle.cpa_units.proofs.SearchLaws.{least_from-ge, least_from-le, least_from-passes, least_from-least}
use Rattle.cpa_units.proofs.BoundLaws.{greatest_of-overload, IsAtMost_trans, bound_minus-mono, le-bound_max_left, le-bound_max_right, le-greatest_of, greatest_of-mono, greatest_of-limit, bound_minus-limit, bound_minus-ge}
use Rattle.cpa_events.specs.Events.{Model}
use Rattle.cpa_events.specs.Events.{delta_minus}
use Rattle.cpa_events.proofs.EventLaws.{delta_minus-one}
use Rattle.cpa_window.specs.BusyWindow.{is_last, jobs_in_busy_window, busy_window_bound, windows_of}
use Rattle.cpa_window.proofs.WindowLaws.{window-overload, window-mono, window-ge, window-limit}

-- a shorter window before a later next job is the last too, unless the longer one is past the limit
last_too : (a b : Bound) (next next' : ℕ) → IsAtMost a b → next' ≤ next → is_last b next' ≡ true → (b ≡ Overload) ⊎ (is_last a next ≡ true)
last_too a Overload next next' h k e = inl refl
last_too (Within a) (Within b) next next' h k e = inr (le-leb a next (let short = leb-true b next' e in omega arith))
last_too Overload (Within b) next next' h k e = absurd h

module _ (windows windows' : ℕ → Bound) (earliest earliest' : ℕ → ℕ) (limit : ℕ) (longer : (q : ℕ) → 0 < q → IsAtMost (windows q) (windows' q)) (sooner : (q : ℕ) → earliest' q ≤ earliest q) where
  jobs : ℕ
  jobs = jobs_in_busy_window windows earliest limit

  jobs' : ℕ
  jobs' = jobs_in_busy_window windows' earliest' limit

  response' : ℕ → Bound
  response' q = bound_minus (windows' q) (earliest' q)

  jobs'-ge : 0 < jobs'
  unfolding jobs' jobs_in_busy_window
  jobs'-ge = least_from-ge _ 1 limit

  jobs-le : jobs ≤ limit + 1
  unfolding jobs jobs_in_busy_window
  jobs-le = let most : jobs ≤ 1 + limit = least_from-le _ 1 limit in omega arith

  jobs'-last : jobs' ≤ limit → is_last (windows' jobs') (earliest' (jobs' + 1)) ≡ true
  unfolding jobs' jobs_in_busy_window
  jobs'-last h = least_from-passes (λ q. is_last (windows' q) (earliest' (q + 1))) 1 limit (let k : jobs' ≤ limit = h in omega arith)

  jobs-least : (q : ℕ) → 0 < q → is_last (windows q) (earliest (q + 1)) ≡ true → jobs ≤ q
  unfolding jobs jobs_in_busy_window
  jobs-least q one e = least_from-least (λ q. is_last (windows q) (earliest (q + 1))) 1 limit q one e

  -- where the longer windows end earlier, one of them is past the limit
  overloads : jobs' < jobs → IsAtMost Overload (greatest_of response' jobs')
  unfolding response'
  overloads h =
      let within : jobs' ≤ limit = omega (arith, jobs-le) in
      elim (last_too (windows jobs') (windows' jobs') (earliest (jobs' + 1)) (earliest' (jobs' + 1)) (longer jobs' jobs'-ge) (sooner (jobs' + 1)) (jobs'-last within)) [
        | inl past ↦
            let here : response' jobs' ≡ Overload = rw past refl in
            subst (λ b. IsAtMost b (greatest_of response' jobs')) here (le-greatest_of response' jobs' jobs' jobs'-ge (omega arith))
        | inr last ↦ absurd (omega (arith, jobs-least jobs' jobs'-ge last))
      ]

  pub busy_window_bound-mono : IsAtMost (busy_window_bound windows earliest limit) (busy_window_bound windows' earliest' limit)
  unfolding busy_window_bound jobs jobs' response'
  busy_window_bound-mono =
      elim (cases_lt jobs' jobs) [
        | inl fewer ↦ IsAtMost_trans (greatest_of (λ q. bound_minus (windows q) (earliest q)) jobs) Overload (greatest_of response' jobs') tt (overloads fewer)
        | inr more ↦
            greatest_of-mono (λ q. bound_minus (windows q) (earliest q)) response' jobs jobs' more
            (λ q one le. bound_minus-mono (windows q) (windows' q) (earliest q) (earliest' q) (longer q one) (sooner q))
      ]

-- ---- what code that walks through the jobs of a busy window knows

module _ (windows : ℕ → Bound) (earliest : ℕ → ℕ) (limit q : ℕ) (some : 0 < q) (in_range : q ≤ limit + 1) (before : (p : ℕ) → 0 < p → p < q → is_last (windows p) (earliest (p + 1)) ≡ false) (last : is_last (windows q) (earliest (q + 1)) ≡ true) where
  first_last : ℕ → Bool
  first_last p = is_last (windows p) (earliest (p + 1))

  jobs_in_busy_window-at : jobs_in_busy_window windows earliest limit ≡ q
  unfolding jobs_in_busy_window first_last
  jobs_in_busy_window-at =
      let found : ℕ = least_from first_last 1 limit in
      let le : found ≤ q = least_from-least first_last 1 limit q some last in
      elim (cases_lt found q) [
        | inl sooner ↦
            let one : 1 ≤ found = least_from-ge first_last 1 limit in
            let passes : first_last found ≡ true = least_from-passes first_last 1 limit (omega arith) in
            absurd (false≢true (sym (before found one sooner) ∙ passes))
        | inr there ↦ omega arith
      ]

  -- the first job whose window is the last decides
  pub busy_window_bound-at : busy_window_bound windows earliest limit ≡ greatest_of (λ p. bound_minus (windows p) (earliest p)) q
  unfolding busy_window_bound
  busy_window_bound-at = rw jobs_in_busy_window-at refl

-- ---- what a number that comes out says of the windows

bound_max-parts : (a b : Bound) (r : ℕ) → IsAtMost (bound_max a b) (Within r) → IsAtMost a (Within r) × IsAtMost b (Within r)
bound_max-parts a b r h =
    (IsAtMost_trans a (bound_max a b) (Within r) (le-bound_max_left a b) h, IsAtMost_trans b (bound_max a b) (Within r) (le-bound_max_right a b) h)

-- a response within r is a window that is no longer than r past the job's arrival
window_from_response : (a : Bound) (early r : ℕ) → IsAtMost (bound_minus a early) (Within r) → IsAtMost a (Within (r + early))
window_from_response (Within a) early r h = omega arith
window_from_response Overload early r h = h

is_last-within : (a : Bound) (next bound : ℕ) → is_last a next ≡ true → IsAtMost a (Within bound) → IsAtMost a (Within next)
is_last-within (Within a) next bound e h = leb-true a next e
is_last-within Overload next bound e h = absurd h

-- where the bound is within r, some number of jobs ends a busy window before the next can come, and each response of
-- those jobs is within r
pub busy_window_bound-within : (windows : ℕ → Bound) (earliest : ℕ → ℕ) (limit r : ℕ) → windows (limit + 1) ≡ Overload → IsAtMost (busy_window_bound windows earliest limit) (Within r) → (last : ℕ) × (0 < last) × IsAtMost (windows last) (Within (earliest (last + 1))) × ((q : ℕ) → 0 < q → q ≤ last → IsAtMost (windows q) (Within (r + earliest q)))
unfolding busy_window_bound jobs_in_busy_window
busy_window_bound-within windows earliest limit r past h =
    let test : ℕ → Bool = λ q. is_last (windows q) (earliest (q + 1)) in
    let last : ℕ = least_from test 1 limit in
    let some : 1 ≤ last = least_from-ge test 1 limit in
    let most : last ≤ 1 + limit = least_from-le test 1 limit in
    let each : (q : ℕ) → 0 < q → q ≤ last → IsAtMost (windows q) (Within (r + earliest q)) =
    λ q one le. window_from_response (windows q) (earliest q) r
    (IsAtMost_trans (bound_minus (windows q) (earliest q)) (greatest_of (λ p. bound_minus (windows p) (earliest p)) last) (Within r)
    (le-greatest_of (λ p. bound_minus (windows p) (earliest p)) last q one le) h) in (
      last,
      some,
      elim (cases_lt last (1 + limit)) [
        | inl found ↦ is_last-within (windows last) (earliest (last + 1)) (r + earliest last) (least_from-passes test 1 limit found) (each last some (omega arith))
        | inr none ↦
            let same : last ≡ limit + 1 = omega arith in
            let number = rw (same, past) at (each last some (omega arith)) in
            absurd number
      ],
      each,
    )

-- ---- the last job

-- more than a limit is no room within it
past_limit : (limit v : ℕ) (b : Bound) → v ≤ limit → IsAtMost (Within (limit + 1)) b → ¬ IsAtMost b (Within v)
past_limit limit v (Within b) le h k = omega arith
past_limit limit v Overload le h k = k

-- where q jobs ask for at least q ticks, those of one job more than the limit have no window within it
pub window-past : (demand : ℕ → ℕ → Bound) (limit : ℕ) → ((q w : ℕ) → IsAtMost (Within q) (demand q w)) → windows_of demand limit (limit + 1) ≡ Overload
window-past demand limit some =
    window-overload (demand (limit + 1)) 0 limit (λ v f le. past_limit limit v (demand (limit + 1) v) le (some (limit + 1) v))

-- so some job up to there is the last
pub last_job : (demand : ℕ → ℕ → Bound) (earliest : ℕ → ℕ) (limit : ℕ) → ((q w : ℕ) → IsAtMost (Within q) (demand q w)) → (1 ≤ jobs_in_busy_window (windows_of demand limit) earliest limit) × (jobs_in_busy_window (windows_of demand limit) earliest limit ≤ limit + 1) × (is_last (windows_of demand limit (jobs_in_busy_window (windows_of demand limit) earliest limit)) (earliest (jobs_in_busy_window (windows_of demand limit) earliest limit + 1)) ≡ true)
unfolding jobs_in_busy_window
last_job demand earliest limit some =
    let test : ℕ → Bool = λ q. is_last (windows_of demand limit q) (earliest (q + 1)) in
    let found : ℕ = least_from test 1 limit in
    let most : found ≤ 1 + limit = least_from-le test 1 limit in (
      least_from-ge test 1 limit,
      omega arith,
      elim (cases_lt found (1 + limit)) [
        | inl within ↦ least_from-passes test 1 limit within
        | inr none ↦
            let same : found ≡ limit + 1 = omega arith in
            rw (same, window-past demand limit some) refl
      ],
    )

-- ---- within the limit, and no less than is asked for

pub busy_window_bound-limit : (windows : ℕ → Bound) (earliest : ℕ → ℕ) (limit : ℕ) → ((q : ℕ) → RespectsLimit limit (windows q)) → RespectsLimit limit (busy_window_bound windows earliest limit)
unfolding busy_window_bound
busy_window_bound-limit windows earliest limit h =
    greatest_of-limit limit (λ q. bound_minus (windows q) (earliest q)) (jobs_in_busy_window windows earliest limit)
    (λ q. bound_minus-limit limit (earliest q) (windows q) (h q))

pub busy_window_bound-ge : (windows : ℕ → Bound) (own : Model) (limit c : ℕ) → IsAtMost (Within c) (windows 1) → IsAtMost (Within c) (busy_window_bound windows (delta_minus own) limit)
unfolding busy_window_bound jobs_in_busy_window
busy_window_bound-ge windows own limit c h =
    IsAtMost_trans (Within c) (bound_minus (windows 1) (delta_minus own 1)) (busy_window_bound windows (delta_minus own) limit)
    (bound_minus-ge c (delta_minus own 1) (windows 1) (delta_minus-one own) h)
    (le-greatest_of (λ q. bound_minus (windows q) (delta_minus own q)) (jobs_in_busy_window windows (delta_minus own) limit) 1 (omega arith) (least_from-ge _ 1 limit))

-- ---- other demands, and none

-- demands that are the same everywhere have one bound
pub busy_window_bound-same : (demand demand' : ℕ → ℕ → Bound) (earliest : ℕ → ℕ) (limit : ℕ) → ((q w : ℕ) → demand q w ≡ demand' q w) → busy_window_bound (windows_of demand limit) earliest limit ≡ busy_window_bound (windows_of demand' limit) earliest limit
busy_window_bound-same demand demand' earliest limit same =
    let e : demand ≡ demand' = λ i q w. same q w i in
    ap (λ d. busy_window_bound (windows_of d limit) earliest limit) e

-- where the first job's window is past the limit, so is the bound
pub busy_window_bound-overload : (windows : ℕ → Bound) (earliest : ℕ → ℕ) (limit : ℕ) → windows 1 ≡ Overload → busy_window_bound windows earliest limit ≡ Overload
unfolding busy_window_bound jobs_in_busy_window
busy_window_bound-overload windows earliest limit e =
    greatest_of-overload (λ q. bound_minus (windows q) (earliest q)) (jobs_in_busy_window windows earliest limit) 1 (omega arith) (least_from-ge _ 1 limit) (rw e refl)

-- of two demands the one that asks for no less has no smaller a bound, where its jobs come no later
pub busy_window_bound-grows : (demand demand' : ℕ → ℕ → Bound) (earliest earliest' : ℕ → ℕ) (limit : ℕ) → ((q w : ℕ) → IsAtMost (demand q w) (demand' q w)) → ((q : ℕ) → earliest' q ≤ earliest q) → IsAtMost (busy_window_bound (windows_of demand limit) earliest limit) (busy_window_bound (windows_of demand' limit) earliest' limit)
busy_window_bound-grows demand demand' earliest earliest' limit more sooner =
    busy_window_bound-mono (windows_of demand limit) (windows_of demand' limit) earliest earliest' limit (λ q one. window-mono (demand q) (demand' q) 0 limit (more q)) sooner

-- the bound is at least what the first job asks for
pub busy_window_bound-low : (demand : ℕ → ℕ → Bound) (own : Model) (limit least : ℕ) → ((w : ℕ) → IsAtMost (Within least) (demand 1 w)) → IsAtMost (Within least) (busy_window_bound (windows_of demand limit) (delta_minus own) limit)
busy_window_bound-low demand own limit least asks =
    busy_window_bound-ge (windows_of demand limit) own limit least (window-ge (demand 1) 0 limit least asks)

-- and within the limit
pub busy_window_bound-high : (demand : ℕ → ℕ → Bound) (earliest : ℕ → ℕ) (limit : ℕ) → RespectsLimit limit (busy_window_bound (windows_of demand limit) earliest limit)
busy_window_bound-high demand earliest limit = busy_window_bound-limit (windows_of demand limit) earliest limit (λ q. window-limit (demand q) 0 limit)
