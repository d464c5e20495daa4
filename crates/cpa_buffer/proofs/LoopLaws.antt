-- What the code knows after its loops, and how it stands for the run.
use Rattle.std.proofs.Common.{◌≡◌, ℕ, ◌+◌, ◌<◌, ◌≤◌, ◌++◌, length, List, [], ◌∷◌, map, take, get_or, slice_get, Result, Ok, Err, Some, cond, refl, sym, ◌∙◌, ap, arith, subst, length-append}
use Rattle.std.specs.Prelude.{sum_by, IfOk}
use Rattle.std.specs.List.{AllByRecursion, flat_map}
use Rattle.std.proofs.lemmas.List.{append-nil, append_assoc, take_all, take_more, get_or-map, length-map}
use Rattle.std.proofs.lemmas.List.Sums.{sum_by-cons, sum_by-append, fold_push}
use Rattle.std.proofs.lemmas.Grind.{flat_map-append}
use Rattle.std.proofs.lemmas.List.Concat.{flat_map-cons}
use Rattle.std.proofs.lemmas.Option.{slice_get-get_or}
use Rattle.cpa_units.specs.declared.bound.Bound.{Bound}
use Rattle.cpa_units.specs.declared.places.TaskId.{TaskId}
use Rattle.cpa_units.specs.declared.bound.Bound.TheVariants.{Within}
use Rattle.cpa_units.specs.Bounds.{bound_of, bound_plus, bound_max, sum_bounds}
use Rattle.cpa_units.proofs.PlaceLaws.{places, places-more, map-places_more}
use Rattle.cpa_model.specs.SystemLists.{SystemLists, tasks_on, place_of, places_of}
use Rattle.cpa_local.specs.Paths.{is_overload}
use Rattle.cpa_local.proofs.PathLaws.{sum_bounds-more}
use Rattle.cpa_trace.specs.Trace.{TraceLists}
use Rattle.cpa_sched.specs.States.{IsOn}
use Rattle.cpa_sched.proofs.StepLaws.{tasks_on-are}
use Rattle.cpa_sim.specs.Outcome.{jobs_seen, end_of, outcome_of}
use Rattle.cpa_buffer.specs.Buffers.{buffer_of, pending_at, pending_on, highest, peak_of, peak_on}
use Rattle.cpa_buffer.specs.Work.{greatest_bound}
use Rattle.cpa_buffer.specs.BufferText.{overloads}
use Rattle.cpa_buffer.specs.Peaks.{arrivals_of, ends_of, come_by, inside}
use Rattle.cpa_buffer.proofs.GreatestLaws.{greatest-agree}
use Rattle.cpa_buffer.proofs.SweepLaws.{come-flat, come-append, come-all, all-come}
use Rattle.cpa_buffer.proofs.PendingLaws.{pending-and-gone, arrived-by, outcome-jobs}

-- ---- one task of a resource more, and all of them

module _ (tasks : List TaskId) (k : ℕ) (d : TaskId) (less : k < length tasks) where
  within : k < length (places_of tasks)
  within = rw (length-map tasks place_of) less

  taken-next : take (k + 1) (places_of tasks) ≡ take k (places_of tasks) ++ (get_or tasks k d).0 ∷ []
  taken-next =
      let i : ℕ = (get_or tasks k d).0 in
      take_more (places_of tasks) k i within ∙ ap (λ j. take k (places_of tasks) ++ j ∷ []) (get_or-map place_of tasks k d i less)

  place-at : slice_get (places_of tasks) k ≡ Some (get_or tasks k d).0
  place-at = slice_get-get_or (places_of tasks) k 0 within ∙ ap Some (get_or-map place_of tasks k d 0 less)

  pub sum-next : (f : ℕ → Bound) (sum part more : Bound) → sum ≡ sum_bounds f (take k (places_of tasks)) → part ≡ f (get_or tasks k d).0
      → more ≡ bound_plus sum part → more ≡ sum_bounds f (take (k + 1) (places_of tasks))
  sum-next f sum part more before here is =
      is ∙ ap (λ b. bound_plus b part) before ∙ ap (bound_plus (sum_bounds f (take k (places_of tasks)))) here
      ∙ sym (sum_bounds-more f (places_of tasks) k (get_or tasks k d).0 place-at)

  pub most-next : (x : List Bound) (most part more : Bound) → most ≡ greatest_bound x (take k (places_of tasks)) → part ≡ bound_of x (get_or tasks k d).0
      → more ≡ bound_max most part → more ≡ greatest_bound x (take (k + 1) (places_of tasks))
  most-next x most part more before here is =
      let i : ℕ = (get_or tasks k d).0 in
      is ∙ ap (λ b. bound_max b part) before ∙ ap (bound_max (greatest_bound x (take k (places_of tasks)))) here
      ∙ sym (ap (greatest_bound x) taken-next ∙ fold_push (λ b j. bound_max b (bound_of x j)) (Within 0) (take k (places_of tasks)) i)

  pub flat-next : (f : ℕ → List ℕ) (so_far more : List ℕ) → so_far ≡ flat_map f (take k (places_of tasks)) → more ≡ so_far ++ f (get_or tasks k d).0
      → more ≡ flat_map f (take (k + 1) (places_of tasks))
  flat-next f so_far more before is =
      let i : ℕ = (get_or tasks k d).0 in
      is ∙ ap (λ xs. xs ++ f i) before
      ∙ sym (ap (flat_map f) taken-next ∙ flat_map-append f (take k (places_of tasks)) (i ∷ []) ∙ ap (λ xs. flat_map f (take k (places_of tasks)) ++ xs) (append-nil (f i)))

pub taken-all : (tasks : List TaskId) (js : List ℕ) (k : ℕ) → length tasks ≤ k → places_of tasks ≡ js → take k (places_of tasks) ≡ js
taken-all tasks js k end are = take_all k (places_of tasks) (omega (arith, length-map tasks place_of, end)) ∙ are

-- ---- one task more

pub overloads-more : (s : SystemLists) (x : List Bound) (k count more : ℕ) (b : Bound) → count ≡ overloads s x (places k) → b ≡ buffer_of s x k → more ≡ cond (is_overload b) 1 0 → count + more ≡ overloads s x (places (k + 1))
overloads-more s x k count more b before is one =
    let f : ℕ → ℕ = λ i. cond (is_overload (buffer_of s x i)) 1 0 in
    let last : sum_by f (k ∷ []) ≡ f k = omega (arith, sum_by-cons f k []) in
    let own : cond (is_overload b) 1 0 ≡ f k = ap (λ c. cond (is_overload c) 1 0) is in
    let all : sum_by f (places (k + 1)) ≡ sum_by f (places k) + sum_by f (k ∷ []) = ap (sum_by f) (places-more k) ∙ sum_by-append f (places k) (k ∷ []) in
    let before' : count ≡ sum_by f (places k) = before in
    omega (arith, before', own, last, all, one)

-- ---- a run's peaks

module _ (s : SystemLists) (tr : TraceLists) where
  balance : (t i : ℕ) → i < length s.tasks → t ≤ end_of s tr → come_by t (arrivals_of (jobs_seen (outcome_of s tr) i)) ≡ pending_at s tr t i + come_by t (ends_of (jobs_seen (outcome_of s tr) i))
  balance t i there within = rw (outcome-jobs s tr i there) (pending-and-gone s tr i t (end_of s tr) within)

  arrived : (i : ℕ) → i < length s.tasks → (m : ℕ) → m < length (arrivals_of (jobs_seen (outcome_of s tr) i)) → get_or (arrivals_of (jobs_seen (outcome_of s tr) i)) m 0 ≤ end_of s tr
  arrived i there = rw (outcome-jobs s tr i there) (arrived-by s tr i (end_of s tr))

  pub task-peak : (i peak : ℕ) (arrivals ends : List ℕ) → i < length s.tasks
      → arrivals ≡ arrivals_of (jobs_seen (outcome_of s tr) i) → ends ≡ ends_of (jobs_seen (outcome_of s tr) i)
      → ((last : ℕ) → ((m : ℕ) → m < length arrivals → get_or arrivals m 0 ≤ last) → peak ≡ highest (inside arrivals ends) last) → peak ≡ peak_of s tr i
  unfolding peak_of
  task-peak i peak arrivals ends there a e greatest =
      let all = subst (λ xs. (m : ℕ) → m < length xs → get_or xs m 0 ≤ end_of s tr) (sym a) (arrived i there) in
      greatest (end_of s tr) all
      ∙ greatest-agree (inside arrivals ends) (λ t. pending_at s tr t i) (end_of s tr)
      (λ t within. rw (a, e) (omega (arith, balance t i there within)))

  -- the sums over some tasks
  sums : (r t : ℕ) → t ≤ end_of s tr → (js : List ℕ) → AllByRecursion (IsOn s r) js
      → sum_by (λ i. come_by t (arrivals_of (jobs_seen (outcome_of s tr) i))) js ≡ sum_by (pending_at s tr t) js + sum_by (λ i. come_by t (ends_of (jobs_seen (outcome_of s tr) i))) js
  sums r t within [] all = refl
  sums r t within (j ∷ js) all =
      let a = sum_by-cons (λ i. come_by t (arrivals_of (jobs_seen (outcome_of s tr) i))) j js in
      let p = sum_by-cons (pending_at s tr t) j js in
      let e = sum_by-cons (λ i. come_by t (ends_of (jobs_seen (outcome_of s tr) i))) j js in
      omega (arith, a, p, e, balance t j all.0.task within, sums r t within js all.1)

  all-arrived : (r : ℕ) (js : List ℕ) → AllByRecursion (IsOn s r) js → length (flat_map (λ i. arrivals_of (jobs_seen (outcome_of s tr) i)) js) ≤ come_by (end_of s tr) (flat_map (λ i. arrivals_of (jobs_seen (outcome_of s tr) i)) js)
  all-arrived r [] all = omega arith
  all-arrived r (j ∷ js) all =
      let f : ℕ → List ℕ = λ i. arrivals_of (jobs_seen (outcome_of s tr) i) in
      let one = all-come (end_of s tr) (f j) (arrived j all.0.task) in
      let e : flat_map f (j ∷ js) ≡ f j ++ flat_map f js = flat_map-cons f j js in
      rw e (omega (arith, one, come-append (end_of s tr) (f j) (flat_map f js), length-append (f j) (flat_map f js), all-arrived r js all.1))

  pends : (r t : ℕ) → t ≤ end_of s tr → inside (flat_map (λ i. arrivals_of (jobs_seen (outcome_of s tr) i)) (tasks_on s r)) (flat_map (λ i. ends_of (jobs_seen (outcome_of s tr) i)) (tasks_on s r)) t ≡ pending_on s tr t r
  unfolding pending_on
  pends r t within =
      omega (arith, come-flat t (λ i. arrivals_of (jobs_seen (outcome_of s tr) i)) (tasks_on s r), come-flat t (λ i. ends_of (jobs_seen (outcome_of s tr) i)) (tasks_on s r), sums r t within (tasks_on s r) (tasks_on-are s r))

  pub resource-peak : (r peak : ℕ) (arrivals ends : List ℕ)
      → arrivals ≡ flat_map (λ i. arrivals_of (jobs_seen (outcome_of s tr) i)) (tasks_on s r) → ends ≡ flat_map (λ i. ends_of (jobs_seen (outcome_of s tr) i)) (tasks_on s r)
      → ((last : ℕ) → ((m : ℕ) → m < length arrivals → get_or arrivals m 0 ≤ last) → peak ≡ highest (inside arrivals ends) last) → peak ≡ peak_on s tr r
  unfolding peak_on
  resource-peak r peak arrivals ends a e greatest =
      let js = tasks_on s r in
      let all = subst (λ xs. (m : ℕ) → m < length xs → get_or xs m 0 ≤ end_of s tr) (sym a) (come-all (end_of s tr) _ (all-arrived r js (tasks_on-are s r))) in
      greatest (end_of s tr) all
      ∙ greatest-agree (inside arrivals ends) (λ t. pending_on s tr t r) (end_of s tr) (λ t within. rw (a, e) (pends r t within))

pub if_ok : {X E : Type 0} (P Q : X → Type 0) (r : Result X E) → ((v : X) → P v → Q v) → IfOk r P → IfOk r Q
if_ok P Q (Ok v) f h = f v h
if_ok P Q (Err e) f h = tt

pub peaks-more : (f : ℕ → ℕ) (k peak : ℕ) (before after : List ℕ) → before ≡ map f (places k) → peak ≡ f k → after ≡ before ++ peak ∷ [] → after ≡ map f (places (k + 1))
peaks-more f k peak before after so_far here more = more ∙ (rw (so_far, here) (sym (map-places_more f k)))

-- a text has grown by some words, and grows by one more
pub grows : (old words word mid new : List ℕ) → mid ≡ old ++ words → new ≡ mid ++ word → new ≡ old ++ (words ++ word)
grows old words word mid new before e = e ∙ (ap (λ x. x ++ word) before ∙ append_assoc old words word)

-- or by two
pub grows-twice : (old words one two mid new : List ℕ) → mid ≡ old ++ words → new ≡ mid ++ one ++ two → new ≡ old ++ (words ++ one ++ two)
grows-twice old words one two mid new before e = grows old (words ++ one) two (mid ++ one) new (grows old words one mid (mid ++ one) before refl) e
