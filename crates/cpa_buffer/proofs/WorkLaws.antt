-- All work that waits on a resource is done a bound later, and a tick does no more than a tick's work; so no more waits.
use Rattle.std.proofs.Common.{◌≡◌, ℕ, zero, suc, ◌+◌, ◌-◌, ◌<◌, ◌≤◌, ◌++◌, length, List, [], ◌∷◌, get_or, eqb, Bool, true, false, cond, Option, Some, None, refl, sym, ◌∙◌, ap, inl, inr, arith}
use Rattle.std.specs.Prelude.{sum_by, fold, filter, nat_le}
use Rattle.std.specs.List.{AllByRecursion, range_with_len}
use Rattle.std.proofs.lemmas.Bool.{cases_lt, cases_Bool, eqb-true, eq-eqb, ne_eqb, le-leb, lt-leb}
use Rattle.std.proofs.lemmas.List.Sums.{sum_by-cons}
use Rattle.cpa_units.specs.declared.bound.Bound.{Bound}
use Rattle.cpa_units.specs.declared.bound.Bound.TheVariants.{Within, Overload}
use Rattle.cpa_units.specs.Bounds.{IsAtMost, bound_of, bound_max}
use Rattle.cpa_model.specs.SystemLists.{SystemLists, task_at, is_on, tasks_on, task_places}
use Rattle.cpa_trace.specs.Trace.{TraceLists, need}
use Rattle.cpa_sched.specs.States.{IsOn}
use Rattle.cpa_sched.proofs.StepLaws.{tasks_on-are}
use Rattle.cpa_sim.specs.Run.{no_job, Progress, is_open, is_unset, after_tick, serve, new_jobs, arriving, is_chosen, choice_at, runs_in, served, ended_in, run}
use Rattle.cpa_sim.proofs.QueueLaws.{serve-here, serve-there}
use Rattle.cpa_sim.proofs.RunLaws.{jobs-suc}
use Rattle.cpa_sim.proofs.JobCount.{length-served, length-suc}
use Rattle.cpa_sound.specs.BoundsHold.{job_at, HasJob, HoldIn}
use Rattle.cpa_sound.specs.RunCourse.{received_before, arrived_before}
use Rattle.cpa_sound.proofs.FieldLaws.{arrival-is}
use Rattle.cpa_sound.proofs.JobLaws.{tick-last, tick-more}
use Rattle.cpa_sound.proofs.LevelLaws.{sum-le, all_map}
use Rattle.cpa_sound.proofs.RunLaws.{received-suc, served-runs, served-idle, arrived-one}
use Rattle.cpa_buffer.specs.Work.{rest_of, work_at, work_on, greatest_bound, most_work_on}

-- ---- the first jobs of a task

-- what the first jobs still need together
abbrev rest_first : ℕ → List Progress → ℕ
rest_first zero js = 0
rest_first (suc n) [] = 0
rest_first (suc n) (job ∷ js) = rest_of job + rest_first n js

rest-all : (js : List Progress) → sum_by rest_of js ≡ rest_first (length js) js
rest-all [] = refl
rest-all (job ∷ js) = omega (arith, sum_by-cons rest_of job js, rest-all js)

rest-append : (n : ℕ) (js ks : List Progress) → n ≤ length js → rest_first n (js ++ ks) ≡ rest_first n js
rest-append zero js ks h = refl
rest-append (suc n) [] ks h = absurd (omega arith)
rest-append (suc n) (job ∷ js) ks h = omega (arith, rest-append n js ks (omega arith))

-- a tick takes no more than a tick from them
rest-tick : (now : ℕ) (job : Progress) → is_open job ≡ true → rest_of job ≤ rest_of (after_tick now job) + 1
rest-tick now job e =
    elim (cases_lt 1 job.left) [
      | inl more ↦ rw (tick-more now job more, e) (omega (arith, more))
      | inr last ↦ rw (tick-last now job last, e) (omega (arith, last))
    ]

rest-serve : (n now : ℕ) (js : List Progress) → rest_first n js ≤ rest_first n (serve now js) + 1
rest-serve zero now js = omega arith
rest-serve (suc n) now [] = omega arith
rest-serve (suc n) now (job ∷ js) =
    elim (cases_Bool (is_open job)) [
      | inl e ↦ rw (serve-here now job js e) (omega (arith, rest-tick now job e))
      | inr e ↦ rw (serve-there now job js e) (omega (arith, rest-serve n now js))
    ]

rest-closed : (n : ℕ) (js : List Progress) → n ≤ length js → ((k : ℕ) → k < n → is_open (get_or js k no_job) ≡ false) → rest_first n js ≡ 0
rest-closed zero js h closed = refl
rest-closed (suc n) [] h closed = absurd (omega arith)
rest-closed (suc n) (job ∷ js) h closed =
    let first : rest_of job ≡ 0 = ap (λ b. cond b job.left 0) (closed 0 (omega arith)) in
    omega (arith, first, rest-closed n js (omega arith) (λ k less. closed (suc k) (omega arith)))

module _ (s : SystemLists) (tr : TraceLists) where
  -- ---- one task, from a time on

  rest-step : (n t i : ℕ) → n ≤ length ((run s tr t).jobs i) → rest_first n ((run s tr t).jobs i) + received_before s tr i t ≤ rest_first n ((run s tr (suc t)).jobs i) + received_before s tr i (suc t)
  rest-step n t i few =
      let js = served s tr t (run s tr t) i in
      let new = new_jobs (need s tr i) (length js) (t + 1) (arriving s tr (t + 1) (ended_in s tr t (run s tr t)) i) in
      let same : rest_first n ((run s tr (suc t)).jobs i) ≡ rest_first n js = ap (rest_first n) (jobs-suc s tr t i) ∙ rest-append n js new (omega (arith, length-served s tr t i)) in
      elim (cases_Bool (runs_in s tr t (run s tr t) i)) [
        | inl e ↦
            let got : received_before s tr i (suc t) ≡ received_before s tr i t + 1 = received-suc s tr t i ∙ ap (λ b. received_before s tr i t + cond b 1 0) e in
            let one = rest-serve n (t + 1) ((run s tr t).jobs i) in
            let is : rest_first n js ≡ rest_first n (serve (t + 1) ((run s tr t).jobs i)) = ap (rest_first n) (served-runs s tr t i e) in
            omega (arith, same, got, one, is)
        | inr e ↦
            let got : received_before s tr i (suc t) ≡ received_before s tr i t + 0 = received-suc s tr t i ∙ ap (λ b. received_before s tr i t + cond b 1 0) e in
            let is : rest_first n js ≡ rest_first n ((run s tr t).jobs i) = ap (rest_first n) (served-idle s tr t i e) in
            omega (arith, same, got, is)
      ]

  more-later : (t u i : ℕ) → length ((run s tr t).jobs i) ≤ length ((run s tr (t + u)).jobs i)
  more-later t zero i = let e : t + 0 ≡ t = omega arith in rw e (omega arith)
  more-later t (suc u) i = let e : t + suc u ≡ suc (t + u) = omega arith in rw e (omega (arith, more-later t u i, length-suc s tr (t + u) i))

  rest-later : (t u i : ℕ) → rest_first (length ((run s tr t).jobs i)) ((run s tr t).jobs i) + received_before s tr i t ≤ rest_first (length ((run s tr t).jobs i)) ((run s tr (t + u)).jobs i) + received_before s tr i (t + u)
  rest-later t zero i = let e : t + 0 ≡ t = omega arith in rw e (omega arith)
  rest-later t (suc u) i =
      let e : t + suc u ≡ suc (t + u) = omega arith in
      rw e (omega (arith, rest-later t u i, rest-step (length ((run s tr t).jobs i)) (t + u) i (more-later t u i)))

  -- a job that is there at a time has come by then, as it is seen later
  come-by : (t u i k : ℕ) → HasJob s tr t i k → (job_at s tr (t + u) i k).arrival ≤ t
  come-by t u i k has =
      let a : ℕ = (job_at s tr (t + u) i k).arrival in
      let come = arrival-is s tr (t + u) i k (omega (arith, has, more-later t u i)) in
      elim (cases_lt t a) [
        | inr by ↦ by
        | inl late ↦
            let e : (t + (a - 1 - t)) + 1 ≡ a = omega (arith, late) in
            let before = arrived-one s tr (t + (a - 1 - t)) i in
            let before' : arrived_before s tr i a ≡ length ((run s tr (t + (a - 1 - t))).jobs i) = rw e at before in
            absurd (omega (arith, before', more-later t (a - 1 - t) i, has, come.0.0))
      ]

  -- ---- all tasks of a resource: no more than one of them runs in a tick

  -- one where a task is chosen that doesn't stand before a place
  abbrev chosen_from : Option ℕ → ℕ → ℕ
  chosen_from None a = 0
  chosen_from (Some j) a = cond (nat_le a j) 1 0

  chosen-next : (o : Option ℕ) (a : ℕ) → cond (is_chosen o a) 1 0 + chosen_from o (a + 1) ≤ chosen_from o a
  chosen-next None a = omega arith
  chosen-next (Some j) a =
      elim (cases_lt j a) [
        | inl before ↦ rw (ne_eqb j a (λ e. omega arith), lt-leb (a + 1) j (omega arith), lt-leb a j before) (omega arith)
        | inr from ↦
            elim (cases_lt a j) [
              | inl after ↦ rw (ne_eqb j a (λ e. omega arith), le-leb (a + 1) j (omega arith), le-leb a j from) (omega arith)
              | inr here ↦ rw (eq-eqb j a (omega arith), lt-leb (a + 1) j (omega arith), le-leb a j from) (omega arith)
            ]
      ]

  chosen-after : (o : Option ℕ) (a : ℕ) → chosen_from o (a + 1) ≤ chosen_from o a
  chosen-after None a = omega arith
  chosen-after (Some j) a = omega (arith, chosen-next (Some j) a)

  chosen-one : (o : Option ℕ) (a : ℕ) → chosen_from o a ≤ 1
  chosen-one None a = omega arith
  chosen-one (Some j) a = elim (cases_lt j a) [ inl before ↦ rw (lt-leb a j before) (omega arith) | inr from ↦ rw (le-leb a j from) (omega arith) ]

  one-runs : (o : Option ℕ) (f : ℕ → ℕ) (p : ℕ → Bool) (a m : ℕ) → sum_by (λ j. f j + cond (is_chosen o j) 1 0) (filter p (range_with_len a m)) ≤ sum_by f (filter p (range_with_len a m)) + chosen_from o a
  one-runs o f p a zero = omega arith
  one-runs o f p a (suc m) =
      let rest = one-runs o f p (a + 1) m in
      elim (cases_Bool (p a)) [
        | inl kept ↦
            rw kept
            (omega (
              arith,
              sum_by-cons (λ j. f j + cond (is_chosen o j) 1 0) a (filter p (range_with_len (a + 1) m)),
              sum_by-cons f a (filter p (range_with_len (a + 1) m)),
              rest,
              chosen-next o a,
            ))
        | inr dropped ↦ rw dropped (omega (arith, rest, chosen-after o a))
      ]

  -- what the tasks of a resource have received together
  abbrev total : ℕ → ℕ → ℕ
  total r t = sum_by (λ i. received_before s tr i t) (tasks_on s r)

  received-next : (r t i : ℕ) → IsOn s r i → received_before s tr i (suc t) ≤ received_before s tr i t + cond (is_chosen (choice_at s tr t (run s tr t) r).task i) 1 0
  unfolding runs_in
  received-next r t i on =
      let here : (task_at s i).res.0 ≡ r = eqb-true (task_at s i).res.0 r on.here in
      let is : received_before s tr i (suc t) ≡ received_before s tr i t + cond (is_chosen (choice_at s tr t (run s tr t) (task_at s i).res.0).task i) 1 0 = received-suc s tr t i in
      let is' = rw here at is in
      omega (arith, is')

  total-next : (r t : ℕ) → total r (suc t) ≤ total r t + 1
  total-next r t =
      let o : Option ℕ = (choice_at s tr t (run s tr t) r).task in
      let each =
      sum-le (λ i. received_before s tr i (suc t)) (λ i. received_before s tr i t + cond (is_chosen o i) 1 0) (tasks_on s r)
      (all_map (IsOn s r) (λ i. received_before s tr i (suc t) ≤ received_before s tr i t + cond (is_chosen o i) 1 0) (received-next r t) (tasks_on s r) (tasks_on-are s r)) in
      omega (arith, each, one-runs o (λ i. received_before s tr i t) (is_on s r) 0 (length s.tasks), chosen-one o 0)

  total-later : (r t u : ℕ) → total r (t + u) ≤ total r t + u
  total-later r t zero = let e : t + 0 ≡ t = omega arith in rw e (omega arith)
  total-later r t (suc u) = let e : t + suc u ≡ suc (t + u) = omega arith in rw e (omega (arith, total-later r t u, total-next r (t + u)))

-- ---- the greatest bound

-- each of some tasks has a bound within a number
abbrev AreWithin : List Bound → ℕ → List ℕ → Type 0
AreWithin x w is = AllByRecursion (λ i. IsAtMost (bound_of x i) (Within w)) is

greatest-parts : (x : List Bound) (most : Bound) (is : List ℕ) (w : ℕ) → fold (λ m i. bound_max m (bound_of x i)) most is ≡ Within w → IsAtMost most (Within w) × AreWithin x w is
greatest-parts x (Within a) [] w e = let same : a ≡ w = cc in (omega (arith, same), tt)
greatest-parts x Overload [] w e = cc
greatest-parts x most (i ∷ is) w e =
    let rest = greatest-parts x (bound_max most (bound_of x i)) is w e in
    let parts = max-below most (bound_of x i) w rest.0 in
    (parts.0, (parts.1, rest.1))
  where
    max-below : (a b : Bound) (w : ℕ) → IsAtMost (bound_max a b) (Within w) → IsAtMost a (Within w) × IsAtMost b (Within w)
    max-below (Within a) (Within b) w h = (omega (arith, h), omega (arith, h))
    max-below (Within a) Overload w h = absurd h
    max-below Overload b w h = absurd h

-- ---- all that waits is done by the greatest bound

both-sums : (f g : ℕ → ℕ) (js : List ℕ) → sum_by (λ j. f j + g j) js ≡ sum_by f js + sum_by g js
both-sums f g [] = refl
both-sums f g (j ∷ js) = omega (arith, sum_by-cons (λ k. f k + g k) j js, sum_by-cons f j js, sum_by-cons g j js, both-sums f g js)

module _ (s : SystemLists) (x : List Bound) (tr : TraceLists) (hold : HoldIn s x tr) (t w : ℕ) where
  ended-closed : (o : Option ℕ) (e : ℕ) → o ≡ Some e → is_unset o ≡ false
  ended-closed o e is = ap is_unset is

  -- each job that has arrived by t is complete at t + w
  closed-then : (i k b : ℕ) → i < length s.tasks → bound_of x i ≡ Within b → b ≤ w → HasJob s tr t i k → is_open (job_at s tr (t + w) i k) ≡ false
  closed-then i k b there bound le has =
      let has' : HasJob s tr (t + w) i k = omega (arith, has, more-later s tr t w i) in
      let done = hold.in_time i b k (t + w) there bound has' (omega (arith, come-by s tr t w i k has, le)) in
      ended-closed (job_at s tr (t + w) i k).end done.ended done.is

  within-by : (i : ℕ) (b : Bound) → i < length s.tasks → bound_of x i ≡ b → IsAtMost b (Within w) → work_at s tr t i + received_before s tr i t ≤ received_before s tr i (t + w)
  unfolding work_at
  within-by i Overload there bound le = absurd le
  within-by i (Within b) there bound le =
      let n : ℕ = length ((run s tr t).jobs i) in
      let none : rest_first n ((run s tr (t + w)).jobs i) ≡ 0 = rest-closed n ((run s tr (t + w)).jobs i) (more-later s tr t w i) (λ k less. closed-then i k b there bound le less) in
      omega (arith, rest-all ((run s tr t).jobs i), rest-later s tr t w i, none)

  work-all : (js : List ℕ) → AllByRecursion (λ i. i < length s.tasks) js → AreWithin x w js → AllByRecursion (λ i. work_at s tr t i + received_before s tr i t ≤ received_before s tr i (t + w)) js
  work-all [] there within = tt
  work-all (i ∷ js) there within = (within-by i (bound_of x i) there.0 refl within.0, work-all js there.1 within.1)

  work-within : (r : ℕ) → AreWithin x w (tasks_on s r) → work_on s tr t r ≤ w
  unfolding work_on
  work-within r within =
      let there = all_map (IsOn s r) (λ i. i < length s.tasks) (λ i on. on.task) (tasks_on s r) (tasks_on-are s r) in
      let sums =
      sum-le (λ i. work_at s tr t i + received_before s tr i t) (λ i. received_before s tr i (t + w)) (tasks_on s r) (work-all (tasks_on s r) there within) in
      omega (arith, sums, both-sums (work_at s tr t) (λ i. received_before s tr i t) (tasks_on s r), total-later s tr r t w)

pub work-done : (s : SystemLists) (x : List Bound) (tr : TraceLists) → HoldIn s x tr → (t r : ℕ) → IsAtMost (Within (work_on s tr t r)) (most_work_on s x r)
unfolding most_work_on
work-done s x tr hold t r = by (greatest_bound x (tasks_on s r)) refl
  where
    by : (b : Bound) → greatest_bound x (tasks_on s r) ≡ b → IsAtMost (Within (work_on s tr t r)) b
    by Overload e = tt
    by (Within w) e = work-within s x tr hold t w r (greatest-parts x (Within 0) (tasks_on s r) w e).1
