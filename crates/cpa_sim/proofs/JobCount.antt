-- A run has at most as many jobs as the events of its trace start.
use Rattle.std.proofs.Common.{◌≡◌, ℕ, zero, suc, ◌+◌, ◌-◌, ◌<◌, ◌≤◌, length, List, [], ◌∷◌, map, cond, not, eqb, Bool, true, false, ◌||◌, All, Option, refl, sym, ◌∙◌, ap, subst, inl, inr, arith, get_or, length-append}
use Rattle.std.specs.Prelude.{sum, sum_by, count_by, filter}
use Rattle.std.specs.List.{AllByRecursion, list_any, flat_map, range_with_len}
use Rattle.std.proofs.lemmas.Bool.{cases_lt, cases_Bool, eqb-true, ne_eqb, cond-true, cond-false}
use Rattle.std.proofs.lemmas.List.{length-map}
use Rattle.std.proofs.lemmas.List.Elements.{All-head, All-tail}
use Rattle.std.proofs.lemmas.List.FromFn.{get_or-map-range_with_len, length-map-range_with_len, length-range_with_len}
use Rattle.std.proofs.lemmas.List.Concat.{length-flat_map}
use Rattle.std.proofs.lemmas.List.Sums.{sum_by-cons, sum_by-append, sum-map}
use Rattle.cpa_units.specs.declared.limits.TheConstants.{MAX_TRACE_JOBS}
use Rattle.cpa_units.specs.declared.places.SourceId.{SourceId}
use Rattle.cpa_units.proofs.PlaceLaws.{places, places-more, map-all_places}
use Rattle.cpa_model.specs.declared.entries.Activator.{Activator}
use Rattle.cpa_model.specs.declared.entries.Activator.TheVariants.{Source, Task as ByTask}
use Rattle.cpa_model.specs.Chains.{streams_step}
use Rattle.cpa_model.specs.Rules.{IsSystem}
use Rattle.cpa_model.specs.SystemLists.{SystemLists, task_at, task_places, source_places, is_source, is_task, is_fed_by, is_activated_by, depth_of, streams_of}
use Rattle.cpa_model.proofs.SystemLaws.{activated-there, depth_of-activated, streams_of-activators}
use Rattle.cpa_model.proofs.ActivatorLaws.{task-among}
use Rattle.cpa_trace.specs.Trace.{TraceLists, times_of, time_of, need}
use Rattle.cpa_trace.specs.Reading.{jobs_of, task_jobs}
use Rattle.cpa_sim.specs.declared.jobs.Job.{Job}
use Rattle.cpa_sim.specs.declared.jobs.Cause.{Cause}
use Rattle.cpa_sim.specs.Run.{Progress, is_open, ended_count, after_tick, serve, new_jobs, causes_by, events_at, by_task, by_source, by_tasks, by_sources, arriving, is_chosen, choice_at, served, ends_in, ended_in, run}
use Rattle.cpa_sim.specs.Outcome.{CanReplay, IsOutcome, jobs_seen, job_of, end_of, outcome_of}
use Rattle.cpa_sched.proofs.StepLaws.{all_range}
use Rattle.cpa_sim.proofs.EventCounts.{events_before, before-none, before-suc, before-le}
use Rattle.cpa_sim.proofs.QueueLaws.{serve-here, serve-there, ended-open, ended-closed, ended-append, ended-new, ended-le, length-new}
use Rattle.cpa_sim.proofs.RunLaws.{jobs-zero, jobs-suc, served-is, ends-is, ended-is as numbers-are}

-- ---- one task's jobs

pub length-serve : (now : ℕ) (js : List Progress) → length (serve now js) ≡ length js
length-serve now [] = refl
length-serve now (job ∷ js) =
    elim (cases_Bool (is_open job)) [
      | inl e ↦ rw (serve-here now job js e) refl
      | inr e ↦ rw (serve-there now job js e) (ap suc (length-serve now js))
    ]

-- a tick makes no job less complete
pub ended-serve : (now : ℕ) (js : List Progress) → ended_count js ≤ ended_count (serve now js)
ended-serve now [] = omega arith
ended-serve now (job ∷ js) =
    elim (cases_Bool (is_open job)) [
      | inl e ↦
          rw (serve-here now job js e)
          (omega (arith, ended-open job js e, sum_by-cons (λ (job : Progress). cond (not (is_open job)) 1 0) (after_tick now job) js))
      | inr e ↦ rw (serve-there now job js e) (omega (arith, ended-closed job js e, ended-closed job (serve now js) e, ended-serve now js))
    ]

-- ---- sums over places

sum-agree : (f g : ℕ → ℕ) (a n : ℕ) → ((j : ℕ) → a ≤ j → j < a + n → f j ≡ g j) → sum_by f (range_with_len a n) ≡ sum_by g (range_with_len a n)
sum-agree f g a zero agree = refl
sum-agree f g a (suc n) agree =
    omega (arith, sum_by-cons f a (range_with_len (a + 1) n), sum_by-cons g a (range_with_len (a + 1) n), agree a (omega arith) (omega arith), sum-agree f g (a + 1) n (λ j low high. agree j (omega arith) (omega arith)))

sum-add : (f g h : ℕ → ℕ) (a n : ℕ) → ((j : ℕ) → a ≤ j → j < a + n → f j + g j ≡ h j) → sum_by f (range_with_len a n) + sum_by g (range_with_len a n) ≡ sum_by h (range_with_len a n)
sum-add f g h a zero agree = refl
sum-add f g h a (suc n) agree =
    let rest = sum-add f g h (a + 1) n (λ j low high. agree j (omega arith) (omega arith)) in
    omega (arith, sum_by-cons f a (range_with_len (a + 1) n), sum_by-cons g a (range_with_len (a + 1) n), sum_by-cons h a (range_with_len (a + 1) n), agree a (omega arith) (omega arith), rest)

sum-le-range : (f g : ℕ → ℕ) (a n : ℕ) → ((j : ℕ) → f j ≤ g j) → sum_by f (range_with_len a n) ≤ sum_by g (range_with_len a n)
sum-le-range f g a zero le = omega arith
sum-le-range f g a (suc n) le = omega (arith, sum_by-cons f a (range_with_len (a + 1) n), sum_by-cons g a (range_with_len (a + 1) n), le a, sum-le-range f g (a + 1) n le)

sum-none : (f : ℕ → ℕ) (a n : ℕ) → ((j : ℕ) → a ≤ j → f j ≡ 0) → sum_by f (range_with_len a n) ≡ 0
sum-none f a zero none = refl
sum-none f a (suc n) none = omega (arith, sum_by-cons f a (range_with_len (a + 1) n), none a (omega arith), sum-none f (a + 1) n (λ j low. none j (omega arith)))

-- a sum is at least each of its parts
sum-has : (f : ℕ → ℕ) (a n k : ℕ) → a ≤ k → k < a + n → f k ≤ sum_by f (range_with_len a n)
sum-has f a zero k low high = absurd (omega arith)
sum-has f a (suc n) k low high =
    let cons = sum_by-cons f a (range_with_len (a + 1) n) in
    elim (cases_lt a k) [
      | inl more ↦ omega (arith, cons, sum-has f (a + 1) n k (omega arith) (omega arith))
      | inr here ↦
          let e : a ≡ k = omega arith in
          omega (arith, cons, ap f e)
    ]

-- one place counts at most once
sum-one : (F : ℕ → ℕ) (q a n : ℕ) → sum_by (λ j. cond (eqb q j) (F j) 0) (range_with_len a n) ≤ F q
sum-one F q a zero = omega arith
sum-one F q a (suc n) =
    let f : ℕ → ℕ = λ j. cond (eqb q j) (F j) 0 in
    let cons = sum_by-cons f a (range_with_len (a + 1) n) in
    elim (cases_Bool (eqb q a)) [
      | inl same ↦
          let e = eqb-true q a same in
          let here : f a ≡ F a = rw same refl in
          let rest = sum-none f (a + 1) n (λ j low. ap (λ b. cond b (F j) 0) (ne_eqb q j (λ x. absurd (omega (arith, e, x))))) in
          omega (arith, cons, here, rest, ap F e)
      | inr differs ↦
          let here : f a ≡ 0 = rw differs refl in
          omega (arith, cons, here, sum-one F q (a + 1) n)
    ]

-- what is counted for each activator of a list, at most once, where tasks and sources count so much
abbrev pub weight : (ℕ → ℕ) → (ℕ → ℕ) → Activator → ℕ
weight F G (Source k) = G k.0
weight F G (ByTask j) = F j.0

each-le : (f g : Activator → ℕ) (many : List Activator) → All (λ a. f a ≤ g a) many → sum_by f many ≤ sum_by g many
each-le f g [] all = omega arith
each-le f g (a ∷ many) all =
    omega (arith, sum_by-cons f a many, sum_by-cons g a many, All-head (λ a. f a ≤ g a) a many all, each-le f g many (All-tail (λ a. f a ≤ g a) a many all))

either-le : (b c : Bool) (x : ℕ) → cond (b || c) x 0 ≤ cond b x 0 + cond c x 0
either-le true c x = omega arith
either-le false c x = omega arith

-- a test on places that one activator or a later one passes
any-le : (F : ℕ → ℕ) (test : ℕ → Activator → Bool) (a : Activator) (many : List Activator) (n : ℕ)
    → sum_by (λ j. cond (list_any (test j) (a ∷ many)) (F j) 0) (range_with_len 0 n) ≤ sum_by (λ j. cond (test j a) (F j) 0) (range_with_len 0 n) + sum_by (λ j. cond (list_any (test j) many) (F j) 0) (range_with_len 0 n)
any-le F test a many n =
    let f : ℕ → ℕ = λ j. cond (test j a) (F j) 0 in
    let g : ℕ → ℕ = λ j. cond (list_any (test j) many) (F j) 0 in
    let both = sum-add f g (λ j. f j + g j) 0 n (λ j low high. refl) in
    omega (arith, both, sum-le-range (λ j. cond (list_any (test j) (a ∷ many)) (F j) 0) (λ j. f j + g j) 0 n (λ j. either-le (test j a) (list_any (test j) many) (F j)))

by-activators : (F G : ℕ → ℕ) (many : List Activator) (n m : ℕ)
    → sum_by (λ j. cond (list_any (is_task j) many) (F j) 0) (range_with_len 0 n) + sum_by (λ k. cond (list_any (is_source k) many) (G k) 0) (range_with_len 0 m) ≤ sum_by (weight F G) many
by-activators F G [] n m = omega (arith, sum-none (λ j. 0) 0 n (λ j low. refl), sum-none (λ k. 0) 0 m (λ k low. refl))
by-activators F G (Source q ∷ many) n m =
    omega (arith, any-le F is_task (Source q) many n, any-le G is_source (Source q) many m, sum-none (λ j. 0) 0 n (λ j low. refl), sum-one G q.0 0 m, sum_by-cons (weight F G) (Source q) many, by-activators F G many n m)
by-activators F G (ByTask q ∷ many) n m =
    omega (arith, any-le F is_task (ByTask q) many n, any-le G is_source (ByTask q) many m, sum-none (λ k. 0) 0 m (λ k low. refl), sum-one F q.0 0 n, sum_by-cons (weight F G) (ByTask q) many, by-activators F G many n m)

-- the places that pass are as many as the entries that do
length-passing : (p : ℕ → Bool) (f : ℕ → Bool) (a : ℕ) (xs : List ℕ) → ((n : ℕ) → n < length xs → f (a + n) ≡ p (get_or xs n 0)) → length (filter f (range_with_len a (length xs))) ≡ count_by p xs
length-passing p f a [] agree = refl
length-passing p f a (x ∷ xs) agree =
    let e : a + 0 ≡ a = omega arith in
    let here : f a ≡ p x = rw e at (agree 0 (omega arith)) in
    let rest = length-passing p f (a + 1) xs (λ n less. let e' : (a + 1) + n ≡ a + suc n = omega arith in rw e' (agree (suc n) (omega arith))) in
    let all = sum_by-cons (λ x. cond (p x) 1 0) x xs in
    elim (cases_Bool (p x)) [
      | inl passes ↦
          let all' = rw passes at all in
          rw (here, passes) (omega (arith, all', rest))
      | inr fails ↦
          let all' = rw fails at all in
          rw (here, fails) (omega (arith, all', rest))
    ]

-- the events at a time
pub length-events : (tr : TraceLists) (k now : ℕ) → length (events_at tr k now) ≡ count_by (λ e. eqb e now) (times_of tr k)
length-events tr k now = length-passing (λ e. eqb e now) (λ n. eqb (time_of tr k n) now) 0 (times_of tr k) (λ n less. let e : 0 + n ≡ n = omega arith in rw e refl)

-- ---- the machine

module _ (s : SystemLists) (tr : TraceLists) where
  -- a task's jobs after a tick are those before it, of which one may have got the tick
  pub by_serving : (P : List Progress → Type 0) (t i : ℕ) → P (serve (t + 1) ((run s tr t).jobs i)) → P ((run s tr t).jobs i) → P (served s tr t (run s tr t) i)
  by_serving P t i runs idles =
      let o : Option ℕ = (choice_at s tr t (run s tr t) (task_at s i).res.0).task in
      let is = served-is s tr t i o refl in
      elim (cases_Bool (is_chosen o i)) [
        | inl e ↦ subst P (sym (is ∙ cond-true (is_chosen o i) _ _ e)) runs
        | inr e ↦ subst P (sym (is ∙ cond-false (is_chosen o i) _ _ e)) idles
      ]

  pub length-served : (t i : ℕ) → length (served s tr t (run s tr t) i) ≡ length ((run s tr t).jobs i)
  length-served t i = by_serving (λ js. length js ≡ length ((run s tr t).jobs i)) t i (length-serve (t + 1) ((run s tr t).jobs i)) refl

  pub ended-served : (t i : ℕ) → ended_count ((run s tr t).jobs i) ≤ ended_count (served s tr t (run s tr t) i)
  ended-served t i = by_serving (λ js. ended_count ((run s tr t).jobs i) ≤ ended_count js) t i (ended-serve (t + 1) ((run s tr t).jobs i)) (omega arith)

  pub length-suc : (t i : ℕ) → length ((run s tr (suc t)).jobs i) ≡ length ((run s tr t).jobs i) + length (arriving s tr (t + 1) (ended_in s tr t (run s tr t)) i)
  length-suc t i =
      let new : List Cause = arriving s tr (t + 1) (ended_in s tr t (run s tr t)) i in
      let js : List Progress = served s tr t (run s tr t) i in
      rw (jobs-suc s tr t i)
      (omega (arith, length-append js (new_jobs (need s tr i) (length js) (t + 1) new), length-new (need s tr i) (length js) (t + 1) new, length-served t i))

  -- those that arrive in a tick aren't complete after it
  pub ended-suc : (t i : ℕ) → ended_count ((run s tr (suc t)).jobs i) ≡ ended_count (served s tr t (run s tr t) i)
  ended-suc t i =
      let new : List Cause = arriving s tr (t + 1) (ended_in s tr t (run s tr t)) i in
      let js : List Progress = served s tr t (run s tr t) i in
      rw (jobs-suc s tr t i)
      (omega (arith, ended-append js (new_jobs (need s tr i) (length js) (t + 1) new), ended-new (need s tr i) (length js) (t + 1) new))

  -- a task has a job for each job of a task that activates it that is complete, and for each event so far of a source that does
  abbrev pub ended_for : ℕ → ℕ → ℕ → ℕ
  ended_for t i j = cond (is_activated_by s j i) (ended_count ((run s tr t).jobs j)) 0

  abbrev pub events_for : ℕ → ℕ → ℕ → ℕ
  events_for t i k = cond (is_fed_by s k i) (events_before (times_of tr k) (t + 1)) 0

  length-by : (b : Bool) (a : Activator) (numbers : List ℕ) → length (cond b (causes_by a numbers) []) ≡ cond b (length numbers) 0
  length-by true a numbers = length-map numbers (λ n. let made : Cause = record { by = a; number = n } in made)
  length-by false a numbers = refl

  -- those that come in a tick
  ended-more : (t i j : ℕ) → ended_for t i j + length (by_task s (ended_in s tr t (run s tr t)) j i) ≡ ended_for (suc t) i j
  ended-more t i j =
      let new : List ℕ = ended_in s tr t (run s tr t) j in
      let count : length new ≡ ends_in s tr t (run s tr t) j = ap length (numbers-are s tr t j) ∙ length-range_with_len (ended_count ((run s tr t).jobs j)) (ends_in s tr t (run s tr t) j) in
      let by = length-by (is_activated_by s j i) (ByTask (record { 0 = j })) new in
      elim (cases_Bool (is_activated_by s j i)) [
        | inl activates ↦
            let by' = rw activates at by in
            rw activates (omega (arith, by', count, ended-suc t j, ends-is s tr t j, ended-served t j))
        | inr not_so ↦ rw not_so refl
      ]

  events-more : (t i k : ℕ) → events_for t i k + length (by_source s tr (t + 1) k i) ≡ events_for (suc t) i k
  events-more t i k =
      let e : suc t + 1 ≡ (t + 1) + 1 = omega arith in
      let by = length-by (is_fed_by s k i) (Source (record { 0 = k })) (events_at tr k (t + 1)) in
      elim (cases_Bool (is_fed_by s k i)) [
        | inl cursors ↦
            let by' = rw cursors at by in
            rw (cursors, e) (omega (arith, by', length-events tr k (t + 1), before-suc (times_of tr k) (t + 1)))
        | inr not_so ↦ rw not_so refl
      ]

  events-first : (i k : ℕ) → length (by_source s tr 0 k i) ≡ events_for 0 i k
  events-first i k =
      let by = length-by (is_fed_by s k i) (Source (record { 0 = k })) (events_at tr k 0) in
      elim (cases_Bool (is_fed_by s k i)) [
        | inl cursors ↦
            let by' = rw cursors at by in
            rw cursors (omega (arith, by', length-events tr k 0, before-suc (times_of tr k) 0, before-none (times_of tr k)))
        | inr not_so ↦ rw not_so refl
      ]

  ended-first : (i j : ℕ) → ended_for 0 i j ≡ 0
  ended-first i j =
      let none : ended_count ((run s tr 0).jobs j) ≡ 0 = rw (jobs-zero s tr j) (ended-new (need s tr j) 0 0 (arriving s tr 0 (λ j. []) j)) in
      elim (cases_Bool (is_activated_by s j i)) [
        | inl activates ↦ rw (activates, none) refl
        | inr not_so ↦ rw not_so refl
      ]

  pub jobs-counted : (t i : ℕ) → length ((run s tr t).jobs i) ≡ sum_by (ended_for t i) (task_places s) + sum_by (events_for t i) (source_places s)
  jobs-counted zero i =
      let new : List Cause = arriving s tr 0 (λ j. []) i in
      let all : length ((run s tr 0).jobs i) ≡ length new = ap length (jobs-zero s tr i) ∙ length-new (need s tr i) 0 0 new in
      let tasks : sum_by (λ j. length (by_task s (λ q. []) j i)) (task_places s) ≡ sum_by (ended_for 0 i) (task_places s) =
      sum-agree (λ j. length (by_task s (λ q. []) j i)) (ended_for 0 i) 0 (length s.tasks) (λ j low high. length-by (is_activated_by s j i) (ByTask (record { 0 = j })) [] ∙ (none (is_activated_by s j i) ∙ sym (ended-first i j))) in
      let sources : sum_by (λ k. length (by_source s tr 0 k i)) (source_places s) ≡ sum_by (events_for 0 i) (source_places s) =
      sum-agree (λ k. length (by_source s tr 0 k i)) (events_for 0 i) 0 (length s.sources) (λ k low high. events-first i k) in
      omega (arith, all, length-append (by_tasks s (λ q. []) i) (by_sources s tr 0 i), length-flat_map (λ j. by_task s (λ q. []) j i) (task_places s), length-flat_map (λ k. by_source s tr 0 k i) (source_places s), tasks, sources)
    where
      none : (b : Bool) → ◌≡◌ {A = ℕ} (cond b 0 0) 0
      none true = refl
      none false = refl
  jobs-counted (suc t) i =
      let ended : ℕ → List ℕ = ended_in s tr t (run s tr t) in
      let tasks = sum-add (ended_for t i) (λ j. length (by_task s ended j i)) (ended_for (suc t) i) 0 (length s.tasks) (λ j low high. ended-more t i j) in
      let sources = sum-add (events_for t i) (λ k. length (by_source s tr (t + 1) k i)) (events_for (suc t) i) 0 (length s.sources) (λ k low high. events-more t i k) in
      omega (arith, length-suc t i, jobs-counted t i, length-append (by_tasks s ended i) (by_sources s tr (t + 1) i), length-flat_map (λ j. by_task s ended j i) (task_places s), length-flat_map (λ k. by_source s tr (t + 1) k i) (source_places s), tasks, sources)

  module _ (rules : IsSystem s) where
    abbrev events_in : List SourceId → ℕ
    events_in ks = sum_by (λ (k : SourceId). length (times_of tr k.0)) ks

    events_in-all : (f : Activator → List SourceId) (many : List Activator) → events_in (flat_map f many) ≡ sum_by (λ a. events_in (f a)) many
    events_in-all f [] = refl
    events_in-all f (a ∷ many) =
        sum_by-append (λ (k : SourceId). length (times_of tr k.0)) (f a) (flat_map f many) ∙ omega (arith, events_in-all f many, sum_by-cons (λ a. events_in (f a)) a many)

    -- no more than the events of the streams of its activators, where that is so of the tasks among them
    by-streams : (i t : ℕ) → i < length s.tasks → ((j : ℕ) → j < length s.tasks → is_activated_by s j i ≡ true → length ((run s tr t).jobs j) ≤ events_in (streams_of s j)) → length ((run s tr t).jobs i) ≤ events_in (streams_of s i)
    by-streams i t there before =
        let F : ℕ → ℕ = λ j. ended_count ((run s tr t).jobs j) in
        let G : ℕ → ℕ = λ k. events_before (times_of tr k) (t + 1) in
        let many = (task_at s i).after in
        let f : Activator → List SourceId = λ a. streams_step a (streams_of s) in
        let all = jobs-counted t i in
        let few = by-activators F G many (length s.tasks) (length s.sources) in
        let each = each-le (weight F G) (λ a. events_in (f a)) many
        (λ k d less. of-one (get_or many k d) k d less refl) in
        let streams = ap events_in (streams_of-activators s rules i there) ∙ events_in-all f many in
        omega (arith, all, few, each, streams)
      where
        of-one : (a : Activator) (k : ℕ) (d : Activator) → k < length (task_at s i).after → get_or (task_at s i).after k d ≡ a
            → weight (λ j. ended_count ((run s tr t).jobs j)) (λ k. events_before (times_of tr k) (t + 1)) a ≤ events_in (streams_step a (streams_of s))
        of-one (Source q) k d less e = omega (arith, before-le (times_of tr q.0) (t + 1))
        of-one (ByTask j) k d less e =
            let by = task-among (task_at s i).after k j.0 d less e in
            omega (arith, ended-le ((run s tr t).jobs j.0), before j.0 (activated-there s rules i j.0 there by) by)

    by-depth : (deep i t : ℕ) → i < length s.tasks → depth_of s i ≤ deep → length ((run s tr t).jobs i) ≤ events_in (streams_of s i)
    by-depth zero i t there low = by-streams i t there (λ j below by. absurd (omega (arith, depth_of-activated s rules i j there by)))
    by-depth (suc deep) i t there low = by-streams i t there (λ j below by. by-depth deep j t below (omega (arith, depth_of-activated s rules i j there by)))

    pub jobs-le : (i t : ℕ) → i < length s.tasks → length ((run s tr t).jobs i) ≤ task_jobs s tr i
    jobs-le i t h = by-depth (depth_of s i) i t h (omega arith)

    seen-le : (i : ℕ) → i < length s.tasks → length (jobs_seen (outcome_of s tr) i) ≤ task_jobs s tr i
    unfolding outcome_of
    seen-le i h =
        let e : jobs_seen (outcome_of s tr) i ≡ map job_of ((run s tr (end_of s tr)).jobs i) = get_or-map-range_with_len (λ i. map job_of ((run s tr (end_of s tr)).jobs i)) 0 (length s.tasks) i i [] h (omega arith) in
        rw e (omega (arith, length-map ((run s tr (end_of s tr)).jobs i) job_of, jobs-le i (end_of s tr) h))

    sum-le : (f g : ℕ → ℕ) (js : List ℕ) → AllByRecursion (λ j. f j ≤ g j) js → sum_by f js ≤ sum_by g js
    sum-le f g [] all = omega arith
    sum-le f g (j ∷ js) all = omega (arith, all.0, sum-le f g js all.1, sum_by-cons f j js, sum_by-cons g j js)

    sum-grows : (g : ℕ → ℕ) (k m : ℕ) → sum_by g (places k) ≤ sum_by g (places (k + m))
    sum-grows g k zero = let e : k + 0 ≡ k = omega arith in rw e (omega arith)
    sum-grows g k (suc m) =
        let e : k + suc m ≡ (k + m) + 1 = omega arith in
        let more : sum_by g (places ((k + m) + 1)) ≡ sum_by g (places (k + m)) + sum_by g ((k + m) ∷ []) = ap (sum_by g) (places-more (k + m)) ∙ sum_by-append g (places (k + m)) ((k + m) ∷ []) in
        let less : sum_by g (places k) ≤ sum_by g (places ((k + m) + 1)) = omega (arith, more, sum-grows g k m) in
        subst (λ n. sum_by g (places k) ≤ sum_by g (places n)) (sym e) less

    -- so a task has no more jobs than a trace may have
    task-le : (i : ℕ) → i < length s.tasks → task_jobs s tr i ≤ jobs_of s tr
    task-le i there =
        let g : ℕ → ℕ = task_jobs s tr in
        let last : sum_by g (places (i + 1)) ≡ sum_by g (places i) + sum_by g (i ∷ []) = ap (sum_by g) (places-more i) ∙ sum_by-append g (places i) (i ∷ []) in
        let one : sum_by g (i ∷ []) ≡ g i + 0 = sum_by-cons g i [] in
        let e : (i + 1) + (length s.tasks - (i + 1)) ≡ length s.tasks = omega arith in
        let all = rw e at (sum-grows g (i + 1) (length s.tasks - (i + 1))) in
        omega (arith, last, one, all)

    pub jobs-few : CanReplay s tr → (t i : ℕ) → i < length s.tasks → length ((run s tr t).jobs i) ≤ MAX_TRACE_JOBS
    jobs-few can t i there = omega (arith, jobs-le i t there, task-le i there, can.few)

    -- nor has a source that activates one more events
    events-le : (k i : ℕ) → k < length s.sources → i < length s.tasks → is_fed_by s k i ≡ true → length (times_of tr k) ≤ task_jobs s tr i
    events-le k i low there cursors =
        let G : ℕ → ℕ = λ q. length (times_of tr q) in
        let many = (task_at s i).after in
        let f : Activator → List SourceId = λ a. streams_step a (streams_of s) in
        let few = by-activators (λ j. 0) G many (length s.tasks) (length s.sources) in
        let each = each-le (weight (λ j. 0) G) (λ a. events_in (f a)) many (λ q d less. of-one (get_or many q d)) in
        let streams = ap events_in (streams_of-activators s rules i there) ∙ events_in-all f many in
        let one = sum-has (λ q. cond (is_fed_by s q i) (G q) 0) 0 (length s.sources) k (omega arith) (omega arith) in
        let here : cond (is_fed_by s k i) (G k) 0 ≡ G k = rw cursors refl in
        omega (arith, few, each, streams, one, here)
      where
        of-one : (a : Activator) → weight (λ j. 0) (λ q. length (times_of tr q)) a ≤ events_in (streams_step a (streams_of s))
        of-one (Source q) = omega arith
        of-one (ByTask j) = omega arith

    pub events-few : CanReplay s tr → (k i : ℕ) → k < length s.sources → i < length s.tasks → is_fed_by s k i ≡ true → length (times_of tr k) ≤ MAX_TRACE_JOBS
    events-few can k i low there cursors = omega (arith, events-le k i low there cursors, task-le i there, can.few)

    -- nor have the first tasks together
    pub few_jobs : (k : ℕ) → k ≤ length s.tasks → sum_by (λ i. length (jobs_seen (outcome_of s tr) i)) (range_with_len 0 k) ≤ jobs_of s tr
    few_jobs k le =
        let f : ℕ → ℕ = λ i. length (jobs_seen (outcome_of s tr) i) in
        let g : ℕ → ℕ = task_jobs s tr in
        let part = sum-le f g (places k) (all_range (λ i. f i ≤ g i) 0 k (λ i low high. seen-le i (omega arith))) in
        let e : k + (length s.tasks - k) ≡ length s.tasks = omega arith in
        let all = rw e at (sum-grows g k (length s.tasks - k)) in
        omega (arith, part, all)

    outcome-length : length (outcome_of s tr).jobs ≡ length s.tasks
    unfolding outcome_of
    outcome-length = length-map-range_with_len (λ i. map job_of ((run s tr (end_of s tr)).jobs i)) 0 (length s.tasks)

    -- nor has the outcome
    pub few_seen : sum_by length (outcome_of s tr).jobs ≤ jobs_of s tr
    few_seen =
        let all : List (List Job) = (outcome_of s tr).jobs in
        let f : ℕ → ℕ = λ i. length (jobs_seen (outcome_of s tr) i) in
        let e : sum_by length all ≡ sum_by f (places (length s.tasks)) =
        sym (sum-map length all) ∙ (ap sum (sym (map-all_places (λ (js : List Job). length js) all [])) ∙ (sum-map f (places (length all)) ∙ ap (λ n. sum_by f (places n)) outcome-length)) in
        omega (arith, e, few_jobs (length s.tasks) (omega arith))

    -- so the outcome of a run of a trace that can be replayed has no more than a trace may have
    pub is-outcome : CanReplay s tr → IsOutcome s (outcome_of s tr)
    is-outcome can = record { tasks = outcome-length; few = omega (arith, few_seen, can.few) }
