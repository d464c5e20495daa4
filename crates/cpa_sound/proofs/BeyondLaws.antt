-- No job is beyond a closed vector.
use Rattle.std.proofs.Common.{◌≡◌, ℕ, suc, ◌+◌, ◌<◌, ◌≤◌, length, List, [], ◌∷◌, map, get_or, Bool, false, cond, Option, Some, None, refl, sym, ◌∙◌, inl, inr, arith, ap}
use Rattle.std.specs.Prelude.{count_by}
use Rattle.std.specs.List.{sum_by, AllByRecursion, range_with_len}
use Rattle.std.proofs.lemmas.Bool.{cases_lt, le-ltb, lt-leb}
use Rattle.std.proofs.lemmas.List.Sums.{sum_by-cons, sum_by-append}
use Rattle.std.proofs.lemmas.List.FromFn.{get_or-map-range_with_len, length-map-range_with_len}
use Rattle.cpa_units.proofs.PlaceLaws.{places, places-more}
use Rattle.cpa_units.specs.declared.bound.Bound.{Bound}
use Rattle.cpa_units.specs.declared.bound.Bound.TheVariants.{Within, Overload}
use Rattle.cpa_units.specs.Bounds.{bound_of}
use Rattle.cpa_model.specs.Rules.{IsSystem}
use Rattle.cpa_model.specs.SystemLists.{SystemLists, task_at, task_places}
use Rattle.cpa_local.specs.Solution.{IsClosed}
use Rattle.cpa_trace.specs.Trace.{TraceLists, Obeys}
use Rattle.cpa_sim.specs.declared.jobs.Job.{Job}
use Rattle.cpa_sim.specs.Run.{no_job, Progress, run}
use Rattle.cpa_units.specs.declared.limits.TheConstants.{MAX_TRACE_JOBS}
use Rattle.cpa_trace.specs.Reading.{jobs_of}
use Rattle.cpa_sim.specs.Outcome.{OutcomeLists, jobs_seen, job_of, end_of, outcome_of, CanReplay}
use Rattle.cpa_sim.proofs.JobCount.{few_jobs}
use Rattle.cpa_sound.specs.RunCourse.{course_of}
use Rattle.cpa_sound.specs.BoundsHold.{job_at, HasJob}
use Rattle.cpa_sound.specs.Beyond.{is_beyond, late_jobs, beyond_of}
use Rattle.cpa_sound.specs.Laws.{NothingIsBeyond}
use Rattle.cpa_sound.proofs.CourseLaws.{ended-mono}
use Rattle.cpa_sound.proofs.KindRuns.{order}
use Rattle.cpa_sound.proofs.Soundness.{hold-in, end-is, closed_of, closed-ended}
use Rattle.cpa_sched.proofs.OptionLaws.{some-injective}
use Rattle.cpa_sched.proofs.StepLaws.{all_range}

-- ---- counting none

none_counted : (p : Job → Bool) (js : List Progress) → ((k : ℕ) → k < length js → p (job_of (get_or js k no_job)) ≡ false) → count_by p (map job_of js) ≡ 0
none_counted p [] none = refl
none_counted p (job ∷ js) none =
    let first : p (job_of job) ≡ false = none 0 (omega arith) in
    let here : count_by p (map job_of (job ∷ js)) ≡ count_by p (map job_of js) = sum_by-cons (λ j. cond (p j) 1 0) (job_of job) (map job_of js) ∙ rw first (omega arith) in
    here ∙ none_counted p js (λ k h. none (suc k) (omega arith))

none_summed : (f : ℕ → ℕ) (is : List ℕ) → AllByRecursion (λ i. f i ≡ 0) is → sum_by f is ≡ 0
none_summed f [] all = refl
none_summed f (i ∷ is) all = omega (arith, all.0, none_summed f is all.1, sum_by-cons f i is)

module _ (s : SystemLists) (tr : TraceLists) (rules : IsSystem s) (obeys : Obeys s tr) (x : List Bound) (closed : IsClosed s x) where
  -- a job's end is no later than the time at which it is seen
  end-le : (t i k e : ℕ) → i < length s.tasks → HasJob s tr t i k → (job_at s tr t i k).end ≡ Some e → e ≤ t
  end-le t i k e h has is =
      let when = end-is s tr rules obeys t i k e h has is in
      let done = closed-ended s tr rules obeys i h t k has (closed_of s tr rules obeys (job_at s tr t i k).end e is) in
      elim (cases_lt when.0 t) [
        | inl before ↦ omega (arith, when.1)
        | inr after ↦ absurd (omega (arith, done, when.2.0, ended-mono (course_of s tr i) (task_at s i).best (task_at s i).worst (order s tr rules obeys i h) t when.0 after))
      ]

  -- a job that has ended did so in time
  ended_in_time : (t i k r e : ℕ) → i < length s.tasks → HasJob s tr t i k → bound_of x i ≡ Within r → (job_at s tr t i k).end ≡ Some e → e ≤ (job_at s tr t i k).arrival + r
  ended_in_time t i k r e h has number is =
      elim (cases_lt ((job_at s tr t i k).arrival + r) e) [
        | inr soon ↦ soon
        | inl late ↦
            let done = (hold-in s tr rules obeys x closed).in_time i r k t h number has (omega (arith, late, end-le t i k e h has is)) in
            let same = some-injective e done.ended (sym is ∙ done.is) in
            omega (arith, done.by, same)
      ]

  -- and one that hasn't isn't due yet
  not_due : (t i k r : ℕ) → i < length s.tasks → HasJob s tr t i k → bound_of x i ≡ Within r → (job_at s tr t i k).end ≡ None → t < (job_at s tr t i k).arrival + r
  not_due t i k r h has number none =
      elim (cases_lt t ((job_at s tr t i k).arrival + r)) [
        | inl soon ↦ soon
        | inr past ↦
            let done = (hold-in s tr rules obeys x closed).in_time i r k t h number has past in
            let both = sym none ∙ done.is in
            cc
      ]

  not_beyond : (t i k : ℕ) → i < length s.tasks → HasJob s tr t i k → (b : Bound) → bound_of x i ≡ b → (o : Option ℕ) → (job_at s tr t i k).end ≡ o → is_beyond b t (job_of (job_at s tr t i k)) ≡ false
  not_beyond t i k h has Overload number o is = refl
  not_beyond t i k h has (Within r) number (Some e) is = rw is (le-ltb _ _ (ended_in_time t i k r e h has number is))
  not_beyond t i k h has (Within r) number None is = rw is (lt-leb _ _ (not_due t i k r h has number is))

  outcome-jobs : (i : ℕ) → i < length s.tasks → jobs_seen (outcome_of s tr) i ≡ map job_of ((run s tr (end_of s tr)).jobs i)
  unfolding outcome_of
  outcome-jobs i h = get_or-map-range_with_len (λ i. map job_of ((run s tr (end_of s tr)).jobs i)) 0 (length s.tasks) i i [] h (omega arith)

  none_late : (i : ℕ) → i < length s.tasks → late_jobs (bound_of x i) (outcome_of s tr) i ≡ 0
  unfolding outcome_of
  none_late i h =
      ap (count_by (is_beyond (bound_of x i) (end_of s tr))) (outcome-jobs i h)
      ∙ none_counted (is_beyond (bound_of x i) (end_of s tr)) ((run s tr (end_of s tr)).jobs i) (λ k has. not_beyond (end_of s tr) i k h has (bound_of x i) refl (job_at s tr (end_of s tr) i k).end refl)

  none_beyond : beyond_of s x (outcome_of s tr) ≡ 0
  unfolding beyond_of
  none_beyond =
      none_summed (λ i. late_jobs (bound_of x i) (outcome_of s tr) i) (task_places s) (all_range (λ i. late_jobs (bound_of x i) (outcome_of s tr) i ≡ 0) 0 (length s.tasks) (λ i low high. none_late i (omega arith)))

pub nothing_is_beyond : NothingIsBeyond
nothing_is_beyond s x tr rules closed obeys = none_beyond s tr rules obeys x closed

-- ---- what code that counts them knows

pub outcome-long : (s : SystemLists) (tr : TraceLists) → length (outcome_of s tr).jobs ≡ length s.tasks
unfolding outcome_of
outcome-long s tr = length-map-range_with_len (λ i. map job_of ((run s tr (end_of s tr)).jobs i)) 0 (length s.tasks)

-- one task more
pub beyond-more : (x : List Bound) (o : OutcomeLists) (k so_far late : ℕ) (b : Bound) → so_far ≡ sum_by (λ i. late_jobs (bound_of x i) o i) (range_with_len 0 k) → b ≡ bound_of x k → late ≡ late_jobs b o k → so_far + late ≡ sum_by (λ i. late_jobs (bound_of x i) o i) (range_with_len 0 (k + 1))
beyond-more x o k so_far late b before bound here =
    let f : ℕ → ℕ = λ i. late_jobs (bound_of x i) o i in
    let last : sum_by f (k ∷ []) ≡ f k = omega (arith, sum_by-cons f k []) in
    let own : late ≡ f k = here ∙ ap (λ c. late_jobs c o k) bound in
    let more : sum_by f (range_with_len 0 (k + 1)) ≡ sum_by f (range_with_len 0 k) + sum_by f (k ∷ []) = ap (sum_by f) (places-more k) ∙ sum_by-append f (places k) (k ∷ []) in
    omega (arith, before, own, last, more)

-- all tasks
pub beyond-all : (s : SystemLists) (x : List Bound) (o : OutcomeLists) (k counted : ℕ) → counted ≡ sum_by (λ i. late_jobs (bound_of x i) o i) (range_with_len 0 k) → k ≡ length s.tasks → counted ≡ beyond_of s x o
unfolding beyond_of
beyond-all s x o k counted is end = is ∙ ap (λ n. sum_by (λ i. late_jobs (bound_of x i) o i) (range_with_len 0 n)) end

pub none-beyond : (s : SystemLists) (x : List Bound) (tr : TraceLists) (o : OutcomeLists) → IsSystem s → o ≡ outcome_of s tr → IsClosed s x → Obeys s tr → beyond_of s x o ≡ 0
none-beyond s x tr o rules is closed obeys = ap (beyond_of s x) is ∙ nothing_is_beyond s x tr rules closed obeys

-- so far no more than there are jobs
pub few-more : (o : OutcomeLists) (k so_far late : ℕ) → so_far ≤ sum_by (λ i. length (jobs_seen o i)) (range_with_len 0 k) → late ≤ length (jobs_seen o k) → so_far + late ≤ sum_by (λ i. length (jobs_seen o i)) (range_with_len 0 (k + 1))
few-more o k so_far late before here =
    let f : ℕ → ℕ = λ i. length (jobs_seen o i) in
    let last : sum_by f (k ∷ []) ≡ f k = omega (arith, sum_by-cons f k []) in
    let more : sum_by f (range_with_len 0 (k + 1)) ≡ sum_by f (range_with_len 0 k) + sum_by f (k ∷ []) = ap (sum_by f) (places-more k) ∙ sum_by-append f (places k) (k ∷ []) in
    omega (arith, before, here, last, more)

-- and these are few
pub few-all : (s : SystemLists) (tr : TraceLists) (o : OutcomeLists) (k n : ℕ) → IsSystem s → CanReplay s tr → o ≡ outcome_of s tr → k ≤ length s.tasks → n ≤ sum_by (λ i. length (jobs_seen o i)) (range_with_len 0 k) → n ≤ MAX_TRACE_JOBS
few-all s tr o k n rules can is le h =
    let most = few_jobs s tr rules k le in
    let few : jobs_of s tr ≤ MAX_TRACE_JOBS = can.few in
    let h' = rw is at h in
    omega (arith, h', most, few)
