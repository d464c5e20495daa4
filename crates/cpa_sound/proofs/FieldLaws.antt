-- What the fields of a job in a run say: when it arrived and when it ended.
use Rattle.std.proofs.Common.{◌≡◌, ℕ, zero, suc, ◌+◌, ◌-◌, ◌<◌, ◌≤◌, length, List, [], ◌∷◌, true, Option, Some, None, refl, sym, ◌∙◌, inl, inr, ◌⊎◌, arith, subst, ap, get_or}
use Rattle.std.proofs.lemmas.List.{get_or_append_left, get_or-append-add}
use Rattle.std.proofs.lemmas.Bool.{cases_lt, cases_Bool, false≢true}
use Rattle.cpa_model.specs.SystemLists.{SystemLists}
use Rattle.cpa_sound.specs.Course.{Arrives}
use Rattle.cpa_trace.specs.Trace.{TraceLists, need}
use Rattle.cpa_sim.specs.declared.jobs.Cause.{Cause}
use Rattle.cpa_sim.specs.Run.{no_job, Progress, is_unset, is_open, after_tick, serve, new_jobs, arriving, runs_in, served, ended_in, run}
use Rattle.cpa_sound.specs.RunCourse.{arrived_before, course_of}
use Rattle.cpa_sound.specs.BoundsHold.{job_at, HasJob}
use Rattle.cpa_sim.proofs.QueueLaws.{serve-here, serve-there, length-new}
use Rattle.cpa_sound.proofs.JobLaws.{tick-last, tick-more}
use Rattle.cpa_sim.proofs.RunLaws.{jobs-zero, jobs-suc}
use Rattle.cpa_sim.proofs.JobCount.{length-served, length-suc}
use Rattle.cpa_sound.proofs.RunLaws.{served-runs, served-idle, arrived-zero, arrived-one}

-- ---- lists

get-new : (needs : ℕ → ℕ) (first now : ℕ) (new : List Cause) (k : ℕ) → k < length new → (get_or (new_jobs needs first now new) k no_job).arrival ≡ now
get-new needs first now [] k h = absurd (omega arith)
get-new needs first now (cause ∷ new) zero h = refl
get-new needs first now (cause ∷ new) (suc k) h = get-new needs (first + 1) now new k (omega arith)

pub get-new_end : (needs : ℕ → ℕ) (first now : ℕ) (new : List Cause) (k : ℕ) → (get_or (new_jobs needs first now new) k no_job).end ≡ None
get-new_end needs first now [] k = refl
get-new_end needs first now (cause ∷ new) zero = refl
get-new_end needs first now (cause ∷ new) (suc k) = get-new_end needs (first + 1) now new k

-- ---- a tick

tick-arrival : (now : ℕ) (job : Progress) → (after_tick now job).arrival ≡ job.arrival
tick-arrival now job =
    elim (cases_lt 1 job.left) [ inl more ↦ rw (tick-more now job more) refl | inr last ↦ rw (tick-last now job last) refl ]

tick-end : (now : ℕ) (job : Progress) → ((after_tick now job).end ≡ Some now) ⊎ ((after_tick now job).end ≡ None)
tick-end now job =
    elim (cases_lt 1 job.left) [ inl more ↦ inr (rw (tick-more now job more) refl) | inr last ↦ inl (rw (tick-last now job last) refl) ]

pub tick-cause : (now : ℕ) (job : Progress) → (after_tick now job).cause ≡ job.cause
tick-cause now job =
    elim (cases_lt 1 job.left) [ inl more ↦ rw (tick-more now job more) refl | inr last ↦ rw (tick-last now job last) refl ]

serve-arrival : (now : ℕ) (js : List Progress) (k : ℕ) → (get_or (serve now js) k no_job).arrival ≡ (get_or js k no_job).arrival
serve-arrival now [] k = refl
serve-arrival now (job ∷ js) k =
    elim (cases_Bool (is_open job)) [ inl e ↦ rw (serve-here now job js e) (here k) | inr e ↦ rw (serve-there now job js e) (there (serve-arrival now js) k) ]
  where
    here : (k : ℕ) → (get_or (after_tick now job ∷ js) k no_job).arrival ≡ (get_or (job ∷ js) k no_job).arrival
    here zero = tick-arrival now job
    here (suc k) = refl

    there : ((k : ℕ) → (get_or (serve now js) k no_job).arrival ≡ (get_or js k no_job).arrival) → (k : ℕ) → (get_or (job ∷ serve now js) k no_job).arrival ≡ (get_or (job ∷ js) k no_job).arrival
    there rest zero = refl
    there rest (suc k) = rest k

-- a tick leaves a job's end alone, or the job had none and ends now if at all
pub serve-end : (now : ℕ) (js : List Progress) (k : ℕ) → ((get_or (serve now js) k no_job).end ≡ (get_or js k no_job).end) ⊎ ((is_open (get_or js k no_job) ≡ true) × ((get_or (serve now js) k no_job).end ≡ Some now))
serve-end now [] k = inl refl
serve-end now (job ∷ js) k =
    elim (cases_Bool (is_open job)) [ inl e ↦ rw (serve-here now job js e) (here e k) | inr e ↦ rw (serve-there now job js e) (there (serve-end now js) k) ]
  where
    none_of : (o : Option ℕ) → is_unset o ≡ true → o ≡ None
    none_of None e = refl
    none_of (Some t) e = absurd (false≢true e)

    here : is_open job ≡ true → (k : ℕ) → ((get_or (after_tick now job ∷ js) k no_job).end ≡ (get_or (job ∷ js) k no_job).end) ⊎ ((is_open (get_or (job ∷ js) k no_job) ≡ true) × ((get_or (after_tick now job ∷ js) k no_job).end ≡ Some now))
    here e zero = elim (tick-end now job) [ inl ended ↦ inr (e, ended) | inr still ↦ inl (still ∙ sym (none_of job.end e)) ]
    here e (suc k) = inl refl

    there : ((k : ℕ) → ((get_or (serve now js) k no_job).end ≡ (get_or js k no_job).end) ⊎ ((is_open (get_or js k no_job) ≡ true) × ((get_or (serve now js) k no_job).end ≡ Some now))) → (k : ℕ) → ((get_or (job ∷ serve now js) k no_job).end ≡ (get_or (job ∷ js) k no_job).end) ⊎ ((is_open (get_or (job ∷ js) k no_job) ≡ true) × ((get_or (job ∷ serve now js) k no_job).end ≡ Some now))
    there rest zero = inl refl
    there rest (suc k) = rest k

module _ (s : SystemLists) (tr : TraceLists) where
  served-arrival : (t i k : ℕ) → (get_or (served s tr t (run s tr t) i) k no_job).arrival ≡ (job_at s tr t i k).arrival
  served-arrival t i k =
      elim (cases_Bool (runs_in s tr t (run s tr t) i)) [
        | inl e ↦ rw (served-runs s tr t i e) (serve-arrival (t + 1) ((run s tr t).jobs i) k)
        | inr e ↦ rw (served-idle s tr t i e) refl
      ]

  unfoldable pub new_at : ℕ → ℕ → List Progress
  new_at t i = new_jobs (need s tr i) (length (served s tr t (run s tr t) i)) (t + 1) (arriving s tr (t + 1) (ended_in s tr t (run s tr t)) i)

  pub old-job : (t i k : ℕ) → HasJob s tr t i k → job_at s tr (suc t) i k ≡ get_or (served s tr t (run s tr t) i) k no_job
  unfolding new_at
  old-job t i k has =
      ap (λ js. get_or js k no_job) (jobs-suc s tr t i) ∙ get_or_append_left (served s tr t (run s tr t) i) (new_at t i) no_job k (omega (arith, length-served s tr t i))

  pub new-job : (t i k : ℕ) → length ((run s tr t).jobs i) ≤ k → job_at s tr (suc t) i k ≡ get_or (new_at t i) (k - length ((run s tr t).jobs i)) no_job
  unfolding new_at
  new-job t i k past =
      let l : ℕ = length (served s tr t (run s tr t) i) in
      let e : l + (k - length ((run s tr t).jobs i)) ≡ k = omega (arith, length-served s tr t i) in
      let right = get_or-append-add (served s tr t (run s tr t) i) (new_at t i) (k - length ((run s tr t).jobs i)) no_job in
      ap (λ js. get_or js k no_job) (jobs-suc s tr t i) ∙ rw e at right

  arrival-zero : (i k : ℕ) → HasJob s tr 0 i k → (job_at s tr 0 i k).arrival ≡ 0
  arrival-zero i k has =
      let new : List Cause = arriving s tr 0 (λ j. []) i in
      let has' = rw (jobs-zero s tr i) at has in
      ap (λ js. (get_or js k no_job).arrival) (jobs-zero s tr i) ∙ get-new (need s tr i) 0 0 new k (omega (arith, has', length-new (need s tr i) 0 0 new))

  arrival-old : (t i k : ℕ) → HasJob s tr t i k → (job_at s tr (suc t) i k).arrival ≡ (job_at s tr t i k).arrival
  arrival-old t i k has = ap (λ (job : Progress). job.arrival) (old-job t i k has) ∙ served-arrival t i k

  arrival-new : (t i k : ℕ) → length ((run s tr t).jobs i) ≤ k → HasJob s tr (suc t) i k → (job_at s tr (suc t) i k).arrival ≡ t + 1
  unfolding new_at
  arrival-new t i k past has =
      let new : List Cause = arriving s tr (t + 1) (ended_in s tr t (run s tr t)) i in
      ap (λ (job : Progress). job.arrival) (new-job t i k past)
      ∙ get-new (need s tr i) (length (served s tr t (run s tr t) i)) (t + 1) new (k - length ((run s tr t).jobs i)) (omega (arith, length-suc s tr t i))

  -- a job has no end when it comes
  pub end-zero : (i k : ℕ) → (job_at s tr 0 i k).end ≡ None
  end-zero i k = ap (λ js. (get_or js k no_job).end) (jobs-zero s tr i) ∙ get-new_end (need s tr i) 0 0 (arriving s tr 0 (λ j. []) i) k

  pub end-new : (t i k : ℕ) → length ((run s tr t).jobs i) ≤ k → (job_at s tr (suc t) i k).end ≡ None
  unfolding new_at
  end-new t i k past =
      ap (λ (job : Progress). job.end) (new-job t i k past)
      ∙ get-new_end (need s tr i) (length (served s tr t (run s tr t) i)) (t + 1) (arriving s tr (t + 1) (ended_in s tr t (run s tr t)) i) (k - length ((run s tr t).jobs i))

  -- a job's arrival is the time at which it came
  pub arrival-is : (t i k : ℕ) → HasJob s tr t i k → Arrives (course_of s tr i) k (job_at s tr t i k).arrival × ((job_at s tr t i k).arrival ≤ t)
  arrival-is zero i k has =
      let e = arrival-zero i k has in
      let start : Arrives (course_of s tr i) k 0 × (0 ≤ 0) = ((omega (arith, arrived-zero s tr i), omega (arith, arrived-one s tr 0 i)), omega arith) in
      subst (λ a. Arrives (course_of s tr i) k a × (a ≤ 0)) (sym e) start
  arrival-is (suc t) i k has =
      elim (cases_lt k (length ((run s tr t).jobs i))) [
        | inl before ↦
            let known = arrival-is t i k before in
            let grown : Arrives (course_of s tr i) k (job_at s tr t i k).arrival × ((job_at s tr t i k).arrival ≤ suc t) = (known.0, omega (arith, known.1)) in
            subst (λ a. Arrives (course_of s tr i) k a × (a ≤ suc t)) (sym (arrival-old t i k before)) grown
        | inr new ↦
            let here : Arrives (course_of s tr i) k (t + 1) × (t + 1 ≤ suc t) = ((omega (arith, arrived-one s tr t i), omega (arith, arrived_two t i)), omega arith) in
            subst (λ a. Arrives (course_of s tr i) k a × (a ≤ suc t)) (sym (arrival-new t i k new has)) here
      ]
    where
      arrived_two : (t i : ℕ) → arrived_before s tr i (t + 1 + 1) ≡ length ((run s tr (suc t)).jobs i)
      arrived_two t i = let e : t + 1 ≡ suc t = omega arith in rw e (arrived-one s tr (suc t) i)
