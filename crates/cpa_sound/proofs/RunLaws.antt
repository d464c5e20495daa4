-- What a run keeps: each task's jobs are served in order.
use Rattle.std.proofs.Common.{ap, ◌≡◌, ℕ, zero, suc, ◌+◌, ◌<◌, ◌≤◌, ◌++◌, length, List, [], true, false, cond, refl, ◌∙◌, inl, inr, ◌⊎◌, arith, add-one, length-append, get_or, ltb, min, ◌-◌}
use Rattle.std.proofs.lemmas.Bool.{cases_Bool, cond-true, cond-false}
use Rattle.cpa_model.specs.SystemLists.{SystemLists}
use Rattle.cpa_sound.proofs.Serving.{work, IsInOrder}
use Rattle.cpa_trace.specs.Trace.{TraceLists, need}
use Rattle.cpa_sim.proofs.JobCount.{length-serve, length-served}
use Rattle.cpa_sim.proofs.RunLaws.{jobs-zero, jobs-suc}
use Rattle.cpa_sim.specs.declared.jobs.Cause.{Cause}
use Rattle.cpa_sim.specs.Run.{no_job, Progress, is_open, waits, ended_count, serve, new_jobs, arriving, runs_in, served, ended_in, run}
use Rattle.cpa_sound.specs.RunCourse.{received_before, arrived_before, course_of}
use Rattle.cpa_sound.proofs.CourseLaws.{work-zero, work-mono}
use Rattle.cpa_sound.proofs.JobLaws.{Fits, fits-new, fits-append, fits-serve, ended_paid, next_unpaid, waits-less, fits-open, fits-left}

-- ---- the equations of the definitions

module _ (s : SystemLists) (tr : TraceLists) where
  pub received-suc : (t i : ℕ) → received_before s tr i (suc t) ≡ received_before s tr i t + cond (runs_in s tr t (run s tr t) i) 1 0
  unfolding received_before
  received-suc t i = refl

  pub received-runs : (t i : ℕ) → runs_in s tr t (run s tr t) i ≡ true → received_before s tr i (t + 1) ≡ received_before s tr i t + 1
  received-runs t i e = let next : t + 1 ≡ suc t = add-one t in ap (received_before s tr i) next ∙ (received-suc t i ∙ rw e refl)

  pub received-idle : (t i : ℕ) → runs_in s tr t (run s tr t) i ≡ false → received_before s tr i (t + 1) ≡ received_before s tr i t
  received-idle t i e = rw add-one (received-suc t i ∙ rw e (omega arith))

  pub served-runs : (t i : ℕ) → runs_in s tr t (run s tr t) i ≡ true → served s tr t (run s tr t) i ≡ serve (t + 1) ((run s tr t).jobs i)
  unfolding served
  served-runs t i e = cond-true (runs_in s tr t (run s tr t) i) _ _ e

  pub served-idle : (t i : ℕ) → runs_in s tr t (run s tr t) i ≡ false → served s tr t (run s tr t) i ≡ (run s tr t).jobs i
  unfolding served
  served-idle t i e = cond-false (runs_in s tr t (run s tr t) i) _ _ e

  pub arrived-zero : (i : ℕ) → arrived_before s tr i 0 ≡ 0
  unfolding arrived_before
  arrived-zero i = refl

  pub arrived-suc : (t i : ℕ) → arrived_before s tr i (suc t) ≡ length ((run s tr t).jobs i)
  unfolding arrived_before
  arrived-suc t i = refl

  pub arrived-one : (t i : ℕ) → arrived_before s tr i (t + 1) ≡ length ((run s tr t).jobs i)
  arrived-one t i = rw add-one (arrived-suc t i)

  -- ---- a task's jobs are served in order

  module _ (i : ℕ) (best worst : ℕ) (best_some : 0 < best) (least : (k : ℕ) → best ≤ need s tr i k) (greatest : (k : ℕ) → need s tr i k ≤ worst) (waits_to_run : (t : ℕ) → runs_in s tr t (run s tr t) i ≡ true → waits ((run s tr t).jobs i) ≡ true) where
    some : (k : ℕ) → 0 < need s tr i k
    some k = omega (arith, least k)

    -- what the jobs so far say of what the task has received
    record Served (jobs : List Progress) (received : ℕ) : Type 0 where
      fits : Fits (need s tr i) some 0 jobs received
      for_arrived : received ≤ work (need s tr i) (length jobs)

    appended : (js : List Progress) (received now : ℕ) (new : List Cause) → Served js received → Served (js ++ new_jobs (need s tr i) (length js) now new) received
    appended js received now new h =
        let e : 0 + length js ≡ length js = omega arith in
        let fresh = fits-new (need s tr i) some (length js) now new received h.for_arrived in
        let more = work-mono (need s tr i) (length js) (length (js ++ new_jobs (need s tr i) (length js) now new)) (omega (arith, length-append js (new_jobs (need s tr i) (length js) now new))) in
        record {
          fits = fits-append (need s tr i) some 0 js (new_jobs (need s tr i) (length js) now new) received h.fits (rw e fresh);
          for_arrived = omega (arith, h.for_arrived, more);
        }

    ticked : (js : List Progress) (received now : ℕ) → waits js ≡ true → Served js received → Served (serve now js) (received + 1)
    ticked js received now e h =
        let open_one = waits-less js e in
        let e0 : 0 + ended_count js + 1 ≡ ended_count js + 1 = omega arith in
        let e1 : 0 + length js ≡ length js = omega arith in
        let high : received ≤ work (need s tr i) (0 + length js) = rw e1 h.for_arrived in
        let unpaid = rw e0 at (next_unpaid (need s tr i) some 0 js received high h.fits) in
        let more = work-mono (need s tr i) (ended_count js + 1) (length js) (omega arith) in
        let below : received < work (need s tr i) (0 + length js) = rw e1 (omega (arith, unpaid, more)) in
        record {
          fits = fits-serve (need s tr i) some 0 now js received (omega (arith, work-zero (need s tr i))) below h.fits;
          for_arrived = rw (length-serve now js) (omega (arith, unpaid, more));
        }

    served_at : (t : ℕ) → Served ((run s tr t).jobs i) (received_before s tr i t)
    unfolding received_before
    served_at zero =
        rw (jobs-zero s tr i)
        (record { fits = fits-new (need s tr i) some 0 0 (arriving s tr 0 (λ j. []) i) 0 (omega arith); for_arrived = omega arith })
    served_at (suc t) =
        let before = served_at t in
        elim (cases_Bool (runs_in s tr t (run s tr t) i)) [
          | inl e ↦
              let now = ticked ((run s tr t).jobs i) (received_before s tr i t) (t + 1) (waits_to_run t e) before in
              let now' = rw (← (served-runs t i e)) at now in
              rw (jobs-suc s tr t i, received-suc t i, e) (appended (served s tr t (run s tr t) i) (received_before s tr i t + 1) (t + 1) (arriving s tr (t + 1) (ended_in s tr t (run s tr t)) i) now')
          | inr e ↦
              let now' = rw (← (served-idle t i e)) at before in
              let same : received_before s tr i t + 0 ≡ received_before s tr i t = omega arith in
              rw (jobs-suc s tr t i, received-suc t i, e, same) (appended (served s tr t (run s tr t) i) (received_before s tr i t) (t + 1) (arriving s tr (t + 1) (ended_in s tr t (run s tr t)) i) now')
        ]

    more_jobs : (t : ℕ) → length ((run s tr t).jobs i) ≤ length ((run s tr (t + 1)).jobs i)
    more_jobs t =
        rw add-one
        (rw (jobs-suc s tr t i)
        (omega (arith, length-served s tr t i, length-append (served s tr t (run s tr t) i) (new_jobs (need s tr i) (length (served s tr t (run s tr t) i)) (t + 1) (arriving s tr (t + 1) (ended_in s tr t (run s tr t)) i)))))

    more_arrive : (t : ℕ) → arrived_before s tr i t ≤ arrived_before s tr i (t + 1)
    more_arrive zero = omega (arith, arrived-zero i)
    more_arrive (suc t) = let e : t + 1 ≡ suc t = omega arith in omega (arith, arrived-suc t i, arrived-one (suc t) i, rw e at (more_jobs t))

    received-cases : (t : ℕ) → (received_before s tr i (t + 1) ≡ received_before s tr i t + 1) ⊎ (received_before s tr i (t + 1) ≡ received_before s tr i t)
    received-cases t =
        elim (cases_Bool (runs_in s tr t (run s tr t) i)) [ inl e ↦ inl (received-runs t i e) | inr e ↦ inr (received-idle t i e) ]

    -- what has been received before a time is for jobs that arrived before it
    for_arrived : (t : ℕ) → received_before s tr i t ≤ work (need s tr i) (arrived_before s tr i t)
    unfolding received_before
    for_arrived zero = omega arith
    for_arrived (suc t) =
        let before = served_at t in
        elim (cases_Bool (runs_in s tr t (run s tr t) i)) [
          | inl e ↦
              let now = ticked ((run s tr t).jobs i) (received_before s tr i t) (t + 1) (waits_to_run t e) before in
              let paid = now.for_arrived in
              let paid' = rw (length-serve (t + 1) ((run s tr t).jobs i)) at paid in
              rw (arrived-suc t i, received-suc t i, e) paid'
          | inr e ↦
              let same : received_before s tr i t + 0 ≡ received_before s tr i t = omega arith in
              rw (arrived-suc t i, received-suc t i, e, same) before.for_arrived
        ]

    pub course-in_order : IsInOrder (course_of s tr i) best worst
    unfolding received_before
    course-in_order =
        record {
          least = least;
          greatest = greatest;
          something = best_some;
          none_arrived = arrived-zero i;
          none_received = refl;
          more_arrive = more_arrive;
          more_received = λ t. elim (received-cases t) [ inl e ↦ omega (arith, e) | inr e ↦ omega (arith, e) ];
          one_tick = λ t. elim (received-cases t) [ inl e ↦ omega (arith, e) | inr e ↦ omega (arith, e) ];
          for_arrived = for_arrived;
          ended_paid = λ t.
              let e : 0 + ended_count ((run s tr t).jobs i) ≡ ended_count ((run s tr t).jobs i) = omega arith in
              rw e at (ended_paid (need s tr i) some 0 ((run s tr t).jobs i) (received_before s tr i t) (omega (arith, work-zero (need s tr i))) (served_at t).fits);
          next_unpaid = λ t.
              let e : 0 + ended_count ((run s tr t).jobs i) + 1 ≡ ended_count ((run s tr t).jobs i) + 1 = omega arith in
              let e1 : 0 + length ((run s tr t).jobs i) ≡ length ((run s tr t).jobs i) = omega arith in
              rw e at (next_unpaid (need s tr i) some 0 ((run s tr t).jobs i) (received_before s tr i t) (rw e1 (served_at t).for_arrived) (served_at t).fits);
        }

    -- a job is complete where the task has received all that the jobs up to it need
    pub open-is : (t k : ℕ) → k < length ((run s tr t).jobs i) → is_open (get_or ((run s tr t).jobs i) k no_job) ≡ ltb (received_before s tr i t) (work (need s tr i) (k + 1))
    open-is t k h =
        let e : 0 + k + 1 ≡ k + 1 = omega arith in
        rw e at (fits-open (need s tr i) some 0 ((run s tr t).jobs i) (received_before s tr i t) k (served_at t).fits h)

    -- and a job still needs what lacks of all that it needs
    pub left-is : (t k : ℕ) → k < length ((run s tr t).jobs i) → (get_or ((run s tr t).jobs i) k no_job).left ≡ min (need s tr i k) (work (need s tr i) (k + 1) - received_before s tr i t)
    left-is t k h =
        let e : 0 + k ≡ k = omega arith in
        rw e at (fits-left (need s tr i) some 0 ((run s tr t).jobs i) (received_before s tr i t) k (served_at t).fits h)
