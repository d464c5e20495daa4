-- A task's list of jobs: what it has received decides which are complete and what each still needs.
use Rattle.std.proofs.Common.{◌≡◌, ℕ, zero, suc, ◌+◌, ◌-◌, ◌<◌, ◌≤◌, ◌++◌, length, List, [], ◌∷◌, true, ltb, min, Some, None, refl, sym, ◌∙◌, inl, inr, arith, get_or}
use Rattle.std.proofs.lemmas.Bool.{cases_lt, cases_Bool, lt-ltb, le-ltb, le-leb, lt-leb, cond-true, cond-false, false≢true}
use Rattle.cpa_sound.proofs.Serving.{work}
use Rattle.cpa_sim.proofs.QueueLaws.{serve-here, serve-there, ended-closed, ended-open}
use Rattle.cpa_sim.proofs.QueueLaws.{ended-le}
use Rattle.cpa_sim.specs.declared.jobs.Cause.{Cause}
use Rattle.cpa_sim.specs.Run.{no_job, Progress, is_open, waits, ended_count, after_tick, serve, new_jobs}
use Rattle.cpa_sound.proofs.CourseLaws.{work-one, work-mono}

pub tick-last : (now : ℕ) (job : Progress) → job.left ≤ 1 → after_tick now job ≡ record { arrival = job.arrival; left = 0; end = Some now; cause = job.cause }
tick-last now job h = cond-true _ _ _ (le-leb job.left 1 h)

pub tick-more : (now : ℕ) (job : Progress) → 1 < job.left → after_tick now job ≡ record { arrival = job.arrival; left = job.left - 1; end = None; cause = job.cause }
tick-more now job h = cond-false _ _ _ (lt-leb job.left 1 h)

pub waits-less : (js : List Progress) → waits js ≡ true → ended_count js < length js
waits-less [] e = absurd (false≢true e)
waits-less (job ∷ js) e =
    elim (cases_Bool (is_open job)) [
      | inl here ↦ omega (arith, ended-open job js here, ended-le js)
      | inr closed ↦ omega (arith, ended-closed job js closed, waits-less js (rw closed at e))
    ]

pub less-waits : (js : List Progress) → ended_count js < length js → waits js ≡ true
less-waits [] h = absurd (omega arith)
less-waits (job ∷ js) h =
    elim (cases_Bool (is_open job)) [
      | inl here ↦ rw here refl
      | inr closed ↦ rw closed (less-waits js (omega (arith, ended-closed job js closed)))
    ]

module _ (needs : ℕ → ℕ) (some : (k : ℕ) → 0 < needs k) where
  -- the jobs from number k on, where the task has received so much in all
  pub record Fits1 (k : ℕ) (job : Progress) (received : ℕ) : Type 0 where
    pub still : job.left ≡ min (needs k) (work needs (k + 1) - received)
    pub goes_on : is_open job ≡ ltb received (work needs (k + 1))

  abbrev pub Fits : ℕ → List Progress → ℕ → Type 0
  Fits k [] received = Unit {0}
  Fits k (job ∷ jobs) received = Fits1 k job received × Fits (k + 1) jobs received

  -- jobs that have just come
  pub fits-new : (k now : ℕ) (new : List Cause) (received : ℕ) → received ≤ work needs k → Fits k (new_jobs needs k now new) received
  fits-new k now [] received h = tt
  fits-new k now (cause ∷ new) received h = (
    record {
      still = omega (arith, work-one needs k);
      goes_on = sym (lt-ltb received (work needs (k + 1)) (omega (arith, work-one needs k, some k)));
    },
    fits-new (k + 1) now new received (omega (arith, work-one needs k)),
  )

  pub fits-append : (k : ℕ) (js ks : List Progress) (received : ℕ) → Fits k js received → Fits (k + length js) ks received → Fits k (js ++ ks) received
  fits-append k [] ks received f g = let e : k + 0 ≡ k = omega arith in rw e at g
  fits-append k (job ∷ js) ks received f g =
      let e : k + suc (length js) ≡ (k + 1) + length js = omega arith in
      (f.0, fits-append (k + 1) js ks received f.1 (rw e at g))

  -- later jobs don't see what an earlier one receives
  fits-later : (k : ℕ) (js : List Progress) (received more : ℕ) → received ≤ more → more ≤ work needs k → Fits k js received → Fits k js more
  fits-later k [] received more h l f = tt
  fits-later k (job ∷ js) received more h l f = (
    record {
      still = omega (arith, f.0.still, work-one needs k);
      goes_on = f.0.goes_on ∙ (lt-ltb received (work needs (k + 1)) (omega (arith, work-one needs k, some k)) ∙ sym (lt-ltb more (work needs (k + 1)) (omega (arith, work-one needs k, some k))));
    },
    fits-later (k + 1) js received more h (omega (arith, work-one needs k)) f.1,
  )

  fits-tick : (k now : ℕ) (job : Progress) (received : ℕ) → work needs k ≤ received → received < work needs (k + 1) → Fits1 k job received → Fits1 k (after_tick now job) (received + 1)
  fits-tick k now job received low high f =
      elim (cases_lt 1 job.left) [
        | inl more ↦
            rw (tick-more now job more)
            (record {
              still = omega (arith, f.still, work-one needs k);
              goes_on = sym (lt-ltb (received + 1) (work needs (k + 1)) (omega (arith, f.still, work-one needs k)));
            })
        | inr last ↦
            rw (tick-last now job last)
            (record {
              still = omega (arith, f.still, work-one needs k);
              goes_on = sym (le-ltb (received + 1) (work needs (k + 1)) (omega (arith, f.still, work-one needs k)));
            })
      ]

  -- a tick to the earliest job that isn't complete
  pub fits-serve : (k now : ℕ) (js : List Progress) (received : ℕ) → work needs k ≤ received → received < work needs (k + length js) → Fits k js received → Fits k (serve now js) (received + 1)
  fits-serve k now [] received low high f = tt
  fits-serve k now (job ∷ js) received low high f =
      elim (cases_lt received (work needs (k + 1))) [
        | inl here ↦
            rw (serve-here now job js (f.0.goes_on ∙ lt-ltb received (work needs (k + 1)) here))
            (fits-tick k now job received low here f.0, fits-later (k + 1) js received (received + 1) (omega arith) (omega arith) f.1)
        | inr there ↦
            rw (serve-there now job js (f.0.goes_on ∙ le-ltb received (work needs (k + 1)) there))
            (let e : k + suc (length js) ≡ (k + 1) + length js = omega arith in
            let high' = rw e at high in (
              record {
                still = omega (arith, f.0.still);
                goes_on = f.0.goes_on ∙ (le-ltb received (work needs (k + 1)) there ∙ sym (le-ltb (received + 1) (work needs (k + 1)) (omega arith)));
              },
              fits-serve (k + 1) now js received there high' f.1,
            ))
      ]

  -- ---- how many are complete

  none_ended : (k : ℕ) (js : List Progress) (received : ℕ) → received ≤ work needs k → Fits k js received → ended_count js ≡ 0
  none_ended k [] received h f = refl
  none_ended k (job ∷ js) received h f =
      omega (arith, ended-open job js (f.0.goes_on ∙ lt-ltb received (work needs (k + 1)) (omega (arith, work-one needs k, some k))), none_ended (k + 1) js received (omega (arith, work-one needs k)) f.1)

  pub ended_paid : (k : ℕ) (js : List Progress) (received : ℕ) → work needs k ≤ received → Fits k js received → work needs (k + ended_count js) ≤ received
  ended_paid k [] received low f = let e : k + 0 ≡ k = omega arith in rw e low
  ended_paid k (job ∷ js) received low f =
      elim (cases_lt received (work needs (k + 1))) [
        | inl here ↦
            let none = none_ended (k + 1) js received (omega arith) f.1 in
            let count = ended-open job js (f.0.goes_on ∙ lt-ltb received (work needs (k + 1)) here) in
            let e : k + ended_count (job ∷ js) ≡ k = omega arith in
            rw e low
        | inr there ↦
            let count = ended-closed job js (f.0.goes_on ∙ le-ltb received (work needs (k + 1)) there) in
            let e : k + ended_count (job ∷ js) ≡ (k + 1) + ended_count js = omega arith in
            rw e (ended_paid (k + 1) js received there f.1)
      ]

  pub next_unpaid : (k : ℕ) (js : List Progress) (received : ℕ) → received ≤ work needs (k + length js) → Fits k js received → received < work needs (k + ended_count js + 1)
  next_unpaid k [] received high f =
      let e : k + 0 ≡ k = omega arith in
      let high' = rw e at high in
      rw e (omega (arith, high', work-one needs k, some k))
  next_unpaid k (job ∷ js) received high f =
      elim (cases_lt received (work needs (k + 1))) [
        | inl here ↦ omega (arith, here, work-mono needs (k + 1) (k + ended_count (job ∷ js) + 1) (omega arith))
        | inr there ↦
            let count = ended-closed job js (f.0.goes_on ∙ le-ltb received (work needs (k + 1)) there) in
            let e : k + suc (length js) ≡ (k + 1) + length js = omega arith in
            let high' = rw e at high in
            let e' : k + ended_count (job ∷ js) + 1 ≡ (k + 1) + ended_count js + 1 = omega arith in
            rw e' (next_unpaid (k + 1) js received high' f.1)
      ]

  -- ---- who waits
  -- which job is complete
  pub fits-open : (k : ℕ) (js : List Progress) (received m : ℕ) → Fits k js received → m < length js → is_open (get_or js m no_job) ≡ ltb received (work needs (k + m + 1))
  fits-open k [] received m f h = absurd (omega arith)
  fits-open k (job ∷ js) received zero f h = let e : k + 0 + 1 ≡ k + 1 = omega arith in rw e f.0.goes_on
  fits-open k (job ∷ js) received (suc m) f h = let e : k + suc m + 1 ≡ (k + 1) + m + 1 = omega arith in rw e (fits-open (k + 1) js received m f.1 (omega arith))

  -- what a job still needs
  pub fits-left : (k : ℕ) (js : List Progress) (received m : ℕ) → Fits k js received → m < length js → (get_or js m no_job).left ≡ min (needs (k + m)) (work needs (k + m + 1) - received)
  fits-left k [] received m f h = absurd (omega arith)
  fits-left k (job ∷ js) received zero f h = let e : k + 0 ≡ k = omega arith in rw e f.0.still
  fits-left k (job ∷ js) received (suc m) f h = let e : k + suc m ≡ (k + 1) + m = omega arith in rw e (fits-left (k + 1) js received m f.1 (omega arith))
