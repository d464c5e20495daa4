-- From the jobs at the end of a run to those that were pending at a time before.
use Rattle.std.proofs.Common.{◌≡◌, ℕ, zero, suc, ◌+◌, ◌-◌, ◌<◌, ◌≤◌, ◌++◌, length, List, [], ◌∷◌, map, get_or, true, cond, Option, Some, None, refl, ◌∙◌, ap, inl, inr, arith}
use Rattle.std.specs.Prelude.{count_by}
use Rattle.std.specs.List.{AllByRecursion}
use Rattle.std.specs.Option.{option_to_list}
use Rattle.std.proofs.lemmas.Bool.{cases_lt, cases_Bool}
use Rattle.std.proofs.lemmas.List.Sums.{sum_by-cons}
use Rattle.std.proofs.lemmas.List.Concat.{flat_map-cons}
use Rattle.std.proofs.lemmas.List.FromFn.{get_or-map-range_with_len, length-map-range_with_len}
use Rattle.cpa_model.specs.SystemLists.{SystemLists}
use Rattle.cpa_trace.specs.Trace.{TraceLists, need}
use Rattle.cpa_sim.specs.declared.jobs.Job.{Job}
use Rattle.cpa_sim.specs.declared.jobs.Cause.{Cause}
use Rattle.cpa_sim.specs.Run.{Progress, is_unset, is_open, after_tick, serve, new_jobs, arriving, runs_in, served, ended_in, run}
use Rattle.cpa_sim.specs.Outcome.{job_of, jobs_seen, end_of, outcome_of}
use Rattle.cpa_sim.proofs.QueueLaws.{serve-here, serve-there}
use Rattle.cpa_sound.proofs.JobLaws.{tick-last, tick-more}
use Rattle.cpa_sim.proofs.RunLaws.{jobs-zero, jobs-suc}
use Rattle.cpa_sound.proofs.RunLaws.{served-runs, served-idle}
use Rattle.cpa_buffer.specs.Buffers.{pending_at}
use Rattle.cpa_buffer.specs.Peaks.{arrivals_of, ends_of, come_by}
use Rattle.cpa_buffer.proofs.SweepLaws.{come-here, come-later, come-append}

-- how many of some jobs have arrived, and how many have ended
abbrev came : ℕ → List Progress → ℕ
came t jobs = come_by t (arrivals_of (map job_of jobs))

abbrev gone : ℕ → List Progress → ℕ
gone t jobs = come_by t (ends_of (map job_of jobs))

gone-cons : (t : ℕ) (job : Progress) (jobs : List Progress) → gone t (job ∷ jobs) ≡ come_by t (option_to_list job.end) + gone t jobs
gone-cons t job jobs =
    ap (come_by t) (flat_map-cons (λ (j : Job). option_to_list j.end) (job_of job) (map job_of jobs)) ∙ come-append t (option_to_list job.end) (ends_of (map job_of jobs))

came-here : (t : ℕ) (job : Progress) (jobs : List Progress) → job.arrival ≤ t → came t (job ∷ jobs) ≡ 1 + came t jobs
came-here t job jobs h = come-here t job.arrival (arrivals_of (map job_of jobs)) h

came-later : (t : ℕ) (job : Progress) (jobs : List Progress) → t < job.arrival → came t (job ∷ jobs) ≡ 0 + came t jobs
came-later t job jobs h = come-later t job.arrival (arrivals_of (map job_of jobs)) h

-- ---- a tick, as those see it who look at an earlier time

tick-arrival : (now : ℕ) (job : Progress) → (after_tick now job).arrival ≡ job.arrival
tick-arrival now job =
    elim (cases_lt 1 job.left) [ inl more ↦ rw (tick-more now job more) refl | inr last ↦ rw (tick-last now job last) refl ]

serve-arrivals : (now : ℕ) (jobs : List Progress) → arrivals_of (map job_of (serve now jobs)) ≡ arrivals_of (map job_of jobs)
serve-arrivals now [] = refl
serve-arrivals now (job ∷ jobs) =
    elim (cases_Bool (is_open job)) [
      | inl e ↦ rw (serve-here now job jobs e) (ap (λ a. a ∷ arrivals_of (map job_of jobs)) (tick-arrival now job))
      | inr e ↦ rw (serve-there now job jobs e) (ap (λ times. job.arrival ∷ times) (serve-arrivals now jobs))
    ]

tick-gone : (t now : ℕ) (job : Progress) → t < now → come_by t (option_to_list (after_tick now job).end) ≡ 0
tick-gone t now job late =
    elim (cases_lt 1 job.left) [ inl more ↦ rw (tick-more now job more) refl | inr last ↦ rw (tick-last now job last) (come-later t now [] late) ]

serve-gone : (t now : ℕ) (jobs : List Progress) → t < now → gone t (serve now jobs) ≡ gone t jobs
serve-gone t now [] late = refl
serve-gone t now (job ∷ jobs) late =
    elim (cases_Bool (is_open job)) [
      | inl e ↦
          let before = open-unset t job.end e in
          rw (serve-here now job jobs e) (omega (arith, gone-cons t (after_tick now job) jobs, tick-gone t now job late, gone-cons t job jobs, before))
      | inr e ↦ rw (serve-there now job jobs e) (omega (arith, gone-cons t job (serve now jobs), gone-cons t job jobs, serve-gone t now jobs late))
    ]
  where
    open-unset : (t : ℕ) (o : Option ℕ) → is_unset o ≡ true → come_by t (option_to_list o) ≡ 0
    open-unset t None e = refl
    open-unset t (Some x) e = cc

new-came : (t now : ℕ) (needs : ℕ → ℕ) (first : ℕ) (new : List Cause) → t < now → came t (new_jobs needs first now new) ≡ 0
new-came t now needs first [] late = refl
new-came t now needs first (cause ∷ new) late =
    omega (arith, came-later t (record { arrival = now; left = needs first; end = None; cause = cause }) (new_jobs needs (first + 1) now new) late, new-came t now needs (first + 1) new late)

new-gone : (t now : ℕ) (needs : ℕ → ℕ) (first : ℕ) (new : List Cause) → gone t (new_jobs needs first now new) ≡ 0
new-gone t now needs first [] = refl
new-gone t now needs first (cause ∷ new) =
    omega (arith, gone-cons t (record { arrival = now; left = needs first; end = None; cause = cause }) (new_jobs needs (first + 1) now new), new-gone t now needs (first + 1) new)

came-append : (t : ℕ) (js ks : List Progress) → came t (js ++ ks) ≡ came t js + came t ks
came-append t [] ks = let none : came t [] ≡ 0 = refl in omega (arith, none)
came-append t (j ∷ js) ks =
    elim (cases_lt t j.arrival) [
      | inl later ↦ omega (arith, came-later t j (js ++ ks) later, came-later t j js later, came-append t js ks)
      | inr here ↦ omega (arith, came-here t j (js ++ ks) here, came-here t j js here, came-append t js ks)
    ]

gone-append : (t : ℕ) (js ks : List Progress) → gone t (js ++ ks) ≡ gone t js + gone t ks
gone-append t [] ks = let none : gone t [] ≡ 0 = refl in omega (arith, none)
gone-append t (j ∷ js) ks = omega (arith, gone-cons t j (js ++ ks), gone-cons t j js, gone-append t js ks)

-- ---- the jobs at a time have all arrived by then, and so many have ended

-- a job is as it is seen at a time: it has arrived, and its end is no later
abbrev EndsBy : ℕ → Option ℕ → Type 0
EndsBy t None = Unit {0}
EndsBy t (Some e) = e ≤ t

record IsSeen (t : ℕ) (job : Progress) : Type 0 where
  arrived : job.arrival ≤ t
  ended : EndsBy t job.end

ends-later : (t u : ℕ) (o : Option ℕ) → t ≤ u → EndsBy t o → EndsBy u o
ends-later t u None le h = tt
ends-later t u (Some e) le h = omega (arith, h)

seen-later : (t u : ℕ) (jobs : List Progress) → t ≤ u → AllByRecursion (IsSeen t) jobs → AllByRecursion (IsSeen u) jobs
seen-later t u [] le all = tt
seen-later t u (job ∷ jobs) le all = (record { arrived = omega (arith, all.0.arrived); ended = ends-later t u job.end le all.0.ended }, seen-later t u jobs le all.1)

seen-served : (now : ℕ) (jobs : List Progress) → AllByRecursion (IsSeen now) jobs → AllByRecursion (IsSeen now) (serve now jobs)
seen-served now [] all = tt
seen-served now (job ∷ jobs) all =
    elim (cases_Bool (is_open job)) [
      | inl e ↦
          rw (serve-here now job jobs e)
          (elim (cases_lt 1 job.left) [
            | inl more ↦ (rw (tick-more now job more) (record { arrived = all.0.arrived; ended = tt }), all.1)
            | inr last ↦ (rw (tick-last now job last) (record { arrived = all.0.arrived; ended = omega arith }), all.1)
          ])
      | inr e ↦ rw (serve-there now job jobs e) (all.0, seen-served now jobs all.1)
    ]

seen-append : (t : ℕ) (js ks : List Progress) → AllByRecursion (IsSeen t) js → AllByRecursion (IsSeen t) ks → AllByRecursion (IsSeen t) (js ++ ks)
seen-append t [] ks a b = b
seen-append t (j ∷ js) ks a b = (a.0, seen-append t js ks a.1 b)

seen-new : (needs : ℕ → ℕ) (first now : ℕ) (new : List Cause) → AllByRecursion (IsSeen now) (new_jobs needs first now new)
seen-new needs first now [] = tt
seen-new needs first now (cause ∷ new) = (record { arrived = omega arith; ended = tt }, seen-new needs (first + 1) now new)

came-all : (t : ℕ) (jobs : List Progress) → AllByRecursion (IsSeen t) jobs → came t jobs ≡ length jobs
came-all t [] all = refl
came-all t (job ∷ jobs) all = omega (arith, came-here t job jobs all.0.arrived, came-all t jobs all.1)

-- the rest are pending
pending-rest : (t : ℕ) (jobs : List Progress) → AllByRecursion (IsSeen t) jobs → count_by is_open jobs + gone t jobs ≡ length jobs
pending-rest t [] all = refl
pending-rest t (job ∷ jobs) all =
    let more = sum_by-cons (λ j. cond (is_open j) 1 0) job jobs in
    go job.end job.arrival job.left job.cause all.0.ended (pending-rest t jobs all.1)
  where
    go : (o : Option ℕ) (a l : ℕ) (c : Cause) → EndsBy t o → count_by is_open jobs + gone t jobs ≡ length jobs
        → count_by is_open (record { arrival = a; left = l; end = o; cause = c } ∷ jobs) + gone t (record { arrival = a; left = l; end = o; cause = c } ∷ jobs) ≡ suc (length jobs)
    go None a l c h rest =
        let j : Progress = record { arrival = a; left = l; end = None; cause = c } in
        let one : count_by is_open (j ∷ jobs) ≡ 1 + count_by is_open jobs = sum_by-cons (λ j. cond (is_open j) 1 0) j jobs in
        let none : gone t (j ∷ jobs) ≡ 0 + gone t jobs = gone-cons t j jobs in
        omega (arith, one, none, rest)
    go (Some e) a l c h rest =
        let j : Progress = record { arrival = a; left = l; end = Some e; cause = c } in
        let none : count_by is_open (j ∷ jobs) ≡ 0 + count_by is_open jobs = sum_by-cons (λ j. cond (is_open j) 1 0) j jobs in
        let one : come_by t (e ∷ []) ≡ 1 + come_by t [] = come-here t e [] h in
        let ended : gone t (j ∷ jobs) ≡ come_by t (e ∷ []) + gone t jobs = gone-cons t j jobs in
        let empty : come_by t [] ≡ 0 = refl in
        omega (arith, one, none, ended, empty, rest)

module _ (s : SystemLists) (tr : TraceLists) (i : ℕ) where
  jobs_at : ℕ → List Progress
  jobs_at t = (run s tr t).jobs i

  -- what the jobs of a time become in a tick
  served-cases : (t : ℕ) (P : List Progress → Type 0) → P (serve (t + 1) ((run s tr t).jobs i)) → P ((run s tr t).jobs i) → P (served s tr t (run s tr t) i)
  served-cases t P ran rested =
      elim (cases_Bool (runs_in s tr t (run s tr t) i)) [
        | inl e ↦ rw (served-runs s tr t i e) ran
        | inr e ↦ rw (served-idle s tr t i e) rested
      ]

  seen-at : (t : ℕ) → AllByRecursion (IsSeen t) ((run s tr t).jobs i)
  seen-at zero = rw (jobs-zero s tr i) (seen-new (need s tr i) 0 0 (arriving s tr 0 (λ j. []) i))
  seen-at (suc t) =
      let js = served s tr t (run s tr t) i in
      let e : t + 1 ≡ suc t = omega arith in
      let before = seen-later t (suc t) ((run s tr t).jobs i) (omega arith) (seen-at t) in
      let ran : AllByRecursion (IsSeen (suc t)) (serve (t + 1) ((run s tr t).jobs i)) = rw e (seen-served (suc t) ((run s tr t).jobs i) before) in
      let old : AllByRecursion (IsSeen (suc t)) js = served-cases t (AllByRecursion (IsSeen (suc t))) ran before in
      let new : AllByRecursion (IsSeen (suc t)) (new_jobs (need s tr i) (length js) (t + 1) (arriving s tr (t + 1) (ended_in s tr t (run s tr t)) i)) =
      rw e (seen-new (need s tr i) (length js) (suc t) (arriving s tr (suc t) (ended_in s tr t (run s tr t)) i)) in
      rw (jobs-suc s tr t i) (seen-append (suc t) js _ old new)

  -- later ticks change nothing of what is seen of a time
  came-same : (t n : ℕ) → came t ((run s tr (t + n)).jobs i) ≡ came t ((run s tr t).jobs i)
  came-same t zero = let e : t + 0 ≡ t = omega arith in rw e refl
  came-same t (suc n) =
      let u : ℕ = t + n in
      let e : t + suc n ≡ suc (t + n) = omega arith in
      let js = served s tr (t + n) (run s tr (t + n)) i in
      let new : List Cause = arriving s tr (t + n + 1) (ended_in s tr (t + n) (run s tr (t + n))) i in
      let old : came t js ≡ came t ((run s tr (t + n)).jobs i) =
      served-cases (t + n) (λ ks. came t ks ≡ came t ((run s tr (t + n)).jobs i)) (ap (come_by t) (serve-arrivals (t + n + 1) ((run s tr (t + n)).jobs i))) refl in
      rw e
      (ap (came t) (jobs-suc s tr (t + n) i)
      ∙ omega (arith, came-append t js (new_jobs (need s tr i) (length js) (t + n + 1) new), new-came t (t + n + 1) (need s tr i) (length js) new (omega arith), old, came-same t n))

  gone-same : (t n : ℕ) → gone t ((run s tr (t + n)).jobs i) ≡ gone t ((run s tr t).jobs i)
  gone-same t zero = let e : t + 0 ≡ t = omega arith in rw e refl
  gone-same t (suc n) =
      let e : t + suc n ≡ suc (t + n) = omega arith in
      let js = served s tr (t + n) (run s tr (t + n)) i in
      let new : List Cause = arriving s tr (t + n + 1) (ended_in s tr (t + n) (run s tr (t + n))) i in
      let old : gone t js ≡ gone t ((run s tr (t + n)).jobs i) =
      served-cases (t + n) (λ ks. gone t ks ≡ gone t ((run s tr (t + n)).jobs i)) (serve-gone t (t + n + 1) ((run s tr (t + n)).jobs i) (omega arith)) refl in
      rw e
      (ap (gone t) (jobs-suc s tr (t + n) i)
      ∙ omega (arith, gone-append t js (new_jobs (need s tr i) (length js) (t + n + 1) new), new-gone t (t + n + 1) (need s tr i) (length js) new, old, gone-same t n))

  -- so of those that arrived the others had ended
  pub pending-and-gone : (t u : ℕ) → t ≤ u → come_by t (arrivals_of (map job_of ((run s tr u).jobs i))) ≡ pending_at s tr t i + come_by t (ends_of (map job_of ((run s tr u).jobs i)))
  unfolding pending_at
  pending-and-gone t u le =
      let e : t + (u - t) ≡ u = omega arith in
      let a : came t ((run s tr u).jobs i) ≡ came t ((run s tr t).jobs i) = let h = came-same t (u - t) in rw e at h in
      let b : gone t ((run s tr u).jobs i) ≡ gone t ((run s tr t).jobs i) = let h = gone-same t (u - t) in rw e at h in
      omega (arith, a, b, came-all t ((run s tr t).jobs i) (seen-at t), pending-rest t ((run s tr t).jobs i) (seen-at t))

  arrived-get : (t : ℕ) (jobs : List Progress) → AllByRecursion (IsSeen t) jobs → (m : ℕ) → m < length (arrivals_of (map job_of jobs)) → get_or (arrivals_of (map job_of jobs)) m 0 ≤ t
  arrived-get t [] all m less = absurd (omega arith)
  arrived-get t (job ∷ jobs) all zero less = all.0.arrived
  arrived-get t (job ∷ jobs) all (suc m) less = arrived-get t jobs all.1 m (omega arith)

  pub arrived-by : (t m : ℕ) → m < length (arrivals_of (map job_of ((run s tr t).jobs i))) → get_or (arrivals_of (map job_of ((run s tr t).jobs i))) m 0 ≤ t
  arrived-by t m less = arrived-get t ((run s tr t).jobs i) (seen-at t) m less

-- ---- as the outcome shows it

pub outcome-jobs : (s : SystemLists) (tr : TraceLists) (i : ℕ) → i < length s.tasks → jobs_seen (outcome_of s tr) i ≡ map job_of ((run s tr (end_of s tr)).jobs i)
unfolding outcome_of
outcome-jobs s tr i h = get_or-map-range_with_len (λ i. map job_of ((run s tr (end_of s tr)).jobs i)) 0 (length s.tasks) i i [] h (omega arith)

pub outcome-long : (s : SystemLists) (tr : TraceLists) → length (outcome_of s tr).jobs ≡ length s.tasks
unfolding outcome_of
outcome-long s tr = length-map-range_with_len (λ i. map job_of ((run s tr (end_of s tr)).jobs i)) 0 (length s.tasks)
