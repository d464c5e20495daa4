-- A task's jobs in the order in which they came, and what a queue knows of them.
use Rattle.std.proofs.Common.{◌≡◌, ◌≢◌, ℕ, zero, suc, ◌+◌, ◌-◌, ◌<◌, ◌≤◌, ◌++◌, length, List, [], ◌∷◌, Bool, true, false, cond, not, nat_le, map, Option, Some, None, option_map, ltb, refl, sym, ◌∙◌, ap, subst, inl, inr, arith, get_or, set, length-set, length-append}
use Rattle.std.specs.List.{AllByRecursion}
use Rattle.std.specs.Option.{IfSome}
use Rattle.std.proofs.lemmas.Bool.{cases_lt, cases_Bool, le-leb, lt-leb, lt-ltb, le-ltb, cond-true, cond-false, false≢true}
use Rattle.std.proofs.lemmas.List.{get_or_default, get_or_past, get_or_append_left, get_or-append_right, get_or-set_same, get_or-set_other, get_or-map, length-map, map-append, map-set}
use Rattle.std.proofs.lemmas.Option.{none-some, same_Some}
use Rattle.std.proofs.Math.Seq.{map-set_same}
use Rattle.std.proofs.lemmas.List.Sums.{sum_by-cons, sum_by-append}
use Rattle.cpa_sim.specs.declared.jobs.Job.{Job}
use Rattle.cpa_sim.specs.declared.jobs.Cause.{Cause}
use Rattle.cpa_sim.specs.declared.jobs.Keeping.{Keeping}
use Rattle.cpa_sim.specs.Run.{no_cause, no_job, Progress, is_open, waits, ended_count, after_tick, serve, new_jobs}
use Rattle.cpa_sim.specs.Outcome.{job_of, no_job_seen}
use Rattle.cpa_sim.specs.JobQueues.{QueueCounts, has_pending, left_of, arrivals_of, queue_of, new_seen, with_arrivals, with_end, completed_queue, shorter_queue, worked}
use Rattle.cpa_sim.proofs.JobLists.{IsRunning, AreInOrder, AreFresh, after_ticks, jobs_after}

pub serve-here : (now : ℕ) (job : Progress) (js : List Progress) → is_open job ≡ true → serve now (job ∷ js) ≡ after_tick now job ∷ js
serve-here now job js e = cond-true (is_open job) (after_tick now job ∷ js) (job ∷ serve now js) e

pub serve-there : (now : ℕ) (job : Progress) (js : List Progress) → is_open job ≡ false → serve now (job ∷ js) ≡ job ∷ serve now js
serve-there now job js e = cond-false (is_open job) (after_tick now job ∷ js) (job ∷ serve now js) e

-- ticks that leave something to do, and those that don't
pub after-more : (ticks now : ℕ) (job : Progress) → ticks < job.left → after_ticks ticks now job ≡ record { arrival = job.arrival; left = job.left - ticks; end = None; cause = job.cause }
after-more ticks now job h = cond-false _ _ _ (lt-leb job.left ticks h)

pub after-last : (ticks now : ℕ) (job : Progress) → job.left ≤ ticks → after_ticks ticks now job ≡ record { arrival = job.arrival; left = 0; end = Some now; cause = job.cause }
after-last ticks now job h = cond-true _ _ _ (le-leb job.left ticks h)

-- one tick more
pub tick-more : (ticks x now : ℕ) (job : Progress) → ticks < job.left → after_tick now (after_ticks ticks x job) ≡ after_ticks (ticks + 1) now job
tick-more ticks x now job h =
    elim (cases_lt (ticks + 1) job.left) [
      | inl more ↦
          let rest : 1 < job.left - ticks = omega arith in
          let e : (job.left - ticks) - 1 ≡ job.left - (ticks + 1) = omega arith in
          rw (after-more ticks x job h, after-more (ticks + 1) now job more)
          (after-more 1 now (record { arrival = job.arrival; left = job.left - ticks; end = None; cause = job.cause }) rest
          ∙ ap (λ n. record { arrival = job.arrival; left = n; end = None; cause = job.cause }) e)
      | inr last ↦
          let rest : job.left - ticks ≤ 1 = omega arith in
          rw (after-more ticks x job h, after-last (ticks + 1) now job last)
          (after-last 1 now (record { arrival = job.arrival; left = job.left - ticks; end = None; cause = job.cause }) rest)
    ]

-- no tick leaves a running job as it is
pub after-none : (now : ℕ) (job : Progress) → IsRunning job → after_ticks 0 now job ≡ job
after-none now job r =
    let e : job.left - 0 ≡ job.left = omega arith in
    let h : 0 < job.left = omega (arith, r.some) in
    rw (after-more 0 now job h, e) (ap (λ o. record { arrival = job.arrival; left = job.left; end = o; cause = job.cause }) (sym r.open_now))

running-open : (job : Progress) → IsRunning job → is_open job ≡ true
running-open job r = rw r.open_now refl

-- the earliest job that isn't complete
pub first-runs : (d : ℕ) (js : List Progress) → AreInOrder d js → d < length js → IsRunning (get_or js d no_job)
first-runs zero [] a h = absurd (omega arith)
first-runs zero (job ∷ js) a h = a.0
first-runs (suc d) [] a h = absurd a
first-runs (suc d) (job ∷ js) a h = first-runs d js a.1 (omega arith)

pub jobs-none : (now d : ℕ) (js : List Progress) → AreInOrder d js → jobs_after 0 now d js ≡ js
jobs-none now zero [] a = refl
jobs-none now zero (job ∷ js) a = ap (λ j. j ∷ js) (after-none now job a.0)
jobs-none now (suc d) [] a = absurd a
jobs-none now (suc d) (job ∷ js) a = ap (λ ks. job ∷ ks) (jobs-none now d js a.1)

-- a tick of the machine goes to it
pub serve-jobs : (ticks x now d : ℕ) (js : List Progress) → AreInOrder d js → d < length js → ticks < (get_or js d no_job).left → serve now (jobs_after ticks x d js) ≡ jobs_after (ticks + 1) now d js
serve-jobs ticks x now zero [] a h l = absurd (omega arith)
serve-jobs ticks x now zero (job ∷ js) a h l =
    let opened : is_open (after_ticks ticks x job) ≡ true = rw (after-more ticks x job l) refl in
    serve-here now (after_ticks ticks x job) js opened ∙ ap (λ j. j ∷ js) (tick-more ticks x now job l)
serve-jobs ticks x now (suc d) [] a h l = absurd a
serve-jobs ticks x now (suc d) (job ∷ js) a h l =
    serve-there now job (jobs_after ticks x d js) a.0 ∙ ap (λ ks. job ∷ ks) (serve-jobs ticks x now d js a.1 (omega arith) l)

-- which jobs are complete then
pub ordered-more : (ticks x d : ℕ) (js : List Progress) → AreInOrder d js → d < length js → ticks < (get_or js d no_job).left → AreInOrder d (jobs_after ticks x d js)
ordered-more ticks x zero [] a h l = absurd (omega arith)
ordered-more ticks x zero (job ∷ js) a h l =
    let e = after-more ticks x job l in
    (rw e (record { some = omega arith; open_now = refl }), a.1)
ordered-more ticks x (suc d) [] a h l = absurd a
ordered-more ticks x (suc d) (job ∷ js) a h l = (a.0, ordered-more ticks x d js a.1 (omega arith) l)

pub ordered-last : (ticks x d : ℕ) (js : List Progress) → AreInOrder d js → d < length js → (get_or js d no_job).left ≤ ticks → AreInOrder (suc d) (jobs_after ticks x d js)
ordered-last ticks x zero [] a h l = absurd (omega arith)
ordered-last ticks x zero (job ∷ js) a h l =
    let e = after-last ticks x job l in
    (rw e refl, a.1)
ordered-last ticks x (suc d) [] a h l = absurd a
ordered-last ticks x (suc d) (job ∷ js) a h l = (a.0, ordered-last ticks x d js a.1 (omega arith) l)

running-append : (js ks : List Progress) → AllByRecursion IsRunning js → AllByRecursion IsRunning ks → AllByRecursion IsRunning (js ++ ks)
running-append [] ks a b = b
running-append (j ∷ js) ks a b = (a.0, running-append js ks a.1 b)

running-new : (needs : ℕ → ℕ) (first now : ℕ) (new : List Cause) → ((k : ℕ) → 1 ≤ needs k) → AllByRecursion IsRunning (new_jobs needs first now new)
running-new needs first now [] some = tt
running-new needs first now (cause ∷ new) some = (record { some = some first; open_now = refl }, running-new needs (first + 1) now new some)

pub ordered-append : (d : ℕ) (js ks : List Progress) → AreInOrder d js → AllByRecursion IsRunning ks → AreInOrder d (js ++ ks)
ordered-append zero js ks a b = running-append js ks a b
ordered-append (suc d) [] ks a b = absurd a
ordered-append (suc d) (j ∷ js) ks a b = (a.0, ordered-append d js ks a.1 b)

pub ordered-new : (d : ℕ) (js : List Progress) (needs : ℕ → ℕ) (first now : ℕ) (new : List Cause) → AreInOrder d js → ((k : ℕ) → 1 ≤ needs k) → AreInOrder d (js ++ new_jobs needs first now new)
ordered-new d js needs first now new a some = ordered-append d js (new_jobs needs first now new) a (running-new needs first now new some)

-- what the machine counts
pub ended-closed : (job : Progress) (js : List Progress) → is_open job ≡ false → ended_count (job ∷ js) ≡ 1 + ended_count js
ended-closed job js e = sum_by-cons (λ (job : Progress). cond (not (is_open job)) 1 0) job js ∙ rw e refl

pub ended-open : (job : Progress) (js : List Progress) → is_open job ≡ true → ended_count (job ∷ js) ≡ 0 + ended_count js
ended-open job js e = sum_by-cons (λ (job : Progress). cond (not (is_open job)) 1 0) job js ∙ rw e refl

pub ended-append : (js ks : List Progress) → ended_count (js ++ ks) ≡ ended_count js + ended_count ks
ended-append js ks = sum_by-append (λ (job : Progress). cond (not (is_open job)) 1 0) js ks

pub ended-new : (needs : ℕ → ℕ) (k now : ℕ) (new : List Cause) → ended_count (new_jobs needs k now new) ≡ 0
ended-new needs k now [] = refl
ended-new needs k now (cause ∷ new) =
    omega (arith, ended-open (record { arrival = now; left = needs k; end = None; cause = cause }) (new_jobs needs (k + 1) now new) refl, ended-new needs (k + 1) now new)

pub ended-le : (js : List Progress) → ended_count js ≤ length js
ended-le [] = omega arith
ended-le (job ∷ js) =
    elim (cases_Bool (is_open job)) [
      | inl here ↦ omega (arith, ended-open job js here, ended-le js)
      | inr closed ↦ omega (arith, ended-closed job js closed, ended-le js)
    ]

pub ended-is : (d : ℕ) (js : List Progress) → AreInOrder d js → ended_count js ≡ d
ended-is zero [] a = refl
ended-is zero (job ∷ js) a = omega (arith, ended-open job js (running-open job a.0), ended-is zero js a.1)
ended-is (suc d) [] a = absurd a
ended-is (suc d) (job ∷ js) a = omega (arith, ended-closed job js a.0, ended-is d js a.1)

-- who waits
pub waits-is : (d : ℕ) (js : List Progress) → AreInOrder d js → d < length js → waits js ≡ true
waits-is zero [] a h = absurd (omega arith)
waits-is zero (job ∷ js) a h = rw (running-open job a.0) refl
waits-is (suc d) [] a h = absurd a
waits-is (suc d) (job ∷ js) a h = rw a.0 (waits-is d js a.1 (omega arith))

pub waits-not : (d : ℕ) (js : List Progress) → AreInOrder d js → length js ≤ d → waits js ≡ false
waits-not zero [] a h = refl
waits-not zero (job ∷ js) a h = absurd (omega arith)
waits-not (suc d) [] a h = absurd a
waits-not (suc d) (job ∷ js) a h = rw a.0 (waits-not d js a.1 (omega arith))

pub length-jobs : (ticks x d : ℕ) (js : List Progress) → length (jobs_after ticks x d js) ≡ length js
length-jobs ticks x d js = length-set js d (after_ticks ticks x (get_or js d no_job))

pub length-new : (needs : ℕ → ℕ) (k now : ℕ) (new : List Cause) → length (new_jobs needs k now new) ≡ length new
length-new needs k now [] = refl
length-new needs k now (cause ∷ new) = omega (arith, length-new needs (k + 1) now new)

-- whether a job is pending, by the count of those that are complete
pub waits-lt : (d : ℕ) (js : List Progress) → AreInOrder d js → ltb d (length js) ≡ waits js
waits-lt d js a =
    elim (cases_lt d (length js)) [
      | inl h ↦ lt-ltb d (length js) h ∙ sym (waits-is d js a h)
      | inr h ↦ le-ltb d (length js) h ∙ sym (waits-not d js a h)
    ]

pub waits-less : (d : ℕ) (js : List Progress) → AreInOrder d js → waits js ≡ true → d < length js
waits-less d js a w =
    elim (cases_lt d (length js)) [
      | inl h ↦ h
      | inr h ↦ absurd (false≢true (sym (waits-not d js a h) ∙ w))
    ]

-- ---- what is known of a task's jobs

pub queue-same : (m a b c a' b' c' : ℕ) (k k' : Option (List Job)) (l l' : Option (List ℕ)) → a ≡ a' → b ≡ b' → c ≡ c' → k ≡ k' → l ≡ l'
    → ◌≡◌ {A = QueueCounts} (record { count = a; done = b; left = c; room = m; kept = k; came = l }) (record { count = a'; done = b'; left = c'; room = m; kept = k'; came = l' })
queue-same m a b c a' b' c' k k' l l' ea eb ec ek el =
    let made : ℕ → ℕ → ℕ → Option (List Job) → Option (List ℕ) → QueueCounts = λ a b c k l. record { count = a; done = b; left = c; room = m; kept = k; came = l } in
    ap (λ x. made x b c k l) ea ∙ (ap (λ x. made a' x c k l) eb ∙ (ap (λ x. made a' b' x k l) ec ∙ (ap (λ x. made a' b' c' x l) ek ∙ ap (made a' b' c' k') el)))

pub pending-is : (keeping : Keeping) (needs : ℕ → ℕ) (js : List Progress) → AreInOrder (ended_count js) js → has_pending (queue_of keeping needs js) ≡ waits js
pending-is keeping needs js order = waits-lt (ended_count js) js order

pub left-is : (needs : ℕ → ℕ) (js : List Progress) → ended_count js < length js → left_of needs js ≡ (get_or js (ended_count js) no_job).left
left-is needs js h = ap (λ (j : Progress). j.left) (get_or_default js (ended_count js) (record { arrival = 0; left = needs (ended_count js); end = None; cause = no_cause }) no_job h)

-- jobs that arrive
map-new : (needs : ℕ → ℕ) (k now : ℕ) (new : List Cause) → map job_of (new_jobs needs k now new) ≡ new_seen now new
map-new needs k now [] = refl
map-new needs k now (cause ∷ new) = let job : Job = record { arrival = now; end = None; cause = cause } in ap (λ js. job ∷ js) (map-new needs (k + 1) now new)

kept-more : (keeps : Bool) (needs : ℕ → ℕ) (now : ℕ) (new : List Cause) (js : List Progress)
    → cond keeps (Some (map job_of (js ++ new_jobs needs (length js) now new))) None ≡ option_map (λ ks. ks ++ new_seen now new) (cond keeps (Some (map job_of js)) None)
kept-more true needs now new js = ap Some (map-append job_of js (new_jobs needs (length js) now new) ∙ ap (λ ks. map job_of js ++ ks) (map-new needs (length js) now new))
kept-more false needs now new js = refl

came-more : (keeps : Bool) (needs : ℕ → ℕ) (now : ℕ) (new : List Cause) (js : List Progress)
    → cond keeps (Some (arrivals_of (map job_of (js ++ new_jobs needs (length js) now new)))) None ≡ option_map (λ times. times ++ arrivals_of (new_seen now new)) (cond keeps (Some (arrivals_of (map job_of js))) None)
came-more true needs now new js =
    ap Some (ap arrivals_of (map-append job_of js (new_jobs needs (length js) now new) ∙ ap (λ ks. map job_of js ++ ks) (map-new needs (length js) now new))
    ∙ map-append (λ (job : Job). job.arrival) (map job_of js) (new_seen now new))
came-more false needs now new js = refl

-- a job that needs so much, where there is none
abbrev waiting_for : ℕ → Progress
waiting_for left = record { arrival = 0; left = left; end = None; cause = no_cause }

first-new : (needs : ℕ → ℕ) (k now : ℕ) (new : List Cause) → (get_or (new_jobs needs k now new) 0 (waiting_for (needs k))).left ≡ needs k
first-new needs k now [] = refl
first-new needs k now (cause ∷ new) = refl

left-more : (needs : ℕ → ℕ) (now : ℕ) (new : List Cause) (js : List Progress) → left_of needs (js ++ new_jobs needs (length js) now new) ≡ left_of needs js
left-more needs now new js =
    let come = new_jobs needs (length js) now new in
    let d = ended_count js in
    let other : Progress = waiting_for (needs d) in
    let done : ended_count (js ++ come) ≡ d = omega (arith, ended-append js come, ended-new needs (length js) now new) in
    let first : left_of needs (js ++ come) ≡ (get_or (js ++ come) d other).left = ap (λ x. (get_or (js ++ come) x (waiting_for (needs x))).left) done in
    elim (cases_lt d (length js)) [
      | inl h ↦ first ∙ ap (λ (j : Progress). j.left) (get_or_append_left js come other d h)
      | inr h ↦
          let all : length js ≡ d = omega (arith, h, ended-le js) in
          let none : d - length js ≡ 0 = omega (arith, h, ended-le js) in
          let tail : (get_or come 0 other).left ≡ needs d = subst (λ x. (get_or (new_jobs needs (length js) now new) 0 (waiting_for (needs x))).left ≡ needs x) all (first-new needs (length js) now new) in
          first
          ∙ (ap (λ (j : Progress). j.left) (get_or-append_right js come (length js) d other refl h)
          ∙ (ap (λ x. (get_or come x other).left) none
          ∙ (tail ∙ sym (ap (λ (j : Progress). j.left) (get_or_past js d other h)))))
    ]

pub queue-more : (keeping : Keeping) (needs : ℕ → ℕ) (now : ℕ) (new : List Cause) (js : List Progress)
    → queue_of keeping needs (js ++ new_jobs needs (length js) now new) ≡ with_arrivals now new (queue_of keeping needs js)
queue-more keeping needs now new js =
    let come = new_jobs needs (length js) now new in
    let count : length (js ++ come) ≡ length js + length new = length-append js come ∙ ap (λ k. length js + k) (length-new needs (length js) now new) in
    let done : ended_count (js ++ come) ≡ ended_count js = omega (arith, ended-append js come, ended-new needs (length js) now new) in
    queue-same _ _ _ _ _ _ _ _ _ _ _ count done (left-more needs now new js) (kept-more keeping.jobs needs now new js) (came-more keeping.arrivals needs now new js)

pub length-seen : (now : ℕ) (new : List Cause) → length (new_seen now new) ≡ length new
length-seen now new = length-map new (λ (cause : Cause). let made : Job = record { arrival = now; end = None; cause = cause } in made)

-- all jobs are kept still
pub kept-length : (now : ℕ) (new : List Cause) (old kept : Option (List Job)) (count : ℕ) → kept ≡ option_map (λ js. js ++ new_seen now new) old
    → ((js : List Job) → old ≡ Some js → count ≡ length js) → (ks : List Job) → kept ≡ Some ks → count + length new ≡ length ks
kept-length now new None kept count e all ks f = let none : None ≡ Some ks = sym e ∙ f in absurd (none-some ks none)
kept-length now new (Some js) kept count e all ks f =
    let same : js ++ new_seen now new ≡ ks = same_Some (js ++ new_seen now new) ks (sym e ∙ f) in
    omega (arith, ap length same, length-append js (new_seen now new), length-seen now new, all js refl)

-- and so are all arrivals
pub came-length : (now : ℕ) (new : List Cause) (old came : Option (List ℕ)) (count : ℕ) → came ≡ option_map (λ times. times ++ arrivals_of (new_seen now new)) old
    → ((times : List ℕ) → old ≡ Some times → count ≡ length times) → (times : List ℕ) → came ≡ Some times → count + length new ≡ length times
came-length now new None came count e all us f = let none : None ≡ Some us = sym e ∙ f in absurd (none-some us none)
came-length now new (Some ts) came count e all us f =
    let same : ts ++ arrivals_of (new_seen now new) ≡ us = same_Some (ts ++ arrivals_of (new_seen now new)) us (sym e ∙ f) in
    omega (arith, ap length same, length-append ts (arrivals_of (new_seen now new)), length-map (new_seen now new) (λ (job : Job). job.arrival), length-seen now new, all ts refl)

-- there is room for some more
pub some-room : {A : Type 0} (items : A → List ℕ) (capacity : A → ℕ) (came : Option A) (count more room : ℕ) → ((times : List ℕ) → option_map items came ≡ Some times → count ≡ length times)
    → ((n : ℕ) → option_map capacity came ≡ Some n → room ≤ n) → count + more ≤ room → IfSome came (λ v. length (items v) + more ≤ capacity v)
some-room items capacity None count more room all taken few = tt
some-room items capacity (Some v) count more room all taken few = omega (arith, all (items v) refl, taken (capacity v) refl, few)

-- the earliest pending job goes on, or is complete
module _ (keeping : Keeping) (needs : ℕ → ℕ) (ticks now : ℕ) (js : List Progress) (order : AreInOrder (ended_count js) js) (h : ended_count js < length js) where
  abbrev d : ℕ
  d = ended_count js

  abbrev job : Progress
  job = get_or js (ended_count js) no_job

  seen-shorter : ticks < job.left → map job_of (jobs_after ticks now d js) ≡ map job_of js
  seen-shorter more =
      let unended = (first-runs d js order h).open_now in
      let same : job_of (after_ticks ticks now job) ≡ job_of job = ap job_of (after-more ticks now job more) ∙ ap (λ o. let made : Job = record { arrival = job.arrival; end = o; cause = job.cause } in made) (sym unended) in
      map-set_same job_of js d (after_ticks ticks now job) no_job same

  kept-shorter : ticks < job.left → (b : Bool) → cond b (Some (map job_of (jobs_after ticks now d js))) None ≡ cond b (Some (map job_of js)) None
  kept-shorter more b = ap (λ ks. cond b (Some ks) None) (seen-shorter more)

  came-shorter : ticks < job.left → (b : Bool) → cond b (Some (arrivals_of (map job_of (jobs_after ticks now d js)))) None ≡ cond b (Some (arrivals_of (map job_of js))) None
  came-shorter more b = ap (λ ks. cond b (Some (arrivals_of ks)) None) (seen-shorter more)

  queue-shorter : ticks < job.left → queue_of keeping needs (jobs_after ticks now d js) ≡ shorter_queue ticks (queue_of keeping needs js)
  queue-shorter more =
      let next = jobs_after ticks now d js in
      let done : ended_count next ≡ d = ended-is d next (ordered-more ticks now d js order h more) in
      let other : Progress = waiting_for (needs d) in
      let left : left_of needs next ≡ left_of needs js - ticks =
      ap (λ x. (get_or next x (waiting_for (needs x))).left) done
      ∙ (ap (λ (j : Progress). j.left) (get_or-set_same js d (after_ticks ticks now job) other h ∙ after-more ticks now job more)
      ∙ ap (λ x. x - ticks) (sym (left-is needs js h))) in
      queue-same _ _ _ _ _ _ _ _ _ _ _ (length-jobs ticks now d js) done left (kept-shorter more keeping.jobs) (came-shorter more keeping.arrivals)

  seen-completed : job.left ≤ ticks → map job_of (jobs_after ticks now d js) ≡ with_end d now (map job_of js)
  seen-completed last =
      let seen : job_of (after_ticks ticks now job) ≡ record { arrival = job.arrival; end = Some now; cause = job.cause } = ap job_of (after-last ticks now job last) in
      let read = get_or-map job_of js d no_job no_job_seen h in
      map-set job_of js d (after_ticks ticks now job)
      ∙ ap (set (map job_of js) d) (seen ∙ ap (λ (j : Job). let made : Job = record { arrival = j.arrival; end = Some now; cause = j.cause } in made) (sym read))

  kept-completed : job.left ≤ ticks → (b : Bool) → cond b (Some (map job_of (jobs_after ticks now d js))) None ≡ option_map (with_end d now) (cond b (Some (map job_of js)) None)
  kept-completed last true = ap Some (seen-completed last)
  kept-completed last false = refl

  -- a job's end leaves its arrival
  arrivals-ended : (seen : List Job) → arrivals_of (with_end d now seen) ≡ arrivals_of seen
  arrivals-ended seen =
      let old : Job = get_or seen d no_job_seen in
      map-set_same (λ (job : Job). job.arrival) seen d (record { arrival = old.arrival; end = Some now; cause = old.cause }) no_job_seen refl

  came-completed : job.left ≤ ticks → (b : Bool) → cond b (Some (arrivals_of (map job_of (jobs_after ticks now d js)))) None ≡ cond b (Some (arrivals_of (map job_of js))) None
  came-completed last b = ap (λ times. cond b (Some times) None) (ap arrivals_of (seen-completed last) ∙ arrivals-ended (map job_of js))

  queue-completed : job.left ≤ ticks → AreFresh needs d js → queue_of keeping needs (jobs_after ticks now d js) ≡ completed_queue (needs (d + 1)) now (queue_of keeping needs js)
  queue-completed last fresh =
      let next = jobs_after ticks now d js in
      let done : ended_count next ≡ d + 1 = omega (arith, ended-is (suc d) next (ordered-last ticks now d js order h last)) in
      let other : Progress = waiting_for (needs (d + 1)) in
      let apart : d + 1 ≢ d = λ e. absurd (omega arith) in
      let there : get_or next (d + 1) other ≡ get_or js (d + 1) other = get_or-set_other js d (d + 1) (after_ticks ticks now job) other apart in
      let needed : (get_or js (d + 1) other).left ≡ needs (d + 1) =
      elim (cases_lt (d + 1) (length js)) [
        | inl more ↦ ap (λ (j : Progress). j.left) (get_or_default js (d + 1) other no_job more) ∙ fresh (d + 1) (omega arith) more
        | inr past ↦ ap (λ (j : Progress). j.left) (get_or_past js (d + 1) other past)
      ] in
      let left : left_of needs next ≡ needs (d + 1) =
      ap (λ x. (get_or next x (waiting_for (needs x))).left) done
      ∙ (ap (λ (j : Progress). j.left) there ∙ needed) in
      queue-same _ _ _ _ _ _ _ _ _ _ _ (length-jobs ticks now d js) done left (kept-completed last keeping.jobs) (came-completed last keeping.arrivals)

  pub queue-worked : AreFresh needs d js → queue_of keeping needs (jobs_after ticks now d js) ≡ worked needs ticks now (queue_of keeping needs js)
  queue-worked fresh =
      let same = left-is needs js h in
      elim (cases_lt ticks job.left) [
        | inl more ↦
            let less : ticks < left_of needs js = omega (arith, same, more) in
            queue-shorter more ∙ sym (cond-false (nat_le (left_of needs js) ticks) _ _ (lt-leb (left_of needs js) ticks less))
        | inr last ↦
            let most : left_of needs js ≤ ticks = omega (arith, same, last) in
            queue-completed last fresh ∙ sym (cond-true (nat_le (left_of needs js) ticks) _ _ (le-leb (left_of needs js) ticks most))
      ]

-- ---- jobs that haven't run need all that they need

pub fresh-new : (needs : ℕ → ℕ) (first now : ℕ) (new : List Cause) (k : ℕ) → k < length new → (get_or (new_jobs needs first now new) k no_job).left ≡ needs (first + k)
fresh-new needs first now [] k h = absurd (omega arith)
fresh-new needs first now (cause ∷ new) zero h = let e : first ≡ first + 0 = omega arith in ap needs e
fresh-new needs first now (cause ∷ new) (suc k) h = let e : first + 1 + k ≡ first + suc k = omega arith in fresh-new needs (first + 1) now new k (omega arith) ∙ ap needs e

pub fresh-append : (needs : ℕ → ℕ) (d now : ℕ) (new : List Cause) (js : List Progress) → AreFresh needs d js → AreFresh needs d (js ++ new_jobs needs (length js) now new)
fresh-append needs d now new js fresh k later there =
    let come = new_jobs needs (length js) now new in
    elim (cases_lt k (length js)) [
      | inl old ↦ ap (λ (j : Progress). j.left) (get_or_append_left js come no_job k old) ∙ fresh k later old
      | inr past ↦
          let long = length-append js come ∙ ap (λ x. length js + x) (length-new needs (length js) now new) in
          let e : length js + (k - length js) ≡ k = omega arith in
          ap (λ (j : Progress). j.left) (get_or-append_right js come (length js) k no_job refl past)
          ∙ (fresh-new needs (length js) now new (k - length js) (omega (arith, long, there, past)) ∙ ap needs e)
    ]

pub fresh-after : (needs : ℕ → ℕ) (ticks now d : ℕ) (js : List Progress) → AreFresh needs d js → AreFresh needs d (jobs_after ticks now d js)
fresh-after needs ticks now d js fresh k later there =
    let apart : k ≢ d = λ e. absurd (omega arith) in
    let below : k < length js = omega (arith, there, length-jobs ticks now d js) in
    ap (λ (j : Progress). j.left) (get_or-set_other js d k (after_ticks ticks now (get_or js d no_job)) no_job apart) ∙ fresh k later below

pub fresh-from : (needs : ℕ → ℕ) (d e : ℕ) (js : List Progress) → d ≤ e → AreFresh needs d js → AreFresh needs e js
fresh-from needs d e js more fresh k later there = fresh k (omega arith) there
