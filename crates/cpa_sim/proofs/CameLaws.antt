-- The arrivals of a task's jobs are in order, and what becomes of that of the earliest pending one.
use Rattle.std.proofs.Common.{◌≡◌, ℕ, zero, suc, ◌+◌, ◌-◌, ◌<◌, ◌≤◌, ◌++◌, length, List, [], ◌∷◌, map, Bool, true, false, nat_le, nat_lt, Some, option_map, refl, ◌∙◌, ap, subst, inl, inr, arith, get_or, length-append}
use Rattle.std.proofs.lemmas.Bool.{cases_lt, cases_Bool, lt-ltb, ltb-true}
use Rattle.std.proofs.lemmas.List.{get_or_append_left, get_or-append_right, get_or-map, length-map}
use Rattle.cpa_model.specs.SystemLists.{SystemLists}
use Rattle.cpa_trace.specs.Trace.{TraceLists, need}
use Rattle.cpa_sim.specs.declared.jobs.Cause.{Cause}
use Rattle.cpa_sim.specs.declared.jobs.Job.{Job}
use Rattle.cpa_sim.specs.declared.jobs.Keeping.{Keeping}
use Rattle.cpa_sim.specs.Run.{no_job, Progress, is_open, after_tick, serve, new_jobs, arriving, served, ended_in, run}
use Rattle.cpa_sim.specs.Outcome.{job_of, no_job_seen}
use Rattle.cpa_sim.specs.JobQueues.{QueueCounts, has_pending, arrivals_of, arrival_of, queue_of, empty_queue, new_seen, with_arrivals, completed_queue, served_queue}
use Rattle.cpa_sim.proofs.QueueLaws.{serve-here, serve-there, ended-le, length-new}
use Rattle.cpa_sim.proofs.RunLaws.{jobs-zero, jobs-suc}
use Rattle.cpa_sim.proofs.JobCount.{length-serve, by_serving}

-- ---- in a run

-- none of these jobs arrived after a later one, and none after this time
pub record AreInTime (now : ℕ) (js : List Progress) : Type 0 where
  pub ascend : (k : ℕ) → k + 1 < length js → (get_or js k no_job).arrival ≤ (get_or js (k + 1) no_job).arrival
  pub past : (k : ℕ) → k < length js → (get_or js k no_job).arrival ≤ now

tick-arrival : (now : ℕ) (job : Progress) → (after_tick now job).arrival ≡ job.arrival
tick-arrival now job =
    elim (cases_Bool (nat_le job.left 1)) [
      | inl e ↦ rw e refl
      | inr e ↦ rw e refl
    ]

serve-arrival : (now : ℕ) (js : List Progress) (k : ℕ) → (get_or (serve now js) k no_job).arrival ≡ (get_or js k no_job).arrival
serve-arrival now [] k = refl
serve-arrival now (job ∷ js) zero =
    elim (cases_Bool (is_open job)) [
      | inl e ↦ rw (serve-here now job js e) (tick-arrival now job)
      | inr e ↦ rw (serve-there now job js e) refl
    ]
serve-arrival now (job ∷ js) (suc k) =
    elim (cases_Bool (is_open job)) [
      | inl e ↦ rw (serve-here now job js e) refl
      | inr e ↦ rw (serve-there now job js e) (serve-arrival now js k)
    ]

in-time-served : (t now : ℕ) (js : List Progress) → AreInTime t js → AreInTime t (serve now js)
in-time-served t now js a =
    let long = length-serve now js in
    record {
      ascend = λ k h. omega (arith, serve-arrival now js k, serve-arrival now js (k + 1), a.ascend k (omega (arith, long, h)));
      past = λ k h. omega (arith, serve-arrival now js k, a.past k (omega (arith, long, h)));
    }

new-arrival : (needs : ℕ → ℕ) (first now : ℕ) (new : List Cause) (k : ℕ) → k < length new → (get_or (new_jobs needs first now new) k no_job).arrival ≡ now
new-arrival needs first now [] k h = absurd (omega (arith, h))
new-arrival needs first now (cause ∷ new) zero h = refl
new-arrival needs first now (cause ∷ new) (suc k) h = new-arrival needs (first + 1) now new k (omega (arith, h))

module _ (needs : ℕ → ℕ) (t now : ℕ) (new : List Cause) (js : List Progress) (a : AreInTime t js) (later : t ≤ now) where
  both : List Progress
  both = js ++ new_jobs needs (length js) now new

  old-at : (k : ℕ) → k < length js → (get_or both k no_job).arrival ≡ (get_or js k no_job).arrival
  unfolding both
  old-at k h = ap (λ (job : Progress). job.arrival) (get_or_append_left js (new_jobs needs (length js) now new) no_job k h)

  new-at : (k : ℕ) → length js ≤ k → k < length js + length new → (get_or both k no_job).arrival ≡ now
  unfolding both
  new-at k past less =
      ap (λ (job : Progress). job.arrival) (get_or-append_right js (new_jobs needs (length js) now new) (length js) k no_job refl past)
      ∙ new-arrival needs (length js) now new (k - length js) (omega (arith, past, less))

  in-time-more : AreInTime now (js ++ new_jobs needs (length js) now new)
  unfolding both
  in-time-more =
      let long : length (js ++ new_jobs needs (length js) now new) ≡ length js + length new = length-append js (new_jobs needs (length js) now new) ∙ ap (λ n. length js + n) (length-new needs (length js) now new) in
      record {
        ascend = λ k h.
            elim (cases_lt (k + 1) (length js)) [
              | inl old ↦ omega (arith, old-at k (omega (arith, old)), old-at (k + 1) old, a.ascend k old)
              | inr past ↦ elim (cases_lt k (length js)) [
                | inl last ↦ omega (arith, old-at k last, new-at (k + 1) past (omega (arith, long, h)), a.past k last, later)
                | inr fresh ↦ omega (arith, new-at k fresh (omega (arith, long, h)), new-at (k + 1) past (omega (arith, long, h)))
              ]
            ];
        past = λ k h.
            elim (cases_lt k (length js)) [
              | inl old ↦ omega (arith, old-at k old, a.past k old, later)
              | inr fresh ↦ omega (arith, new-at k fresh (omega (arith, long, h)))
            ];
      }

module _ (s : SystemLists) (tr : TraceLists) where
  pub run-in-time : (t i : ℕ) → AreInTime t ((run s tr t).jobs i)
  run-in-time zero i =
      let none : AreInTime 0 [] = record { ascend = λ k h. absurd (omega (arith, h)); past = λ k h. absurd (omega (arith, h)) } in
      rw (jobs-zero s tr i) (in-time-more (need s tr i) 0 0 (arriving s tr 0 (λ j. []) i) [] none (omega arith))
  run-in-time (suc t) i =
      let e : t + 1 ≡ suc t = omega arith in
      let before = run-in-time t i in
      let ran : AreInTime t (served s tr t (run s tr t) i) = by_serving s tr (AreInTime t) t i (in-time-served t (t + 1) ((run s tr t).jobs i) before) before in
      let more = in-time-more (need s tr i) t (t + 1) (arriving s tr (t + 1) (ended_in s tr t (run s tr t)) i) (served s tr t (run s tr t) i) ran (omega arith) in
      rw (jobs-suc s tr t i) (subst (λ now. AreInTime now (served s tr t (run s tr t) i ++ new_jobs (need s tr i) (length (served s tr t (run s tr t) i)) (t + 1) (arriving s tr (t + 1) (ended_in s tr t (run s tr t)) i))) e more)

-- ---- as the simulator knows them

-- the arrivals of all jobs are kept, and none came after a later one
pub record HasCome (queue : QueueCounts) : Type 0 where
  pub times : List ℕ
  pub kept : queue.came ≡ Some times
  pub long : length times ≡ queue.count
  pub within : queue.done ≤ queue.count
  pub ascend : (k : ℕ) → k + 1 < length times → get_or times k 0 ≤ get_or times (k + 1) 0

pub arrival-read : (js : List Progress) (k : ℕ) → k < length js → get_or (arrivals_of (map job_of js)) k 0 ≡ (get_or js k no_job).arrival
arrival-read js k h =
    get_or-map (λ (job : Job). job.arrival) (map job_of js) k no_job_seen 0 (omega (arith, h, length-map js job_of))
    ∙ ap (λ (job : Job). job.arrival) (get_or-map job_of js k no_job no_job_seen h)

pub has-come : (keeping : Keeping) (needs : ℕ → ℕ) (now : ℕ) (js : List Progress) → keeping.arrivals ≡ true → AreInTime now js → HasCome (queue_of keeping needs js)
has-come keeping needs now js keeps a =
    let long : length (arrivals_of (map job_of js)) ≡ length js = length-map (map job_of js) (λ (job : Job). job.arrival) ∙ length-map js job_of in
    record {
      times = arrivals_of (map job_of js);
      kept = rw keeps refl;
      long = long;
      within = ended-le js;
      ascend = λ k h.
          let less : k + 1 < length js = omega (arith, long, h) in
          omega (arith, arrival-read js k (omega (arith, less)), arrival-read js (k + 1) less, a.ascend k less);
    }

pub come-empty : (keeping : Keeping) (need : ℕ) → keeping.arrivals ≡ true → HasCome (empty_queue keeping need)
come-empty keeping need keeps =
    record {
      times = [];
      kept = rw keeps refl;
      long = refl;
      within = omega arith;
      ascend = λ k h. absurd (omega (arith, h));
    }

came-is : (queue : QueueCounts) (times : List ℕ) → queue.came ≡ Some times → arrival_of queue ≡ get_or times queue.done 0
came-is queue times e = rw e refl

-- after some ticks
pub come-served : (needs : ℕ → ℕ) (runs : Bool) (ticks now : ℕ) (queue : QueueCounts) → (runs ≡ true → has_pending queue ≡ true) → HasCome queue → HasCome (served_queue needs runs ticks now queue)
come-served needs false ticks now queue pending come = come
come-served needs true ticks now queue pending come =
    elim (cases_Bool (nat_le queue.left ticks)) [
      | inl ends ↦
          let less = ltb-true queue.done queue.count (pending refl) in
          rw ends (record { times = come.times; kept = come.kept; long = come.long; within = omega (arith, less); ascend = come.ascend })
      | inr goes ↦ rw goes (record { times = come.times; kept = come.kept; long = come.long; within = come.within; ascend = come.ascend })
    ]

pub arrival-served : (needs : ℕ → ℕ) (runs : Bool) (ticks now : ℕ) (queue : QueueCounts) → HasCome queue → has_pending (served_queue needs runs ticks now queue) ≡ true
    → arrival_of queue ≤ arrival_of (served_queue needs runs ticks now queue)
arrival-served needs false ticks now queue come pending = omega arith
arrival-served needs true ticks now queue come pending =
    elim (cases_Bool (nat_le queue.left ticks)) [
      | inl ends ↦
          let pending' : nat_lt (queue.done + 1) queue.count ≡ true = rw ends at pending in
          let less = ltb-true (queue.done + 1) queue.count pending' in
          rw ends (omega (
            arith,
            came-is queue come.times come.kept,
            came-is (completed_queue (needs (queue.done + 1)) now queue) come.times come.kept,
            come.ascend queue.done (omega (arith, less, come.long)),
          ))
      | inr goes ↦ rw goes (omega arith)
    ]

-- where jobs arrive: as it was, of a task that waited, and else now
pub arrival-given : (now since : ℕ) (causes : List Cause) (queue : QueueCounts) → HasCome queue → since ≤ now → (has_pending queue ≡ true → since ≤ arrival_of queue)
    → has_pending (with_arrivals now causes queue) ≡ true → since ≤ arrival_of (with_arrivals now causes queue)
arrival-given now since causes queue come soon before pending =
    let more = arrivals_of (new_seen now causes) in
    let is : arrival_of (with_arrivals now causes queue) ≡ get_or (come.times ++ more) queue.done 0 =
    came-is (with_arrivals now causes queue) (come.times ++ more) (ap (option_map (λ times. times ++ more)) come.kept) in
    let some = ltb-true queue.done (queue.count + length causes) pending in
    elim (cases_lt queue.done queue.count) [
      | inl less ↦
          let old = get_or_append_left come.times more 0 queue.done (omega (arith, less, come.long)) in
          omega (arith, is, old, came-is queue come.times come.kept, before (lt-ltb queue.done queue.count less))
      | inr all ↦
          let none : queue.done - length come.times ≡ 0 = omega (arith, all, come.within, come.long) in
          let new = get_or-append_right come.times more (length come.times) queue.done 0 refl (omega (arith, all, come.long)) in
          let first : get_or more 0 0 ≡ now = first-now causes (omega (arith, some, all, come.within)) in
          let at : get_or more (queue.done - length come.times) 0 ≡ now = ap (λ k. get_or more k 0) none ∙ first in
          omega (arith, is, new, at, soon)
    ]
  where
    first-now : (cs : List Cause) → 0 < length cs → get_or (arrivals_of (new_seen now cs)) 0 0 ≡ now
    first-now [] some = absurd (omega (arith, some))
    first-now (cause ∷ cs) some = refl
