-- What every run keeps: jobs in order, of which the later ones haven't run, states that belong to their resources, and started frames that wait.
use Rattle.std.proofs.Common.{◌≡◌, ℕ, zero, suc, ◌+◌, ◌-◌, ◌<◌, ◌≤◌, ◌++◌, length, List, [], ◌∷◌, Bool, true, eqb, nat_le, Option, Some, None, refl, ◌∙◌, ap, inl, inr, arith, add-one}
use Rattle.std.specs.Option.{ForSome}
use Rattle.std.proofs.lemmas.Bool.{cases_lt, cases_Bool, le-leb, cond-true, cond-false, eqb-true, eq-eqb, false≢true}
use Rattle.cpa_model.specs.declared.entries.Kind.{Kind}
use Rattle.cpa_model.specs.declared.entries.Kind.TheVariants.{Preemptive, RoundRobin, Tdma, Can, Fifo, Ceiling}
use Rattle.cpa_model.specs.SystemLists.{SystemLists, task_at, tasks_on}
use Rattle.cpa_trace.specs.Trace.{TraceLists, phase_of, need}
use Rattle.cpa_sched.specs.Steps.{ResourceState, ReadyQueue, kind_of, step, completed, first_state}
use Rattle.cpa_sched.specs.States.{IsOn, FrameWaits}
use Rattle.cpa_sched.specs.Stretches.{got, state_after}
use Rattle.cpa_sim.specs.declared.jobs.Cause.{Cause}
use Rattle.cpa_sim.specs.Run.{Progress, is_open, waits, ready_at, ended_count, new_jobs, arriving, settled, run}
use Rattle.cpa_sim.proofs.JobLists.{AreInOrder, AreFresh, AreWithin, jobs_after}
use Rattle.cpa_sim.proofs.QueueLaws.{ordered-more, ordered-last, ordered-new, ended-is, waits-is, waits-less, first-runs, length-jobs, fresh-append, fresh-after, fresh-from}
use Rattle.cpa_sim.proofs.NeedLaws.{within-append, within-after}
use Rattle.cpa_sim.proofs.RunLaws.{jobs-zero, state-zero}
use Rattle.cpa_sched.proofs.StepLaws.{tasks_on-are, last_is}
use Rattle.cpa_sched.proofs.StretchLaws.{state_after-zero}
use Rattle.cpa_sim.proofs.ChoiceLaws.{step-picks, step-frame, frame-settled}
use Rattle.cpa_sim.proofs.SameTaskLaws.{SameTasksRun, chosen, jobs_at, left_at, served_by, ended_by, numbers_by, picked, chosen-pending, chosen-is, landed-jobs, landed-states, last-choice, last-state, last-task, last-holds}

-- a job that isn't complete waits also beside new ones
any-append : (js ks : List Progress) → waits js ≡ true → waits (js ++ ks) ≡ true
any-append [] ks e = absurd (false≢true e)
any-append (j ∷ js) ks e =
    elim (cases_Bool (is_open j)) [
      | inl here ↦ rw here refl
      | inr closed ↦ let e' = rw closed at e in rw closed (any-append js ks e')
    ]

module _ (s : SystemLists) (tr : TraceLists) where
  -- what is asked of a system and a trace
  pub record CanRun : Type 0 where
    pub placed : (i : ℕ) → i < length s.tasks → (task_at s i).res.0 < length s.resources
    pub some : (i k : ℕ) → i < length s.tasks → 1 ≤ need s tr i k

  -- a task's jobs are complete in their order, those after the earliest pending one haven't run, and none needs more than in all
  pub record JobsHold (i : ℕ) (js : List Progress) : Type 0 where
    pub ordered : AreInOrder (ended_count js) js
    pub fresh : AreFresh (need s tr i) (ended_count js) js
    pub within : AreWithin (need s tr i) js

  pub record HoldsAt (t : ℕ) : Type 0 where
    pub jobs : (i : ℕ) → i < length s.tasks → JobsHold i ((run s tr t).jobs i)
    pub held : (r : ℕ) → r < length s.resources → ForSome ((run s tr t).resources r).holder (IsOn s r)
    pub frames : (r : ℕ) → r < length s.resources → FrameWaits (kind_of s r) ((run s tr t).resources r) (λ i. waits ((run s tr t).jobs i))

  module _ (can : CanRun) where
    hold-from : (i d : ℕ) (js : List Progress) → AreInOrder d js → AreFresh (need s tr i) d js → AreWithin (need s tr i) js → JobsHold i js
    hold-from i d js order fresh within = let e = ended-is d js order in record { ordered = rw e order; fresh = rw e fresh; within = within }

    -- also where jobs arrive
    with-new : (i d now : ℕ) (new : List Cause) (js : List Progress) → i < length s.tasks → AreInOrder d js → AreFresh (need s tr i) d js → AreWithin (need s tr i) js
        → JobsHold i (js ++ new_jobs (need s tr i) (length js) now new)
    with-new i d now new js there order fresh within =
        hold-from i d (js ++ new_jobs (need s tr i) (length js) now new) (ordered-new d js (need s tr i) (length js) now new order (λ k. can.some i k there)) (fresh-append (need s tr i) d now new js fresh) (within-append (need s tr i) now new js within)

    first-held : (r : ℕ) (k : Kind) → ForSome (first_state s r k).holder (IsOn s r)
    first-held r Preemptive = λ x e. cc
    first-held r RoundRobin = λ x e. last_is (IsOn s r) (tasks_on s r) x (tasks_on-are s r) e
    first-held r (Tdma gap) = λ x e. cc
    first-held r (Can bit) = λ x e. cc
    first-held r Fifo = λ x e. cc
    first-held r Ceiling = λ x e. cc

    first-frames : (r : ℕ) (k : Kind) (w : ℕ → Bool) → FrameWaits k (first_state s r k) w
    first-frames r Preemptive w = λ x e. cc
    first-frames r RoundRobin w = tt
    first-frames r (Tdma gap) w = tt
    first-frames r (Can bit) w = λ x e. cc
    first-frames r Fifo w = tt
    first-frames r Ceiling w = tt

    -- a jump keeps it
    module _ (t n : ℕ) (q : ReadyQueue) (d : ℕ → ℕ) (o : ℕ → Option ℕ) (g : SameTasksRun s tr t n q d o) (fresh : (i : ℕ) → i < length s.tasks → AreFresh (need s tr i) (d i) ((run s tr t).jobs i))
        (within : (i : ℕ) → i < length s.tasks → AreWithin (need s tr i) ((run s tr t).jobs i)) where
      landed-jobs-hold : (i : ℕ) → i < length s.tasks → JobsHold i ((run s tr (t + n)).jobs i)
      landed-jobs-hold i there =
          let m = arriving s tr (t + n) (numbers_by s tr t n q d o g n) i in
          let old = jobs_at s tr t n q d o i in
          let js = served_by s tr t n q d o g n i in
          let e = landed-jobs s tr t n q d o g i there in
          elim (cases_Bool (chosen s tr t n q d o i)) [
            | inl passes ↦
                let h = chosen-pending s tr t n q d o g i there passes in
                let same : js ≡ jobs_after n (t + n) (d i) old = cond-true (chosen s tr t n q d o i) _ _ passes in
                let rest = fresh-after (need s tr i) n (t + n) (d i) old (fresh i there) in
                let few = within-after (need s tr i) n (t + n) (d i) old (within i there) in
                elim (cases_lt n (left_at s tr t n q d o i)) [
                  | inl more ↦
                      let a = ordered-more n (t + n) (d i) old (g.ordered i there) h more in
                      rw e (with-new i (d i) (t + n) m js there (rw same a) (rw same rest) (rw same few))
                  | inr last ↦
                      let a = ordered-last n (t + n) (d i) old (g.ordered i there) h last in
                      rw e (with-new i (suc (d i)) (t + n) m js there (rw same a) (rw same (fresh-from (need s tr i) (d i) (suc (d i)) (jobs_after n (t + n) (d i) old) (omega arith) rest)) (rw same few))
                ]
            | inr fails ↦
                let same : js ≡ old = cond-false (chosen s tr t n q d o i) _ _ fails in
                rw e (with-new i (d i) (t + n) m js there (rw same (g.ordered i there)) (rw same (fresh i there)) (rw same (within i there)))
          ]

      settled-holder : (k : Kind) (f : ℕ → ℕ) (st : ResourceState) (p : Option ℕ) (P : ℕ → Type 0) → ForSome st.holder P → ForSome (settled k f st p).holder P
      settled-holder k f st None P h = h
      settled-holder k f st (Some i) P h =
          elim (cases_Bool (eqb (f i) 0)) [
            | inl none ↦ rw none h
            | inr some ↦ rw some (completed-holder k st P h)
          ]
        where
          completed-holder : (k : Kind) (st : ResourceState) (P : ℕ → Type 0) → ForSome st.holder P → ForSome (completed k st).holder P
          completed-holder Preemptive st P h = λ x e. cc
          completed-holder RoundRobin st P h = h
          completed-holder (Tdma gap) st P h = h
          completed-holder (Can bit) st P h = λ x e. cc
          completed-holder Fifo st P h = h
          completed-holder Ceiling st P h = h

      pub landed-held : (r : ℕ) → r < length s.resources → ForSome ((run s tr (t + n)).resources r).holder (IsOn s r)
      landed-held r there =
          rw (landed-states s tr t n q d o g r there)
          (settled-holder (kind_of s r) (ended_by s tr t n q d o g n) (state_after s r ((run s tr t).resources r) q (o r) t (phase_of tr r) n) (o r) (IsOn s r) (last-holds s tr t n q d o g r there))

      -- who ran and isn't complete still waits
      ran-waits : (r i : ℕ) → r < length s.resources → o r ≡ Some i → ended_by s tr t n q d o g n i ≡ 0 → waits ((run s tr (t + n)).jobs i) ≡ true
      ran-waits r i there e none =
          let p = picked s tr t n q d o g r i there e in
          let here : (task_at s i).res.0 ≡ r = eqb-true (task_at s i).res.0 r p.on.here in
          let passes : chosen s tr t n q d o i ≡ true = rw (here, e) (eq-eqb i i refl) in
          let h = chosen-pending s tr t n q d o g i p.on.task passes in
          let fresh = arriving s tr (t + n) (numbers_by s tr t n q d o g n) i in
          let js = served_by s tr t n q d o g n i in
          let same : js ≡ jobs_after n (t + n) (d i) (jobs_at s tr t n q d o i) = cond-true (chosen s tr t n q d o i) _ _ passes in
          elim (cases_lt n (left_at s tr t n q d o i)) [
            | inl more ↦
                let a = ordered-more n (t + n) (d i) (jobs_at s tr t n q d o i) (g.ordered i p.on.task) h more in
                let b : waits (jobs_after n (t + n) (d i) (jobs_at s tr t n q d o i)) ≡ true =
                waits-is (d i) (jobs_after n (t + n) (d i) (jobs_at s tr t n q d o i)) a (rw (length-jobs n (t + n) (d i) (jobs_at s tr t n q d o i)) h) in
                rw (landed-jobs s tr t n q d o g i p.on.task) (any-append js (new_jobs (need s tr i) (length js) (t + n) fresh) (rw same b))
            | inr last ↦
                let one : nat_le (left_at s tr t n q d o i) n ≡ true = le-leb (left_at s tr t n q d o i) n last in
                let some : ended_by s tr t n q d o g n i ≡ 1 = rw (passes, one) refl in
                absurd (omega (arith, none, some))
          ]

      pub landed-frames : (r : ℕ) → r < length s.resources → FrameWaits (kind_of s r) ((run s tr (t + n)).resources r) (λ i. waits ((run s tr (t + n)).jobs i))
      landed-frames r there =
          rw (landed-states s tr t n q d o g r there, last-state s tr t n q d o g r)
          (frame-settled (kind_of s r) (ended_by s tr t n q d o g n) (λ i. waits ((run s tr (t + n)).jobs i)) (last-choice s tr t n q d o g r) (o r) (last-task s tr t n q d o g r there)
          (step-frame s r (got q (o r) (n - 1)) (state_after s r ((run s tr t).resources r) q (o r) t (phase_of tr r) (n - 1)) (t + (n - 1)) (phase_of tr r)) (λ i e none. ran-waits r i there e none))

      pub landed-holds : HoldsAt (t + n)
      landed-holds = record { jobs = landed-jobs-hold; held = landed-held; frames = landed-frames }

    -- so do single ticks
    tick : (t : ℕ) → HoldsAt t → HoldsAt (t + 1)
    tick t k =
        let q : ReadyQueue = ready_at s tr (run s tr t).jobs in
        let d : ℕ → ℕ = λ i. ended_count ((run s tr t).jobs i) in
        let o : ℕ → Option ℕ = λ r. (step s r ((run s tr t).resources r) q t (phase_of tr r)).task in
        landed-holds t 1 q d o
        (record {
          some = omega arith;
          placed = can.placed;
          ordered = λ i there. (k.jobs i there).ordered;
          waiting = λ i there. refl;
          arrived = λ i there queued waits. refl;
          had = λ i there waits. refl;
          within = λ i there waits. (k.jobs i there).within (d i) (waits-less (d i) ((run s tr t).jobs i) (k.jobs i there).ordered waits);
          held = k.held;
          frames = k.frames;
          runs = λ r u there less.
              let e : u ≡ 0 = omega arith in
              let e' : t + 0 ≡ t = omega arith in
              rw e
              (ap (λ st. (step s r st q (t + 0) (phase_of tr r)).task) (state_after-zero s r ((run s tr t).resources r) q t (phase_of tr r) (o r))
              ∙ ap (λ v. (step s r ((run s tr t).resources r) q v (phase_of tr r)).task) e');
          enough = λ i there passes.
              let p = step-picks s (task_at s i).res.0 q ((run s tr t).resources (task_at s i).res.0) t (phase_of tr (task_at s i).res.0) (k.held (task_at s i).res.0 (can.placed i there)) (k.frames (task_at s i).res.0 (can.placed i there)) in
              let waiting = (p.task i (chosen-is (o (task_at s i).res.0) i passes)).waits_now in
              let h = waits-less (d i) ((run s tr t).jobs i) (k.jobs i there).ordered waiting in
              (first-runs (d i) ((run s tr t).jobs i) (k.jobs i there).ordered h).some;
          silent = λ j u some less. absurd (omega arith);
        }) (λ i there. (k.jobs i there).fresh) (λ i there. (k.jobs i there).within)

    start : HoldsAt 0
    start =
        record {
          jobs = λ i there. rw (jobs-zero s tr i) (with-new i 0 0 (arriving s tr 0 (λ j. []) i) [] there tt (λ k later more. absurd (omega arith)) (λ k more. absurd (omega (arith, more))));
          held = λ r there. rw (state-zero s tr r) (first-held r (kind_of s r));
          frames = λ r there. rw (state-zero s tr r) (first-frames r (kind_of s r) (λ i. waits ((run s tr 0).jobs i)));
        }

    pub holds-always : (t : ℕ) → HoldsAt t
    holds-always zero = start
    holds-always (suc t) = let k = tick t (holds-always t) in rw add-one at k
