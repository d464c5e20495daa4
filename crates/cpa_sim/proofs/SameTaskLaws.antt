-- Several ticks in which the same tasks run: nothing arrives before the last of them is over, and nothing ends.
use Rattle.std.proofs.Common.{◌≡◌, ℕ, zero, suc, ◌+◌, ◌-◌, ◌<◌, ◌≤◌, ◌++◌, length, List, [], Bool, true, false, cond, nat_le, Option, Some, None, refl, sym, ◌∙◌, ap, subst, inl, inr, arith, get_or, add-one}
use Rattle.std.specs.List.{range_with_len}
use Rattle.std.specs.Option.{ForSome}
use Rattle.std.proofs.lemmas.Bool.{cases_lt, cases_Bool, eqb-true, le-leb, lt-leb, cond-true, cond-false, false≢true}
use Rattle.std.proofs.lemmas.List.{append-nil}
use Rattle.cpa_model.specs.Kinds.{is_queue}
use Rattle.cpa_model.specs.SystemLists.{SystemLists, task_at}
use Rattle.cpa_trace.specs.Trace.{TraceLists, phase_of, need}
use Rattle.cpa_sched.specs.Steps.{ResourceState, ReadyQueue, Choice, kind_of, step}
use Rattle.cpa_sched.specs.States.{IsOn, IsWaiting, FrameWaits}
use Rattle.cpa_sched.specs.Stretches.{got, state_after, task_after}
use Rattle.cpa_sim.specs.Run.{no_job, Progress, waits, head_of, ready_at, ended_count, serve, new_jobs, events_at, arriving, is_chosen, choice_at, served, ends_in, ended_in, settled, run}
use Rattle.cpa_sim.specs.Simulation.{is_queued}
use Rattle.cpa_sim.proofs.JobLists.{AreInOrder, jobs_after}
use Rattle.cpa_sim.proofs.HeadLaws.{head-is, head-arrival, head-left}
use Rattle.cpa_sim.proofs.GotLaws.{gets-chosen, gets-other, received-is}
use Rattle.cpa_sim.proofs.QueueLaws.{length-jobs, jobs-none, serve-jobs, ordered-more, ordered-last, ended-is, waits-is, waits-less}
use Rattle.cpa_sim.proofs.RunLaws.{jobs-next, state-next, served-is, ends-is, ended-is as numbers-are, choice-is}
use Rattle.cpa_sim.proofs.CauseLists.{arriving-agrees, arriving-none}
use Rattle.cpa_sim.proofs.ChoiceLaws.{Picks, step-picks, step-agrees, step-frame, frame-settled, FrameIs}

pub chosen-is : (o : Option ℕ) (i : ℕ) → is_chosen o i ≡ true → o ≡ Some i
chosen-is None i e = absurd (false≢true e)
chosen-is (Some j) i e = ap Some (eqb-true j i e)

module _ (s : SystemLists) (tr : TraceLists) (t n : ℕ) (q : ReadyQueue) (d : ℕ → ℕ) (o : ℕ → Option ℕ) where
  -- the jobs and the state at the start
  abbrev pub jobs_at : ℕ → List Progress
  jobs_at i = (run s tr t).jobs i

  abbrev pub state_at : ℕ → ResourceState
  state_at r = (run s tr t).resources r

  abbrev pub chosen : ℕ → Bool
  chosen i = is_chosen (o (task_at s i).res.0) i

  abbrev pub left_at : ℕ → ℕ
  left_at i = (get_or (jobs_at i) (d i) no_job).left

  -- the same tasks run in each of n ticks from t on
  pub record SameTasksRun : Type 0 where
    pub some : 0 < n
    pub placed : (i : ℕ) → i < length s.tasks → (task_at s i).res.0 < length s.resources
    pub ordered : (i : ℕ) → i < length s.tasks → AreInOrder (d i) (jobs_at i)
    pub waiting : (i : ℕ) → i < length s.tasks → waits (jobs_at i) ≡ q.waits i
    pub arrived : (i : ℕ) → i < length s.tasks → is_queued s i ≡ true → q.waits i ≡ true → (head_of (jobs_at i)).arrival ≡ q.arrival i
    pub had : (i : ℕ) → i < length s.tasks → q.waits i ≡ true → need s tr i (d i) - (head_of (jobs_at i)).left ≡ q.received i
    pub within : (i : ℕ) → i < length s.tasks → q.waits i ≡ true → left_at i ≤ need s tr i (d i)
    pub held : (r : ℕ) → r < length s.resources → ForSome (state_at r).holder (IsOn s r)
    pub frames : (r : ℕ) → r < length s.resources → FrameWaits (kind_of s r) (state_at r) q.waits
    pub runs : (r u : ℕ) → r < length s.resources → u < n → task_after s r (state_at r) q (o r) t (phase_of tr r) u ≡ o r
    pub enough : (i : ℕ) → i < length s.tasks → chosen i ≡ true → n ≤ left_at i
    pub silent : (k u : ℕ) → 0 < u → u < n → events_at tr k (t + u) ≡ []

  module _ (g : SameTasksRun) where
    state-zero : (r : ℕ) → state_after s r (state_at r) q (o r) t (phase_of tr r) 0 ≡ state_at r
    unfolding state_after
    state-zero r = refl

    state-more : (r u : ℕ) → state_after s r (state_at r) q (o r) t (phase_of tr r) (suc u) ≡ (step s r (state_after s r (state_at r) q (o r) t (phase_of tr r) u) (got q (o r) u) (t + u) (phase_of tr r)).state
    unfolding state_after
    state-more r u = refl

    -- whoever runs waits
    pub picked : (r i : ℕ) → r < length s.resources → o r ≡ Some i → IsWaiting s r q.waits i
    picked r i less e =
        let same : (step s r (state_at r) q (t + 0) (phase_of tr r)).task ≡ o r = rw (← (state-zero r)) (g.runs r 0 less g.some) in
        (step-picks s r q (state_at r) (t + 0) (phase_of tr r) (g.held r less) (g.frames r less)).task i (same ∙ e)

    pub pending : (i : ℕ) → i < length s.tasks → q.waits i ≡ true → d i < length (jobs_at i)
    pending i less e = waits-less (d i) (jobs_at i) (g.ordered i less) (g.waiting i less ∙ e)

    pub chosen-pending : (i : ℕ) → i < length s.tasks → chosen i ≡ true → d i < length (jobs_at i)
    chosen-pending i less e =
        pending i less (picked (task_at s i).res.0 i (g.placed i less) (chosen-is (o (task_at s i).res.0) i e)).waits_now

    -- after u ticks
    pub record After (u : ℕ) : Type 0 where
      pub jobs : (i : ℕ) → i < length s.tasks → (run s tr (t + u)).jobs i ≡ cond (chosen i) (jobs_after u (t + u) (d i) (jobs_at i)) (jobs_at i)
      pub states : (r : ℕ) → r < length s.resources → (run s tr (t + u)).resources r ≡ state_after s r (state_at r) q (o r) t (phase_of tr r) u
      pub holds : (r : ℕ) → r < length s.resources → ForSome (state_after s r (state_at r) q (o r) t (phase_of tr r) u).holder (IsOn s r)
      pub frame : (r : ℕ) → r < length s.resources → FrameWaits (kind_of s r) (state_after s r (state_at r) q (o r) t (phase_of tr r) u) q.waits

    -- what a task has done in so many ticks, up to a time
    abbrev pub served_to : ℕ → ℕ → ℕ → List Progress
    served_to u time i = cond (chosen i) (jobs_after u time (d i) (jobs_at i)) (jobs_at i)

    abbrev pub served_by : ℕ → ℕ → List Progress
    served_by u i = served_to u (t + u) i

    -- how many of its jobs end then
    abbrev pub ended_by : ℕ → ℕ → ℕ
    ended_by u i = cond (chosen i) (cond (nat_le (left_at i) u) 1 0) 0

    -- which ones these are
    abbrev pub numbers_by : ℕ → ℕ → List ℕ
    numbers_by u i = range_with_len (d i) (ended_by u i)

    module _ (u : ℕ) (less : u < n) (a : After u) where
      pub still : (i : ℕ) → i < length s.tasks → waits ((run s tr (t + u)).jobs i) ≡ q.waits i
      still i there =
          elim (cases_Bool (chosen i)) [
            | inl passes ↦
                let h = chosen-pending i there passes in
                let l : u < left_at i = omega (arith, g.enough i there passes) in
                let before : waits (jobs_at i) ≡ true = waits-is (d i) (jobs_at i) (g.ordered i there) h in
                let after = waits-is (d i) (jobs_after u (t + u) (d i) (jobs_at i)) (ordered-more u (t + u) (d i) (jobs_at i) (g.ordered i there) h l) (rw (length-jobs u (t + u) (d i) (jobs_at i)) h) in
                ap waits (a.jobs i there ∙ cond-true (chosen i) _ _ passes) ∙ (after ∙ (sym before ∙ g.waiting i there))
            | inr fails ↦ ap waits (a.jobs i there ∙ cond-false (chosen i) _ _ fails) ∙ g.waiting i there
          ]

      -- the arrivals of the earliest pending jobs stay the same
      still-arrived : (i : ℕ) → i < length s.tasks → (head_of ((run s tr (t + u)).jobs i)).arrival ≡ (head_of (jobs_at i)).arrival
      still-arrived i there =
          elim (cases_Bool (chosen i)) [
            | inl passes ↦
                let h = chosen-pending i there passes in
                let l : u < left_at i = omega (arith, g.enough i there passes) in
                ap (λ js. (head_of js).arrival) (a.jobs i there ∙ cond-true (chosen i) _ _ passes) ∙ head-arrival u (t + u) (d i) (jobs_at i) (g.ordered i there) h l
            | inr fails ↦ ap (λ js. (head_of js).arrival) (a.jobs i there ∙ cond-false (chosen i) _ _ fails)
          ]

      came-first : (r : ℕ) → is_queue (kind_of s r) ≡ true → (j : ℕ) → IsWaiting s r q.waits j → (head_of ((run s tr (t + u)).jobs j)).arrival ≡ q.arrival j
      came-first r queue j w =
          let here : (task_at s j).res.0 ≡ r = eqb-true (task_at s j).res.0 r w.on.here in
          still-arrived j w.on.task ∙ g.arrived j w.on.task (ap (λ v. is_queue (kind_of s v)) here ∙ queue) w.waits_now

      -- the jobs that were complete before
      ended-before : (i : ℕ) → i < length s.tasks → ended_count ((run s tr (t + u)).jobs i) ≡ d i
      ended-before i there =
          elim (cases_Bool (chosen i)) [
            | inl passes ↦
                let h = chosen-pending i there passes in
                let l : u < left_at i = omega (arith, g.enough i there passes) in
                ap ended_count (a.jobs i there ∙ cond-true (chosen i) _ _ passes) ∙ ended-is (d i) (jobs_after u (t + u) (d i) (jobs_at i)) (ordered-more u (t + u) (d i) (jobs_at i) (g.ordered i there) h l)
            | inr fails ↦ ap ended_count (a.jobs i there ∙ cond-false (chosen i) _ _ fails) ∙ ended-is (d i) (jobs_at i) (g.ordered i there)
          ]

      -- and how many ticks they have had
      had-first : (r j : ℕ) → IsWaiting s r q.waits j → (ready_at s tr (run s tr (t + u)).jobs).received j ≡ (got q (o r) u).received j
      had-first r j w =
          let there = w.on.task in
          let here : (task_at s j).res.0 ≡ r = eqb-true (task_at s j).res.0 r w.on.here in
          let runs : is_chosen (o r) j ≡ chosen j = ap (λ v. is_chosen (o v) j) (sym here) in
          let needs = ap (need s tr j) (ended-before j there) in
          let before = g.had j there w.waits_now in
          let is = received-is q.received (o r) u j in
          elim (cases_Bool (chosen j)) [
            | inl passes ↦
                let h = chosen-pending j there passes in
                let l : u < left_at j = omega (arith, g.enough j there passes) in
                let left = ap (λ js. (head_of js).left) (a.jobs j there ∙ cond-true (chosen j) _ _ passes) ∙ head-left u (t + u) (d j) (jobs_at j) (g.ordered j there) h l in
                let head = ap (λ (job : Progress). job.left) (head-is (d j) (jobs_at j) (g.ordered j there)) in
                let few = g.within j there w.waits_now in
                omega (arith, needs, before, is, left, head, few, l, gets-chosen (o r) u j (runs ∙ passes))
            | inr fails ↦
                let left = ap (λ js. (head_of js).left) (a.jobs j there ∙ cond-false (chosen j) _ _ fails) in
                omega (arith, needs, before, is, left, gets-other (o r) u j (runs ∙ fails))
          ]

      pub choice : (r : ℕ) → r < length s.resources → choice_at s tr (t + u) (run s tr (t + u)) r ≡ step s r (state_after s r (state_at r) q (o r) t (phase_of tr r) u) (got q (o r) u) (t + u) (phase_of tr r)
      choice r there =
          choice-is s tr (t + u) r
          ∙ (ap (λ st. step s r st (ready_at s tr (run s tr (t + u)).jobs) (t + u) (phase_of tr r)) (a.states r there)
          ∙ step-agrees s r (ready_at s tr (run s tr (t + u)).jobs) (got q (o r) u) (λ j on. still j on.task) (came-first r) (had-first r) (state_after s r (state_at r) q (o r) t (phase_of tr r) u) (t + u) (phase_of tr r) (a.holds r there))

      pub task : (r : ℕ) → r < length s.resources → (choice_at s tr (t + u) (run s tr (t + u)) r).task ≡ o r
      task r there = ap (λ (c : Choice). c.task) (choice r there) ∙ g.runs r u there less

      pub work : (i : ℕ) → i < length s.tasks → served s tr (t + u) (run s tr (t + u)) i ≡ cond (chosen i) (jobs_after (u + 1) (t + u + 1) (d i) (jobs_at i)) (jobs_at i)
      work i there =
          let first = served-is s tr (t + u) i (o (task_at s i).res.0) (task (task_at s i).res.0 (g.placed i there)) in
          elim (cases_Bool (chosen i)) [
            | inl passes ↦
                let h = chosen-pending i there passes in
                let l : u < left_at i = omega (arith, g.enough i there passes) in
                first ∙ (cond-true (chosen i) _ _ passes
                ∙ (ap (serve (t + u + 1)) (a.jobs i there ∙ cond-true (chosen i) _ _ passes)
                ∙ (serve-jobs u (t + u) (t + u + 1) (d i) (jobs_at i) (g.ordered i there) h l
                ∙ sym (cond-true (chosen i) _ _ passes))))
            | inr fails ↦ first ∙ (cond-false (chosen i) _ _ fails ∙ (a.jobs i there ∙ (cond-false (chosen i) _ _ fails ∙ sym (cond-false (chosen i) _ _ fails))))
          ]

      pub ends : (i : ℕ) → i < length s.tasks → ends_in s tr (t + u) (run s tr (t + u)) i ≡ ended_by (u + 1) i
      ends i there =
          let first = ends-is s tr (t + u) i in
          elim (cases_Bool (chosen i)) [
            | inl passes ↦
                let h = chosen-pending i there passes in
                let l : u < left_at i = omega (arith, g.enough i there passes) in
                let before : ended_count ((run s tr (t + u)).jobs i) ≡ d i =
                ap ended_count (a.jobs i there ∙ cond-true (chosen i) _ _ passes) ∙ ended-is (d i) (jobs_after u (t + u) (d i) (jobs_at i)) (ordered-more u (t + u) (d i) (jobs_at i) (g.ordered i there) h l) in
                let then = ap ended_count (work i there ∙ cond-true (chosen i) _ _ passes) in
                elim (cases_lt (u + 1) (left_at i)) [
                  | inl more ↦
                      let count = ended-is (d i) (jobs_after (u + 1) (t + u + 1) (d i) (jobs_at i)) (ordered-more (u + 1) (t + u + 1) (d i) (jobs_at i) (g.ordered i there) h more) in
                      let none : nat_le (left_at i) (u + 1) ≡ false = lt-leb (left_at i) (u + 1) more in
                      rw (passes, none) (omega (arith, first, before, then, count))
                  | inr last ↦
                      let count = ended-is (suc (d i)) (jobs_after (u + 1) (t + u + 1) (d i) (jobs_at i)) (ordered-last (u + 1) (t + u + 1) (d i) (jobs_at i) (g.ordered i there) h last) in
                      let one : nat_le (left_at i) (u + 1) ≡ true = le-leb (left_at i) (u + 1) last in
                      rw (passes, one) (omega (arith, first, before, then, count))
                ]
            | inr fails ↦
                let before = ap ended_count (a.jobs i there ∙ cond-false (chosen i) _ _ fails) in
                let then = ap ended_count (work i there ∙ cond-false (chosen i) _ _ fails) in
                rw fails (omega (arith, first, before, then))
          ]

      numbers : (i : ℕ) → i < length s.tasks → ended_in s tr (t + u) (run s tr (t + u)) i ≡ numbers_by (u + 1) i
      numbers i there =
          numbers-are s tr (t + u) i ∙ (ap (λ m. range_with_len m (ends_in s tr (t + u) (run s tr (t + u)) i)) (ended-before i there) ∙ ap (range_with_len (d i)) (ends i there))

      -- the next time
      pub next-jobs : (i : ℕ) → i < length s.tasks → (run s tr (t + u + 1)).jobs i ≡ served_to (u + 1) (t + u + 1) i ++ new_jobs (need s tr i) (length (served_to (u + 1) (t + u + 1) i)) (t + u + 1) (arriving s tr (t + u + 1) (numbers_by (u + 1)) i)
      next-jobs i there =
          let more = arriving-agrees s tr (t + u + 1) i (ended_in s tr (t + u) (run s tr (t + u))) (numbers_by (u + 1)) numbers in
          jobs-next s tr (t + u) i
          ∙ (ap (λ js. js ++ new_jobs (need s tr i) (length js) (t + u + 1) (arriving s tr (t + u + 1) (ended_in s tr (t + u) (run s tr (t + u))) i)) (work i there)
          ∙ ap (λ cs. served_to (u + 1) (t + u + 1) i ++ new_jobs (need s tr i) (length (served_to (u + 1) (t + u + 1) i)) (t + u + 1) cs) more)

      settled-agrees : (r : ℕ) → r < length s.resources → (f : ℕ → ℕ) (st : ResourceState) (p : Option ℕ) → o r ≡ p → ((i : ℕ) → i < length s.tasks → f i ≡ ended_by (u + 1) i) → settled (kind_of s r) f st p ≡ settled (kind_of s r) (ended_by (u + 1)) st p
      settled-agrees r there f st None e agree = refl
      settled-agrees r there f st (Some i) e agree = rw (agree i (picked r i there e).on.task) refl

      pub next-states : (r : ℕ) → r < length s.resources → (run s tr (t + u + 1)).resources r ≡ settled (kind_of s r) (ended_by (u + 1)) (state_after s r (state_at r) q (o r) t (phase_of tr r) (u + 1)) (o r)
      next-states r there =
          state-next s tr (t + u) r
          ∙ (ap (λ p. settled (kind_of s r) (ends_in s tr (t + u) (run s tr (t + u))) (choice_at s tr (t + u) (run s tr (t + u)) r).state p) (task r there)
          ∙ (settled-agrees r there (ends_in s tr (t + u) (run s tr (t + u))) (choice_at s tr (t + u) (run s tr (t + u)) r).state (o r) refl ends
          ∙ ap (λ st. settled (kind_of s r) (ended_by (u + 1)) st (o r)) (ap (λ (c : Choice). c.state) (choice r there) ∙ rw (add-one u) (sym (state-more r u)))))

      -- nothing has ended before the last tick
      ended-none : (i : ℕ) → u + 1 < n → i < length s.tasks → ended_by (u + 1) i ≡ 0
      ended-none i more there =
          elim (cases_Bool (chosen i)) [
            | inl passes ↦
                let none : nat_le (left_at i) (u + 1) ≡ false = lt-leb (left_at i) (u + 1) (omega (arith, g.enough i there passes)) in
                rw (passes, none) refl
            | inr fails ↦ rw fails refl
          ]

      arriving-yet : (i : ℕ) → u + 1 < n → arriving s tr (t + u + 1) (numbers_by (u + 1)) i ≡ []
      arriving-yet i more =
          arriving-none s tr (t + u + 1) i (numbers_by (u + 1)) (λ j there. ap (range_with_len (d j)) (ended-none j more there))
          (λ k there. let e : t + (u + 1) ≡ t + u + 1 = omega arith in subst (λ v. events_at tr k v ≡ []) e (g.silent k (u + 1) (omega arith) more))

      settled-none : (r : ℕ) → u + 1 < n → r < length s.resources → (st : ResourceState) (p : Option ℕ) → o r ≡ p → settled (kind_of s r) (ended_by (u + 1)) st p ≡ st
      settled-none r more there st None e = refl
      settled-none r more there st (Some i) e = rw (ended-none i more (picked r i there e).on.task) refl

      next-picks : (r : ℕ) → r < length s.resources → Picks s r q.waits (step s r (state_after s r (state_at r) q (o r) t (phase_of tr r) u) (got q (o r) u) (t + u) (phase_of tr r))
      next-picks r there = step-picks s r (got q (o r) u) (state_after s r (state_at r) q (o r) t (phase_of tr r) u) (t + u) (phase_of tr r) (a.holds r there) (a.frame r there)

      pub next-holds : (r : ℕ) → r < length s.resources → ForSome (state_after s r (state_at r) q (o r) t (phase_of tr r) (suc u)).holder (IsOn s r)
      next-holds r there = rw (state-more r u) (next-picks r there).holder

      frame-waits : (r : ℕ) → r < length s.resources → (c : Choice) → FrameIs (kind_of s r) c → ForSome c.task (IsWaiting s r q.waits) → (p : Option ℕ) → c.task ≡ p → FrameWaits (kind_of s r) c.state q.waits
      frame-waits r there c is waits None e = frame-settled (kind_of s r) (λ j. 0) q.waits c None e is (λ i f z. let f' : None ≡ Some i = f in cc)
      frame-waits r there c is waits (Some i) e = frame-settled (kind_of s r) (λ j. 0) q.waits c (Some i) e is (λ j f z. (waits j (e ∙ f)).waits_now)

      next-frame : (r : ℕ) → r < length s.resources → FrameWaits (kind_of s r) (state_after s r (state_at r) q (o r) t (phase_of tr r) (suc u)) q.waits
      next-frame r there =
          let c = step s r (state_after s r (state_at r) q (o r) t (phase_of tr r) u) (got q (o r) u) (t + u) (phase_of tr r) in
          rw (state-more r u)
          (frame-waits r there c (step-frame s r (got q (o r) u) (state_after s r (state_at r) q (o r) t (phase_of tr r) u) (t + u) (phase_of tr r)) (next-picks r there).task c.task refl)

    pub after : (u : ℕ) → u < n → After u
    after zero less =
        let e : t + 0 ≡ t = omega arith in
        record {
          jobs = λ i there.
              ap (λ v. (run s tr v).jobs i) e
              ∙ elim (cases_Bool (chosen i)) [
                | inl passes ↦ sym (cond-true (chosen i) _ _ passes ∙ jobs-none (t + 0) (d i) (jobs_at i) (g.ordered i there))
                | inr fails ↦ sym (cond-false (chosen i) _ _ fails)
              ];
          states = λ r there. ap (λ v. (run s tr v).resources r) e ∙ sym (state-zero r);
          holds = λ r there. rw (state-zero r) (g.held r there);
          frame = λ r there. rw (state-zero r) (g.frames r there);
        }
    after (suc u) less =
        let a = after u (omega arith) in
        let l : u < n = omega arith in
        let more : u + 1 < n = omega arith in
        let e : t + suc u ≡ t + u + 1 = omega arith in
        let e1 : suc u ≡ u + 1 = omega arith in
        record {
          jobs = λ i there.
              let J = served_to (u + 1) (t + u + 1) i in
              rw (e, e1)
              (next-jobs u l a i there ∙ (ap (λ cs. J ++ new_jobs (need s tr i) (length J) (t + u + 1) cs) (arriving-yet u l a i more) ∙ append-nil J));
          states = λ r there. rw (e, e1) (next-states u l a r there ∙ settled-none u l a r more there (state_after s r (state_at r) q (o r) t (phase_of tr r) (u + 1)) (o r) refl);
          holds = λ r there. next-holds u l a r there;
          frame = λ r there. next-frame u l a r there;
        }

    -- after all of them
    pub landed-jobs : (i : ℕ) → i < length s.tasks → (run s tr (t + n)).jobs i ≡ served_by n i ++ new_jobs (need s tr i) (length (served_by n i)) (t + n) (arriving s tr (t + n) (numbers_by n) i)
    landed-jobs i there =
        let l : n - 1 < n = omega (arith, g.some) in
        let e : t + n ≡ t + (n - 1) + 1 = omega (arith, g.some) in
        let e1 : (n - 1) + 1 ≡ n = omega (arith, g.some) in
        let h = next-jobs (n - 1) l (after (n - 1) l) i there in
        let h' = rw (e1, ← e) at h in
        h'

    pub landed-states : (r : ℕ) → r < length s.resources → (run s tr (t + n)).resources r ≡ settled (kind_of s r) (ended_by n) (state_after s r (state_at r) q (o r) t (phase_of tr r) n) (o r)
    landed-states r there =
        let l : n - 1 < n = omega (arith, g.some) in
        let e : t + n ≡ t + (n - 1) + 1 = omega (arith, g.some) in
        let e1 : (n - 1) + 1 ≡ n = omega (arith, g.some) in
        let h = next-states (n - 1) l (after (n - 1) l) r there in
        let h' = rw (e1, ← e) at h in
        h'

    -- the choice in the last of them
    abbrev pub last-choice : ℕ → Choice
    last-choice r = step s r (state_after s r (state_at r) q (o r) t (phase_of tr r) (n - 1)) (got q (o r) (n - 1)) (t + (n - 1)) (phase_of tr r)

    pub last-state : (r : ℕ) → state_after s r (state_at r) q (o r) t (phase_of tr r) n ≡ (last-choice r).state
    last-state r =
        let e : n ≡ suc (n - 1) = omega (arith, g.some) in
        ap (λ m. state_after s r (state_at r) q (o r) t (phase_of tr r) m) e ∙ state-more r (n - 1)

    pub last-task : (r : ℕ) → r < length s.resources → (last-choice r).task ≡ o r
    last-task r there = g.runs r (n - 1) there (omega (arith, g.some))

    pub last-holds : (r : ℕ) → r < length s.resources → ForSome (state_after s r (state_at r) q (o r) t (phase_of tr r) n).holder (IsOn s r)
    last-holds r there =
        let l : n - 1 < n = omega (arith, g.some) in
        let e : suc (n - 1) ≡ n = omega (arith, g.some) in
        let h = next-holds (n - 1) l (after (n - 1) l) r there in
        rw e at h
