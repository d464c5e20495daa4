-- Which job gets the ticks of a jump.
use Rattle.std.proofs.Common.{◌≡◌, ℕ, zero, suc, ◌+◌, ◌-◌, ◌<◌, ◌≤◌, length, List, [], ◌∷◌, Bool, true, cond, eqb, nat_le, Option, Some, None, option_map, refl, sym, ◌∙◌, ap, subst, inl, inr, arith, add-one}
use Rattle.std.proofs.lemmas.Bool.{cases_Bool, eqb-true, eq-eqb, cond-true}
use Rattle.std.proofs.lemmas.Option.{none-some}
use Rattle.cpa_model.specs.SystemLists.{SystemLists, place_of, task_at}
use Rattle.cpa_trace.specs.Trace.{TraceLists, phase_of, need}
use Rattle.cpa_sched.specs.Steps.{ReadyQueue, Choice}
use Rattle.cpa_sched.specs.States.{IsOn}
use Rattle.cpa_sim.specs.declared.dispatches.Dispatch.{Dispatch}
use Rattle.cpa_sim.specs.declared.source_cursors.SourceCursor.{SourceCursor}
use Rattle.cpa_sim.specs.declared.jobs.Cause.{Cause}
use Rattle.cpa_sim.specs.declared.jobs.Served.{Served}
use Rattle.cpa_sim.specs.Run.{Progress, is_open, ready_at, is_chosen, choice_at, run}
use Rattle.cpa_sim.specs.Arrivals.{AreGiven}
use Rattle.cpa_sim.specs.JobQueues.{QueueCounts, worked, served_queue}
use Rattle.cpa_sim.proofs.JobLists.{AreInOrder}
use Rattle.cpa_sim.specs.Simulation.{queue_at, dispatch_at, runner, runs_at, ready, IsServed, IsAt}
use Rattle.cpa_sim.specs.Served.{first_open, numbered, served_at}
use Rattle.cpa_sim.specs.LastServed.{last_of, ran_by, RanWithin}
use Rattle.cpa_sim.proofs.QueueLaws.{ordered-more}
use Rattle.cpa_sim.proofs.SameTaskLaws.{SameTasksRun, chosen, jobs_at, left_at, picked, chosen-pending, after, task}
use Rattle.cpa_sim.proofs.InvariantLaws.{CanRun, holds-always}
use Rattle.cpa_sim.proofs.ChoiceLaws.{step-picks}
use Rattle.cpa_sim.proofs.RunLaws.{choice-is}
use Rattle.cpa_sim.proofs.SimLaws.{IsJump, done_at, done-is, same_tasks-run, who-waits}

pub first-open : (d : ℕ) (js : List Progress) → AreInOrder d js → first_open js ≡ d
first-open zero [] a = refl
first-open zero (job ∷ js) a = let e : is_open job ≡ true = rw a.0.open_now refl in rw e refl
first-open (suc d) [] a = absurd a
first-open (suc d) (job ∷ js) a = rw (a.0, first-open d js a.1) (add-one d)

pub served-is : (s : SystemLists) (tr : TraceLists) (t r : ℕ) (o : Option ℕ) → (choice_at s tr t (run s tr t) r).task ≡ o → served_at s tr t r ≡ option_map (numbered (λ i. first_open ((run s tr t).jobs i))) o
unfolding served_at
served-is s tr t r o e = rw e refl

-- whoever gets a tick is one of the resource's tasks
pub served-on : (s : SystemLists) (tr : TraceLists) → CanRun s tr → (t r : ℕ) (j : Served) → r < length s.resources → served_at s tr t r ≡ Some j → IsOn s r j.task.0
served-on s tr can t r j there got =
    of-choice (choice_at s tr t (run s tr t) r).task refl (sym (served-is s tr t r (choice_at s tr t (run s tr t) r).task refl) ∙ got)
  where
    of-choice : (o : Option ℕ) → (choice_at s tr t (run s tr t) r).task ≡ o → option_map (numbered (λ i. first_open ((run s tr t).jobs i))) o ≡ Some j → IsOn s r j.task.0
    of-choice None chosen e = absurd (none-some j e)
    of-choice (Some i) chosen e =
        let k = holds-always s tr can t in
        let q : ReadyQueue = ready_at s tr (run s tr t).jobs in
        let p = step-picks s r q ((run s tr t).resources r) t (phase_of tr r) (k.held r there) (k.frames r there) in
        let on = (p.task i (ap (λ (c : Choice). c.task) (sym (choice-is s tr t r)) ∙ chosen)).on in
        let job : Served = numbered (λ i. first_open ((run s tr t).jobs i)) i in
        let same : job ≡ j = cc in
        subst (λ (x : Served). IsOn s r x.task.0) same on

numbered-agree : (f g : ℕ → ℕ) (o : Option ℕ) → ((i : ℕ) → o ≡ Some i → f i ≡ g i) → option_map (numbered f) o ≡ option_map (numbered g) o
numbered-agree f g None agree = refl
numbered-agree f g (Some i) agree = ap (λ n. let made : Served = record { task = record { 0 = i }; job = n } in Some made) (agree i refl)

last-worked : (needs : ℕ → ℕ) (ticks now : ℕ) (queue : QueueCounts) → (worked needs ticks now queue).done - cond (nat_le queue.left ticks) 1 0 ≡ queue.done
last-worked needs ticks now queue =
    elim (cases_Bool (nat_le queue.left ticks)) [
      | inl e ↦ rw e (omega arith)
      | inr e ↦ rw e (omega arith)
    ]

-- who runs on a resource is chosen there
passes-is : (o : ℕ → Option ℕ) (q r i : ℕ) → eqb q r ≡ true → o r ≡ Some i → is_chosen (o q) i ≡ true
passes-is o q r i same e = rw (eqb-true q r same, e) (eq-eqb i i refl)

module _ (s : SystemLists) (tr : TraceLists) (t n : ℕ) (q : ReadyQueue) (d : ℕ → ℕ) (o : ℕ → Option ℕ) (g : SameTasksRun s tr t n q d o) where
  -- in each of the ticks the earliest pending job is the one that was at first
  order-in : (u i : ℕ) → u < n → i < length s.tasks → chosen s tr t n q d o i ≡ true → AreInOrder (d i) ((run s tr (t + u)).jobs i)
  order-in u i less there passes =
      let a = after s tr t n q d o g u less in
      let h = chosen-pending s tr t n q d o g i there passes in
      let l : u < left_at s tr t n q d o i = omega (arith, g.enough i there passes) in
      let e = a.jobs i there ∙ cond-true (chosen s tr t n q d o i) _ _ passes in
      rw e (ordered-more u (t + u) (d i) (jobs_at s tr t n q d o i) (g.ordered i there) h l)

  pub served-in : (r u : ℕ) → r < length s.resources → u < n → served_at s tr (t + u) r ≡ option_map (numbered d) (o r)
  served-in r u there less =
      let a = after s tr t n q d o g u less in
      served-is s tr (t + u) r (o r) (task s tr t n q d o g u less a r there)
      ∙ numbered-agree (λ i. first_open ((run s tr (t + u)).jobs i)) d (o r)
      (λ i e.
      let p = picked s tr t n q d o g r i there e in
      let passes : chosen s tr t n q d o i ≡ true = passes-is o (task_at s i).res.0 r i p.on.here e in
      first-open (d i) ((run s tr (t + u)).jobs i) (order-in u i less p.on.task passes))

-- ---- as the simulator has it

module _ (s : SystemLists) (tr : TraceLists) (can : CanRun s tr) (t : ℕ) (keeping : Bool) (queues : List QueueCounts) (dispatches : List Dispatch) (cursors : List SourceCursor) (at : IsAt s tr t keeping queues dispatches cursors) (n : ℕ) (ran : List Dispatch) (jump : IsJump s tr t queues dispatches cursors n ran)
    (served_queues : List QueueCounts) (served : (i : ℕ) → i < length s.tasks → queue_at served_queues i ≡ served_queue (need s tr i) (runs_at (dispatch_at ran (task_at s i).res.0) i) n (t + n) (queue_at queues i))
    (served_dispatches : List Dispatch) (serves : (r : ℕ) → r < length s.resources → IsServed s r queues n (dispatch_at ran r) (dispatch_at served_dispatches r))
    (places : List ℕ) (causes : ℕ → List Cause) (next_queues : List QueueCounts) (next_dispatches : List Dispatch) (given : AreGiven s places (t + n) causes served_queues served_dispatches next_queues next_dispatches) where
  -- the job that ran on a resource
  last-is : (r i : ℕ) → r < length s.resources → runner (dispatch_at ran r) ≡ Some i → last_of (queue_at next_queues i) (dispatch_at next_dispatches r).ends ≡ done_at s tr t i
  last-is r i there e =
      let w = who-waits s tr can t keeping queues dispatches cursors at n ran jump r i there e in
      let passes : runs_at (dispatch_at ran (task_at s i).res.0) i ≡ true = passes-is (λ q. runner (dispatch_at ran q)) (task_at s i).res.0 r i w.on.here e in
      let ends : (dispatch_at next_dispatches r).ends ≡ nat_le (queue_at queues i).left n = (given.unchanged r there).ends ∙ (serves r there).ends i e in
      let done : (queue_at next_queues i).done ≡ (worked (need s tr i) n (t + n) (queue_at queues i)).done =
      ap (λ (l : QueueCounts). l.done) (given.arrived i w.on.task)
      ∙ (ap (λ (l : QueueCounts). l.done) (served i w.on.task) ∙ ap (λ b. (served_queue (need s tr i) b n (t + n) (queue_at queues i)).done) passes) in
      ap (λ b. (queue_at next_queues i).done - cond b 1 0) ends
      ∙ (ap (λ m. m - cond (nat_le (queue_at queues i).left n) 1 0) done ∙ (last-worked (need s tr i) n (t + n) (queue_at queues i) ∙ done-is s tr can t keeping queues dispatches cursors at i w.on.task))

  runner-is : (r : ℕ) → r < length s.resources → runner (dispatch_at next_dispatches r) ≡ runner (dispatch_at ran r)
  runner-is r there = ap (option_map place_of) ((given.unchanged r there).running ∙ (serves r there).running)

  -- who gets each tick of the jump
  pub jump-ran : (r u : ℕ) → r < length s.resources → t ≤ u → u < t + n → served_at s tr u r ≡ ran_by next_queues next_dispatches r
  jump-ran r u there from before =
      let e : t + (u - t) ≡ u = omega arith in
      let g = same_tasks-run s tr can t keeping queues dispatches cursors at n ran jump in
      let h = served-in s tr t n (ready s tr queues) (done_at s tr t) (λ r. runner (dispatch_at ran r)) g r (u - t) there (omega arith) in
      let h' : served_at s tr u r ≡ option_map (numbered (done_at s tr t)) (runner (dispatch_at ran r)) = rw e at h in
      h'
      ∙ (sym (numbered-agree (λ i. last_of (queue_at next_queues i) (dispatch_at next_dispatches r).ends) (done_at s tr t) (runner (dispatch_at ran r)) (λ i o. last-is r i there o))
      ∙ ap (option_map (numbered (λ i. last_of (queue_at next_queues i) (dispatch_at next_dispatches r).ends))) (sym (runner-is r there)))

  pub jump-within : RanWithin next_queues next_dispatches
  jump-within r i there e =
      let less : r < length s.resources = omega (arith, there, given.count_dispatches) in
      let w = who-waits s tr can t keeping queues dispatches cursors at n ran jump r i less (sym (runner-is r less) ∙ e) in
      omega (arith, given.count_queues, w.on.task)
