-- Between which places of a list those tasks stand that wait, and since when their jobs came, as jobs arrive and are complete.
use Rattle.std.proofs.Common.{◌≡◌, ℕ, zero, suc, ◌+◌, ◌<◌, ◌≤◌, Bool, true, false, List, [], ◌∷◌, length, get_or, filter, eqb, nat_le, nat_lt, Some, refl, sym, ap, subst, ◌∙◌, inl, inr, arith}
use Rattle.std.proofs.lemmas.Bool.{cases_Bool, lt-ltb, ltb-true, eqb-true, eq-eqb, false≢true}
use Rattle.cpa_units.specs.declared.places.TaskId.{TaskId}
use Rattle.cpa_model.specs.Kinds.{is_queue}
use Rattle.cpa_model.specs.SystemLists.{SystemLists, task_at, tasks_on, places_of}
use Rattle.cpa_sched.specs.Steps.{first_of, kind_of}
use Rattle.cpa_sched.specs.States.{IsOn, IsWaiting}
use Rattle.cpa_sched.specs.Urgency.{IsByUrgency}
use Rattle.cpa_sched.specs.WaitingRanges.{CameSince, HasWaitingRange, StandsWithin}
use Rattle.cpa_sched.specs.declared.orders.WaitingRange.{WaitingRange}
use Rattle.cpa_sched.proofs.StepLaws.{tasks_on-are, waiting-are, urgent_among}
use Rattle.cpa_sim.specs.declared.dispatches.Dispatch.{Dispatch}
use Rattle.cpa_sim.specs.declared.jobs.Cause.{Cause}
use Rattle.cpa_sim.specs.declared.jobs.Keeping.{Keeping}
use Rattle.cpa_sim.specs.JobQueues.{QueueCounts, has_pending, arrival_of, empty_queue, with_arrivals, served_queue}
use Rattle.cpa_sim.specs.Simulation.{queue_at, dispatch_at, runs_at, waiting, arrived, is_queued}
use Rattle.cpa_sim.specs.Arrivals.{IsWithin, AreGiven, listed}
use Rattle.cpa_sim.specs.Orders.{AreOrders, ArePlaces, AreReached, IsPlace}
use Rattle.cpa_sim.proofs.ArrivalLaws.{arrivals-none}
use Rattle.cpa_sim.proofs.CameLaws.{HasCome, arrival-served, arrival-given}

-- where one passes there is a first that does
some-first : (w : ℕ → Bool) (js : List ℕ) (p : ℕ) → p < length js → w (get_or js p 0) ≡ true → (k : ℕ) × (first_of (filter w js) ≡ Some k)
some-first w [] p there here = absurd (omega (arith, there))
some-first w (j ∷ js) zero there here = (j, rw here refl)
some-first w (j ∷ js) (suc p) there here =
    elim (cases_Bool (w j)) [
      | inl passes ↦ (j, rw passes refl)
      | inr fails ↦
          let rest = some-first w js p (omega (arith, there)) here in
          let e = rest.1 in
          (rest.0, rw fails e)
    ]

-- a task in the list of a resource is one of its tasks
listed-on : (s : SystemLists) (r : ℕ) (js : List ℕ) → IsByUrgency s r js → (p : ℕ) → p < length js → IsOn s r (get_or js p 0)
listed-on s r js by p there =
    let x = get_or js p 0 in
    let w : ℕ → Bool = λ i. eqb x i in
    let first = some-first w js p there (eq-eqb x x refl) in
    let found = urgent_among s (IsWaiting s r w) (filter w (tasks_on s r)) first.0 (waiting-are s r w (tasks_on s r) (tasks_on-are s r)) (sym (by w) ∙ first.1) in
    subst (IsOn s r) (sym (eqb-true x first.0 found.waits_now)) found.on

-- nobody waits after some ticks who didn't before
served-waits : (needs : ℕ → ℕ) (runs : Bool) (ticks now : ℕ) (queue : QueueCounts) → has_pending (served_queue needs runs ticks now queue) ≡ true → has_pending queue ≡ true
served-waits needs false ticks now queue e = e
served-waits needs true ticks now queue e =
    elim (cases_Bool (nat_le queue.left ticks)) [
      | inl ends ↦
          let e' : nat_lt (queue.done + 1) queue.count ≡ true = rw ends at e in
          let less = ltb-true (queue.done + 1) queue.count e' in
          lt-ltb queue.done queue.count (omega (arith, less))
      | inr goes ↦ rw goes at e
    ]

module _ (s : SystemLists) (orders : List (List TaskId)) (are : AreOrders s orders) where
  -- a task of a queue
  queued : (i r : ℕ) → IsOn s r i → is_queue (kind_of s r) ≡ true → is_queued s i ≡ true
  queued i r on queue = ap (λ q. is_queue (kind_of s q)) (eqb-true (task_at s i).res.0 r on.here) ∙ queue

  pub waiters-served : (needs : ℕ → ℕ → ℕ) (ticks now : ℕ) (queues next_queues : List QueueCounts) (dispatches next_dispatches : List Dispatch)
      → ((i : ℕ) → i < length s.tasks → queue_at next_queues i ≡ served_queue (needs i) (runs_at (dispatch_at dispatches (task_at s i).res.0) i) ticks now (queue_at queues i))
      → ((r : ℕ) → r < length s.resources → (dispatch_at next_dispatches r).waiters ≡ (dispatch_at dispatches r).waiters)
      → ((i : ℕ) → i < length s.tasks → is_queued s i ≡ true → HasCome (queue_at queues i))
      → AreReached s orders queues dispatches → AreReached s orders next_queues next_dispatches
  waiters-served needs ticks now queues next_queues dispatches next_dispatches served same come reached r there =
      record {
        range = λ p less waits.
            let js = places_of (listed orders r) in
            let i = get_or js p 0 in
            let on = listed-on s r js (are.by_urgency r there) p less in
            subst (λ waiters. StandsWithin js waiters p) (sym (same r there)) ((reached r there).range p less (before i on waits));
        since = λ queue i w.
            let runs = runs_at (dispatch_at dispatches (task_at s i).res.0) i in
            let is = ap arrival_of (served i w.on.task) in
            let pending = ap has_pending (sym (served i w.on.task)) ∙ w.waits_now in
            let sooner = arrival-served (needs i) runs ticks now (queue_at queues i) (come i w.on.task (queued i r w.on queue)) pending in
            let old = (reached r there).since queue i (record { on = w.on; waits_now = before i w.on w.waits_now }) in
            omega (arith, ap (λ (x : WaitingRange). x.since) (same r there), old, sooner, is);
      }
    where
      before : (i : ℕ) → IsOn s r i → waiting next_queues i ≡ true → waiting queues i ≡ true
      before i on waits = served-waits (needs i) (runs_at (dispatch_at dispatches (task_at s i).res.0) i) ticks now (queue_at queues i) (ap has_pending (sym (served i on.task)) ∙ waits)

  range-given : (places : List ℕ) → ArePlaces s orders places → (now : ℕ) (causes : ℕ → List Cause) (queues : List QueueCounts) (dispatches : List Dispatch) (next_queues : List QueueCounts) (next_dispatches : List Dispatch)
      → AreGiven s places now causes queues dispatches next_queues next_dispatches → AreReached s orders queues dispatches
      → (r : ℕ) → r < length s.resources → HasWaitingRange (places_of (listed orders r)) (waiting next_queues) (dispatch_at next_dispatches r).waiters
  range-given places stand now causes queues dispatches next_queues next_dispatches given reached r there p less waits =
      let js = places_of (listed orders r) in
      let i = get_or js p 0 in
      let on = listed-on s r js (are.by_urgency r there) p less in
      let here : (task_at s i).res.0 ≡ r = eqb-true (task_at s i).res.0 r on.here in
      elim (given.within i on.task) [
        | inl none ↦
            let queue = given.arrived i on.task ∙ (ap (λ new. with_arrivals now new (queue_at queues i)) none ∙ arrivals-none now (queue_at queues i)) in
            let at = (reached r there).range p less (ap has_pending (sym queue) ∙ waits) in
            let wide = given.unchanged r there in
            record { place = at.place; first = omega (arith, at.first, wide.first); last = omega (arith, at.last, wide.last); early = at.early; same = at.same }
        | inr within ↦
            let at = subst (λ q. IsWithin (dispatch_at next_dispatches q).waiters (get_or places i 0) now) here within in
            let spot = subst (λ q. (p : ℕ) → p < length (places_of (listed orders q)) → get_or (places_of (listed orders q)) p 0 ≡ i → IsPlace (places_of (listed orders q)) (get_or places i 0) p) here (λ p. stand i p on.task) p less refl in
            record { place = get_or places i 0; first = at.first; last = at.last; early = spot.early; same = spot.same }
      ]

  since-given : (places : List ℕ) (now : ℕ) (causes : ℕ → List Cause) (queues : List QueueCounts) (dispatches : List Dispatch) (next_queues : List QueueCounts) (next_dispatches : List Dispatch)
      → ((i : ℕ) → i < length s.tasks → is_queued s i ≡ true → HasCome (queue_at queues i))
      → AreGiven s places now causes queues dispatches next_queues next_dispatches → AreReached s orders queues dispatches
      → (r : ℕ) → r < length s.resources → CameSince s r (waiting next_queues) (arrived next_queues) (dispatch_at next_dispatches r).waiters.since
  since-given places now causes queues dispatches next_queues next_dispatches come given reached r there queue i w =
      let here : (task_at s i).res.0 ≡ r = eqb-true (task_at s i).res.0 r w.on.here in
      let since = (dispatch_at next_dispatches r).waiters.since in
      let wide = given.unchanged r there in
      let old : has_pending (queue_at queues i) ≡ true → since ≤ arrival_of (queue_at queues i) =
      λ pending. let before = (reached r there).since queue i (record { on = w.on; waits_now = pending }) in omega (arith, before, wide.since) in
      elim (given.within i w.on.task) [
        | inl none ↦
            let same = given.arrived i w.on.task ∙ (ap (λ new. with_arrivals now new (queue_at queues i)) none ∙ arrivals-none now (queue_at queues i)) in
            omega (arith, ap arrival_of same, old (ap has_pending (sym same) ∙ w.waits_now))
        | inr within ↦
            let at = subst (λ q. IsWithin (dispatch_at next_dispatches q).waiters (get_or places i 0) now) here within in
            let is = given.arrived i w.on.task in
            let later = arrival-given now since (causes i) (queue_at queues i) (come i w.on.task (queued i r w.on queue)) at.since old (ap has_pending (sym is) ∙ w.waits_now) in
            omega (arith, ap arrival_of is, later)
      ]

  pub waiters-given : (places : List ℕ) → ArePlaces s orders places → (now : ℕ) (causes : ℕ → List Cause) (queues : List QueueCounts) (dispatches : List Dispatch) (next_queues : List QueueCounts) (next_dispatches : List Dispatch)
      → ((i : ℕ) → i < length s.tasks → is_queued s i ≡ true → HasCome (queue_at queues i))
      → AreGiven s places now causes queues dispatches next_queues next_dispatches → AreReached s orders queues dispatches → AreReached s orders next_queues next_dispatches
  waiters-given places stand now causes queues dispatches next_queues next_dispatches come given reached r there =
      record {
        range = λ p less waits. range-given places stand now causes queues dispatches next_queues next_dispatches given reached r there p less waits;
        since = λ queue i w. since-given places now causes queues dispatches next_queues next_dispatches come given reached r there queue i w;
      }

  -- as long as there are no jobs
  pub waiters-empty : (keeping : ℕ → Keeping) (needs : ℕ → ℕ) (queues : List QueueCounts) (dispatches : List Dispatch) → ((i : ℕ) → i < length s.tasks → queue_at queues i ≡ empty_queue (keeping i) (needs i)) → AreReached s orders queues dispatches
  waiters-empty keeping needs queues dispatches empty r there =
      record {
        range = λ p less waits.
            let js = places_of (listed orders r) in
            absurd (idle (get_or js p 0) (listed-on s r js (are.by_urgency r there) p less) waits);
        since = λ queue i w. absurd (idle i w.on w.waits_now);
      }
    where
      idle : (i : ℕ) → IsOn s r i → waiting queues i ≡ true → ⊥
      idle i on waits =
          let none : has_pending (empty_queue (keeping i) (needs i)) ≡ false = refl in
          false≢true (sym none ∙ (ap has_pending (sym (empty i on.task)) ∙ waits))
