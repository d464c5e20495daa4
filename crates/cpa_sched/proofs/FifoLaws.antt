-- FIFO: whom the rule chooses, and that it stays with a job until that is complete.
use Rattle.std.proofs.Common.{◌≡◌, ℕ, ◌<◌, ◌≤◌, ◌⊎◌, List, [], ◌∷◌, true, filter, Option, Some, None, refl, sym, ap, ◌∙◌, inl, inr, arith}
use Rattle.std.specs.List.{AllByRecursion}
use Rattle.std.proofs.lemmas.Bool.{eqb-true, cond-false, le-ltb}
use Rattle.cpa_model.specs.declared.entries.Kind.{Kind}
use Rattle.cpa_model.specs.declared.entries.Kind.TheVariants.{Fifo}
use Rattle.cpa_model.specs.declared.entries.Turn.{Turn}
use Rattle.cpa_model.specs.declared.entries.Turn.TheVariants.{Priority, Slot, Queued}
use Rattle.cpa_model.specs.Rules.{IsSystem, TurnFits}
use Rattle.std.specs.Option.{ForSome}
use Rattle.cpa_model.specs.Kinds.{is_queue}
use Rattle.cpa_model.specs.SystemLists.{SystemLists, task_at, resource_at, no_task, priority_of, tasks_on}
use Rattle.cpa_sched.specs.Least.{least_by, ComesBefore}
use Rattle.cpa_sched.specs.Steps.{ResourceState, ReadyQueue, first_of, more_urgent, most_urgent, kind_of, fifo_step}
use Rattle.cpa_sched.specs.States.{IsOn, IsWaiting}
use Rattle.cpa_sched.specs.Stretches.{got}
use Rattle.cpa_sched.specs.Fifo.{IsLaterFor}
use Rattle.cpa_sched.specs.Urgency.{IsByUrgency}
use Rattle.cpa_sched.specs.WaitingRanges.{CameSince}
use Rattle.cpa_sched.proofs.LeastOfList.{least-soonest}
use Rattle.cpa_sched.proofs.StepLaws.{all_filter, first_is, tasks_on-are, waiting-are}
use Rattle.cpa_sched.proofs.LeastLaws.{all_map, chosen-waits, chosen-first, chosen-some, least-stays}

module _ (s : SystemLists) (r : ℕ) (st : ResourceState) (q : ReadyQueue) where
  pub fifo-waits : ForSome (fifo_step s r st q).task (IsWaiting s r q.waits)
  fifo-waits = chosen-waits s r q.arrival q.waits

  pub fifo-first : (k j : ℕ) → (fifo_step s r st q).task ≡ Some k → IsWaiting s r q.waits j → ComesBefore q.arrival k j
  fifo-first = chosen-first s r q.arrival q.waits

  pub fifo-busy : (j : ℕ) → IsWaiting s r q.waits j → (fifo_step s r st q).task ≡ None → ⊥
  fifo-busy = chosen-some s r q.arrival q.waits

  pub fifo-again : (n : ℕ) → fifo_step s r st (got q (fifo_step s r st q).task n) ≡ fifo_step s r st q
  fifo-again n = refl

-- it stays with a job
pub fifo-stays : (s : SystemLists) (r : ℕ) (st : ResourceState) (q p : ReadyQueue) (k : ℕ) → (fifo_step s r st q).task ≡ Some k → IsLaterFor s r k q p → (fifo_step s r st p).task ≡ Some k
fifo-stays s r st q p k e later =
    least-stays s r k q.arrival p.arrival q.waits p.waits e
    (record {
      waits = later.waits;
      falls = let same = later.same in omega (arith, same);
      others = λ j waits. go j (later.others j waits);
    })
  where
    go : (j : ℕ) → ((q.waits j ≡ true) × (p.arrival j ≡ q.arrival j)) ⊎ (q.arrival k < p.arrival j) → (j ≡ k) ⊎ (((q.waits j ≡ true) × (q.arrival j ≤ p.arrival j)) ⊎ (q.arrival k < p.arrival j))
    go j (inl was) = let same = was.1 in inr (inl (was.0, omega (arith, same)))
    go j (inr new) = inr (inr new)

-- ---- tasks of queues have no priorities, so that the most urgent of some is the first

queued-priority : (k : Kind) (t : Turn) → k ≡ Fifo → TurnFits k t → priority_of t ≡ 0
queued-priority Fifo Queued e fits = refl
queued-priority Fifo (Priority number) e fits = absurd fits
queued-priority Fifo (Slot ticks) e fits = refl
queued-priority k t e fits = cc

module _ (s : SystemLists) (r : ℕ) (rules : IsSystem s) (kind : kind_of s r ≡ Fifo) where
  none-urgent : (j : ℕ) → IsOn s r j → priority_of (task_at s j).turn ≡ 0
  none-urgent j on =
      let here : (resource_at s (task_at s j).res.0).kind ≡ Fifo = ap (λ q. (resource_at s q).kind) (eqb-true (task_at s j).res.0 r on.here) ∙ kind in
      queued-priority (resource_at s (task_at s j).res.0).kind (task_at s j).turn here (rules.tasks j no_task on.task).turn_fits

  foremost : (j : ℕ) (o : Option ℕ) → priority_of (task_at s j).turn ≡ 0 → more_urgent s j o ≡ j
  foremost j None none = refl
  foremost j (Some k) none = cond-false _ k j (le-ltb (priority_of (task_at s k).turn) (priority_of (task_at s j).turn) (omega (arith, none)))

  urgent-foremost : (js : List ℕ) → AllByRecursion (IsOn s r) js → most_urgent s js ≡ first_of js
  urgent-foremost [] all = refl
  urgent-foremost (j ∷ js) all = ap Some (foremost j (most_urgent s js) (none-urgent j all.0))

  module _ (st : ResourceState) (q : ReadyQueue) (js : List ℕ) (ranking : IsByUrgency s r js) where
    waiters : AllByRecursion (IsWaiting s r q.waits) (filter q.waits (tasks_on s r))
    waiters = waiting-are s r q.waits (tasks_on s r) (tasks_on-are s r)

    all-here : AllByRecursion (IsOn s r) (filter q.waits (tasks_on s r))
    all-here = all_filter q.waits (IsOn s r) (IsOn s r) (λ j passes on. on) (tasks_on s r) (tasks_on-are s r)

    pub first-here : first_of (filter q.waits js) ≡ first_of (filter q.waits (tasks_on s r))
    first-here = ranking q.waits ∙ urgent-foremost (filter q.waits (tasks_on s r)) all-here

    -- the first of them that waits
    pub first-waits : (k : ℕ) → first_of (filter q.waits js) ≡ Some k → IsWaiting s r q.waits k
    first-waits k e = first_is (IsWaiting s r q.waits) (filter q.waits (tasks_on s r)) k waiters (sym first-here ∙ e)

    -- where no job came before its job it is served
    pub fifo-soonest : (k since : ℕ) → first_of (filter q.waits js) ≡ Some k → CameSince s r q.waits q.arrival since → q.arrival k ≤ since → (fifo_step s r st q).task ≡ Some k
    fifo-soonest k since e came soon =
        least-soonest q.arrival (filter q.waits (tasks_on s r)) k (sym first-here ∙ e)
        (all_map (IsWaiting s r q.waits) (λ j. q.arrival k ≤ q.arrival j) (λ j w. omega (arith, soon, came (ap is_queue kind) j w)) (filter q.waits (tasks_on s r)) waiters)

    -- where none of them waits nobody runs
    pub fifo-none : first_of (filter q.waits js) ≡ None → (fifo_step s r st q).task ≡ None
    fifo-none e = empty (filter q.waits (tasks_on s r)) (sym first-here ∙ e)
      where
        empty : (ks : List ℕ) → first_of ks ≡ None → least_by q.arrival ks ≡ None
        empty [] none = refl
        empty (k ∷ ks) none = cc

-- no job that waits came before the one that is served
pub fifo-since : (s : SystemLists) (r : ℕ) (st : ResourceState) (q : ReadyQueue) (k : ℕ) → (fifo_step s r st q).task ≡ Some k → CameSince s r q.waits q.arrival (q.arrival k)
fifo-since s r st q k e queue j waits = sooner (fifo-first s r st q k j e waits)
  where
    sooner : ComesBefore q.arrival k j → q.arrival k ≤ q.arrival j
    sooner (inl less) = omega (arith, less)
    sooner (inr same) = let equal = same.0 in omega (arith, equal)
