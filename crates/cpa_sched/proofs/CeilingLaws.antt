-- Ceilings: whom the rule chooses, and that it stays with a job up to the next end of one of its sections.
use Rattle.std.proofs.Common.{◌≡◌, ℕ, ◌<◌, filter, Option, Some, None, refl, sym, ap, ◌∙◌}
use Rattle.std.specs.Option.{ForSome}
use Rattle.cpa_model.specs.SystemLists.{SystemLists, tasks_on}
use Rattle.cpa_sched.specs.Least.{least_by, ComesBefore}
use Rattle.cpa_sched.specs.Locks.{urgency_of}
use Rattle.cpa_sched.specs.Steps.{ResourceState, ReadyQueue, Choice, ceiling_step}
use Rattle.cpa_sched.specs.States.{IsWaiting}
use Rattle.cpa_sched.specs.Stretches.{got, ticks_of_section}
use Rattle.cpa_sched.proofs.LeastLaws.{none-least, chosen-waits, chosen-first, chosen-some}
use Rattle.cpa_sched.proofs.LockLaws.{active-stays}
use Rattle.cpa_sched.proofs.StretchLaws.{choice}

module _ (s : SystemLists) (r : ℕ) (st : ResourceState) (q : ReadyQueue) where
  pub ceiling-waits : ForSome (ceiling_step s r st q).task (IsWaiting s r q.waits)
  ceiling-waits = chosen-waits s r (urgency_of s q.received) q.waits

  pub ceiling-first : (k j : ℕ) → (ceiling_step s r st q).task ≡ Some k → IsWaiting s r q.waits j → ComesBefore (urgency_of s q.received) k j
  ceiling-first = chosen-first s r (urgency_of s q.received) q.waits

  pub ceiling-busy : (j : ℕ) → IsWaiting s r q.waits j → (ceiling_step s r st q).task ≡ None → ⊥
  ceiling-busy = chosen-some s r (urgency_of s q.received) q.waits

  stays-with : (most n : ℕ) (o : Option ℕ) → (ceiling_step s r st q).task ≡ o → n < ticks_of_section s most o q.received → ceiling_step s r st (got q o n) ≡ ceiling_step s r st q
  stays-with most n None e less =
      let none = none-least (urgency_of s q.received) (filter q.waits (tasks_on s r)) e in
      ap (λ js. choice (least_by (urgency_of s (got q None n).received) js) st) none ∙ sym (ap (λ o. choice o st) e)
  stays-with most n (Some j) e less = ap (λ o. choice o st) (active-stays s r q most j n e less ∙ sym e)

  pub ceiling-stays : (most n : ℕ) → n < ticks_of_section s most (ceiling_step s r st q).task q.received → ceiling_step s r st (got q (ceiling_step s r st q).task n) ≡ ceiling_step s r st q
  ceiling-stays most n less = stays-with most n (ceiling_step s r st q).task refl less

  -- so does a stretch of which the task is known
  pub ceiling-goes_on : (most n : ℕ) (task : Option ℕ) → choice task st ≡ ceiling_step s r st q → n < ticks_of_section s most task q.received → ceiling_step s r st (got q task n) ≡ ceiling_step s r st q
  ceiling-goes_on most n task e less = stays-with most n task (sym (ap (λ (x : Choice). x.task) e)) less
