-- Who runs by the rule of ceilings, and that no two jobs are above one level at once.
use Rattle.std.proofs.Common.{◌≡◌, ℕ, ◌+◌, ◌*◌, ◌≤◌, ◌<◌, ◌⊎◌, List, sym, inl, inr, arith, subst}
use Rattle.std.proofs.lemmas.Bool.{cases_lt}
use Rattle.cpa_model.specs.Locks.{Section}
use Rattle.cpa_sound.specs.Course.{Course}
use Rattle.cpa_sound.proofs.Serving.{IsPending}
use Rattle.cpa_sound.proofs.FifoLaws.{runs-pending}
use Rattle.cpa_sound.proofs.Sections.{had, Runs, urgency_at, IsServed, KeepsCeilings}
use Rattle.cpa_sound.proofs.UrgencyLaws.{urgent-some}
use Rattle.cpa_sound.proofs.HadLaws.{idle-had, had-pending}
use Rattle.cpa_sound.proofs.OneHolder.{at_most_one}

module _ (course : ℕ → Course) (best worst priority : ℕ → ℕ) (sections : ℕ → List Section) (on : ℕ → Type 0) (rule : KeepsCeilings course best worst priority sections on) where
  -- where a task runs, it is the one that is served
  runs-served : (t j : ℕ) → on j → Runs (course j) t → IsServed course priority sections on t j
  runs-served t j here ran =
      let one = rule.serves t j here (runs-pending (course j) (best j) (worst j) (rule.order j here) t ran) in
      subst (IsServed course priority sections on t) (sym (one.2.alone j here ran)) one.2

  pub runs-one : (t j k : ℕ) → on j → on k → Runs (course j) t → Runs (course k) t → j ≡ k
  runs-one t j k on_j on_k ran_j ran_k = (runs-served t k on_k ran_k).alone j on_j ran_j

  -- whoever runs is at least as urgent as each pending job
  pub runs-urgent : (t j k : ℕ) → on j → on k → Runs (course j) t → IsPending (course k) t → urgency_at course priority sections t j ≤ urgency_at course priority sections t k
  runs-urgent t j k on_j on_k ran waits = (runs-served t j on_j ran).first k on_k waits

  pub decide : (t j : ℕ) → Runs (course j) t ⊎ (¬ Runs (course j) t)
  decide t j =
      elim (cases_lt ((course j).received t) ((course j).received (t + 1))) [
        | inl ran ↦ inl ran
        | inr idle ↦ inr (λ ran. omega (arith, ran, idle))
      ]

  module _ (p : ℕ) where
    -- a job is above a level
    abbrev pub IsAbove : ℕ → ℕ → Type 0
    IsAbove t j = urgency_at course priority sections t j ≤ 2 * p

    -- one of those tasks that aren't above it by their own priority
    abbrev pub IsBelow : ℕ → Type 0
    IsBelow j = on j × (p ≤ priority j)

    above-some : (t j : ℕ) → IsBelow j → IsAbove t j → 0 < had (course j) t
    above-some t j low hot = urgent-some (priority j) p (had (course j) t) (sections j) low.1 hot

    pub above-kept : (t j : ℕ) → on j → ¬ Runs (course j) t → IsAbove (t + 1) j → IsAbove t j
    above-kept t j here idle hot = rw (idle-had (course j) (best j) (worst j) (rule.order j here) t idle) at hot

    begins : (t j k : ℕ) → IsBelow j → IsBelow k → Runs (course j) t → IsAbove t k → IsAbove t j
    begins t j k low_j low_k ran hot =
        let waits = had-pending (course k) (best k) (worst k) (rule.order k low_k.0) t (above-some t k low_k hot) in
        omega (arith, hot, runs-urgent t j k low_j.0 low_k.0 ran waits)

    none_at_first : (j : ℕ) → IsBelow j → ¬ IsAbove 0 j
    none_at_first j low hot = let none = (rule.order j low.0).none_received in omega (arith, none, above-some 0 j low hot)

    pub above-one : (t j k : ℕ) → IsBelow j → IsBelow k → IsAbove t j → IsAbove t k → j ≡ k
    above-one =
        at_most_one IsBelow (λ t j. Runs (course j) t) IsAbove none_at_first decide (λ t j low. above-kept t j low.0)
        (λ t j k low_j low_k. runs-one t j k low_j.0 low_k.0) begins
