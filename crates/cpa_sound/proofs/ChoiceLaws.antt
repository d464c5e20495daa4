-- What is chosen in a run, kind by kind, and the next state of a resource.
use Rattle.std.proofs.Common.{◌≡◌, ℕ, zero, suc, ◌+◌, ◌-◌, ◌%◌, ◌<◌, ◌≤◌, ◌⊎◌, Bool, true, eqb, Option, Some, None, refl, sym, ◌∙◌, inl, inr, arith, subst, ap}
use Rattle.std.specs.List.{filter}
use Rattle.std.proofs.lemmas.Bool.{cases_Bool, eqb-true, eq-eqb, false≢true}
use Rattle.cpa_model.specs.declared.entries.Kind.{Kind}
use Rattle.cpa_model.specs.declared.entries.Kind.TheVariants.{Preemptive, RoundRobin, Tdma, Can, Fifo, Ceiling}
use Rattle.cpa_model.specs.SystemLists.{SystemLists, task_at, cycle_of, tasks_on}
use Rattle.cpa_trace.specs.Trace.{TraceLists, phase_of}
use Rattle.cpa_sched.specs.Steps.{ResourceState, Choice, most_urgent, owner_at, if_waiting, region_of, within_region, preemptive_step, can_step, fifo_step, choose, kind_of, step}
use Rattle.cpa_sched.specs.Least.{ComesBefore, least_by}
use Rattle.cpa_sched.specs.Locks.{urgency_of}
use Rattle.cpa_sched.proofs.LeastLaws.{chosen-waits as least-waits, chosen-first as least-first, chosen-some as least-some}
use Rattle.cpa_sim.specs.Run.{head_of, waits, ready_at, is_chosen, choice_at, runs_in, ends_in, settled, run}
use Rattle.cpa_sound.proofs.JobLaws.{waits-less, less-waits}
use Rattle.cpa_sim.proofs.JobCount.{ended-suc, length-suc}
use Rattle.cpa_sound.proofs.ArrivalLaws.{ends_in-is}
use Rattle.cpa_sched.specs.States.{IsOn, IsWaiting}
use Rattle.cpa_sched.proofs.OptionLaws.{some-injective}
use Rattle.cpa_sched.proofs.FifoLaws.{fifo-waits, fifo-first, fifo-busy}
use Rattle.cpa_sched.proofs.StepLaws.{tasks_on-are, waiting-are, owner_is, if_waiting-is}
use Rattle.cpa_sim.proofs.RunLaws.{state-zero, state-suc}
use Rattle.cpa_sound.proofs.StepLaws.{IsMostUrgent, urgent_is}

pub chosen-some : (o : Option ℕ) (i : ℕ) → is_chosen o i ≡ true → o ≡ Some i
chosen-some None i e = absurd (false≢true e)
chosen-some (Some j) i e = ap Some (eqb-true j i e)

pub some-chosen : (o : Option ℕ) (i : ℕ) → o ≡ Some i → is_chosen o i ≡ true
some-chosen o i e = rw e (eq-eqb i i refl)

-- the next state of a CAN resource
can-next_at : (bit : ℕ) (ends : ℕ → ℕ) (st : ResourceState) (o : Option ℕ) (j : ℕ) → st.holder ≡ o → (settled (Can bit) ends st o).holder ≡ Some j → (o ≡ Some j) × (ends j ≡ 0)
can-next_at bit ends st None j same e = cc
can-next_at bit ends st (Some i) j same e =
    elim (cases_Bool (eqb (ends i) 0)) [
      | inl none ↦
          let e' = rw none at e in
          let at_j : Some i ≡ Some j = sym same ∙ e' in
          (at_j, subst (λ l. ends l ≡ 0) (some-injective i j at_j) (eqb-true (ends i) 0 none))
      | inr some ↦ let e' = rw some at e in cc
    ]

can-kept_at : (bit : ℕ) (ends : ℕ → ℕ) (st : ResourceState) (j : ℕ) → st.holder ≡ Some j → ends j ≡ 0 → (settled (Can bit) ends st (Some j)).holder ≡ Some j
can-kept_at bit ends st j same none = rw (eq-eqb (ends j) 0 none) same

can_step-holder : (st : ResourceState) (o urgent : Option ℕ) → st.holder ≡ o → (can_step st o urgent).state.holder ≡ (can_step st o urgent).task
can_step-holder st (Some h) urgent e = e
can_step-holder st None urgent e = refl

can_step-goes_on : (st : ResourceState) (o urgent : Option ℕ) (h : ℕ) → o ≡ Some h → (can_step st o urgent).task ≡ Some h
can_step-goes_on st o urgent h e = rw e refl

can_step-starts : (st : ResourceState) (o urgent : Option ℕ) → o ≡ None → (can_step st o urgent).task ≡ urgent
can_step-starts st o urgent e = rw e refl

-- ---- regions

-- a state within a region is of its task, and some of the region is left
within-is : (h n j : ℕ) → (within_region h n).holder ≡ Some j → (h ≡ j) × (0 < n) × ((within_region h n).left ≡ n)
within-is h zero j e = cc
within-is h (suc n) j e = (some-injective h j e, omega arith, refl)

-- a region of a task that holds its resource after a tick went on in it, or began in it
abbrev pub WentOn : SystemLists → ResourceState → ResourceState → ℕ → Type 0
WentOn s before after j =
    ((before.holder ≡ Some j) × (after.left + 1 ≡ before.left)) ⊎ ((before.holder ≡ None) × (after.left + 1 ≡ region_of s j))

preemptive_step-within : (s : SystemLists) (st : ResourceState) (o urgent : Option ℕ) (j : ℕ) → st.holder ≡ o → (preemptive_step s st o urgent).state.holder ≡ Some j → ((preemptive_step s st o urgent).task ≡ Some j) × WentOn s st (preemptive_step s st o urgent).state j
preemptive_step-within s st (Some h) urgent j same e =
    let w = within-is h (st.left - 1) j e in
    (ap Some w.0, inl (same ∙ ap Some w.0, omega (arith, w.1, w.2)))
preemptive_step-within s st None None j same e = cc
preemptive_step-within s st None (Some k) j same e =
    let w = within-is k (region_of s k - 1) j e in
    let same_region : region_of s k ≡ region_of s j = ap (region_of s) w.0 in
    (ap Some w.0, inr (same, omega (arith, w.1, w.2, same_region)))

preemptive_step-goes_on : (s : SystemLists) (st : ResourceState) (o urgent : Option ℕ) (h : ℕ) → o ≡ Some h → (preemptive_step s st o urgent).task ≡ Some h
preemptive_step-goes_on s st o urgent h e = rw e refl

preemptive_step-starts : (s : SystemLists) (st : ResourceState) (o urgent : Option ℕ) → o ≡ None → (preemptive_step s st o urgent).task ≡ urgent
preemptive_step-starts s st o None e = rw e refl
preemptive_step-starts s st o (Some j) e = rw e refl

-- a region that goes on is of a job that isn't complete
region-settled : (ends : ℕ → ℕ) (st : ResourceState) (o : Option ℕ) (j : ℕ) → (settled Preemptive ends st o).holder ≡ Some j → (settled Preemptive ends st o ≡ st) × ((i : ℕ) → o ≡ Some i → ends i ≡ 0)
region-settled ends st None j e = (refl, λ i chosen. cc)
region-settled ends st (Some i) j e =
    elim (cases_Bool (eqb (ends i) 0)) [
      | inl none ↦ (rw none refl, λ k chosen. subst (λ l. ends l ≡ 0) (some-injective i k chosen) (eqb-true (ends i) 0 none))
      | inr some ↦ let e' = rw some at e in cc
    ]

-- nothing changes when a job is complete, but within regions and on CAN
pub ring-next_at : (ends : ℕ → ℕ) (st : ResourceState) (o : Option ℕ) → settled RoundRobin ends st o ≡ st
ring-next_at ends st None = refl
ring-next_at ends st (Some i) = elim (cases_Bool (eqb (ends i) 0)) [ inl none ↦ rw none refl | inr some ↦ rw some refl ]

module _ (s : SystemLists) (tr : TraceLists) where
  abbrev pub waiting_at : ℕ → ℕ → Bool
  waiting_at t i = waits ((run s tr t).jobs i)

  abbrev pub state_at : ℕ → ℕ → ResourceState
  state_at t r = (run s tr t).resources r

  abbrev pub chosen_at : ℕ → ℕ → Option ℕ
  chosen_at t r = (choice_at s tr t (run s tr t) r).task

  -- the choice by the rule of the kind
  pub choice-by_kind : (t r : ℕ) (k : Kind) → kind_of s r ≡ k → choice_at s tr t (run s tr t) r ≡ choose s r k (state_at t r) (ready_at s tr (run s tr t).jobs) t (phase_of tr r)
  unfolding choice_at step
  choice-by_kind t r k e = rw e refl

  pub runs-chosen : (t i : ℕ) → runs_in s tr t (run s tr t) i ≡ true → chosen_at t (task_at s i).res.0 ≡ Some i
  unfolding runs_in
  runs-chosen t i e = chosen-some (chosen_at t (task_at s i).res.0) i e

  pub chosen-runs : (t r i : ℕ) → IsOn s r i → chosen_at t r ≡ Some i → runs_in s tr t (run s tr t) i ≡ true
  unfolding runs_in
  chosen-runs t r i on e =
      let here = eqb-true (task_at s i).res.0 r on.here in
      rw here (some-chosen (chosen_at t r) i e)

  -- a task that waits and doesn't end goes on waiting
  pub still_waits : (t i : ℕ) → waiting_at t i ≡ true → ends_in s tr t (run s tr t) i ≡ 0 → waiting_at (suc t) i ≡ true
  still_waits t i w none =
      less-waits ((run s tr (suc t)).jobs i)
      (omega (arith, waits-less ((run s tr t).jobs i) w, ended-suc s tr t i, length-suc s tr t i, ends_in-is s tr t i))

  -- ---- by priority

  pub urgent_waits : (t r j : ℕ) → most_urgent s (filter (waiting_at t) (tasks_on s r)) ≡ Some j → IsMostUrgent s (IsWaiting s r (waiting_at t)) (filter (waiting_at t) (tasks_on s r)) j
  urgent_waits t r j e =
      urgent_is s (IsWaiting s r (waiting_at t)) (filter (waiting_at t) (tasks_on s r)) (waiting-are s r (waiting_at t) (tasks_on s r) (tasks_on-are s r)) j e

  -- whoever holds a resource runs, and else the most urgent of those that wait: so both wait
  module _ (r : ℕ) (first : (state_at 0 r).holder ≡ None) (goes_on : (t h : ℕ) → (state_at t r).holder ≡ Some h → chosen_at t r ≡ Some h) (starts : (t : ℕ) → (state_at t r).holder ≡ None → chosen_at t r ≡ most_urgent s (filter (waiting_at t) (tasks_on s r))) (next : (t j : ℕ) → (state_at (suc t) r).holder ≡ Some j → (chosen_at t r ≡ Some j) × (ends_in s tr t (run s tr t) j ≡ 0)) where
    chosen-waits_at : (t j : ℕ) → ((j : ℕ) → (state_at t r).holder ≡ Some j → IsWaiting s r (waiting_at t) j) → (o : Option ℕ) → (state_at t r).holder ≡ o → chosen_at t r ≡ Some j → IsWaiting s r (waiting_at t) j
    chosen-waits_at t j held (Some h) same e = held j (same ∙ (sym (goes_on t h same) ∙ e))
    chosen-waits_at t j held None same e = (urgent_waits t r j (sym (starts t same) ∙ e)).one

    holder-waits : (t j : ℕ) → (state_at t r).holder ≡ Some j → IsWaiting s r (waiting_at t) j
    holder-waits zero j e = let none = first in cc
    holder-waits (suc t) j e =
        let before = next t j e in
        let w = chosen-waits_at t j (holder-waits t) (state_at t r).holder refl before.0 in
        record { on = w.on; waits_now = still_waits t j w.waits_now before.1 }

    chosen-waits : (t j : ℕ) → chosen_at t r ≡ Some j → IsWaiting s r (waiting_at t) j
    chosen-waits t j e = chosen-waits_at t j (holder-waits t) (state_at t r).holder refl e

  -- ---- regions

  module _ (r : ℕ) (kind : kind_of s r ≡ Preemptive) where
    region-choice : (t : ℕ) → choice_at s tr t (run s tr t) r ≡ preemptive_step s (state_at t r) (state_at t r).holder (most_urgent s (filter (waiting_at t) (tasks_on s r)))
    region-choice t = choice-by_kind t r Preemptive kind

    -- a job within a region goes on
    pub region-goes_on : (t h : ℕ) → (state_at t r).holder ≡ Some h → chosen_at t r ≡ Some h
    region-goes_on t h e =
        ap (λ (c : Choice). c.task) (region-choice t) ∙ preemptive_step-goes_on s (state_at t r) (state_at t r).holder (most_urgent s (filter (waiting_at t) (tasks_on s r))) h e

    -- else the most urgent begins one
    pub region-starts : (t : ℕ) → (state_at t r).holder ≡ None → chosen_at t r ≡ most_urgent s (filter (waiting_at t) (tasks_on s r))
    region-starts t e =
        ap (λ (c : Choice). c.task) (region-choice t) ∙ preemptive_step-starts s (state_at t r) (state_at t r).holder (most_urgent s (filter (waiting_at t) (tasks_on s r))) e

    -- who holds the resource after a tick ran in it, isn't complete, and either held it before or began a region
    pub region-next : (t j : ℕ) → (state_at (suc t) r).holder ≡ Some j → ((chosen_at t r ≡ Some j) × (ends_in s tr t (run s tr t) j ≡ 0)) × WentOn s (state_at t r) (state_at (suc t) r) j
    region-next t j e =
        let after : ResourceState = (choice_at s tr t (run s tr t) r).state in
        let e' = rw (state-suc s tr t r, kind) at e in
        let stays = region-settled (ends_in s tr t (run s tr t)) after (chosen_at t r) j e' in
        let now : state_at (suc t) r ≡ after = state-suc s tr t r ∙ (rw kind stays.0) in
        let here : after ≡ (preemptive_step s (state_at t r) (state_at t r).holder (most_urgent s (filter (waiting_at t) (tasks_on s r)))).state = ap (λ (c : Choice). c.state) (region-choice t) in
        let holds = ap (λ (st : ResourceState). st.holder) (sym (now ∙ here)) ∙ e in
        let w = preemptive_step-within s (state_at t r) (state_at t r).holder (most_urgent s (filter (waiting_at t) (tasks_on s r))) j refl holds in
        let chosen : chosen_at t r ≡ Some j = ap (λ (c : Choice). c.task) (region-choice t) ∙ w.0 in
        ((chosen, stays.1 j chosen), subst (λ (st : ResourceState). WentOn s (state_at t r) st j) (sym (now ∙ here)) w.1)

    pub region-first : (state_at 0 r).holder ≡ None
    region-first = rw (state-zero s tr r, kind) refl

    pub region-held : (t j : ℕ) → (state_at t r).holder ≡ Some j → IsWaiting s r (waiting_at t) j
    region-held = holder-waits r region-first region-goes_on region-starts (λ t j e. (region-next t j e).0)

    pub region-waits : (t j : ℕ) → chosen_at t r ≡ Some j → IsWaiting s r (waiting_at t) j
    region-waits = chosen-waits r region-first region-goes_on region-starts (λ t j e. (region-next t j e).0)

  -- ---- CAN

  module _ (r bit : ℕ) (kind : kind_of s r ≡ Can bit) where
    can-choice : (t : ℕ) → choice_at s tr t (run s tr t) r ≡ can_step (state_at t r) (state_at t r).holder (most_urgent s (filter (waiting_at t) (tasks_on s r)))
    can-choice t = choice-by_kind t r (Can bit) kind

    pub can-goes_on : (t h : ℕ) → (state_at t r).holder ≡ Some h → chosen_at t r ≡ Some h
    can-goes_on t h e = ap (λ (c : Choice). c.task) (can-choice t) ∙ can_step-goes_on (state_at t r) (state_at t r).holder (most_urgent s (filter (waiting_at t) (tasks_on s r))) h e

    pub can-starts : (t : ℕ) → (state_at t r).holder ≡ None → chosen_at t r ≡ most_urgent s (filter (waiting_at t) (tasks_on s r))
    can-starts t e = ap (λ (c : Choice). c.task) (can-choice t) ∙ can_step-starts (state_at t r) (state_at t r).holder (most_urgent s (filter (waiting_at t) (tasks_on s r))) e

    can-holder : (t : ℕ) → (choice_at s tr t (run s tr t) r).state.holder ≡ chosen_at t r
    can-holder t =
        ap (λ (c : Choice). c.state.holder) (can-choice t)
        ∙ (can_step-holder (state_at t r) (state_at t r).holder (most_urgent s (filter (waiting_at t) (tasks_on s r))) refl ∙ sym (ap (λ (c : Choice). c.task) (can-choice t)))

    pub can-next : (t j : ℕ) → (state_at (suc t) r).holder ≡ Some j → (chosen_at t r ≡ Some j) × (ends_in s tr t (run s tr t) j ≡ 0)
    can-next t j e =
        let e' = rw (state-suc s tr t r, kind) at e in
        can-next_at bit (ends_in s tr t (run s tr t)) (choice_at s tr t (run s tr t) r).state (chosen_at t r) j (can-holder t) e'

    pub can-kept : (t j : ℕ) → chosen_at t r ≡ Some j → ends_in s tr t (run s tr t) j ≡ 0 → (state_at (suc t) r).holder ≡ Some j
    can-kept t j e none =
        rw (state-suc s tr t r, kind, e) (can-kept_at bit (ends_in s tr t (run s tr t)) (choice_at s tr t (run s tr t) r).state j (can-holder t ∙ e) none)

    pub can-first : (state_at 0 r).holder ≡ None
    can-first = rw (state-zero s tr r, kind) refl

    -- a started frame waits
    pub can-held : (t j : ℕ) → (state_at t r).holder ≡ Some j → IsWaiting s r (waiting_at t) j
    can-held = holder-waits r can-first can-goes_on can-starts can-next

    pub can-waits : (t j : ℕ) → chosen_at t r ≡ Some j → IsWaiting s r (waiting_at t) j
    can-waits = chosen-waits r can-first can-goes_on can-starts can-next

  -- ---- TDMA

  module _ (r gap : ℕ) (kind : kind_of s r ≡ Tdma gap) where
    unfoldable pub owner : ℕ → Option ℕ
    owner t = owner_at s (tasks_on s r) ((t + phase_of tr r) % cycle_of s r)

    pub tdma-choice : (t : ℕ) → chosen_at t r ≡ if_waiting (waiting_at t) (owner t)
    unfolding owner
    tdma-choice t = ap (λ (c : Choice). c.task) (choice-by_kind t r (Tdma gap) kind)

    pub tdma-waits : (t j : ℕ) → chosen_at t r ≡ Some j → IsWaiting s r (waiting_at t) j
    unfolding owner
    tdma-waits t j e =
        let is = if_waiting-is (waiting_at t) (owner t) j (sym (tdma-choice t) ∙ e) in
        record { on = owner_is s (IsOn s r) (tasks_on s r) ((t + phase_of tr r) % cycle_of s r) j (tasks_on-are s r) is.0; waits_now = is.1 }

    pub tdma-runs : (t j : ℕ) → owner t ≡ Some j → waiting_at t j ≡ true → chosen_at t r ≡ Some j
    tdma-runs t j e w = tdma-choice t ∙ rw (e, w) refl

  -- ---- queues

  -- when the earliest pending job of a task came
  abbrev pub since_at : ℕ → ℕ → ℕ
  since_at t j = (head_of ((run s tr t).jobs j)).arrival

  module _ (r : ℕ) (kind : kind_of s r ≡ Fifo) where
    queue-choice : (t : ℕ) → chosen_at t r ≡ (fifo_step s r (state_at t r) (ready_at s tr (run s tr t).jobs)).task
    queue-choice t = ap (λ (c : Choice). c.task) (choice-by_kind t r Fifo kind)

    pub queue-waits : (t j : ℕ) → chosen_at t r ≡ Some j → IsWaiting s r (waiting_at t) j
    queue-waits t j e = fifo-waits s r (state_at t r) (ready_at s tr (run s tr t).jobs) j (sym (queue-choice t) ∙ e)

    -- no job that is pending came before the one that runs
    pub queue-first : (t k j : ℕ) → chosen_at t r ≡ Some k → IsWaiting s r (waiting_at t) j → since_at t k ≤ since_at t j
    queue-first t k j e w = no_later (fifo-first s r (state_at t r) (ready_at s tr (run s tr t).jobs) k j (sym (queue-choice t) ∙ e) w)
      where
        no_later : ComesBefore (since_at t) k j → since_at t k ≤ since_at t j
        no_later (inl less) = omega (arith, less)
        no_later (inr same) = omega (arith, same.0)

    -- while a job is pending, one runs
    pub queue-busy : (t j : ℕ) → IsWaiting s r (waiting_at t) j → chosen_at t r ≡ None → ⊥
    queue-busy t j w none = fifo-busy s r (state_at t r) (ready_at s tr (run s tr t).jobs) j w (sym (queue-choice t) ∙ none)

  -- ---- ceilings

  module _ (r : ℕ) (kind : kind_of s r ≡ Ceiling) where
    -- how urgent the job of each task is
    abbrev ranked : ℕ → ℕ → ℕ
    ranked t = urgency_of s (ready_at s tr (run s tr t).jobs).received

    ceiling-choice : (t : ℕ) → chosen_at t r ≡ least_by (urgency_of s (ready_at s tr (run s tr t).jobs).received) (filter (waiting_at t) (tasks_on s r))
    ceiling-choice t = ap (λ (c : Choice). c.task) (choice-by_kind t r Ceiling kind)

    pub ceiling-waits : (t j : ℕ) → chosen_at t r ≡ Some j → IsWaiting s r (waiting_at t) j
    ceiling-waits t j e = least-waits s r (ranked t) (waiting_at t) j (sym (ceiling-choice t) ∙ e)

    -- no job that is pending is more urgent than the one that runs
    pub ceiling-first : (t k j : ℕ) → chosen_at t r ≡ Some k → IsWaiting s r (waiting_at t) j → urgency_of s (ready_at s tr (run s tr t).jobs).received k ≤ urgency_of s (ready_at s tr (run s tr t).jobs).received j
    ceiling-first t k j e w = no_less (ranked t) k j (least-first s r (ranked t) (waiting_at t) k j (sym (ceiling-choice t) ∙ e) w)
      where
        no_less : (number : ℕ → ℕ) (k j : ℕ) → ComesBefore number k j → number k ≤ number j
        no_less number k j (inl less) = omega (arith, less)
        no_less number k j (inr same) = omega (arith, same.0)

    -- while a job is pending, one runs
    pub ceiling-busy : (t j : ℕ) → IsWaiting s r (waiting_at t) j → chosen_at t r ≡ None → ⊥
    ceiling-busy t j w none = least-some s r (ranked t) (waiting_at t) j w (sym (ceiling-choice t) ∙ none)
