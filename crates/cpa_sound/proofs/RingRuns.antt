-- A round robin resource in a run takes turns.
use Rattle.std.proofs.Common.{◌≡◌, ℕ, zero, suc, ◌+◌, ◌-◌, ◌<◌, ◌≤◌, List, [], ◌∷◌, Bool, true, false, ltb, ◌&&◌, Option, Some, None, refl, sym, ◌∙◌, inl, inr, ◌⊎◌, arith, subst, ap}
use Rattle.std.specs.List.{filter}
use Rattle.std.proofs.lemmas.Bool.{cases_Bool, cond-true, cond-false, and_parts, ltb-true}
use Rattle.cpa_model.specs.declared.entries.Kind.TheVariants.{RoundRobin}
use Rattle.cpa_model.specs.SystemLists.{SystemLists, task_at, slot_of, tasks_on}
use Rattle.cpa_trace.specs.Trace.{TraceLists}
use Rattle.cpa_sched.specs.Steps.{ResourceState, Choice, first_of, last_of, ring_after, take_turn, round_robin_step, first_state}
use Rattle.cpa_sched.specs.Steps.{kind_of}
use Rattle.cpa_sim.specs.Run.{choice_at, ends_in, run}
use Rattle.cpa_sched.specs.States.{IsOn, IsWaiting}
use Rattle.cpa_sched.proofs.OptionLaws.{some-injective}
use Rattle.cpa_sched.proofs.StepLaws.{tasks_on-are, waiting-are, ring_after-are, first_is, last_is}
use Rattle.cpa_sound.proofs.StepLaws.{IsIn, in_tasks_on}
use Rattle.cpa_sound.proofs.ChoiceLaws.{waiting_at, state_at, chosen_at, choice-by_kind, ring-next_at}
use Rattle.cpa_sim.proofs.RunLaws.{state-zero, state-suc}

some_last : (js : List ℕ) (j : ℕ) → IsIn j js → (k : ℕ) × (last_of js ≡ Some k)
some_last [] j h = absurd h
some_last (l ∷ js) j h = last_among (last_of js) refl
  where
    last_among : (o : Option ℕ) → last_of js ≡ o → (k : ℕ) × (last_of (l ∷ js) ≡ Some k)
    last_among None same = (l, rw same refl)
    last_among (Some k) same = (k, rw same refl)

-- what a round robin step does where h holds the turn
module _ (s : SystemLists) (r : ℕ) (st : ResourceState) (w : ℕ → Bool) (h : ℕ) where
  step-on : (w h && ltb 0 st.left) ≡ true → round_robin_step s r st w (Some h) ≡ record { task = Some h; state = record { holder = Some h; left = st.left - 1 } }
  step-on e = cond-true _ _ _ e

  step-over : (w h && ltb 0 st.left) ≡ false → round_robin_step s r st w (Some h) ≡ take_turn s st (first_of (filter w (ring_after s r h)))
  step-over e = cond-false _ _ _ e

module _ (s : SystemLists) (tr : TraceLists) (r : ℕ) (kind : kind_of s r ≡ RoundRobin) where
  ring-choice : (t h : ℕ) → (state_at s tr t r).holder ≡ Some h → choice_at s tr t (run s tr t) r ≡ round_robin_step s r (state_at s tr t r) (waiting_at s tr t) (Some h)
  ring-choice t h e = choice-by_kind s tr t r RoundRobin kind ∙ ap (round_robin_step s r (state_at s tr t r) (waiting_at s tr t)) e

  ring-next : (t : ℕ) → state_at s tr (suc t) r ≡ (choice_at s tr t (run s tr t) r).state
  ring-next t = state-suc s tr t r ∙ rw kind (ring-next_at (ends_in s tr t (run s tr t)) (choice_at s tr t (run s tr t) r).state (chosen_at s tr t r))

  pub record GoesOnAt (t h : ℕ) : Type 0 where
    pub waits_still : waiting_at s tr t h ≡ true
    pub some_left : 0 < (state_at s tr t r).left
    pub chosen : chosen_at s tr t r ≡ Some h
    pub holder : (state_at s tr (suc t) r).holder ≡ Some h
    pub left : (state_at s tr (suc t) r).left + 1 ≡ (state_at s tr t r).left

  pub record PassesAt (t h c : ℕ) : Type 0 where
    pub over : (waiting_at s tr t h && ltb 0 (state_at s tr t r).left) ≡ false
    pub first : first_of (filter (waiting_at s tr t) (ring_after s r h)) ≡ Some c
    pub chosen : chosen_at s tr t r ≡ Some c
    pub holder : (state_at s tr (suc t) r).holder ≡ Some c
    pub left : (state_at s tr (suc t) r).left ≡ slot_of (task_at s c).turn - 1

  pub record RestsAt (t h : ℕ) : Type 0 where
    pub nobody : first_of (filter (waiting_at s tr t) (ring_after s r h)) ≡ None
    pub chosen : chosen_at s tr t r ≡ None
    pub holder : (state_at s tr (suc t) r).holder ≡ Some h
    pub left : (state_at s tr (suc t) r).left ≡ (state_at s tr t r).left

  passing : (t h : ℕ) → (state_at s tr t r).holder ≡ Some h → (waiting_at s tr t h && ltb 0 (state_at s tr t r).left) ≡ false → (o : Option ℕ) → first_of (filter (waiting_at s tr t) (ring_after s r h)) ≡ o → ((c : ℕ) × PassesAt t h c) ⊎ RestsAt t h
  passing t h e over (Some c) first =
      let choice = ring-choice t h e ∙ (step-over s r (state_at s tr t r) (waiting_at s tr t) h over ∙ ap (take_turn s (state_at s tr t r)) first) in
      let next = ring-next t ∙ ap (λ (x : Choice). x.state) choice in
      inl (
        c,
        record {
          over = over;
          first = first;
          chosen = ap (λ (x : Choice). x.task) choice;
          holder = ap (λ (x : ResourceState). x.holder) next;
          left = ap (λ (x : ResourceState). x.left) next;
        },
      )
  passing t h e over None first =
      let choice = ring-choice t h e ∙ (step-over s r (state_at s tr t r) (waiting_at s tr t) h over ∙ ap (take_turn s (state_at s tr t r)) first) in
      let next = ring-next t ∙ ap (λ (x : Choice). x.state) choice in
      inr (record {
        nobody = first;
        chosen = ap (λ (x : Choice). x.task) choice;
        holder = ap (λ (x : ResourceState). x.holder) next ∙ e;
        left = ap (λ (x : ResourceState). x.left) next;
      })

  pub ring_cases : (t h : ℕ) → (state_at s tr t r).holder ≡ Some h → GoesOnAt t h ⊎ (((c : ℕ) × PassesAt t h c) ⊎ RestsAt t h)
  ring_cases t h e =
      elim (cases_Bool (waiting_at s tr t h && ltb 0 (state_at s tr t r).left)) [
        | inl on ↦
            let choice = ring-choice t h e ∙ step-on s r (state_at s tr t r) (waiting_at s tr t) h on in
            let next = ring-next t ∙ ap (λ (x : Choice). x.state) choice in
            let parts = and_parts (waiting_at s tr t h) (ltb 0 (state_at s tr t r).left) on in
            let some : 0 < (state_at s tr t r).left = ltb-true 0 (state_at s tr t r).left parts.1 in
            let less = ap (λ (x : ResourceState). x.left) next in
            inl (record {
              waits_still = parts.0;
              some_left = some;
              chosen = ap (λ (x : Choice). x.task) choice;
              holder = ap (λ (x : ResourceState). x.holder) next;
              left = omega (arith, less, some);
            })
        | inr over ↦ inr (passing t h e over (first_of (filter (waiting_at s tr t) (ring_after s r h))) refl)
      ]

  -- who holds the turn
  pub record Held (t : ℕ) : Type 0 where
    pub who : ℕ
    pub is : (state_at s tr t r).holder ≡ Some who
    pub on : IsOn s r who
    pub within : (state_at s tr t r).left ≤ slot_of (task_at s who).turn

  pub next_on : (t h c : ℕ) → IsOn s r h → PassesAt t h c → IsWaiting s r (waiting_at s tr t) c
  next_on t h c on p =
      first_is (IsWaiting s r (waiting_at s tr t)) (filter (waiting_at s tr t) (ring_after s r h)) c (waiting-are s r (waiting_at s tr t) (ring_after s r h) (ring_after-are s r h on.task)) p.first

  module _ (i : ℕ) (i_on : IsOn s r i) where
    pub held : (t : ℕ) → Held t
    held zero =
        let start = state-zero s tr r ∙ ap (first_state s r) kind in
        let last = some_last (tasks_on s r) i (in_tasks_on s r i i_on) in
        let empty = ap (λ (x : ResourceState). x.left) start in
        record {
          who = last.0;
          is = ap (λ (x : ResourceState). x.holder) start ∙ last.1;
          on = last_is (IsOn s r) (tasks_on s r) last.0 (tasks_on-are s r) last.1;
          within = omega (arith, empty);
        }
    held (suc t) =
        let h = held t in
        elim (ring_cases t h.who h.is) [
          | inl on ↦ record { who = h.who; is = on.holder; on = h.on; within = omega (arith, on.left, h.within) }
          | inr o ↦ elim o [
            | inl p ↦ record { who = p.0; is = p.1.holder; on = (next_on t h.who p.0 h.on p.1).on; within = omega (arith, p.1.left) }
            | inr rest ↦ record { who = h.who; is = rest.holder; on = h.on; within = omega (arith, rest.left, h.within) }
          ]
        ]

    pub ring-waits : (t j : ℕ) → chosen_at s tr t r ≡ Some j → IsWaiting s r (waiting_at s tr t) j
    ring-waits t j e =
        let h = held t in
        elim (ring_cases t h.who h.is) [
          | inl on ↦
              let same = some-injective h.who j (sym on.chosen ∙ e) in
              subst (IsWaiting s r (waiting_at s tr t)) same (record { on = h.on; waits_now = on.waits_still })
          | inr o ↦ elim o [
            | inl p ↦
                let same = some-injective p.0 j (sym p.1.chosen ∙ e) in
                subst (IsWaiting s r (waiting_at s tr t)) same (next_on t h.who p.0 h.on p.1)
            | inr rest ↦ let none = rest.chosen in cc
          ]
        ]
