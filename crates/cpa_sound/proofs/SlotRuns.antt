-- A TDMA resource in a run gives each task its slot in each cycle.
use Rattle.std.proofs.Common.{◌≡◌, ℕ, zero, suc, ◌+◌, ◌-◌, ◌%◌, ◌<◌, ◌≤◌, length, List, [], ◌∷◌, Bool, true, cond, eqb, refl, sym, ◌∙◌, inl, inr, ◌⊎◌, arith, ap}
use Rattle.std.specs.List.{AllByRecursion, filter, range_with_len, sum_by}
use Rattle.std.proofs.lemmas.Bool.{cases_lt, cases_Bool, cond-true, cond-false, eq-eqb, ne_eqb}
use Rattle.std.proofs.lemmas.List.Sums.{sum_by-cons}
use Rattle.std.proofs.Math.Nat.{add-mod_right, mod-eq_of_lt}
use Rattle.cpa_model.specs.declared.entries.Kind.TheVariants.{Tdma}
use Rattle.cpa_model.specs.SystemLists.{SystemLists, task_at, resource_of, slot_of, cycle_of, gap_of, is_on, tasks_on}
use Rattle.cpa_sound.proofs.Serving.{work, IsPending}
use Rattle.cpa_trace.specs.Trace.{TraceLists, phase_of, Obeys}
use Rattle.cpa_model.specs.Rules.{IsSystem}
use Rattle.cpa_sound.proofs.RuleLaws.{slot-some}
use Rattle.cpa_sched.specs.Steps.{owner_at}
use Rattle.cpa_sim.specs.Run.{is_chosen}
use Rattle.cpa_sound.specs.RunCourse.{received_before, course_of}
use Rattle.cpa_sound.proofs.KeepsLaws.{RunsBySlots}
use Rattle.cpa_sound.proofs.CourseLaws.{work-zero, work-suc, work-one}
use Rattle.cpa_sched.proofs.StepLaws.{all_filter, all_range}
use Rattle.cpa_sound.proofs.RunLaws.{received-runs}
use Rattle.cpa_sound.proofs.StepLaws.{owner-here, owner-later}
use Rattle.cpa_sound.proofs.ChoiceLaws.{chosen-some, chosen-runs, owner, tdma-runs}
use Rattle.cpa_sound.proofs.KindRuns.{order, pending-waits, on_own}

-- ---- sums over ticks (`work f n` is the sum of the first n numbers of f)

sum-ext : (f g : ℕ → ℕ) (n : ℕ) → ((p : ℕ) → p < n → f p ≡ g p) → work f n ≡ work g n
sum-ext f g zero h = work-zero f ∙ sym (work-zero g)
sum-ext f g (suc n) h = omega (arith, work-suc f n, work-suc g n, sum-ext f g n (λ p l. h p (omega arith)), h n (omega arith))

sum-shift : (f : ℕ → ℕ) (a b : ℕ) → work f (a + b) ≡ work f a + work (λ p. f (a + p)) b
sum-shift f a zero = let e : a + 0 ≡ a = omega arith in rw e (omega (arith, work-zero (λ p. f (a + p))))
sum-shift f a (suc b) =
    let e : a + suc b ≡ suc (a + b) = omega arith in
    rw e (omega (arith, work-suc f (a + b), sum-shift f a b, work-suc (λ p. f (a + p)) b))

sum-none : (f : ℕ → ℕ) (n : ℕ) → ((p : ℕ) → p < n → f p ≡ 0) → work f n ≡ 0
sum-none f zero h = work-zero f
sum-none f (suc n) h = omega (arith, work-suc f n, sum-none f n (λ p l. h p (omega arith)), h n (omega arith))

sum-ones : (f : ℕ → ℕ) (n : ℕ) → ((p : ℕ) → p < n → f p ≡ 1) → work f n ≡ n
sum-ones f zero h = work-zero f
sum-ones f (suc n) h = omega (arith, work-suc f n, sum-ones f n (λ p l. h p (omega arith)), h n (omega arith))

-- ---- a number that comes again after a cycle has the same sum over each cycle

module _ (g : ℕ → ℕ) (cycle : ℕ) where
  again_at : ℕ → ℕ → ℕ
  again_at m v = g ((m + v) % cycle)

  cycle-next : (m : ℕ) → work (again_at (m + 1)) cycle ≡ work (again_at m) cycle
  unfolding again_at
  cycle-next m =
      let front = sum-shift (again_at m) 1 cycle in
      let back = work-suc (again_at m) cycle in
      let e : 1 + cycle ≡ suc cycle = omega arith in
      let front' = rw e at front in
      let one = work-suc (again_at m) 0 in
      let none = work-zero (again_at m) in
      let first : again_at m 0 ≡ g (m % cycle) = let z : m + 0 ≡ m = omega arith in ap (λ k. g (k % cycle)) z in
      let last : again_at m cycle ≡ g (m % cycle) = ap g (add-mod_right m cycle) in
      let shifted = sum-ext (λ p. again_at m (1 + p)) (again_at (m + 1)) cycle (λ p l. let z : m + (1 + p) ≡ (m + 1) + p = omega arith in ap (λ k. g (k % cycle)) z) in
      let one' : suc 0 ≡ 1 = omega arith in
      omega (arith, front', back, rw one' at one, none, first, last, shifted)

  cycle-any : (m : ℕ) → work (again_at m) cycle ≡ work (again_at 0) cycle
  cycle-any zero = refl
  cycle-any (suc m) = let e : suc m ≡ m + 1 = omega arith in rw e (cycle-next m ∙ cycle-any m)

  pub cycle-sum : (m : ℕ) → work (λ v. g ((m + v) % cycle)) cycle ≡ work g cycle
  unfolding again_at
  cycle-sum m =
      cycle-any m ∙ sum-ext (again_at 0) g cycle (λ p l. let z : 0 + p ≡ p = omega arith in ap (λ k. g (k % cycle)) z ∙ ap g (mod-eq_of_lt l))

-- ---- the slot of a task in a cycle

-- i is in a list, once
IsOnce : ℕ → List ℕ → Type 0
IsOnce i [] = ⊥
IsOnce i (j ∷ js) = ((j ≡ i) × AllByRecursion (λ k. k ≡ i → ⊥) js) ⊎ ((j ≡ i → ⊥) × IsOnce i js)

once_in : (p : ℕ → Bool) (i : ℕ) → p i ≡ true → (a m : ℕ) → a ≤ i → i < a + m → IsOnce i (filter p (range_with_len a m))
unfolding IsOnce
once_in p i passes a zero low high = absurd (omega arith)
once_in p i passes a (suc m) low high =
    elim (cases_lt a i) [
      | inr here ↦
          let e : i ≡ a = omega arith in
          rw (rw e at passes)
          (inl (sym e, all_filter p (λ k. k ≡ i → ⊥) (λ k. k ≡ i → ⊥) (λ k kept ne. ne) (range_with_len (a + 1) m) (all_range (λ k. k ≡ i → ⊥) (a + 1) m (λ j l h e'. omega arith))))
      | inl later ↦
          elim (cases_Bool (p a)) [
            | inl kept ↦ rw kept (inr (λ e. omega arith, once_in p i passes (a + 1) m (omega arith) (omega arith)))
            | inr dropped ↦ rw dropped (once_in p i passes (a + 1) m (omega arith) (omega arith))
          ]
    ]

module _ (s : SystemLists) (i : ℕ) where
  -- 1 where the place is in the slot of i
  mine : List ℕ → ℕ → ℕ
  mine js place = cond (is_chosen (owner_at s js place) i) 1 0

  abbrev slot : ℕ → ℕ
  slot j = slot_of (task_at s j).turn

  mine-here : (j : ℕ) (js : List ℕ) (place : ℕ) → place < slot j → mine (j ∷ js) place ≡ cond (eqb j i) 1 0
  unfolding mine
  mine-here j js place h = ap (λ o. cond (is_chosen o i) 1 0) (owner-here s j js place h)

  mine-later : (j : ℕ) (js : List ℕ) (place : ℕ) → mine (j ∷ js) (slot j + place) ≡ mine js place
  unfolding mine
  mine-later j js place =
      let e : slot j + place - slot j ≡ place = omega arith in
      ap (λ o. cond (is_chosen o i) 1 0) (owner-later s j js (slot j + place) (omega arith)) ∙ ap (λ p. cond (is_chosen (owner_at s js p) i) 1 0) e

  mine-parts : (j : ℕ) (js : List ℕ) (rest : ℕ) → work (mine (j ∷ js)) (slot j + rest) ≡ work (mine (j ∷ js)) (slot j) + work (mine js) rest
  mine-parts j js rest =
      omega (arith, sum-shift (mine (j ∷ js)) (slot j) rest, sum-ext (λ p. mine (j ∷ js) (slot j + p)) (mine js) rest (λ p l. mine-later j js p))

  mine-none : (js : List ℕ) (gap : ℕ) → AllByRecursion (λ k. k ≡ i → ⊥) js → work (mine js) (sum_by slot js + gap) ≡ 0
  unfolding mine
  mine-none [] gap all = sum-none (mine []) (sum_by slot [] + gap) (λ p l. refl)
  mine-none (j ∷ js) gap all =
      let e : sum_by slot (j ∷ js) + gap ≡ slot j + (sum_by slot js + gap) = omega (arith, sum_by-cons slot j js) in
      let first = sum-none (mine (j ∷ js)) (slot j) (λ p l. mine-here j js p l ∙ cond-false (eqb j i) 1 0 (ne_eqb j i all.0)) in
      rw e (omega (arith, mine-parts j js (sum_by slot js + gap), first, mine-none js gap all.1))

  mine-once : (js : List ℕ) (gap : ℕ) → IsOnce i js → work (mine js) (sum_by slot js + gap) ≡ slot i
  unfolding IsOnce
  mine-once [] gap once = absurd once
  mine-once (j ∷ js) gap (inl own) =
      let e : sum_by slot (j ∷ js) + gap ≡ slot j + (sum_by slot js + gap) = omega (arith, sum_by-cons slot j js) in
      let first = sum-ones (mine (j ∷ js)) (slot j) (λ p l. mine-here j js p l ∙ cond-true (eqb j i) 1 0 (eq-eqb j i own.0)) in
      let same : slot j ≡ slot i = ap slot own.0 in
      rw e (omega (arith, mine-parts j js (sum_by slot js + gap), first, mine-none js gap own.1, same))
  mine-once (j ∷ js) gap (inr other) =
      let e : sum_by slot (j ∷ js) + gap ≡ slot j + (sum_by slot js + gap) = omega (arith, sum_by-cons slot j js) in
      let first = sum-none (mine (j ∷ js)) (slot j) (λ p l. mine-here j js p l ∙ cond-false (eqb j i) 1 0 (ne_eqb j i other.0)) in
      rw e (omega (arith, mine-parts j js (sum_by slot js + gap), first, mine-once js gap other.1))

  slot-le : (js : List ℕ) → IsOnce i js → slot i ≤ sum_by slot js
  unfolding IsOnce
  slot-le [] once = absurd once
  slot-le (j ∷ js) (inl own) = let same : slot j ≡ slot i = ap slot own.0 in omega (arith, sum_by-cons slot j js, same)
  slot-le (j ∷ js) (inr other) = omega (arith, sum_by-cons slot j js, slot-le js other.1)

module _ (s : SystemLists) (tr : TraceLists) (rules : IsSystem s) (obeys : Obeys s tr) (i gap : ℕ) (h : i < length s.tasks) (kind : (resource_of s i).kind ≡ Tdma gap) where
  r : ℕ
  r = (task_at s i).res.0

  abbrev phase : ℕ
  phase = phase_of tr (task_at s i).res.0

  abbrev cycle : ℕ
  cycle = cycle_of s (task_at s i).res.0

  -- 1 where the tick is one of the task's own
  own_tick : ℕ → ℕ
  own_tick t = mine s i (tasks_on s (task_at s i).res.0) ((t + phase) % cycle)

  owned : ℕ → ℕ
  owned t = work own_tick t

  once : IsOnce i (tasks_on s (task_at s i).res.0)
  once = once_in (is_on s (task_at s i).res.0) i (on_own s tr rules obeys i h).here 0 (length s.tasks) (omega arith) (omega arith)

  owned-again : (t : ℕ) → owned (t + cycle) ≡ owned t + slot_of (task_at s i).turn
  unfolding owned own_tick
  owned-again t =
      let split = sum-shift own_tick t cycle in
      let moved = sum-ext (λ v. own_tick (t + v)) (λ v. mine s i (tasks_on s (task_at s i).res.0) (((t + phase) + v) % cycle)) cycle
      (λ v l. let e : (t + v) + phase ≡ (t + phase) + v = omega arith in ap (λ k. mine s i (tasks_on s (task_at s i).res.0) (k % cycle)) e) in
      omega (arith, split, moved, cycle-sum (mine s i (tasks_on s (task_at s i).res.0)) cycle (t + phase), mine-once s i (tasks_on s (task_at s i).res.0) (gap_of (resource_of s i).kind) once)

  own_tick-le : (t : ℕ) → own_tick t ≤ 1
  unfolding own_tick mine
  own_tick-le t =
      elim (cases_Bool (is_chosen (owner_at s (tasks_on s (task_at s i).res.0) ((t + phase) % cycle)) i)) [
        | inl e ↦ rw e (omega arith)
        | inr e ↦ rw e (omega arith)
      ]

  own_tick-runs : (t : ℕ) → IsPending (course_of s tr i) t → own_tick t + received_before s tr i t ≤ received_before s tr i (t + 1)
  unfolding own_tick mine owner
  own_tick-runs t waiting =
      elim (cases_Bool (is_chosen (owner_at s (tasks_on s (task_at s i).res.0) ((t + phase) % cycle)) i)) [
        | inl e ↦
            let own = chosen-some (owner_at s (tasks_on s (task_at s i).res.0) ((t + phase) % cycle)) i e in
            let chosen = tdma-runs s tr (task_at s i).res.0 gap kind t i own (pending-waits s tr rules obeys i t waiting) in
            let ran = received-runs s tr t i (chosen-runs s tr t (task_at s i).res.0 i (on_own s tr rules obeys i h) chosen) in
            rw e (omega (arith, ran))
        | inr e ↦ rw e (omega (arith, (order s tr rules obeys i h).more_received t))
      ]

  pub slots-run : RunsBySlots (course_of s tr) i (slot_of (task_at s i).turn) (cycle_of s (task_at s i).res.0)
  unfolding owned
  slots-run =
      record {
        owned = owned;
        more = λ t. omega (arith, work-one own_tick t);
        one_tick = λ t. omega (arith, work-one own_tick t, own_tick-le t);
        again = owned-again;
        some = slot-some s rules i h (rw kind tt);
        fits = omega (arith, slot-le s i (tasks_on s (task_at s i).res.0) once);
        serves = λ t waiting. omega (arith, own_tick-runs t waiting, work-one own_tick t);
      }
