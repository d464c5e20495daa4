-- Ceilings: the task with the most urgent job stays it up to the next end of one of its sections.
use Rattle.std.proofs.Common.{◌≡◌, ℕ, zero, suc, ◌+◌, ◌-◌, ◌<◌, ◌≤◌, ◌⊎◌, ◌||◌, min, Bool, true, false, nat_lt, cond, List, [], ◌∷◌, Some, refl, sym, ap, ◌∙◌, inl, inr, arith, subst}
use Rattle.std.proofs.lemmas.Bool.{cases_lt, cases_Bool, cases_eq, cond-true, cond-false, lt-ltb, le-ltb, and_parts, and_from, eq-eqb, ne_eqb, false≢true}
use Rattle.std.specs.Prelude.{filter}
use Rattle.cpa_model.specs.SystemLists.{SystemLists, task_at, tasks_on, priority_of}
use Rattle.cpa_model.specs.Locks.{Section, sections_of}
use Rattle.cpa_sched.specs.Least.{least_by}
use Rattle.cpa_sched.specs.Steps.{ReadyQueue}
use Rattle.cpa_sched.specs.States.{IsWaiting}
use Rattle.cpa_sched.specs.Stretches.{gets, got}
use Rattle.cpa_sched.specs.Locks.{is_within, holds_lock, active_priority, urgency, urgency_of, ticks_to_release}
use Rattle.cpa_sched.proofs.LeastLaws.{chosen-waits, least-stays}

less-is : (a b : ℕ) → nat_lt a b ≡ true → a < b
less-is a b e =
    elim (cases_lt a b) [
      | inl less ↦ less
      | inr more ↦ absurd (false≢true (sym (le-ltb a b more) ∙ e))
    ]

-- none of these sections ends within so many ticks
abbrev Outlast : ℕ → ℕ → List Section → Type 0
Outlast received n [] = Unit {0}
Outlast received n (section ∷ sections) = (received < section.start + section.ticks → received + n < section.start + section.ticks) × Outlast received n sections

outlast-from : (most received n : ℕ) (sections : List Section) → n < ticks_to_release most sections received → Outlast received n sections
outlast-from most received n [] less = tt
outlast-from most received n (section ∷ sections) less =
    let end = section.start + section.ticks in
    elim (cases_lt received end) [
      | inl before ↦
          let is : ticks_to_release most (section ∷ sections) received ≡ min (end - received) (ticks_to_release most sections received) = cond-true _ _ _ (lt-ltb received end before) in
          (λ b. omega (arith, less, is, b), outlast-from most received n sections (omega (arith, less, is)))
      | inr over ↦
          let is : ticks_to_release most (section ∷ sections) received ≡ ticks_to_release most sections received = cond-false _ _ _ (le-ltb received end over) in
          (λ b. absurd (omega (arith, over, b)), outlast-from most received n sections (omega (arith, less, is)))
    ]

within-later : (received n : ℕ) (section : Section) → (received < section.start + section.ticks → received + n < section.start + section.ticks) → is_within received section ≡ true
    → is_within (received + n) section ≡ true
within-later received n section outlasts e =
    let parts = and_parts (nat_lt section.start received) (nat_lt received (section.start + section.ticks)) e in
    let begun = less-is section.start received parts.0 in
    let still = outlasts (less-is received (section.start + section.ticks) parts.1) in
    and_from (nat_lt section.start (received + n)) (nat_lt (received + n) (section.start + section.ticks)) (lt-ltb section.start (received + n) (omega (arith, begun))) (lt-ltb (received + n) (section.start + section.ticks) still)

-- so the active priority number doesn't rise, and a lock that is held is held on
active-falls : (base received n : ℕ) (sections : List Section) → Outlast received n sections → active_priority base sections (received + n) ≤ active_priority base sections received
active-falls base received n [] outlast = omega arith
active-falls base received n (section ∷ sections) outlast =
    let rest = active-falls base received n sections outlast.1 in
    let now = active_priority base sections received in
    let then = active_priority base sections (received + n) in
    elim (cases_Bool (is_within received section)) [
      | inl within ↦
          let a : active_priority base (section ∷ sections) received ≡ min section.ceiling now = cond-true _ _ _ within in
          let b : active_priority base (section ∷ sections) (received + n) ≡ min section.ceiling then = cond-true _ _ _ (within-later received n section outlast.0 within) in
          omega (arith, rest, a, b)
      | inr outside ↦
          let a : active_priority base (section ∷ sections) received ≡ now = cond-false _ _ _ outside in
          elim (cases_Bool (is_within (received + n) section)) [
            | inl enters ↦
                let b : active_priority base (section ∷ sections) (received + n) ≡ min section.ceiling then = cond-true _ _ _ enters in
                omega (arith, rest, a, b)
            | inr still ↦
                let b : active_priority base (section ∷ sections) (received + n) ≡ then = cond-false _ _ _ still in
                omega (arith, rest, a, b)
          ]
    ]

holds-later : (received n : ℕ) (sections : List Section) → Outlast received n sections → holds_lock sections received ≡ true → holds_lock sections (received + n) ≡ true
holds-later received n [] outlast e = e
holds-later received n (section ∷ sections) outlast e =
    elim (cases_Bool (is_within received section)) [
      | inl within ↦ rw (within-later received n section outlast.0 within) refl
      | inr outside ↦
          let rest = holds-later received n sections outlast.1 (rw outside at e) in
          rw rest (either (is_within (received + n) section))
    ]
  where
    either : (b : Bool) → (b || true) ≡ true
    either true = refl
    either false = refl

urgency-falls : (base received n : ℕ) (sections : List Section) → Outlast received n sections → urgency base sections (received + n) ≤ urgency base sections received
urgency-falls base received n sections outlast =
    let falls = active-falls base received n sections outlast in
    let now : ℕ = cond (holds_lock sections received) 0 1 in
    let then : ℕ = cond (holds_lock sections (received + n)) 0 1 in
    elim (cases_Bool (holds_lock sections received)) [
      | inl holds ↦
          let a : now ≡ 0 = cond-true _ _ _ holds in
          let b : then ≡ 0 = cond-true _ _ _ (holds-later received n sections outlast holds) in
          omega (arith, falls, a, b)
      | inr free ↦
          let a : now ≡ 1 = cond-false _ _ _ free in
          let b : then ≤ 1 = few (holds_lock sections (received + n)) in
          omega (arith, falls, a, b)
    ]
  where
    few : (b : Bool) → cond b 0 1 ≤ 1
    few true = omega arith
    few false = omega arith

-- ---- the ticks go to the task that runs

received-own : (q : ReadyQueue) (j n : ℕ) → (got q (Some j) n).received j ≡ q.received j + n
received-own q j zero = omega arith
received-own q j (suc n) = ap (λ m. q.received j + m) (cond-true _ _ _ (eq-eqb j j refl))

received-other : (q : ReadyQueue) (j k n : ℕ) → (j ≡ k → ⊥) → (got q (Some j) n).received k ≡ q.received k
received-other q j k zero differs = refl
received-other q j k (suc n) differs =
    let none : gets (Some j) (suc n) k ≡ 0 = cond-false _ _ _ (ne_eqb j k differs) in
    omega (arith, none)

-- the task with the most urgent job stays it
pub active-stays : (s : SystemLists) (r : ℕ) (q : ReadyQueue) (most j n : ℕ) → least_by (urgency_of s q.received) (filter q.waits (tasks_on s r)) ≡ Some j
    → n < ticks_to_release most (sections_of s j) (q.received j) → least_by (urgency_of s (got q (Some j) n).received) (filter q.waits (tasks_on s r)) ≡ Some j
active-stays s r q most j n e less =
    least-stays s r j (urgency_of s q.received) (urgency_of s (got q (Some j) n).received) q.waits q.waits e
    (record {
      waits = (chosen-waits s r (urgency_of s q.received) q.waits j e).waits_now;
      falls = own;
      others = λ k waits. other k waits;
    })
  where
    own : urgency_of s (got q (Some j) n).received j ≤ urgency_of s q.received j
    own =
        subst (λ m. urgency (priority_of (task_at s j).turn) (sections_of s j) m ≤ urgency_of s q.received j) (sym (received-own q j n))
        (urgency-falls (priority_of (task_at s j).turn) (q.received j) n (sections_of s j) (outlast-from most (q.received j) n (sections_of s j) less))

    other : (k : ℕ) → IsWaiting s r q.waits k
        → (k ≡ j) ⊎ (((q.waits k ≡ true) × (urgency_of s q.received k ≤ urgency_of s (got q (Some j) n).received k)) ⊎ (urgency_of s q.received j < urgency_of s (got q (Some j) n).received k))
    other k waits =
        elim (cases_eq j k) [
          | inl same ↦ inl (sym same)
          | inr differs ↦
              let is : urgency_of s (got q (Some j) n).received k ≡ urgency_of s q.received k = ap (urgency (priority_of (task_at s k).turn) (sections_of s k)) (received-other q j k n differs) in
              inr (inl (waits.waits_now, omega (arith, is)))
        ]
