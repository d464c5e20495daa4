-- How urgent a job is by its active priority.
use Rattle.std.proofs.Common.{◌≡◌, ℕ, zero, suc, ◌+◌, ◌*◌, ◌<◌, ◌≤◌, ◌||◌, min, Bool, true, false, nat_lt, cond, List, [], ◌∷◌, refl, sym, ◌∙◌, inl, inr, arith}
use Rattle.std.specs.List.{AllByRecursion}
use Rattle.std.proofs.lemmas.Bool.{cases_lt, cases_Bool, cond-true, cond-false, ltb-true, and_parts, false≢true}
use Rattle.cpa_model.specs.Locks.{Section}
use Rattle.cpa_sched.specs.Locks.{is_within, holds_lock, active_priority, urgency}

pub within-is : (received : ℕ) (x : Section) → is_within received x ≡ true → (x.start < received) × (received < x.start + x.ticks)
within-is received x e =
    let parts = and_parts (nat_lt x.start received) (nat_lt received (x.start + x.ticks)) e in
    (ltb-true x.start received parts.0, ltb-true received (x.start + x.ticks) parts.1)

few : (b : Bool) → cond b 0 1 ≤ 1
few true = omega arith
few false = omega arith

either : (b : Bool) → (b || true) ≡ true
either true = refl
either false = refl

pub active-le : (base received : ℕ) (sections : List Section) → active_priority base sections received ≤ base
active-le base received [] = omega arith
active-le base received (x ∷ xs) =
    let rest = active-le base received xs in
    elim (cases_Bool (is_within received x)) [
      | inl within ↦
          let a : active_priority base (x ∷ xs) received ≡ min x.ceiling (active_priority base xs received) = cond-true _ _ _ within in
          omega (arith, rest, a)
      | inr outside ↦
          let a : active_priority base (x ∷ xs) received ≡ active_priority base xs received = cond-false _ _ _ outside in
          omega (arith, rest, a)
    ]

-- where the active priority isn't the task's own, the job is within a section
pub active-holds : (base received : ℕ) (sections : List Section) → active_priority base sections received < base → holds_lock sections received ≡ true
active-holds base received [] less = absurd (omega (arith, less))
active-holds base received (x ∷ xs) less =
    elim (cases_Bool (is_within received x)) [
      | inl within ↦ rw within refl
      | inr outside ↦
          let a : active_priority base (x ∷ xs) received ≡ active_priority base xs received = cond-false _ _ _ outside in
          let rest = active-holds base received xs (omega (arith, less, a)) in
          rw rest (either (is_within received x))
    ]

-- a job that is within a section has had a tick
pub holds-some : (sections : List Section) → holds_lock sections 0 ≡ true → ⊥
holds-some [] e = false≢true e
holds-some (x ∷ xs) e =
    elim (cases_Bool (is_within 0 x)) [
      | inl within ↦ let w = within-is 0 x within in absurd (omega (arith, w.0))
      | inr outside ↦ holds-some xs (rw outside at e)
    ]

-- where it holds none, its priority is its own
pub free-active : (base received : ℕ) (sections : List Section) → holds_lock sections received ≡ false → active_priority base sections received ≡ base
free-active base received sections free =
    elim (cases_lt (active_priority base sections received) base) [
      | inl less ↦ absurd (false≢true (sym free ∙ active-holds base received sections less))
      | inr same ↦ omega (arith, same, active-le base received sections)
    ]

pub urgency-holds : (base received : ℕ) (sections : List Section) → holds_lock sections received ≡ true → urgency base sections received ≡ 2 * active_priority base sections received
urgency-holds base received sections holds =
    let part : ℕ = cond (holds_lock sections received) 0 1 in
    let a : part ≡ 0 = cond-true _ _ _ holds in
    omega (arith, a)

pub urgency-free : (base received : ℕ) (sections : List Section) → holds_lock sections received ≡ false → urgency base sections received ≡ 2 * base + 1
urgency-free base received sections free =
    let part : ℕ = cond (holds_lock sections received) 0 1 in
    let a : part ≡ 1 = cond-false _ _ _ free in
    let b = free-active base received sections free in
    omega (arith, a, b)

-- a job is at least as urgent as its task
pub urgency-le : (base received : ℕ) (sections : List Section) → urgency base sections received ≤ 2 * base + 1
urgency-le base received sections = let a = few (holds_lock sections received) in omega (arith, a, active-le base received sections)

-- what is more urgent than its task has had a tick
pub urgent-some : (base p received : ℕ) (sections : List Section) → p ≤ base → urgency base sections received ≤ 2 * p → 0 < received
urgent-some base p zero sections low h =
    elim (cases_Bool (holds_lock sections 0)) [
      | inl holds ↦ absurd (holds-some sections holds)
      | inr free ↦ let a = urgency-free base 0 sections free in absurd (omega (arith, low, h, a))
    ]
urgent-some base p (suc received) sections low h = omega arith

-- a lower task whose active priority is at least that of a level is within a section
pub urgent-within : (base p received : ℕ) (sections : List Section) → p < base → urgency base sections received ≤ 2 * p + 1 → urgency base sections received ≤ 2 * p
urgent-within base p received sections low h =
    elim (cases_Bool (holds_lock sections received)) [
      | inl holds ↦ let a = urgency-holds base received sections holds in omega (arith, h, a)
      | inr free ↦ let a = urgency-free base received sections free in absurd (omega (arith, low, h, a))
    ]

-- a section that it is within, whose ceiling is at least as urgent as the level
pub record IsUnder (P : Section → Type 0) (p received : ℕ) : Type 0 where
  pub section : Section
  pub known : P section
  pub begun : section.start < received
  pub going : received < section.start + section.ticks
  pub ceiling : section.ceiling ≤ p

active-under : (P : Section → Type 0) (base p received : ℕ) (sections : List Section) → AllByRecursion P sections → p < base → active_priority base sections received ≤ p → IsUnder P p received
active-under P base p received [] all low h = absurd (omega (arith, low, h))
active-under P base p received (x ∷ xs) all low h =
    elim (cases_Bool (is_within received x)) [
      | inl within ↦
          let a : active_priority base (x ∷ xs) received ≡ min x.ceiling (active_priority base xs received) = cond-true _ _ _ within in
          let w = within-is received x within in
          elim (cases_lt p x.ceiling) [
            | inl less ↦ active-under P base p received xs all.1 low (omega (arith, a, h, less))
            | inr more ↦ record { section = x; known = all.0; begun = w.0; going = w.1; ceiling = more }
          ]
      | inr outside ↦
          let a : active_priority base (x ∷ xs) received ≡ active_priority base xs received = cond-false _ _ _ outside in
          active-under P base p received xs all.1 low (omega (arith, a, h))
    ]

pub urgent-under : (P : Section → Type 0) (base p received : ℕ) (sections : List Section) → AllByRecursion P sections → p < base → urgency base sections received ≤ 2 * p → IsUnder P p received
urgent-under P base p received sections all low h = active-under P base p received sections all low (omega (arith, h))
