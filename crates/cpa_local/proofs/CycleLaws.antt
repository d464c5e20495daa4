-- The slots of a TDMA resource: each is in the cycle, and the cycle is within its limit.
use Rattle.std.proofs.Common.{◌≡◌, ℕ, zero, suc, ◌+◌, ◌*◌, ◌<◌, ◌≤◌, ◌==◌, Bool, true, length, cond, refl, subst, inl, inr, arith}
use Rattle.std.specs.Prelude.{filter}
use Rattle.std.specs.List.{range_with_len, sum_by}
use Rattle.std.proofs.lemmas.Bool.{cases_lt, cases_eq}
use Rattle.std.proofs.lemmas.Bool.Decides.{nat_tests}
use Rattle.std.proofs.Math.ListN.{get_or-eq_default}
use Rattle.cpa_units.specs.declared.limits.TheConstants.{MAX_CYCLE}
use Rattle.cpa_model.specs.SystemLists.{SystemLists, task_at, resource_at, no_task, no_resource, slot_of, cycle_of}
use Rattle.cpa_model.specs.Rules.{IsSystem, IsTask, IsResource}
use Rattle.cpa_model.proofs.SystemLaws.{slots-more, slot-small, gap-small, cond-small}

-- the sum over the places below n that pass the test
abbrev pub sum_below : (ℕ → ℕ) → (ℕ → Bool) → ℕ → ℕ
sum_below f p n = sum_by f (filter p (range_with_len 0 n))

sum-suc : (f : ℕ → ℕ) (p : ℕ → Bool) (n : ℕ) → sum_below f p (suc n) ≡ sum_below f p n + cond (p n) (f n) 0
sum-suc f p n =
    let one : n + 1 ≡ suc n = omega arith in
    subst (λ m. sum_below f p m ≡ sum_below f p n + cond (p n) (f n) 0) one (slots-more f p n)

sum-small : (f : ℕ → ℕ) (p : ℕ → Bool) → ((i : ℕ) → f i ≤ 10000000) → (n : ℕ) → sum_below f p n ≤ 10000000 * n
sum-small f p small zero = omega arith
sum-small f p small (suc n) =
    let step = sum-suc f p n in
    let more : cond (p n) (f n) 0 ≤ 10000000 = cond-small (p n) (f n) 10000000 (small n) in
    omega (arith, sum-small f p small n)

sum-own : (f : ℕ → ℕ) (p : ℕ → Bool) (i n : ℕ) → i < n → p i ≡ true → f i ≤ sum_below f p n
sum-own f p i zero less h = absurd (omega arith)
sum-own f p i (suc n) less h =
    let step = sum-suc f p n in
    elim (cases_eq i n) [
      | inl same ↦
          let own : cond (p n) (f n) 0 ≡ f i = rw (← same, h) refl in
          omega arith
      | inr other ↦ omega (arith, sum-own f p i n (omega arith) h)
    ]

eqb-same : (r : ℕ) → (r == r) ≡ true
eqb-same r = grind (arith, nat_tests)

slots-small : (s : SystemLists) → IsSystem s → (i : ℕ) → slot_of (task_at s i).turn ≤ 10000000
slots-small s rules i =
    elim (cases_lt i (length s.tasks)) [
      | inl less ↦
          let t : IsTask s (task_at s i) = rules.tasks i no_task less in
          slot-small (resource_at s (task_at s i).res.0).kind (task_at s i).turn t.turn_fits
      | inr past ↦ rw (get_or-eq_default s.tasks no_task past) (omega arith)
    ]

-- a cycle is within its limit
pub cycle-in_range : (s : SystemLists) → IsSystem s → (r : ℕ) → r < length s.resources → cycle_of s r ≤ MAX_CYCLE
cycle-in_range s rules r there =
    let slots = sum-small (λ i. slot_of (task_at s i).turn) (λ i. (task_at s i).res.0 == r) (slots-small s rules) (length s.tasks) in
    let placed : IsResource (resource_at s r) = rules.resources r no_resource there in
    let gap = gap-small (resource_at s r).kind placed.kind_fits in
    omega (arith, rules.few_tasks)

-- and has the slot of each task
pub slot-in_cycle : (s : SystemLists) (i : ℕ) → i < length s.tasks → slot_of (task_at s i).turn ≤ cycle_of s (task_at s i).res.0
slot-in_cycle s i less =
    let own = sum-own (λ j. slot_of (task_at s j).turn) (λ j. (task_at s j).res.0 == (task_at s i).res.0) i (length s.tasks) less (eqb-same (task_at s i).res.0) in
    omega arith
