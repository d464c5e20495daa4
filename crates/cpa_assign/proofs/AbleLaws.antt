-- Which resources can be given an order.
use Rattle.std.proofs.Common.{◌≡◌, ℕ, zero, suc, ◌+◌, ◌<◌, ◌≤◌, ◌&&◌, ◌||◌, not, Bool, true, false, length, refl, ap, sym, ◌∙◌, inl, inr, arith}
use Rattle.std.specs.Prelude.{filter}
use Rattle.std.specs.List.{list_all, range_with_len}
use Rattle.std.proofs.lemmas.Bool.{and_parts, not-true, cases_Bool, cases_lt, false≢true}
use Rattle.cpa_model.specs.SystemLists.{SystemLists, task_at, resource_at, is_on}
use Rattle.cpa_model.specs.Kinds.{has_priorities}
use Rattle.cpa_assign.specs.Orders.{are_sources, is_fed_by_sources, IsFedBySources, is_clocked_task, is_off_clocks, is_without_sections, is_unblocked, is_preemptive, can_compare, IsOrderable}

-- each place that passes one test passes another
all-passing : (p test : ℕ → Bool) (a n : ℕ) → ((j : ℕ) → a ≤ j → j < a + n → p j ≡ true → test j ≡ true) → list_all test (filter p (range_with_len a n)) ≡ true
all-passing p test a zero each = refl
all-passing p test a (suc n) each =
    let rest = all-passing p test (a + 1) n (λ j low high. each j (omega arith) (omega arith)) in
    elim (cases_Bool (p a)) [
      | inl passes ↦ rw (passes, each a (omega arith) (omega arith) passes) rest
      | inr fails ↦ rw fails rest
    ]

passing-each : (p test : ℕ → Bool) (a n : ℕ) → list_all test (filter p (range_with_len a n)) ≡ true → (j : ℕ) → a ≤ j → j < a + n → p j ≡ true → test j ≡ true
passing-each p test a zero all j low high passes = absurd (omega (arith, low, high))
passing-each p test a (suc n) all j low high passes =
    elim (cases_Bool (p a)) [
      | inl first ↦
          let both = and_parts (test a) (list_all test (filter p (range_with_len (a + 1) n))) (rw first at all) in
          elim (cases_lt a j) [
            | inl later ↦ passing-each p test (a + 1) n both.1 j (omega arith) (omega arith) passes
            | inr here ↦ let same : j ≡ a = omega arith in ap test same ∙ both.0
          ]
      | inr off ↦ elim (cases_lt a j) [
        | inl later ↦ passing-each p test (a + 1) n (rw off at all) j (omega arith) (omega arith) passes
        | inr here ↦ let same : j ≡ a = omega arith in absurd (false≢true (sym off ∙ sym (ap p same) ∙ passes))
      ]
    ]

-- where each task that is there and on the resource is activated by a source
pub fed-from : (s : SystemLists) (r : ℕ) → ((j : ℕ) → j < length s.tasks → is_on s r j ≡ true → are_sources (task_at s j).after ≡ true) → is_fed_by_sources s r ≡ true
fed-from s r each = all-passing (is_on s r) (λ j. are_sources (task_at s j).after) 0 (length s.tasks) (λ j low high. each j (omega arith))

-- a task on a resource whose tasks sources alone activate
pub fed-source : (s : SystemLists) (r : ℕ) → IsFedBySources s r → (j : ℕ) → j < length s.tasks → is_on s r j ≡ true → are_sources (task_at s j).after ≡ true
fed-source s r fed j less on = passing-each (is_on s r) (λ j. are_sources (task_at s j).after) 0 (length s.tasks) fed j (omega arith) (omega arith) on

-- where one isn't
pub fed-fails : (s : SystemLists) (r j : ℕ) → j < length s.tasks → is_on s r j ≡ true → are_sources (task_at s j).after ≡ false → is_fed_by_sources s r ≡ false
fed-fails s r j less on fails =
    elim (cases_Bool (is_fed_by_sources s r)) [
      | inl fed ↦ absurd (false≢true (sym fails ∙ fed-source s r fed j less on))
      | inr told ↦ told
    ]

-- where none of the tasks that are there and on the resource is on a clock
pub off-from : (s : SystemLists) (r : ℕ) → ((j : ℕ) → j < length s.tasks → is_on s r j ≡ true → is_clocked_task s j ≡ false) → is_off_clocks s r ≡ true
off-from s r each = all-passing (is_on s r) (λ j. not (is_clocked_task s j)) 0 (length s.tasks) (λ j low high on. ap not (each j (omega arith) on))

-- a task on a resource none of whose tasks is on a clock
pub off-clock : (s : SystemLists) (r : ℕ) → is_off_clocks s r ≡ true → (j : ℕ) → j < length s.tasks → is_on s r j ≡ true → is_clocked_task s j ≡ false
off-clock s r off j less on = not-true (is_clocked_task s j) (passing-each (is_on s r) (λ k. not (is_clocked_task s k)) 0 (length s.tasks) off j (omega arith) (omega arith) on)

-- where one is
pub off-fails : (s : SystemLists) (r j : ℕ) → j < length s.tasks → is_on s r j ≡ true → is_clocked_task s j ≡ true → is_off_clocks s r ≡ false
off-fails s r j less on is =
    elim (cases_Bool (is_off_clocks s r)) [
      | inl off ↦ absurd (false≢true (sym (off-clock s r off j less on) ∙ is))
      | inr told ↦ told
    ]

-- where none of the tasks that are there and on the resource keeps another waiting
pub unblocked-from : (s : SystemLists) (r : ℕ) → ((j : ℕ) → j < length s.tasks → is_on s r j ≡ true → is_without_sections (task_at s j) ≡ true) → is_unblocked s r ≡ true
unblocked-from s r each = all-passing (is_on s r) (λ j. is_without_sections (task_at s j)) 0 (length s.tasks) (λ j low high. each j (omega arith))

pub unblocked-each : (s : SystemLists) (r : ℕ) → is_unblocked s r ≡ true → (j : ℕ) → j < length s.tasks → is_on s r j ≡ true → is_without_sections (task_at s j) ≡ true
unblocked-each s r none j less on = passing-each (is_on s r) (λ k. is_without_sections (task_at s k)) 0 (length s.tasks) none j (omega arith) (omega arith) on

pub unblocked-fails : (s : SystemLists) (r j : ℕ) → j < length s.tasks → is_on s r j ≡ true → is_without_sections (task_at s j) ≡ false → is_unblocked s r ≡ false
unblocked-fails s r j less on some =
    elim (cases_Bool (is_unblocked s r)) [
      | inl none ↦ absurd (false≢true (sym some ∙ unblocked-each s r none j less on))
      | inr told ↦ told
    ]

-- where tasks on clocks can be compared, a more urgent job takes over at once, and none keeps another waiting
pub compared : (s : SystemLists) (r : ℕ) → can_compare s r ≡ true → is_off_clocks s r ≡ false → (is_preemptive (resource_at s r).kind ≡ true) × (is_unblocked s r ≡ true)
compared s r can on =
    let rest : (is_preemptive (resource_at s r).kind && is_unblocked s r) ≡ true = ap (λ (b : Bool). b || (is_preemptive (resource_at s r).kind && is_unblocked s r)) (sym on) ∙ can in
    and_parts (is_preemptive (resource_at s r).kind) (is_unblocked s r) rest

-- the tests tell that a resource can be given an order
pub orderable-from : (s : SystemLists) (r : ℕ) → r < length s.resources → has_priorities (resource_at s r).kind ≡ true → is_fed_by_sources s r ≡ true → can_compare s r ≡ true → IsOrderable s r
orderable-from s r there kind fed can = record { there = there; kind = kind; fed = fed; clocks = can }
