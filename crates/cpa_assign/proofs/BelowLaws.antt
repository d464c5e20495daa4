-- By how long tasks below one keep it waiting: by no more than they take, and by no more where fewer are above.
use Rattle.std.proofs.Common.{◌≡◌, ℕ, zero, suc, ◌+◌, ◌<◌, ◌≤◌, ◌==◌, ◌&&◌, ◌||◌, max, Bool, true, false, List, [], ◌∷◌, ◌++◌, length, refl, ap, sym, ◌∙◌, inl, inr, arith}
use Rattle.std.specs.Prelude.{filter, fold}
use Rattle.std.specs.List.{list_any, range_with_len}
use Rattle.std.proofs.lemmas.Bool.{and_parts, or_cases, cases_Bool, cases_lt, eqb-true, false≢true}
use Rattle.std.proofs.lemmas.List.Folds.{list_any-append}
use Rattle.std.proofs.lemmas.List.Sums.{fold-append}
use Rattle.cpa_units.proofs.PlaceLaws.{places}
use Rattle.cpa_model.specs.declared.entries.Kind.{Kind}
use Rattle.cpa_model.specs.declared.entries.Kind.TheVariants.{Preemptive, RoundRobin, Tdma, Can, Fifo, Ceiling}
use Rattle.cpa_model.specs.declared.locks.CriticalSection.{CriticalSection}
use Rattle.cpa_model.specs.Kinds.{blocking_by}
use Rattle.cpa_model.specs.Locks.{uses_lock}
use Rattle.cpa_model.specs.SystemLists.{SystemLists, task_at, tasks_on}
use Rattle.cpa_assign.specs.Orders.{is_without_sections, is_preemptive}
use Rattle.cpa_assign.specs.Placing.{is_reaching, reaches, placed_section, placed_sections, placed_between}
use Rattle.cpa_assign.proofs.CountLaws.{passing-more, failing-more}
use Rattle.cpa_assign.proofs.OrderLaws.{or-true}

-- ---- no more than a task takes

-- the greatest by which several sections block, from `most` on
abbrev pub sections_from : SystemLists → ℕ → (ℕ → Bool) → ℕ → ℕ → ℕ → List CriticalSection → ℕ
sections_from s r above i worst most cs = fold (λ most c. max most (placed_section s r above i worst c)) most cs

section-small : (s : SystemLists) (r : ℕ) (above : ℕ → Bool) (i worst : ℕ) (c : CriticalSection) → placed_section s r above i worst c ≤ worst
section-small s r above i worst c =
    elim (cases_Bool (reaches s r above i c.lock)) [
      | inl counts ↦ rw counts (omega arith)
      | inr drops ↦ rw drops (omega arith)
    ]

pub sections-small : (s : SystemLists) (r : ℕ) (above : ℕ → Bool) (i worst most : ℕ) (cs : List CriticalSection) → most ≤ worst → sections_from s r above i worst most cs ≤ worst
sections-small s r above i worst most [] small = small
sections-small s r above i worst most (c ∷ cs) small =
    sections-small s r above i worst (max most (placed_section s r above i worst c)) cs (omega (arith, small, section-small s r above i worst c))

pub between-small : (s : SystemLists) (r : ℕ) (above : ℕ → Bool) (i : ℕ) (kind : Kind) (j : ℕ) → placed_between s r above i kind j ≤ (task_at s j).worst
between-small s r above i Preemptive j = omega arith
between-small s r above i RoundRobin j = omega arith
between-small s r above i (Tdma gap) j = omega arith
between-small s r above i (Can bit) j = omega arith
between-small s r above i Fifo j = omega arith
between-small s r above i Ceiling j =
    let sections = sections-small s r above i (task_at s j).worst 0 (task_at s j).locks (omega arith) in
    omega (arith, sections)

-- ---- no more where fewer are above

any-more : (p q : ℕ → Bool) (js : List ℕ) → ((j : ℕ) → p j ≡ true → q j ≡ true) → list_any p js ≡ true → list_any q js ≡ true
any-more p q [] more some = some
any-more p q (j ∷ js) more some =
    elim (or_cases (p j) (list_any p js) some) [
      | inl here ↦ rw (more j here) refl
      | inr later ↦ rw (any-more p q js more later) (or-true (q j))
    ]

either-more : (a b c d : Bool) → (a ≡ true → b ≡ true) → ((a || c) && d) ≡ true → ((b || c) && d) ≡ true
either-more true b c d more both = rw (more refl) both
either-more false b c d more both =
    let parts = and_parts c d both in
    rw (parts.0, parts.1, or-true b) refl

module _ (s : SystemLists) (r i : ℕ) (fewer above : ℕ → Bool) (moved : (j : ℕ) → fewer j ≡ true → above j ≡ true) where
  reaches-fewer : (lock : List ℕ) → reaches s r fewer i lock ≡ true → reaches s r above i lock ≡ true
  reaches-fewer lock some =
      any-more (is_reaching s fewer i lock) (is_reaching s above i lock) (tasks_on s r)
      (λ k here. either-more (fewer k) (above k) (k == i) (uses_lock lock (task_at s k)) (moved k) here) some

  section-fewer : (worst : ℕ) (c : CriticalSection) → placed_section s r fewer i worst c ≤ placed_section s r above i worst c
  section-fewer worst c =
      elim (cases_Bool (reaches s r fewer i c.lock)) [
        | inl counts ↦ rw (counts, reaches-fewer c.lock counts) (omega arith)
        | inr drops ↦ rw drops (omega arith)
      ]

  sections-fewer : (worst most more : ℕ) (cs : List CriticalSection) → most ≤ more → sections_from s r fewer i worst most cs ≤ sections_from s r above i worst more cs
  sections-fewer worst most more [] from = from
  sections-fewer worst most more (c ∷ cs) from =
      sections-fewer worst (max most (placed_section s r fewer i worst c)) (max more (placed_section s r above i worst c)) cs (omega (arith, from, section-fewer worst c))

  pub between-fewer : (kind : Kind) (j : ℕ) → placed_between s r fewer i kind j ≤ placed_between s r above i kind j
  between-fewer Preemptive j = omega arith
  between-fewer RoundRobin j = omega arith
  between-fewer (Tdma gap) j = omega arith
  between-fewer (Can bit) j = omega arith
  between-fewer Fifo j = omega arith
  between-fewer Ceiling j =
      let sections = sections-fewer (task_at s j).worst 0 0 (task_at s j).locks (omega arith) in
      omega (arith, sections)

-- ---- none where a task has no regions and no critical sections

no-sections : (cs : List CriticalSection) → length cs ≡ 0 → cs ≡ []
no-sections [] none = refl
no-sections (c ∷ cs) none = absurd (omega (arith, none))

pub between-none : (s : SystemLists) (r : ℕ) (above : ℕ → Bool) (i : ℕ) (kind : Kind) (j : ℕ) → is_preemptive kind ≡ true → is_without_sections (task_at s j) ≡ true → placed_between s r above i kind j ≡ 0
between-none s r above i kind j takes_over none =
    let parts = and_parts (blocking_by Preemptive (task_at s j) == 0) (length (task_at s j).locks == 0) none in
    by kind takes_over (eqb-true (blocking_by Preemptive (task_at s j)) 0 parts.0) (no-sections (task_at s j).locks (eqb-true (length (task_at s j).locks) 0 parts.1))
  where
    by : (kind : Kind) → is_preemptive kind ≡ true → blocking_by Preemptive (task_at s j) ≡ 0 → (task_at s j).locks ≡ [] → placed_between s r above i kind j ≡ 0
    by Preemptive takes_over region locks = region
    by RoundRobin takes_over region locks = refl
    by (Tdma gap) takes_over region locks = refl
    by (Can bit) takes_over region locks = absurd (false≢true takes_over)
    by Fifo takes_over region locks = refl
    by Ceiling takes_over region locks = rw locks (omega (arith, region))

-- ---- one task more, and one section more

pub any-found : (on test : ℕ → Bool) (a n j : ℕ) → a ≤ j → j < a + n → on j ≡ true → test j ≡ true → list_any test (filter on (range_with_len a n)) ≡ true
any-found on test a zero j low high there passes = absurd (omega (arith, low, high))
any-found on test a (suc n) j low high there passes =
    elim (cases_lt a j) [
      | inl later ↦
          let rest = any-found on test (a + 1) n j (omega arith) (omega arith) there passes in
          elim (cases_Bool (on a)) [
            | inl here ↦ rw (here, rest) (or-true (test a))
            | inr off ↦ rw off rest
          ]
      | inr now ↦ let same : a ≡ j = omega arith in rw (ap on same ∙ there, ap test same ∙ passes) refl
    ]

pub any-next : (on test : ℕ → Bool) (k : ℕ) → list_any test (filter on (places k)) ≡ false → (on k && test k) ≡ false → list_any test (filter on (places (k + 1))) ≡ false
any-next on test k none fails =
    elim (cases_Bool (on k)) [
      | inl there ↦
          let last : test k ≡ false = ap (λ (b : Bool). b && test k) (sym there) ∙ fails in
          ap (list_any test) (passing-more on k there) ∙ list_any-append test (filter on (places k)) (k ∷ []) ∙ (rw (none, last) refl)
      | inr off ↦ ap (list_any test) (failing-more on k off) ∙ none
    ]

pub sections-push : (s : SystemLists) (r : ℕ) (above : ℕ → Bool) (i worst : ℕ) (cs : List CriticalSection) (c : CriticalSection)
    → placed_sections s r above i worst (cs ++ c ∷ []) ≡ max (placed_sections s r above i worst cs) (placed_section s r above i worst c)
sections-push s r above i worst cs c = fold-append (λ most c. max most (placed_section s r above i worst c)) 0 cs (c ∷ [])
