-- Critical sections and regions of a task: they nest or are apart, and none keeps a more urgent task waiting for longer than the blocking.
use Rattle.std.proofs.Common.{◌≡◌, ℕ, suc, ◌+◌, ◌-◌, ◌*◌, ◌≤◌, min, max, List, [], ◌∷◌, map, sym, inl, inr, arith, subst, ltb, get_or}
use Rattle.std.specs.Prelude.{fold, All}
use Rattle.std.specs.List.{AllByRecursion, range_with_len}
use Rattle.std.proofs.lemmas.Bool.{cases_lt, cases_Bool, cond-true, cond-false, le-leb}
use Rattle.std.proofs.Math.Nat.{mul-le-mul_right}
use Rattle.cpa_model.specs.declared.locks.CriticalSection.{CriticalSection}
use Rattle.cpa_model.specs.SystemLists.{SystemLists, task_at, priority_of}
use Rattle.cpa_model.specs.Locks.{Section, section_of, lock_sections, regions_of, sections_of, section_blocking, blocking_by_sections, ceiling_blocking}
use Rattle.cpa_model.specs.Rules.{AreSections}
use Rattle.cpa_sound.proofs.Sections.{HoldsWhole, AreNested}
use Rattle.cpa_sound.proofs.LostTicks.{IsKnown}

-- a section whose ceiling is at least as urgent as a level blocks for no longer than this
abbrev IsShort : ℕ → ℕ → ℕ → Section → Type 0
IsShort p worst blocking x = x.ceiling ≤ p → min x.ticks worst - 1 ≤ blocking

module _ (p worst : ℕ) where
  urgent-section : (x : Section) → x.ceiling ≤ p → section_blocking p worst x ≡ min x.ticks worst - 1
  urgent-section x urgent = cond-true _ _ _ (le-leb x.ceiling p urgent)

  by-ge_start : (a : ℕ) (xs : List Section) → a ≤ fold (λ most x. max most (section_blocking p worst x)) a xs
  by-ge_start a [] = omega arith
  by-ge_start a (x ∷ xs) = let h = by-ge_start (max a (section_blocking p worst x)) xs in omega (arith, h)

  -- the greatest blocking by one of them covers each
  covers : (a blocking : ℕ) (xs : List Section) → fold (λ most x. max most (section_blocking p worst x)) a xs ≤ blocking → AllByRecursion (IsShort p worst blocking) xs
  covers a blocking [] h = tt
  covers a blocking (x ∷ xs) h = (
    λ urgent. let is = urgent-section x urgent in let more = by-ge_start (max a (section_blocking p worst x)) xs in omega (arith, h, is, more),
    covers (max a (section_blocking p worst x)) blocking xs h,
  )

  known_each : (sections : List Section) (blocking : ℕ) (xs : List Section) → AllByRecursion (λ x. AllByRecursion (HoldsWhole x) sections) xs → AllByRecursion (IsShort p worst blocking) xs → AllByRecursion (IsKnown sections p worst blocking) xs
  known_each sections blocking [] whole short = tt
  known_each sections blocking (x ∷ xs) whole short = (record { whole = whole.0; short = short.0 }, known_each sections blocking xs whole.1 short.1)

-- ---- critical sections

all_mapped : (P : Section → Type 0) (f : CriticalSection → Section) (xs : List CriticalSection) → All (λ x. P (f x)) xs → AllByRecursion P (map f xs)
all_mapped P f [] h = tt
all_mapped P f (x ∷ xs) h = (h 0 x (omega arith), all_mapped P f xs (λ k d less. h (suc k) d (omega (arith, less))))

locks-nested : (s : SystemLists) (j : ℕ) → AreSections (task_at s j).region (task_at s j).locks → AreNested (lock_sections s j)
locks-nested s j fits =
    let f : CriticalSection → Section = section_of s (task_at s j).res.0 in
    let locks : List CriticalSection = (task_at s j).locks in
    all_mapped (λ x. AllByRecursion (HoldsWhole x) (lock_sections s j)) f locks (λ k d less. all_mapped (HoldsWhole (f (get_or locks k d))) f locks (fits.nested k d less))

-- ---- regions

module _ (region : ℕ) where
  abbrev region_at : ℕ → Section
  region_at n = record { start = n * region; ticks = region; ceiling = 0 }

  apart : (n m : ℕ) → HoldsWhole (region_at n) (region_at m)
  apart n m after before =
      elim (cases_lt n m) [
        | inl less ↦ let next : n + 1 ≤ m = omega (arith, less) in let far : (n + 1) * region ≤ m * region = mul-le-mul_right region next in absurd (omega (arith, far, before))
        | inr other ↦ let near : m * region ≤ n * region = mul-le-mul_right region other in absurd (omega (arith, near, after))
      ]

  each : (P : Section → Type 0) → ((n : ℕ) → P (region_at n)) → (ns : List ℕ) → AllByRecursion P (map region_at ns)
  each P is [] = tt
  each P is (n ∷ ns) = (is n, each P is ns)

  regions-nested : (worst : ℕ) → AreNested (regions_of region worst)
  regions-nested worst =
      each (λ x. AllByRecursion (HoldsWhole x) (regions_of region worst)) (λ n. each (HoldsWhole (region_at n)) (apart n) (range_with_len 0 worst)) (range_with_len 0 worst)

  regions-short : (p worst blocking : ℕ) → min region worst - 1 ≤ blocking → AllByRecursion (IsShort p worst blocking) (regions_of region worst)
  regions-short p worst blocking h = each (IsShort p worst blocking) (λ n urgent. h) (range_with_len 0 worst)

-- ---- what a task has

module _ (s : SystemLists) (j : ℕ) where
  pub sections-nested : AreSections (task_at s j).region (task_at s j).locks → AreNested (sections_of s j)
  sections-nested fits =
      elim (cases_Bool (ltb 1 (task_at s j).region)) [
        | inl regions ↦
            let is : sections_of s j ≡ regions_of (task_at s j).region (task_at s j).worst = cond-true _ _ _ regions in
            subst AreNested (sym is) (regions-nested (task_at s j).region (task_at s j).worst)
        | inr locks ↦ let is : sections_of s j ≡ lock_sections s j = cond-false _ _ _ locks in subst AreNested (sym is) (locks-nested s j fits)
      ]

  sections-short : (i blocking : ℕ) → ceiling_blocking s i j ≤ blocking → AllByRecursion (IsShort (priority_of (task_at s i).turn) (task_at s j).worst blocking) (sections_of s j)
  sections-short i blocking h =
      let p : ℕ = priority_of (task_at s i).turn in
      let worst : ℕ = (task_at s j).worst in
      let region : ℕ = (task_at s j).region in
      elim (cases_Bool (ltb 1 (task_at s j).region)) [
        | inl regions ↦
            let is : sections_of s j ≡ regions_of (task_at s j).region (task_at s j).worst = cond-true _ _ _ regions in
            let le : min region worst - 1 ≤ blocking = omega (arith, h) in
            subst (AllByRecursion (IsShort p worst blocking)) (sym is) (regions-short region p worst blocking le)
        | inr locks ↦
            let is : sections_of s j ≡ lock_sections s j = cond-false _ _ _ locks in
            let le : blocking_by_sections p worst (lock_sections s j) ≤ blocking = omega (arith, h) in
            subst (AllByRecursion (IsShort p worst blocking)) (sym is) (covers p worst 0 blocking (lock_sections s j) le)
      ]

  -- where the blocking is at least that by this task, all its sections are known
  pub sections-known : (i blocking : ℕ) → AreSections (task_at s j).region (task_at s j).locks → ceiling_blocking s i j ≤ blocking
      → AllByRecursion (IsKnown (sections_of s j) (priority_of (task_at s i).turn) (task_at s j).worst blocking) (sections_of s j)
  sections-known i blocking fits h =
      known_each (priority_of (task_at s i).turn) (task_at s j).worst (sections_of s j) blocking (sections_of s j) (sections-nested fits) (sections-short i blocking h)
