-- Blocking under ceilings: by no more than a task takes, by regions alone where it has no critical sections, and by more where tasks or their
-- critical sections take longer.
use Rattle.std.proofs.Common.{◌≡◌, ℕ, ◌+◌, ◌-◌, ◌<◌, ◌≤◌, length, List, [], ◌∷◌, map, max, refl, ap, subst, arith}
use Rattle.std.specs.Prelude.{filter, fold}
use Rattle.std.specs.List.{range_with_len, list_any, AllZip}
use Rattle.std.specs.Str.{bytes_eq}
use Rattle.std.proofs.lemmas.Bool.Decides.{nat_tests}
use Rattle.cpa_units.specs.declared.limits.TheConstants.{MAX_PRIORITY}
use Rattle.cpa_model.specs.declared.entries.Kind.{Kind}
use Rattle.cpa_model.specs.declared.entries.Kind.TheVariants.{Preemptive, RoundRobin, Tdma, Can, Fifo, Ceiling}
use Rattle.cpa_model.specs.declared.locks.CriticalSection.{CriticalSection}
use Rattle.cpa_model.specs.Kinds.{blocking_by}
use Rattle.cpa_model.specs.Locks.{Section, section_of, section_blocking, lock_sections, uses_lock, ceiling_of, ceiling_blocking}
use Rattle.cpa_model.specs.SystemLists.{SystemLists, task_at, is_on, priority_of}
use Rattle.cpa_local.specs.Blocking.{blocking_between}
use Rattle.cpa_local.specs.Raising.{IsLongerSection, IsRaising}
use Rattle.cpa_local.proofs.PlaceLists.{least_over, least-more_passing}

-- ---- no more than a task takes

-- the greatest by which several sections block, from `most` on
abbrev pub sections_from : ℕ → ℕ → ℕ → List Section → ℕ
sections_from priority worst most sections = fold (λ most x. max most (section_blocking priority worst x)) most sections

section-small : (priority worst : ℕ) (x : Section) → section_blocking priority worst x ≤ worst
section-small priority worst x = grind (arith, nat_tests)

pub sections-small : (priority worst most : ℕ) (sections : List Section) → most ≤ worst → sections_from priority worst most sections ≤ worst
sections-small priority worst most [] small = small
sections-small priority worst most (x ∷ sections) small =
    sections-small priority worst (max most (section_blocking priority worst x)) sections (omega (arith, small, section-small priority worst x))

-- by the greatest execution at most
pub between-small : (s : SystemLists) (kind : Kind) (i j : ℕ) → blocking_between s kind i j ≤ (task_at s j).worst
between-small s Preemptive i j = omega arith
between-small s RoundRobin i j = omega arith
between-small s (Tdma gap) i j = omega arith
between-small s (Can bit) i j = omega arith
between-small s Fifo i j = omega arith
between-small s Ceiling i j =
    let sections = sections-small (priority_of (task_at s i).turn) (task_at s j).worst 0 (lock_sections s j) (omega arith) in
    omega (arith, sections)

-- by regions alone where there are no critical sections
pub between-plain : (s : SystemLists) (kind : Kind) (i j : ℕ) → (task_at s j).locks ≡ [] → blocking_between s kind i j ≡ blocking_by kind (task_at s j)
between-plain s Preemptive i j none = refl
between-plain s RoundRobin i j none = refl
between-plain s (Tdma gap) i j none = refl
between-plain s (Can bit) i j none = refl
between-plain s Fifo i j none = refl
between-plain s Ceiling i j none = rw none (omega arith)

-- ---- more where each task asks for at least as much

-- sections of the same locks have the same locks
longer-uses : (lock : List ℕ) (before after : List CriticalSection) → AllZip IsLongerSection before after
    → list_any (λ (c : CriticalSection). bytes_eq lock c.lock) before ≡ list_any (λ (c : CriticalSection). bytes_eq lock c.lock) after
longer-uses lock [] [] h = refl
longer-uses lock [] (d ∷ after) h = absurd h
longer-uses lock (c ∷ before) [] h = absurd h
longer-uses lock (c ∷ before) (d ∷ after) h = rw (h.0.lock, longer-uses lock before after h.1) refl

-- a longer section of a more urgent ceiling blocks by no less, in a task that takes longer
section-more : (priority worst more ticks longer before after first second : ℕ) → worst ≤ more → ticks ≤ longer → after ≤ before
    → section_blocking priority worst (record { start = first; ticks = ticks; ceiling = before }) ≤ section_blocking priority more (record { start = second; ticks = longer; ceiling = after })
section-more priority worst more ticks longer before after first second le most lower = grind (arith, nat_tests)

module _ (s t : SystemLists) (up : IsRaising s t) where
  all_tasks : length s.tasks + (length t.tasks - length s.tasks) ≡ length t.tasks
  all_tasks = omega (arith, up.more)

  -- no ceiling is less urgent
  ceiling-down : (r : ℕ) (lock : List ℕ) → ceiling_of t r lock ≤ ceiling_of s r lock
  ceiling-down r lock =
      subst (λ (n : ℕ). least_over (λ j. priority_of (task_at t j).turn) MAX_PRIORITY (filter (λ j. uses_lock lock (task_at t j)) (filter (is_on t r) (range_with_len 0 n))) ≤ ceiling_of s r lock) all_tasks
      (least-more_passing (is_on s r) (λ j. uses_lock lock (task_at s j)) (is_on t r) (λ j. uses_lock lock (task_at t j)) (λ j. priority_of (task_at s j).turn) (λ j. priority_of (task_at t j).turn) MAX_PRIORITY MAX_PRIORITY
      0 (length s.tasks) (length t.tasks - length s.tasks) (omega arith)
      (λ j low high. let it = up.tasks j (omega arith) in rw it.res refl)
      (λ j low high. longer-uses lock (task_at s j).locks (task_at t j).locks (up.tasks j (omega arith)).locks)
      (λ j low high. let same = ap priority_of (up.tasks j (omega arith)).turn in omega arith))

  -- what a section blocks, and what the longer one does
  section-up : (r priority worst longer : ℕ) (c d : CriticalSection) → worst ≤ longer → IsLongerSection c d
      → section_blocking priority worst (section_of s r c) ≤ section_blocking priority longer (section_of t r d)
  section-up r priority worst longer c d le h =
      let down : ceiling_of t r d.lock ≤ ceiling_of s r c.lock = rw h.lock (ceiling-down r d.lock) in
      section-more priority worst longer c.length d.length (ceiling_of s r c.lock) (ceiling_of t r d.lock) c.start d.start le h.ticks down

  sections-more : (r priority worst longer most more : ℕ) (before after : List CriticalSection) → worst ≤ longer → most ≤ more → AllZip IsLongerSection before after
      → sections_from priority worst most (map (section_of s r) before) ≤ sections_from priority longer more (map (section_of t r) after)
  sections-more r priority worst longer most more [] [] le from h = from
  sections-more r priority worst longer most more [] (d ∷ after) le from h = absurd h
  sections-more r priority worst longer most more (c ∷ before) [] le from h = absurd h
  sections-more r priority worst longer most more (c ∷ before) (d ∷ after) le from h =
      let one = section-up r priority worst longer c d le h.0 in
      sections-more r priority worst longer (max most (section_blocking priority worst (section_of s r c))) (max more (section_blocking priority longer (section_of t r d))) before after le (omega (arith, from, one)) h.1

  pub ceiling_blocking-up : (i j : ℕ) → i < length s.tasks → j < length s.tasks → ceiling_blocking s i j ≤ ceiling_blocking t i j
  ceiling_blocking-up i j there less =
      let own = up.tasks i there in
      let it = up.tasks j less in
      let sections = sections-more (task_at s j).res.0 (priority_of (task_at s i).turn) (task_at s j).worst (task_at t j).worst 0 0 (task_at s j).locks (task_at t j).locks it.worst (omega arith) it.locks in
      let same : sections_from (priority_of (task_at s i).turn) (task_at t j).worst 0 (map (section_of t (task_at s j).res.0) (task_at t j).locks) ≡ sections_from (priority_of (task_at t i).turn) (task_at t j).worst 0 (lock_sections t j) =
      rw (own.turn, it.res) refl in
      omega (arith, it.region, it.worst, sections, same)
