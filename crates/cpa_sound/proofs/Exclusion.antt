-- No two tasks hold one lock at once, and while one holds it no other task that uses it runs.
use Rattle.std.proofs.Common.{◌≡◌, ℕ, ◌*◌, ◌<◌, ◌≤◌, ◌&&◌, ◌||◌, length, min, Bool, true, false, List, [], ◌∷◌, map, refl, sym, ap, inl, inr, arith, subst}
use Rattle.std.specs.Prelude.{fold, filter}
use Rattle.std.specs.List.{list_any}
use Rattle.std.specs.Str.{bytes_eq}
use Rattle.std.proofs.lemmas.Bool.{cases_Bool, cases_order, cond-true, cond-false, and_parts, eq-eqb, le-ltb, false≢true}
use Rattle.std.proofs.lemmas.Slice.Eq.{bytes_eq-Decides}
use Rattle.cpa_units.specs.declared.limits.TheConstants.{MAX_PRIORITY}
use Rattle.cpa_model.specs.declared.entries.Kind.{Kind}
use Rattle.cpa_model.specs.declared.entries.Kind.TheVariants.{Preemptive, RoundRobin, Tdma, Can, Fifo, Ceiling}
use Rattle.cpa_model.specs.declared.locks.CriticalSection.{CriticalSection}
use Rattle.cpa_model.specs.SystemLists.{SystemLists, task_at, no_task, resource_of, priority_of, tasks_on}
use Rattle.cpa_model.specs.Locks.{Section, uses_lock, ceiling_of, lock_sections, sections_of}
use Rattle.cpa_model.specs.Rules.{IsSystem, AreSections, LocksFit}
use Rattle.cpa_sched.specs.Locks.{is_within, holds_lock, active_priority, urgency}
use Rattle.cpa_sched.specs.States.{IsOn}
use Rattle.cpa_trace.specs.Trace.{TraceLists, Obeys}
use Rattle.cpa_sim.specs.Run.{runs_in, run}
use Rattle.cpa_sound.specs.RunCourse.{course_of}
use Rattle.cpa_sound.specs.Locks.{holds, had_by, HoldsLock}
use Rattle.cpa_sound.specs.Laws.{ALockHasOneHolder, OtherUsersWait}
use Rattle.cpa_sound.proofs.Serving.{IsPending}
use Rattle.cpa_sound.proofs.StepLaws.{IsIn, in_tasks_on}
use Rattle.cpa_sound.proofs.RuleLaws.{task_rules}
use Rattle.cpa_sound.proofs.JobLaws.{waits-less}
use Rattle.cpa_sound.proofs.RunLaws.{received-runs, arrived-one}
use Rattle.cpa_sound.proofs.KindRuns.{on_own}
use Rattle.cpa_sound.proofs.Sections.{had, Runs, urgency_at}
use Rattle.cpa_sound.proofs.UrgencyLaws.{urgency-holds}
use Rattle.cpa_sound.proofs.Holding.{above-one, runs-urgent}
use Rattle.cpa_sound.proofs.CeilingRuns.{base_of, had-is, keeps-ceilings}

either : (b : Bool) → (b || true) ≡ true
either true = refl
either false = refl

-- ---- ceilings

module _ (priority : ℕ → ℕ) where
  least-le_start : (a : ℕ) (js : List ℕ) → fold (λ least j. min least (priority j)) a js ≤ a
  least-le_start a [] = omega arith
  least-le_start a (j ∷ js) = let h = least-le_start (min a (priority j)) js in omega (arith, h)

  -- the least of those that pass is no more than that of any
  least-le : (test : ℕ → Bool) (a : ℕ) (js : List ℕ) (k : ℕ) → IsIn k js → test k ≡ true → fold (λ least j. min least (priority j)) a (filter test js) ≤ priority k
  least-le test a [] k one passes = absurd one
  least-le test a (j ∷ js) k (inl same) passes =
      let kept : test j ≡ true = rw same passes in
      let h = least-le_start (min a (priority j)) (filter test js) in
      let same_priority : priority j ≡ priority k = rw same refl in
      rw kept (omega (arith, h, same_priority))
  least-le test a (j ∷ js) k (inr later) passes =
      elim (cases_Bool (test j)) [
        | inl kept ↦ rw kept (least-le test (min a (priority j)) js k later passes)
        | inr dropped ↦ rw dropped (least-le test a js k later passes)
      ]

-- ---- who holds a lock

-- a task that holds a lock uses it
holds-uses : (cs : List CriticalSection) (lock : List ℕ) (received : ℕ) → holds lock cs received ≡ true → list_any (λ (c : CriticalSection). bytes_eq lock c.lock) cs ≡ true
holds-uses [] lock received e = e
holds-uses (c ∷ cs) lock received e =
    elim (cases_Bool (bytes_eq lock c.lock)) [
      | inl this ↦ rw this refl
      | inr other ↦ let e' = rw other at e in rw (holds-uses cs lock received e') (either (bytes_eq lock c.lock))
    ]

-- and has critical sections
uses-some : (cs : List CriticalSection) (lock : List ℕ) → list_any (λ (c : CriticalSection). bytes_eq lock c.lock) cs ≡ true → 0 < length cs
uses-some [] lock e = absurd (false≢true e)
uses-some (c ∷ cs) lock e = omega arith

-- it is above each level that the ceiling of the lock isn't below
module _ (ceiling : List ℕ → ℕ) (base : ℕ) (lock : List ℕ) (p received : ℕ) (urgent : ceiling lock ≤ p) where
  abbrev section_by : CriticalSection → Section
  section_by c = record { start = c.start; ticks = c.length; ceiling = ceiling c.lock }

  record IsHeld (cs : List CriticalSection) : Type 0 where
    pub holding : holds_lock (map section_by cs) received ≡ true
    pub active : active_priority base (map section_by cs) received ≤ p

  further : (c : CriticalSection) (cs : List CriticalSection) → active_priority base (map section_by cs) received ≤ p → active_priority base (map section_by (c ∷ cs)) received ≤ p
  further c cs active =
      elim (cases_Bool (is_within received (section_by c))) [
        | inl within ↦
            let a : active_priority base (map section_by (c ∷ cs)) received ≡ min (ceiling c.lock) (active_priority base (map section_by cs) received) = cond-true _ _ _ within in
            omega (arith, active, a)
        | inr outside ↦
            let a : active_priority base (map section_by (c ∷ cs)) received ≡ active_priority base (map section_by cs) received = cond-false _ _ _ outside in
            omega (arith, active, a)
      ]

  held : (cs : List CriticalSection) → holds lock cs received ≡ true → IsHeld cs
  held [] e = absurd (false≢true e)
  held (c ∷ cs) e =
      elim (cases_Bool (bytes_eq lock c.lock && is_within received (section_by c))) [
        | inl this ↦
            let parts = and_parts (bytes_eq lock c.lock) (is_within received (section_by c)) this in
            let same = (bytes_eq-Decides lock c.lock).0 parts.0 in
            let top : ceiling c.lock ≡ ceiling lock = ap ceiling (sym same) in
            let a : active_priority base (map section_by (c ∷ cs)) received ≡ min (ceiling c.lock) (active_priority base (map section_by cs) received) = cond-true _ _ _ parts.1 in
            record { holding = rw (parts.1) refl; active = omega (arith, urgent, top, a) }
        | inr other ↦
            let rest = held cs (rw other at e) in
            record { holding = rw (rest.holding) (either (is_within received (section_by c))); active = further c cs rest.active }
      ]

  held-urgent : (cs : List CriticalSection) → holds lock cs received ≡ true → urgency base (map section_by cs) received ≤ 2 * p
  held-urgent cs e =
      let h = held cs e in
      let active = h.active in
      let u = urgency-holds base received (map section_by cs) h.holding in
      omega (arith, u, active)

-- ---- in a system

-- only where there are ceilings has a task critical sections
ceilings-only : (kind : Kind) (region : ℕ) (cs : List CriticalSection) (lock : List ℕ) → LocksFit kind region cs → list_any (λ (c : CriticalSection). bytes_eq lock c.lock) cs ≡ true → kind ≡ Ceiling
ceilings-only Ceiling region cs lock fits uses = refl
ceilings-only Preemptive region cs lock fits uses = let none = rw fits at uses in absurd (false≢true none)
ceilings-only RoundRobin region cs lock fits uses = let none = rw fits at uses in absurd (false≢true none)
ceilings-only (Tdma gap) region cs lock fits uses = let none = rw fits at uses in absurd (false≢true none)
ceilings-only (Can bit) region cs lock fits uses = let none = rw fits at uses in absurd (false≢true none)
ceilings-only Fifo region cs lock fits uses = let none = rw fits at uses in absurd (false≢true none)

module _ (s : SystemLists) (rules : IsSystem s) (lock : List ℕ) where
  has-ceilings : (j : ℕ) → j < length s.tasks → uses_lock lock (task_at s j) ≡ true → (resource_of s j).kind ≡ Ceiling
  has-ceilings j h uses = ceilings-only (resource_of s j).kind (task_at s j).region (task_at s j).locks lock (task_rules s rules j h).locks_fit uses

  -- the users of a lock are on one resource
  one-resource : (i j : ℕ) → i < length s.tasks → j < length s.tasks → uses_lock lock (task_at s i) ≡ true → uses_lock lock (task_at s j) ≡ true → (task_at s j).res.0 ≡ (task_at s i).res.0
  one-resource i j h k uses_i uses_j =
      elim (cases_order i j) [
        | inl e ↦ rw e refl
        | inr o ↦ elim o [
          | inl less ↦ ap (λ r. r.0) (sym (rules.locks i j no_task less k lock uses_i uses_j))
          | inr more ↦ ap (λ r. r.0) (rules.locks j i no_task more h lock uses_j uses_i)
        ]
      ]

  -- the ceiling is no less urgent than any of them
  ceiling-le : (r j : ℕ) → IsOn s r j → uses_lock lock (task_at s j) ≡ true → ceiling_of s r lock ≤ priority_of (task_at s j).turn
  ceiling-le r j on uses = least-le (λ k. priority_of (task_at s k).turn) (λ k. uses_lock lock (task_at s k)) MAX_PRIORITY (tasks_on s r) j (in_tasks_on s r j on) uses

  -- beside critical sections a task has no regions
  locks-alone : (j : ℕ) → AreSections (task_at s j).region (task_at s j).locks → uses_lock lock (task_at s j) ≡ true → sections_of s j ≡ lock_sections s j
  locks-alone j fits uses = cond-false _ _ _ (le-ltb 1 (task_at s j).region (omega (arith, fits.alone (uses-some (task_at s j).locks lock uses))))

module _ (s : SystemLists) (tr : TraceLists) (rules : IsSystem s) (obeys : Obeys s tr) (t i j : ℕ) (lock : List ℕ) (h : i < length s.tasks) (k : j < length s.tasks) (uses : uses_lock lock (task_at s i) ≡ true) (holder : HoldsLock s tr t lock j) where
  holder_uses : uses_lock lock (task_at s j) ≡ true
  holder_uses = holds-uses (task_at s j).locks lock (had_by s tr t j) holder.within

  kind : (resource_of s i).kind ≡ Ceiling
  kind = has-ceilings s rules lock i h uses

  on_i : IsOn s (task_at s i).res.0 i
  on_i = on_own s tr rules obeys i h

  on_j : IsOn s (task_at s i).res.0 j
  on_j = record { task = k; here = eq-eqb (task_at s j).res.0 (task_at s i).res.0 (one-resource s rules lock i j h k uses holder_uses) }

  -- a task that holds the lock is above the level of its ceiling
  holder-above : (l : ℕ) → l < length s.tasks → HoldsLock s tr t lock l → (r : ℕ) → (task_at s l).res.0 ≡ r → urgency_at (course_of s tr) (base_of s) (sections_of s) t l ≤ 2 * ceiling_of s r lock
  holder-above l there one r same =
      let uses_l = holds-uses (task_at s l).locks lock (had_by s tr t l) one.within in
      let fits : AreSections (task_at s l).region (task_at s l).locks = subst (λ q. LocksFit q (task_at s l).region (task_at s l).locks) (has-ceilings s rules lock l there uses_l) (task_rules s rules l there).locks_fit in
      let received : holds lock (task_at s l).locks (had (course_of s tr l) t) ≡ true = subst (λ n. holds lock (task_at s l).locks n ≡ true) (had-is s tr rules obeys t l there one.pending) one.within in
      let hot = held-urgent (ceiling_of s (task_at s l).res.0) (priority_of (task_at s l).turn) lock (ceiling_of s (task_at s l).res.0 lock) (had (course_of s tr l) t) (omega arith) (task_at s l).locks received in
      let hot' = subst (λ xs. urgency (priority_of (task_at s l).turn) xs (had (course_of s tr l) t) ≤ 2 * ceiling_of s (task_at s l).res.0 lock) (sym (locks-alone s rules lock l fits uses_l)) hot in
      subst (λ q. urgency_at (course_of s tr) (base_of s) (sections_of s) t l ≤ 2 * ceiling_of s q lock) same hot'

  -- two users that are above it are one
  one-above : urgency_at (course_of s tr) (base_of s) (sections_of s) t i ≤ 2 * ceiling_of s (task_at s i).res.0 lock → i ≡ j
  one-above above =
      let r : ℕ = (task_at s i).res.0 in
      above-one (course_of s tr) (λ j. (task_at s j).best) (λ j. (task_at s j).worst) (base_of s) (sections_of s) (IsOn s (task_at s i).res.0) (keeps-ceilings s tr rules obeys (task_at s i).res.0 kind)
      (ceiling_of s (task_at s i).res.0 lock) t i j
      (on_i, ceiling-le s rules lock (task_at s i).res.0 i on_i uses) (on_j, ceiling-le s rules lock (task_at s i).res.0 j on_j holder_uses)
      above (holder-above j k holder (task_at s i).res.0 (one-resource s rules lock i j h k uses holder_uses))

  -- where a user runs, it is at least as urgent as the holder
  runner-above : runs_in s tr t (run s tr t) i ≡ true → urgency_at (course_of s tr) (base_of s) (sections_of s) t i ≤ 2 * ceiling_of s (task_at s i).res.0 lock
  runner-above runs =
      let ran : Runs (course_of s tr i) t = omega (arith, received-runs s tr t i runs) in
      let waits : IsPending (course_of s tr j) t = omega (arith, waits-less ((run s tr t).jobs j) holder.pending, arrived-one s tr t j) in
      let first = runs-urgent (course_of s tr) (λ j. (task_at s j).best) (λ j. (task_at s j).worst) (base_of s) (sections_of s) (IsOn s (task_at s i).res.0) (keeps-ceilings s tr rules obeys (task_at s i).res.0 kind) t i j on_i on_j ran waits in
      let above = holder-above j k holder (task_at s i).res.0 (one-resource s rules lock i j h k uses holder_uses) in
      omega (arith, first, above)

pub a_lock_has_one_holder : ALockHasOneHolder
a_lock_has_one_holder s tr rules obeys t i j lock h k one other =
    let uses = holds-uses (task_at s i).locks lock (had_by s tr t i) one.within in
    one-above s tr rules obeys t i j lock h k uses other (holder-above s tr rules obeys t i j lock h k uses other i h one (task_at s i).res.0 refl)

pub other_users_wait : OtherUsersWait
other_users_wait s tr rules obeys t i j lock h k uses runs other =
    one-above s tr rules obeys t i j lock h k uses other (runner-above s tr rules obeys t i j lock h k uses other runs)
