-- In a run each kind of resource keeps its law.
use Rattle.std.proofs.Common.{◌≡◌, ℕ, zero, suc, ◌+◌, ◌-◌, ◌<◌, ◌≤◌, length, ◌∷◌, true, false, cond, eqb, ltb, ◌&&◌, Option, Some, None, refl, sym, ◌∙◌, inl, inr, ◌⊎◌, arith, subst, ap, min, get_or}
use Rattle.std.specs.List.{AllByRecursion, filter}
use Rattle.std.proofs.lemmas.Bool.{cases_lt, cases_Bool, lt-ltb, and_parts, and_from, and_cases, ltb-true, ltb-false, eqb-true, eq-eqb, false≢true}
use Rattle.cpa_model.specs.declared.entries.Kind.{Kind}
use Rattle.cpa_model.specs.declared.entries.Kind.TheVariants.{Preemptive, RoundRobin, Tdma, Can, Fifo, Ceiling}
use Rattle.cpa_model.specs.SystemLists.{SystemLists, task_at, resource_of, priority_of, slot_of, shares_resource, is_higher, higher_tasks, tasks_on}
use Rattle.cpa_sound.proofs.Serving.{work, IsPending, IsStarted, IsInOrder, AnyOf}
use Rattle.cpa_sound.proofs.Turns.{Turns, GoesOn, PassesOn, TakesTurn}
use Rattle.cpa_trace.specs.Trace.{TraceLists, need, Obeys}
use Rattle.cpa_model.specs.Rules.{IsSystem}
use Rattle.cpa_model.specs.Kinds.{HasPriorities}
use Rattle.cpa_sound.proofs.RuleLaws.{best-some, best-le, slot-some, own_priority}
use Rattle.cpa_sched.specs.Steps.{ring_after, most_urgent, region_of}
use Rattle.cpa_model.specs.Kinds.{blocking_by}
use Rattle.cpa_local.specs.Blocking.{lower_tasks}
use Rattle.cpa_sim.specs.Run.{no_job, is_open, waits, ended_count, runs_in, ends_in, run}
use Rattle.cpa_sched.specs.Steps.{kind_of}
use Rattle.cpa_sound.specs.RunCourse.{received_before, course_of}
use Rattle.cpa_sound.proofs.KeepsLaws.{received_by, RunsByRegions, RunsByFrames, IsOnRing, RunsByTurns}
use Rattle.cpa_sound.proofs.CourseLaws.{ended-mono, work-mono, work-one}
use Rattle.cpa_sound.proofs.LevelLaws.{sum-lt, any_with}
use Rattle.cpa_sound.proofs.LocalBounds.{all_tasks, any_task, shares_itself}
use Rattle.cpa_sound.proofs.JobLaws.{less-waits}
use Rattle.cpa_sound.proofs.RunLaws.{open-is, left-is, arrived-one, received-runs, received-idle, served-idle, course-in_order}
use Rattle.cpa_sim.proofs.JobCount.{ended-suc}
use Rattle.cpa_sound.proofs.ArrivalLaws.{need-least, need-greatest, ends_in-is}
use Rattle.cpa_sched.specs.States.{IsOn, IsWaiting, HoldsRegion}
use Rattle.cpa_sim.proofs.RunLaws.{run-belongs}
use Rattle.cpa_sched.proofs.OptionLaws.{some-injective}
use Rattle.cpa_sound.proofs.StepLaws.{all_at, in_waiting, some_urgent, some_first, in_ring_after, next-nearest}
use Rattle.cpa_sound.proofs.ChoiceLaws.{waiting_at, state_at, chosen_at, runs-chosen, chosen-runs, urgent_waits, region-goes_on, region-starts, region-next, region-first, region-held, region-waits, can-goes_on, can-starts, can-next, can-kept, can-first, can-held, can-waits, tdma-waits, queue-waits, ceiling-waits}
use Rattle.cpa_sound.proofs.RingRuns.{ring-waits, held, ring_cases, next_on}

-- the tasks that share a resource with one are those on its resource
pub ring_on : (s : SystemLists) (i j : ℕ) → IsOnRing s i j → IsOn s (task_at s i).res.0 j
ring_on s i j m = record { task = m.task; here = eq-eqb (task_at s j).res.0 (task_at s i).res.0 (sym (eqb-true (task_at s i).res.0 (task_at s j).res.0 m.shares)) }

pub on_ring : (s : SystemLists) (i j : ℕ) → IsOn s (task_at s i).res.0 j → IsOnRing s i j
on_ring s i j on = record { task = on.task; shares = eq-eqb (task_at s i).res.0 (task_at s j).res.0 (sym (eqb-true (task_at s j).res.0 (task_at s i).res.0 on.here)) }

module _ (s : SystemLists) (tr : TraceLists) (rules : IsSystem s) (obeys : Obeys s tr) where
  pub on_own : (i : ℕ) → i < length s.tasks → IsOn s (task_at s i).res.0 i
  on_own i h = record { task = h; here = eq-eqb (task_at s i).res.0 (task_at s i).res.0 refl }

  -- ---- whoever is chosen waits

  chosen_waits_at : (t i : ℕ) → i < length s.tasks → (k : Kind) → kind_of s (task_at s i).res.0 ≡ k → chosen_at s tr t (task_at s i).res.0 ≡ Some i → IsWaiting s (task_at s i).res.0 (waiting_at s tr t) i
  chosen_waits_at t i h Preemptive kind e = region-waits s tr (task_at s i).res.0 kind t i e
  chosen_waits_at t i h RoundRobin kind e = ring-waits s tr (task_at s i).res.0 kind i (on_own i h) t i e
  chosen_waits_at t i h (Tdma gap) kind e = tdma-waits s tr (task_at s i).res.0 gap kind t i e
  chosen_waits_at t i h (Can bit) kind e = can-waits s tr (task_at s i).res.0 bit kind t i e
  chosen_waits_at t i h Fifo kind e = queue-waits s tr (task_at s i).res.0 kind t i e
  chosen_waits_at t i h Ceiling kind e = ceiling-waits s tr (task_at s i).res.0 kind t i e

  waits_to_run : (i t : ℕ) → i < length s.tasks → runs_in s tr t (run s tr t) i ≡ true → waits ((run s tr t).jobs i) ≡ true
  waits_to_run i t h e = (chosen_waits_at t i h (kind_of s (task_at s i).res.0) refl (runs-chosen s tr t i e)).waits_now

  -- so each task's jobs are served in order
  pub order : (i : ℕ) → i < length s.tasks → IsInOrder (course_of s tr i) (task_at s i).best (task_at s i).worst
  order i h =
      course-in_order s tr i (task_at s i).best (task_at s i).worst (best-some s rules i h) (λ k. need-least s tr i k obeys h (best-le s rules i h)) (λ k. need-greatest s tr i k obeys h)
      (λ t e. waits_to_run i t h e)

  pub open-by : (i : ℕ) → i < length s.tasks → (t k : ℕ) → k < length ((run s tr t).jobs i) → is_open (get_or ((run s tr t).jobs i) k no_job) ≡ ltb (received_before s tr i t) (work (need s tr i) (k + 1))
  open-by i h =
      open-is s tr i (task_at s i).best (task_at s i).worst (best-some s rules i h) (λ k. need-least s tr i k obeys h (best-le s rules i h)) (λ k. need-greatest s tr i k obeys h)
      (λ t e. waits_to_run i t h e)

  -- what a job still needs
  pub left-by : (i : ℕ) → i < length s.tasks → (t k : ℕ) → k < length ((run s tr t).jobs i) → (get_or ((run s tr t).jobs i) k no_job).left ≡ min (need s tr i k) (work (need s tr i) (k + 1) - received_before s tr i t)
  left-by i h =
      left-is s tr i (task_at s i).best (task_at s i).worst (best-some s rules i h) (λ k. need-least s tr i k obeys h (best-le s rules i h)) (λ k. need-greatest s tr i k obeys h)
      (λ t e. waits_to_run i t h e)

  pub pending-waits : (i t : ℕ) → IsPending (course_of s tr i) t → waiting_at s tr t i ≡ true
  pending-waits i t h = less-waits ((run s tr t).jobs i) (omega (arith, arrived-one s tr t i))

  -- ---- a task and those of higher priority

  record InLevel (i j : ℕ) : Type 0 where
    task : j < length s.tasks
    shares : shares_resource s i j ≡ true
    rank : priority_of (task_at s j).turn ≤ priority_of (task_at s i).turn

  level-are : (i : ℕ) → i < length s.tasks → AllByRecursion (InLevel i) (i ∷ higher_tasks s i)
  level-are i h = (
    record { task = h; shares = shares_itself s i; rank = omega arith },
    all_tasks s (is_higher s i) (InLevel i) (λ j below passes.
        let parts = and_parts (shares_resource s i j) (ltb (priority_of (task_at s j).turn) (priority_of (task_at s i).turn)) passes in
        let less = ltb-true (priority_of (task_at s j).turn) (priority_of (task_at s i).turn) parts.1 in
        record { task = below; shares = parts.0; rank = omega arith }),
  )

  level_on : (i j : ℕ) → InLevel i j → IsOn s (task_at s i).res.0 j
  level_on i j l = record { task = l.task; here = eq-eqb (task_at s j).res.0 (task_at s i).res.0 (sym (eqb-true (task_at s i).res.0 (task_at s j).res.0 l.shares)) }

  on_level : (i j : ℕ) → IsOn s (task_at s i).res.0 j → priority_of (task_at s j).turn ≤ priority_of (task_at s i).turn → InLevel i j
  on_level i j on rank =
      record { task = on.task; shares = eq-eqb (task_at s i).res.0 (task_at s j).res.0 (sym (eqb-true (task_at s j).res.0 (task_at s i).res.0 on.here)); rank = rank }

  -- where one of them runs, they receive a tick
  level_up : (i c t : ℕ) → i < length s.tasks → HasPriorities (resource_of s i).kind → InLevel i c → chosen_at s tr t (task_at s i).res.0 ≡ Some c → received_by (course_of s tr) (i ∷ higher_tasks s i) t < received_by (course_of s tr) (i ∷ higher_tasks s i) (t + 1)
  level_up i c t h ranked l chosen =
      let ran = received-runs s tr t c (chosen-runs s tr t (task_at s i).res.0 c (level_on i c l) chosen) in
      sum-lt (λ j. received_before s tr j t) (λ j. received_before s tr j (t + 1)) (i ∷ higher_tasks s i)
      ((order i h).more_received t, all_tasks s (is_higher s i) (λ j. received_before s tr j t ≤ received_before s tr j (t + 1)) (λ j below passes. (order j below).more_received t))
      (elim (cases_lt (priority_of (task_at s c).turn) (priority_of (task_at s i).turn)) [
        | inl less ↦
            inr (any_task s (is_higher s i) (λ j. received_before s tr j t < received_before s tr j (t + 1)) c l.task
            (and_from (shares_resource s i c) (ltb (priority_of (task_at s c).turn) (priority_of (task_at s i).turn)) l.shares (lt-ltb _ _ less)) (omega arith))
        | inr same ↦
            let here = own_priority s rules i c h l.task l.shares ranked (omega (arith, l.rank)) in
            inl (subst (λ j. received_before s tr j t < received_before s tr j (t + 1)) (sym here) (omega arith))
      ])

  waiting_in_level : (i t : ℕ) → i < length s.tasks → AnyOf (λ j. IsPending (course_of s tr j) t) (i ∷ higher_tasks s i) → (j : ℕ) × InLevel i j × IsWaiting s (task_at s i).res.0 (waiting_at s tr t) j
  waiting_in_level i t h any =
      let one = any_with (InLevel i) (λ j. IsPending (course_of s tr j) t) (i ∷ higher_tasks s i) (level-are i h) any in
      (one.0, one.1, record { on = level_on i one.0 one.1; waits_now = pending-waits one.0 t one.2 })

  -- the most urgent of those that wait is in the level, where one of the level waits
  urgent_in_level : (i t j c : ℕ) → InLevel i j → IsWaiting s (task_at s i).res.0 (waiting_at s tr t) j → most_urgent s (filter (waiting_at s tr t) (tasks_on s (task_at s i).res.0)) ≡ Some c → InLevel i c
  urgent_in_level i t j c l w e =
      let first = urgent_waits s tr t (task_at s i).res.0 c e in
      let le = all_at (λ j. priority_of (task_at s c).turn ≤ priority_of (task_at s j).turn) (filter (waiting_at s tr t) (tasks_on s (task_at s i).res.0)) j first.first (in_waiting s (task_at s i).res.0 (waiting_at s tr t) j w) in
      on_level i c first.one.on (omega (arith, le, l.rank))

  -- ---- regions

  -- a task that is less urgent than one of the level isn't of it
  not_lower : (i j : ℕ) → is_higher s j i ≡ true → ¬ InLevel i j
  not_lower i j lower l =
      let less = ltb-true (priority_of (task_at s i).turn) (priority_of (task_at s j).turn) (and_parts (shares_resource s j i) _ lower).1 in
      omega (arith, less, l.rank)

  -- what task j has had of a region of its own, where this task holds the resource and so much of its region is left
  had_by : ℕ → Option ℕ → ℕ → ℕ
  had_by j None left = 0
  had_by j (Some k) left = cond (eqb k j) (region_of s k - left) 0

  had_by-some : (j : ℕ) (o : Option ℕ) (left : ℕ) → 0 < had_by j o left → o ≡ Some j
  unfolding had_by
  had_by-some j None left some = absurd (omega arith)
  had_by-some j (Some k) left some =
      elim (cases_Bool (eqb k j)) [
        | inl own ↦ ap Some (eqb-true k j own)
        | inr other ↦ let some' = rw other at some in absurd (omega arith)
      ]

  had_by-is : (j : ℕ) (o : Option ℕ) (left : ℕ) → o ≡ Some j → had_by j o left ≡ region_of s j - left
  unfolding had_by
  had_by-is j o left e = rw e (rw (eq-eqb j j refl) refl)

  module _ (i : ℕ) (h : i < length s.tasks) (kind : (resource_of s i).kind ≡ Preemptive) where
    had_at : ℕ → ℕ → ℕ
    had_at j t = had_by j (state_at s tr t (task_at s i).res.0).holder (state_at s tr t (task_at s i).res.0).left

    -- a job within a region has had the ticks of it that aren't left
    record IsWithin (t j : ℕ) : Type 0 where
      some : 0 < (state_at s tr t (task_at s i).res.0).left
      less : (state_at s tr t (task_at s i).res.0).left < region_of s j
      got : work (need s tr j) (ended_count ((run s tr t).jobs j)) + (region_of s j - (state_at s tr t (task_at s i).res.0).left) ≤ received_before s tr j t

    -- what is left of a region, by who holds the resource
    left-within : (o : Option ℕ) (left j : ℕ) → HoldsRegion s left o → o ≡ Some j → (0 < left) × (left < region_of s j)
    left-within (Some k) left j holds e = subst (λ l. (0 < left) × (left < region_of s l)) (some-injective k j e) holds
    left-within None left j holds e = cc

    is_within : (t j : ℕ) → (state_at s tr t (task_at s i).res.0).holder ≡ Some j → IsWithin t j
    is_within zero j holds = let none = region-first s tr (task_at s i).res.0 kind in cc
    is_within (suc t) j holds =
        let e : suc t ≡ t + 1 = omega arith in
        let next = region-next s tr (task_at s i).res.0 kind t j holds in
        let w = region-waits s tr (task_at s i).res.0 kind t j next.0.0 in
        let ran = rw (sym e) at (received-runs s tr t j (chosen-runs s tr t (task_at s i).res.0 j w.on next.0.0)) in
        let same : ended_count ((run s tr (suc t)).jobs j) ≡ ended_count ((run s tr t).jobs j) = omega (arith, ended-suc s tr t j, ends_in-is s tr t j, next.0.1) in
        let range = left-within (state_at s tr (suc t) (task_at s i).res.0).holder (state_at s tr (suc t) (task_at s i).res.0).left j (keeps_region (suc t)) holds in
        record {
          some = range.0;
          less = range.1;
          got = rw same (elim next.1 [
            | inl on ↦ let before = is_within t j on.0 in omega (arith, ran, before.got, before.less, on.1)
            | inr new ↦ let paid = (order j w.on.task).ended_paid t in omega (arith, ran, paid, new.1)
          ]);
        }
      where
        keeps_region : (t : ℕ) → HoldsRegion s (state_at s tr t (task_at s i).res.0).left (state_at s tr t (task_at s i).res.0).holder
        keeps_region t = let keeps = (run-belongs s tr t (task_at s i).res.0).turn in rw kind at keeps

    region-short : (j t : ℕ) → j < length s.tasks → had_at j t ≤ blocking_by Preemptive (task_at s j)
    unfolding had_at
    region-short j t below =
        elim (cases_lt 0 (had_at j t)) [
          | inr none ↦ omega arith
          | inl some ↦
              let st = state_at s tr t (task_at s i).res.0 in
              let holds = had_by-some j st.holder st.left some in
              let is = had_by-is j st.holder st.left holds in
              let w = is_within t j holds in
              let o = order j below in
              omega (arith, is, w.some, w.less, w.got, o.next_unpaid t, work-one (need s tr j) (ended_count ((run s tr t).jobs j)), o.greatest (ended_count ((run s tr t).jobs j)))
        ]

    region-goes_on_at : (j t : ℕ) → j < length s.tasks → is_higher s j i ≡ true → AnyOf (λ k. IsPending (course_of s tr k) t) (i ∷ higher_tasks s i) → 0 < had_at j (t + 1) → (0 < had_at j t) × (had_at j t < had_at j (t + 1))
    unfolding had_at
    region-goes_on_at j t below lower any some =
        let e : t + 1 ≡ suc t = omega arith in
        let then = state_at s tr (t + 1) (task_at s i).res.0 in
        let now = state_at s tr t (task_at s i).res.0 in
        let holds = had_by-some j then.holder then.left some in
        let is = had_by-is j then.holder then.left holds in
        let next = region-next s tr (task_at s i).res.0 kind t j (rw e at holds) in
        elim next.1 [
          | inl on ↦
              let before = had_by-is j now.holder now.left on.0 in
              let w = is_within t j on.0 in
              let left = rw (sym e) at on.1 in
              (omega (arith, before, w.less), omega (arith, before, is, w.less, w.some, left))
          | inr new ↦
              let one = waiting_in_level i t h any in
              absurd (not_lower i j lower (urgent_in_level i t one.0 j one.1 one.2 (sym (region-starts s tr (task_at s i).res.0 kind t new.0) ∙ next.0.0)))
        ]

    regions-serve_at : (t : ℕ) → AllByRecursion (λ j. had_at j t ≡ 0) (lower_tasks s i) → AnyOf (λ j. IsPending (course_of s tr j) t) (i ∷ higher_tasks s i) → (o : Option ℕ) → (state_at s tr t (task_at s i).res.0).holder ≡ o → (u : Option ℕ) → most_urgent s (filter (waiting_at s tr t) (tasks_on s (task_at s i).res.0)) ≡ u → received_by (course_of s tr) (i ∷ higher_tasks s i) t < received_by (course_of s tr) (i ∷ higher_tasks s i) (t + 1)
    unfolding had_at
    regions-serve_at t nobody any (Some k) holds u urgent =
        let chosen = region-goes_on s tr (task_at s i).res.0 kind t k holds in
        let on = (region-held s tr (task_at s i).res.0 kind t k holds).on in
        elim (cases_lt (priority_of (task_at s i).turn) (priority_of (task_at s k).turn)) [
          | inl lower ↦
              let among = any_task s (λ j. is_higher s j i) (λ j. j ≡ k) k on.task (and_from (shares_resource s k i) (ltb (priority_of (task_at s i).turn) (priority_of (task_at s k).turn)) on.here (lt-ltb _ _ lower)) refl in
              let none = all_at (λ j. had_at j t ≡ 0) (lower_tasks s i) k nobody among in
              let is = had_by-is k (state_at s tr t (task_at s i).res.0).holder (state_at s tr t (task_at s i).res.0).left holds in
              absurd (omega (arith, none, is, (is_within t k holds).less))
          | inr higher ↦ level_up i k t h (rw kind refl) (on_level i k on higher) chosen
        ]
    regions-serve_at t nobody any None holds None urgent =
        let one = waiting_in_level i t h any in
        absurd (some_urgent s (filter (waiting_at s tr t) (tasks_on s (task_at s i).res.0)) one.0 (in_waiting s (task_at s i).res.0 (waiting_at s tr t) one.0 one.2) urgent)
    regions-serve_at t nobody any None holds (Some c) urgent =
        let one = waiting_in_level i t h any in
        level_up i c t h (rw kind refl) (urgent_in_level i t one.0 c one.1 one.2 urgent) (region-starts s tr (task_at s i).res.0 kind t holds ∙ urgent)

    pub preemptive-runs : RunsByRegions s (course_of s tr) i
    preemptive-runs =
        record {
          had = had_at;
          short = λ j t below lower. region-short j t below;
          goes_on = region-goes_on_at;
          serves = λ t nobody any. regions-serve_at t nobody any (state_at s tr t (task_at s i).res.0).holder refl (most_urgent s (filter (waiting_at s tr t) (tasks_on s (task_at s i).res.0))) refl;
        }

  -- ---- CAN

  module _ (i bit : ℕ) (h : i < length s.tasks) (kind : (resource_of s i).kind ≡ Can bit) where
    r : ℕ
    r = (task_at s i).res.0

    -- a frame that is under way holds the bus
    started-holds : (t j : ℕ) → IsOn s (task_at s i).res.0 j → IsStarted (course_of s tr j) t → (state_at s tr t (task_at s i).res.0).holder ≡ Some j
    unfolding received_before
    started-holds zero j on started = absurd (omega arith)
    started-holds (suc t) j on started =
        let o = order j on.task in
        let e : suc t ≡ t + 1 = omega arith in
        let up = ended-mono (course_of s tr j) (task_at s j).best (task_at s j).worst o t (t + 1) (omega arith) in
        let ends = ends_in-is s tr t j in
        let after = ended-suc s tr t j in
        elim (cases_Bool (runs_in s tr t (run s tr t) j)) [
          | inl ran ↦
              let chosen = on_resource t j on (runs-chosen s tr t j ran) in
              elim (cases_lt 0 (ends_in s tr t (run s tr t) j)) [
                | inl some ↦
                    absurd (omega (arith, started, rw (sym e) at (received-runs s tr t j ran), o.next_unpaid t, after, ends, work-mono (need s tr j) (ended_count ((run s tr t).jobs j) + 1) (ended_count ((run s tr (suc t)).jobs j)) (omega arith)))
                | inr none ↦ can-kept s tr (task_at s i).res.0 bit kind t j chosen (omega arith)
              ]
          | inr idle ↦
              let same = rw (sym e) at (received-idle s tr t j idle) in
              let before : IsStarted (course_of s tr j) t = omega (arith, started, same, after, rw (served-idle s tr t j idle) at after, work-mono (need s tr j) (ended_count ((run s tr t).jobs j)) (ended_count ((run s tr (suc t)).jobs j)) (omega (arith, after, ends))) in
              let holds = started-holds t j on before in
              let ran = chosen-runs s tr t (task_at s i).res.0 j on (can-goes_on s tr (task_at s i).res.0 bit kind t j holds) in
              absurd (false≢true (sym idle ∙ ran))
        ]
      where
        on_resource : (t j : ℕ) → IsOn s (task_at s i).res.0 j → chosen_at s tr t (task_at s j).res.0 ≡ Some j → chosen_at s tr t (task_at s i).res.0 ≡ Some j
        on_resource t j on chosen = rw (eqb-true (task_at s j).res.0 (task_at s i).res.0 on.here) at chosen

    -- and whoever holds it is under way
    held-started : (t j : ℕ) → (state_at s tr t (task_at s i).res.0).holder ≡ Some j → IsStarted (course_of s tr j) t
    held-started zero j holds = let none = can-first s tr (task_at s i).res.0 bit kind in cc
    held-started (suc t) j holds =
        let e : suc t ≡ t + 1 = omega arith in
        let next = can-next s tr (task_at s i).res.0 bit kind t j holds in
        let w = can-waits s tr (task_at s i).res.0 bit kind t j next.0 in
        let ran = rw (sym e) at (received-runs s tr t j (chosen-runs s tr t (task_at s i).res.0 j w.on next.0)) in
        let same : ended_count ((run s tr (suc t)).jobs j) ≡ ended_count ((run s tr t).jobs j) = omega (arith, ended-suc s tr t j, ends_in-is s tr t j, next.1) in
        let paid = (order j w.on.task).ended_paid t in
        let paid' = rw (sym same) at paid in
        omega (arith, ran, paid')

    frame-goes_on : (j t : ℕ) → j < length s.tasks → shares_resource s i j ≡ true → IsStarted (course_of s tr j) t → received_before s tr j t < received_before s tr j (t + 1)
    frame-goes_on j t below shares started =
        let on : IsOn s (task_at s i).res.0 j = record { task = below; here = eq-eqb (task_at s j).res.0 (task_at s i).res.0 (sym (eqb-true (task_at s i).res.0 (task_at s j).res.0 shares)) } in
        let ran = received-runs s tr t j (chosen-runs s tr t (task_at s i).res.0 j on (can-goes_on s tr (task_at s i).res.0 bit kind t j (started-holds t j on started))) in
        omega (arith, ran)

    gives_way_at : (j t : ℕ) → IsOn s (task_at s i).res.0 j → is_higher s j i ≡ true → AnyOf (λ k. IsPending (course_of s tr k) t) (i ∷ higher_tasks s i) → chosen_at s tr t (task_at s i).res.0 ≡ Some j → (o : Option ℕ) → (state_at s tr t (task_at s i).res.0).holder ≡ o → IsStarted (course_of s tr j) t
    gives_way_at j t on lower any chosen (Some k) holds =
        let same = some-injective k j (sym (can-goes_on s tr (task_at s i).res.0 bit kind t k holds) ∙ chosen) in
        held-started t j (holds ∙ ap Some same)
    gives_way_at j t on lower any chosen None holds =
        let one = waiting_in_level i t h any in
        let l = urgent_in_level i t one.0 j one.1 one.2 (sym (can-starts s tr (task_at s i).res.0 bit kind t holds) ∙ chosen) in
        absurd (not_lower i j lower l)

    frame-gives_way : (j t : ℕ) → j < length s.tasks → is_higher s j i ≡ true → AnyOf (λ k. IsPending (course_of s tr k) t) (i ∷ higher_tasks s i) → received_before s tr j t < received_before s tr j (t + 1) → IsStarted (course_of s tr j) t
    frame-gives_way j t below lower any ran =
        let shares = (and_parts (shares_resource s j i) _ lower).0 in
        let on : IsOn s (task_at s i).res.0 j = record { task = below; here = shares } in
        elim (cases_Bool (runs_in s tr t (run s tr t) j)) [
          | inl e ↦
              let chosen = rw (eqb-true (task_at s j).res.0 (task_at s i).res.0 shares) at (runs-chosen s tr t j e) in
              gives_way_at j t on lower any chosen (state_at s tr t (task_at s i).res.0).holder refl
          | inr idle ↦ absurd (omega (arith, ran, received-idle s tr t j idle))
        ]

    frames-serve_at : (t : ℕ) → AllByRecursion (λ j. ¬ IsStarted (course_of s tr j) t) (lower_tasks s i) → AnyOf (λ j. IsPending (course_of s tr j) t) (i ∷ higher_tasks s i) → (o : Option ℕ) → (state_at s tr t (task_at s i).res.0).holder ≡ o → (u : Option ℕ) → most_urgent s (filter (waiting_at s tr t) (tasks_on s (task_at s i).res.0)) ≡ u → received_by (course_of s tr) (i ∷ higher_tasks s i) t < received_by (course_of s tr) (i ∷ higher_tasks s i) (t + 1)
    frames-serve_at t nobody any (Some k) holds u urgent =
        let chosen = can-goes_on s tr (task_at s i).res.0 bit kind t k holds in
        let on = (can-held s tr (task_at s i).res.0 bit kind t k holds).on in
        elim (cases_lt (priority_of (task_at s i).turn) (priority_of (task_at s k).turn)) [
          | inl lower ↦
              let among = any_task s (λ j. is_higher s j i) (λ j. j ≡ k) k on.task (and_from (shares_resource s k i) (ltb (priority_of (task_at s i).turn) (priority_of (task_at s k).turn)) on.here (lt-ltb _ _ lower)) refl in
              let not_started = all_at (λ j. ¬ IsStarted (course_of s tr j) t) (lower_tasks s i) k nobody among in
              absurd (not_started (held-started t k holds))
          | inr higher ↦ level_up i k t h (rw kind refl) (on_level i k on higher) chosen
        ]
    frames-serve_at t nobody any None holds None urgent =
        let one = waiting_in_level i t h any in
        absurd (some_urgent s (filter (waiting_at s tr t) (tasks_on s (task_at s i).res.0)) one.0 (in_waiting s (task_at s i).res.0 (waiting_at s tr t) one.0 one.2) urgent)
    frames-serve_at t nobody any None holds (Some c) urgent =
        let one = waiting_in_level i t h any in
        level_up i c t h (rw kind refl) (urgent_in_level i t one.0 c one.1 one.2 urgent) (can-starts s tr (task_at s i).res.0 bit kind t holds ∙ urgent)

    pub can-runs : RunsByFrames s (course_of s tr) i
    can-runs =
        record {
          goes_on = frame-goes_on;
          gives_way = frame-gives_way;
          serves = λ t nobody any. frames-serve_at t nobody any (state_at s tr t (task_at s i).res.0).holder refl (most_urgent s (filter (waiting_at s tr t) (tasks_on s (task_at s i).res.0))) refl;
        }

  -- ---- round robin

  module _ (i : ℕ) (h : i < length s.tasks) (kind : (resource_of s i).kind ≡ RoundRobin) where
    who_holds : ℕ → ℕ
    who_holds t = (held s tr (task_at s i).res.0 kind i (on_own i h) t).who

    turns : Turns
    turns =
        record {
          places = length s.tasks;
          holder = who_holds;
          left = λ t. (state_at s tr t (task_at s i).res.0).left;
          slot = λ j. slot_of (task_at s j).turn;
        }

    same_holder : (a b : ℕ) → (o : Option ℕ) → o ≡ Some a → o ≡ Some b → a ≡ b
    same_holder a b o e f = cc

    -- whoever holds the turn after a tick in which somebody was chosen is the one that ran
    takes_turn : (t c : ℕ) → IsOn s (task_at s i).res.0 c → chosen_at s tr t (task_at s i).res.0 ≡ Some c → who_holds (t + 1) ≡ c → GoesOn turns t ⊎ PassesOn (IsOnRing s i) (course_of s tr) turns t → TakesTurn (IsOnRing s i) (course_of s tr) turns t
    unfolding turns
    takes_turn t c on chosen here turn =
        record {
          turn = turn;
          runs = λ j m e. received-runs s tr t j (chosen-runs s tr t (task_at s i).res.0 j (ring_on s i j m) (chosen ∙ ap Some (sym here ∙ e)));
          waits = λ j m ne.
              elim (cases_Bool (runs_in s tr t (run s tr t) j)) [
                | inl ran ↦
                    let chosen_j = rw (eqb-true (task_at s j).res.0 (task_at s i).res.0 (ring_on s i j m).here) at (runs-chosen s tr t j ran) in
                    absurd (ne (here ∙ same_holder c j (chosen_at s tr t (task_at s i).res.0) chosen chosen_j))
                | inr idle ↦ received-idle s tr t j idle
              ];
        }

    slot_some : (j : ℕ) → IsOn s (task_at s i).res.0 j → 0 < slot_of (task_at s j).turn
    slot_some j on = slot-some s rules j on.task (rw (eqb-true (task_at s j).res.0 (task_at s i).res.0 on.here) (rw kind tt))

    ticks : (t : ℕ) → IsPending (course_of s tr i) t → TakesTurn (IsOnRing s i) (course_of s tr) turns t
    unfolding turns who_holds
    ticks t waiting =
        let e : suc t ≡ t + 1 = omega arith in
        let now = held s tr (task_at s i).res.0 kind i (on_own i h) t in
        let then = held s tr (task_at s i).res.0 kind i (on_own i h) (t + 1) in
        let own : IsWaiting s (task_at s i).res.0 (waiting_at s tr t) i = record { on = on_own i h; waits_now = pending-waits i t waiting } in
        elim (ring_cases s tr (task_at s i).res.0 kind t now.who now.is) [
          | inl on ↦
              let holder = rw e at on.holder in
              let left = rw e at on.left in
              let same = same_holder then.who now.who _ then.is holder in
              takes_turn t now.who now.on on.chosen same (inl (record { same = same; less = left }))
          | inr o ↦ elim o [
            | inl p ↦
                let holder = rw e at p.1.holder in
                let left = rw e at p.1.left in
                let same = same_holder then.who p.0 _ then.is holder in
                let w = next_on s tr (task_at s i).res.0 kind t now.who p.0 now.on p.1 in
                takes_turn t p.0 w.on p.1.chosen same
                (inr (record {
                  over = gone t now.who p.1.over;
                  fresh = rw same (omega (arith, left, slot_some p.0 w.on));
                  next = λ j m pending. rw same (next-nearest s (task_at s i).res.0 now.who now.on.task (waiting_at s tr t) p.0 j p.1.first (record { on = ring_on s i j m; waits_now = pending-waits j t pending }));
                }))
            | inr rest ↦
                absurd (some_first (filter (waiting_at s tr t) (ring_after s (task_at s i).res.0 now.who)) i (in_ring_after s (task_at s i).res.0 now.who now.on.task (waiting_at s tr t) i own) rest.nobody)
          ]
        ]
      where
        gone : (t c : ℕ) → (waiting_at s tr t c && ltb 0 (state_at s tr t (task_at s i).res.0).left) ≡ false → ((state_at s tr t (task_at s i).res.0).left ≡ 0) ⊎ ¬ IsPending (course_of s tr c) t
        gone t c over =
            elim (and_cases (waiting_at s tr t c) (ltb 0 (state_at s tr t (task_at s i).res.0).left) over) [
              | inl none ↦ inr (λ p. false≢true (sym none ∙ pending-waits c t p))
              | inr used ↦ inl (let le = ltb-false 0 (state_at s tr t (task_at s i).res.0).left used in omega arith)
            ]

    pub ring-runs : RunsByTurns s (course_of s tr) i
    unfolding turns who_holds
    ring-runs =
        record {
          turns = turns;
          are =
              record {
                placed = λ j m. m.task;
                held = λ t. on_ring s i (who_holds t) (held s tr (task_at s i).res.0 kind i (on_own i h) t).on;
                within = λ t. (held s tr (task_at s i).res.0 kind i (on_own i h) t).within;
              };
          slots = λ j. refl;
          some = slot-some s rules i h (rw kind tt);
          ticks = ticks;
        }
