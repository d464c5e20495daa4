-- A resource with immediate priority ceilings keeps their law.
use Rattle.std.proofs.Common.{◌≡◌, ℕ, ◌<◌, ◌≤◌, ◌⊎◌, length, ◌∷◌, true, ltb, Option, Some, None, refl, sym, ◌∙◌, ap, inl, inr, arith, subst}
use Rattle.std.specs.List.{AllByRecursion}
use Rattle.std.proofs.lemmas.Bool.{cases_lt, cases_Bool, and_parts, and_from, eqb-true, ltb-true, lt-ltb}
use Rattle.cpa_model.specs.declared.entries.Kind.TheVariants.{Ceiling}
use Rattle.cpa_model.specs.SystemLists.{SystemLists, task_at, resource_at, resource_of, priority_of, shares_resource, is_higher, higher_tasks}
use Rattle.cpa_model.specs.Locks.{sections_of}
use Rattle.cpa_model.specs.Rules.{IsSystem, AreSections, LocksFit}
use Rattle.cpa_local.specs.Blocking.{lower_tasks, blocking_between, blocking_of}
use Rattle.cpa_sched.specs.Locks.{urgency, urgency_of}
use Rattle.cpa_sched.specs.States.{IsOn}
use Rattle.cpa_sched.specs.Steps.{kind_of}
use Rattle.cpa_sched.proofs.OptionLaws.{some-injective}
use Rattle.cpa_trace.specs.Trace.{TraceLists, need, Obeys}
use Rattle.cpa_sim.specs.Run.{Progress, ready_at, ended_count, runs_in, run}
use Rattle.cpa_sound.specs.RunCourse.{course_of}
use Rattle.cpa_sound.proofs.Serving.{IsPending}
use Rattle.cpa_sound.proofs.CourseLaws.{work-one}
use Rattle.cpa_sound.proofs.KeepsLaws.{RunsByCeilings}
use Rattle.cpa_sound.proofs.StepLaws.{IsIn, all_at}
use Rattle.cpa_sound.proofs.RuleLaws.{task_rules, own_priority}
use Rattle.cpa_sound.proofs.JobLaws.{waits-less}
use Rattle.cpa_sound.proofs.RunLaws.{received-runs, received-idle}
use Rattle.cpa_sound.proofs.LocalBounds.{all_tasks, any_task, most-ge}
use Rattle.cpa_sound.proofs.ChoiceLaws.{waiting_at, chosen_at, runs-chosen, chosen-runs, ceiling-waits, ceiling-first, ceiling-busy}
use Rattle.cpa_sound.proofs.KindRuns.{ring_on, on_ring, on_own, order, left-by, pending-waits}
use Rattle.cpa_sound.proofs.QueueRuns.{head-is}
use Rattle.cpa_sound.proofs.Sections.{had, Runs, urgency_at, IsServed, KeepsCeilings}
use Rattle.cpa_sound.proofs.LostTicks.{IsKnown}
use Rattle.cpa_sound.proofs.SectionLaws.{sections-nested, sections-known}
use Rattle.cpa_sound.proofs.LockWindow.{loses}

-- the priority number of a task, which its jobs have where they hold no lock
abbrev pub base_of : SystemLists → ℕ → ℕ
base_of s j = priority_of (task_at s j).turn

module _ (s : SystemLists) (tr : TraceLists) (rules : IsSystem s) (obeys : Obeys s tr) where
  -- the rule sees of a task that waits what its job has had
  pub had-is : (t j : ℕ) → j < length s.tasks → waiting_at s tr t j ≡ true → (ready_at s tr (run s tr t).jobs).received j ≡ had (course_of s tr j) t
  had-is t j below w =
      let d : ℕ = ended_count ((run s tr t).jobs j) in
      let o = order s tr rules obeys j below in
      let left = ap (λ (job : Progress). job.left) (head-is s tr rules obeys t j below w) in
      let still = left-by s tr rules obeys j below t d (waits-less ((run s tr t).jobs j) w) in
      omega (arith, left, still, o.ended_paid t, o.next_unpaid t, work-one (need s tr j) d)

  module _ (r : ℕ) (kind : kind_of s r ≡ Ceiling) where
    sections_fit : (j : ℕ) → IsOn s r j → AreSections (task_at s j).region (task_at s j).locks
    sections_fit j on =
        let here : (resource_at s (task_at s j).res.0).kind ≡ Ceiling = ap (λ q. (resource_at s q).kind) (eqb-true (task_at s j).res.0 r on.here) ∙ kind in
        subst (λ k. LocksFit k (task_at s j).region (task_at s j).locks) here (task_rules s rules j on.task).locks_fit

    -- of those that wait the most urgent runs
    first_at : (t c j : ℕ) → chosen_at s tr t r ≡ Some c → IsOn s r j → IsPending (course_of s tr j) t → urgency_at (course_of s tr) (base_of s) (sections_of s) t c ≤ urgency_at (course_of s tr) (base_of s) (sections_of s) t j
    first_at t c j chosen on waits =
        let w = pending-waits s tr rules obeys j t waits in
        let runner = ceiling-waits s tr r kind t c chosen in
        let le = ceiling-first s tr r kind t c j chosen (record { on = on; waits_now = w }) in
        let own = ap (urgency (priority_of (task_at s c).turn) (sections_of s c)) (had-is t c runner.on.task runner.waits_now) in
        let other = ap (urgency (priority_of (task_at s j).turn) (sections_of s j)) (had-is t j on.task w) in
        subst (λ n. n ≤ urgency_at (course_of s tr) (base_of s) (sections_of s) t j) own
        (subst (λ n. urgency_of s (ready_at s tr (run s tr t).jobs).received c ≤ n) other le)

    -- and nobody else
    alone_at : (t c j : ℕ) → chosen_at s tr t r ≡ Some c → IsOn s r j → Runs (course_of s tr j) t → j ≡ c
    alone_at t c j chosen on ran =
        elim (cases_Bool (runs_in s tr t (run s tr t) j)) [
          | inl runs ↦
              let own = rw (eqb-true (task_at s j).res.0 r on.here) at (runs-chosen s tr t j runs) in
              some-injective j c (sym own ∙ chosen)
          | inr idle ↦ absurd (omega (arith, ran, received-idle s tr t j idle))
        ]

    serves_at : (t j : ℕ) → IsOn s r j → IsPending (course_of s tr j) t → (o : Option ℕ) → chosen_at s tr t r ≡ o → (c : ℕ) × IsOn s r c × IsServed (course_of s tr) (base_of s) (sections_of s) (IsOn s r) t c
    serves_at t j on waits None chosen = absurd (ceiling-busy s tr r kind t j (record { on = on; waits_now = pending-waits s tr rules obeys j t waits }) chosen)
    serves_at t j on waits (Some c) chosen =
        let runner = ceiling-waits s tr r kind t c chosen in
        let ran = received-runs s tr t c (chosen-runs s tr t r c runner.on chosen) in
        (c, runner.on, record { runs = omega (arith, ran); first = λ k here waits_k. first_at t c k chosen here waits_k; alone = λ k here ran_k. alone_at t c k chosen here ran_k })

    pub keeps-ceilings : KeepsCeilings (course_of s tr) (λ j. (task_at s j).best) (λ j. (task_at s j).worst) (base_of s) (sections_of s) (IsOn s r)
    keeps-ceilings =
        record {
          order = λ j on. order s tr rules obeys j on.task;
          nested = λ j on. sections-nested s j (sections_fit j on);
          serves = λ t j on waits. serves_at t j on waits (chosen_at s tr t r) refl;
        }

  module _ (i : ℕ) (h : i < length s.tasks) (kind : (resource_of s i).kind ≡ Ceiling) where
    level : AllByRecursion (λ j. IsOn s (task_at s i).res.0 j × (priority_of (task_at s j).turn ≤ priority_of (task_at s i).turn)) (i ∷ higher_tasks s i)
    level = (
      (on_own s tr rules obeys i h, omega arith),
      all_tasks s (is_higher s i) (λ j. IsOn s (task_at s i).res.0 j × (priority_of (task_at s j).turn ≤ priority_of (task_at s i).turn)) (λ j below passes.
          let parts = and_parts (shares_resource s i j) (ltb (priority_of (task_at s j).turn) (priority_of (task_at s i).turn)) passes in
          let less = ltb-true (priority_of (task_at s j).turn) (priority_of (task_at s i).turn) parts.1 in
          (ring_on s i j (record { task = below; shares = parts.0 }), omega (arith, less))),
    )

    in_level : (c : ℕ) → IsOn s (task_at s i).res.0 c → IsIn c (i ∷ higher_tasks s i) ⊎ (priority_of (task_at s i).turn < priority_of (task_at s c).turn)
    in_level c on =
        let shares = (on_ring s i c on).shares in
        elim (cases_lt (priority_of (task_at s i).turn) (priority_of (task_at s c).turn)) [
          | inl lower ↦ inr lower
          | inr other ↦ elim (cases_lt (priority_of (task_at s c).turn) (priority_of (task_at s i).turn)) [
            | inl less ↦
                inl
                (inr (any_task s (is_higher s i) (λ j. j ≡ c) c on.task (and_from (shares_resource s i c) (ltb (priority_of (task_at s c).turn) (priority_of (task_at s i).turn)) shares (lt-ltb _ _ less)) refl))
            | inr same ↦ inl (inl (own_priority s rules i c h on.task shares (rw kind refl) (omega (arith, other, same))))
          ]
        ]

    lower-known : (j : ℕ) → IsOn s (task_at s i).res.0 j → priority_of (task_at s i).turn < priority_of (task_at s j).turn
        → AllByRecursion (IsKnown (sections_of s j) (priority_of (task_at s i).turn) (task_at s j).worst (blocking_of s Ceiling i)) (sections_of s j)
    lower-known j on low =
        let among = any_task s (λ k. is_higher s k i) (λ k. k ≡ j) j on.task (and_from (shares_resource s j i) (ltb (priority_of (task_at s i).turn) (priority_of (task_at s j).turn)) on.here (lt-ltb _ _ low)) refl in
        let le = all_at (λ k. blocking_between s Ceiling i k ≤ blocking_of s Ceiling i) (lower_tasks s i) j (most-ge (λ k. blocking_between s Ceiling i k) 0 (lower_tasks s i)) among in
        sections-known s j i (blocking_of s Ceiling i) (sections_fit (task_at s i).res.0 kind j on) le

    pub ceiling-runs : RunsByCeilings s (course_of s tr) i
    ceiling-runs =
        record {
          loses = loses (course_of s tr) (λ j. (task_at s j).best) (λ j. (task_at s j).worst) (base_of s) (sections_of s) (IsOn s (task_at s i).res.0) (keeps-ceilings (task_at s i).res.0 kind)
              i (higher_tasks s i) (priority_of (task_at s i).turn) (blocking_of s Ceiling i) level in_level lower-known;
        }
