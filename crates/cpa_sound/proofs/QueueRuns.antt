-- A resource that serves jobs in the order in which they came keeps the law of queues.
use Rattle.std.proofs.Common.{◌≡◌, ℕ, zero, suc, ◌+◌, ◌<◌, ◌≤◌, length, List, [], ◌∷◌, true, false, eqb, not, Option, Some, None, refl, ◌∙◌, ap, inl, inr, arith, subst, get_or}
use Rattle.std.specs.List.{AllByRecursion}
use Rattle.std.proofs.lemmas.Bool.{cases_Bool, and_parts, and_from, not_from_false, eqb-true, cond-true, cond-false, lt-ltb, le-ltb}
use Rattle.cpa_model.specs.declared.entries.Kind.TheVariants.{Fifo}
use Rattle.cpa_model.specs.SystemLists.{SystemLists, task_at, resource_of, shares_resource, is_other, other_tasks}
use Rattle.cpa_model.specs.Rules.{IsSystem}
use Rattle.cpa_trace.specs.Trace.{TraceLists, need, Obeys}
use Rattle.cpa_sched.specs.States.{IsOn, IsWaiting}
use Rattle.cpa_sim.specs.Run.{Progress, no_job, is_open, head_of, ended_count, runs_in, run}
use Rattle.cpa_sound.specs.Course.{Arrives}
use Rattle.cpa_sound.specs.RunCourse.{received_before, course_of}
use Rattle.cpa_sound.proofs.Serving.{work, IsPending, IsNoLater, AnyOf}
use Rattle.cpa_sound.proofs.CourseLaws.{paid, arrives-order}
use Rattle.cpa_sound.proofs.LevelLaws.{sum-lt, any_with}
use Rattle.cpa_sound.proofs.KeepsLaws.{received_by, IsOnRing, RunsByQueue}
use Rattle.cpa_sound.proofs.LocalBounds.{all_tasks, any_task, shares_itself}
use Rattle.cpa_sound.proofs.JobLaws.{waits-less}
use Rattle.cpa_sound.proofs.RunLaws.{received-runs, received-idle}
use Rattle.cpa_sound.proofs.ChoiceLaws.{waiting_at, chosen_at, since_at, runs-chosen, chosen-runs, queue-waits, queue-first, queue-busy}
use Rattle.cpa_sound.proofs.KindRuns.{ring_on, on_ring, on_own, order, open-by, pending-waits}
use Rattle.cpa_sound.proofs.FieldLaws.{arrival-is}

-- the earliest pending job is the first one that isn't complete
first-open : (js : List Progress) (d : ℕ) → ((k : ℕ) → k < d → is_open (get_or js k no_job) ≡ false) → is_open (get_or js d no_job) ≡ true → head_of js ≡ get_or js d no_job
first-open [] d closed here = refl
first-open (job ∷ js) zero closed here = cond-true (is_open job) job (head_of js) here
first-open (job ∷ js) (suc d) closed here =
    cond-false (is_open job) job (head_of js) (closed 0 (omega arith)) ∙ first-open js d (λ k less. closed (suc k) (omega (arith, less))) here

module _ (s : SystemLists) (tr : TraceLists) (rules : IsSystem s) (obeys : Obeys s tr) where
  -- where a task waits, that is the job after those that are complete
  pub head-is : (t j : ℕ) → j < length s.tasks → waiting_at s tr t j ≡ true → head_of ((run s tr t).jobs j) ≡ get_or ((run s tr t).jobs j) (ended_count ((run s tr t).jobs j)) no_job
  head-is t j below w =
      let d : ℕ = ended_count ((run s tr t).jobs j) in
      let has = waits-less ((run s tr t).jobs j) w in
      let o = order s tr rules obeys j below in
      first-open ((run s tr t).jobs j) (ended_count ((run s tr t).jobs j))
      (λ k less.
      open-by s tr rules obeys j below t k (omega (arith, less, has))
      ∙ le-ltb (received_before s tr j t) (work (need s tr j) (k + 1)) (paid (course_of s tr j) (task_at s j).best (task_at s j).worst o k t less))
      (open-by s tr rules obeys j below t d has ∙ lt-ltb (received_before s tr j t) (work (need s tr j) (d + 1)) (o.next_unpaid t))

  since-is : (t j b : ℕ) → j < length s.tasks → waiting_at s tr t j ≡ true → Arrives (course_of s tr j) ((course_of s tr j).ended t) b → since_at s tr t j ≡ b
  since-is t j b below w comes =
      let js : List Progress = (run s tr t).jobs j in
      let d : ℕ = ended_count ((run s tr t).jobs j) in
      let o = order s tr rules obeys j below in
      let same = ap (λ (job : Progress). job.arrival) (head-is t j below w) in
      let here = arrival-is s tr t j d (waits-less ((run s tr t).jobs j) w) in
      let up = arrives-order (course_of s tr j) (task_at s j).best (task_at s j).worst o d d (get_or js d no_job).arrival b here.0 comes (omega arith) in
      let down = arrives-order (course_of s tr j) (task_at s j).best (task_at s j).worst o d d b (get_or js d no_job).arrival comes here.0 (omega arith) in
      omega (arith, same, up, down)

  module _ (i : ℕ) (h : i < length s.tasks) (kind : (resource_of s i).kind ≡ Fifo) where
    no_later_at : (j : ℕ) → j < length s.tasks → shares_resource s i j ≡ true → IsNoLater (course_of s tr) i j
    no_later_at j below shares t b d ran comes waiting own =
        let on = ring_on s i j (record { task = below; shares = shares }) in
        let own_waits : IsWaiting s (task_at s i).res.0 (waiting_at s tr t) i = record { on = on_own s tr rules obeys i h; waits_now = pending-waits s tr rules obeys i t waiting } in
        elim (cases_Bool (runs_in s tr t (run s tr t) j)) [
          | inl runs ↦
              let chosen = rw (eqb-true (task_at s j).res.0 (task_at s i).res.0 on.here) at (runs-chosen s tr t j runs) in
              let w = queue-waits s tr (task_at s i).res.0 kind t j chosen in
              let le = queue-first s tr (task_at s i).res.0 kind t j i chosen own_waits in
              omega (arith, le, since-is t j b below w.waits_now comes, since-is t i d h own_waits.waits_now own)
          | inr idle ↦ absurd (omega (arith, ran, received-idle s tr t j idle))
        ]

    all_on : AllByRecursion (IsOnRing s i) (i ∷ other_tasks s i)
    all_on = (
      record { task = h; shares = shares_itself s i },
      all_tasks s (is_other s i) (IsOnRing s i) (λ j below passes. record { task = below; shares = (and_parts (shares_resource s i j) _ passes).0 }),
    )

    -- where one of them runs, they receive a tick
    queue_up : (t c : ℕ) → IsOn s (task_at s i).res.0 c → chosen_at s tr t (task_at s i).res.0 ≡ Some c → received_by (course_of s tr) (i ∷ other_tasks s i) t < received_by (course_of s tr) (i ∷ other_tasks s i) (t + 1)
    queue_up t c on chosen =
        let ran = received-runs s tr t c (chosen-runs s tr t (task_at s i).res.0 c on chosen) in
        sum-lt (λ j. received_before s tr j t) (λ j. received_before s tr j (t + 1)) (i ∷ other_tasks s i)
        ((order s tr rules obeys i h).more_received t, all_tasks s (is_other s i) (λ j. received_before s tr j t ≤ received_before s tr j (t + 1)) (λ j below passes. (order s tr rules obeys j below).more_received t))
        (elim (cases_Bool (eqb c i)) [
          | inl same ↦ inl (subst (λ j. received_before s tr j t < received_before s tr j (t + 1)) (eqb-true c i same) (omega arith))
          | inr other ↦
              inr (any_task s (is_other s i) (λ j. received_before s tr j t < received_before s tr j (t + 1)) c on.task
              (and_from (shares_resource s i c) (not (eqb c i)) (on_ring s i c on).shares (not_from_false (eqb c i) other)) (omega arith))
        ])

    serves_at : (t : ℕ) → AnyOf (λ j. IsPending (course_of s tr j) t) (i ∷ other_tasks s i) → (o : Option ℕ) → chosen_at s tr t (task_at s i).res.0 ≡ o → received_by (course_of s tr) (i ∷ other_tasks s i) t < received_by (course_of s tr) (i ∷ other_tasks s i) (t + 1)
    serves_at t any None e =
        let one = any_with (IsOnRing s i) (λ j. IsPending (course_of s tr j) t) (i ∷ other_tasks s i) all_on any in
        absurd (queue-busy s tr (task_at s i).res.0 kind t one.0 (record { on = ring_on s i one.0 one.1; waits_now = pending-waits s tr rules obeys one.0 t one.2 }) e)
    serves_at t any (Some c) e = queue_up t c (queue-waits s tr (task_at s i).res.0 kind t c e).on e

    pub queue-runs : RunsByQueue s (course_of s tr) i
    queue-runs =
        record {
          no_later = no_later_at;
          serves = λ t any. serves_at t any (chosen_at s tr t (task_at s i).res.0) refl;
        }
