-- A job arrives when its cause happens.
use Rattle.std.proofs.Common.{◌≡◌, ℕ, ◌+◌, ◌<◌, ◌≤◌, length, true, Some, refl, sym, ◌∙◌, inl, inr, arith, ap}
use Rattle.std.proofs.lemmas.Bool.{cases_lt}
use Rattle.cpa_model.specs.declared.entries.Activator.{Activator}
use Rattle.cpa_model.specs.declared.entries.Activator.TheVariants.{Source, Task}
use Rattle.cpa_model.specs.Rules.{IsSystem}
use Rattle.cpa_model.specs.SystemLists.{SystemLists, task_at}
use Rattle.cpa_trace.specs.Trace.{TraceLists, Obeys}
use Rattle.cpa_sim.specs.Run.{run}
use Rattle.cpa_sim.proofs.QueueLaws.{ended-le}
use Rattle.cpa_sound.specs.BoundsHold.{HasJob, arrival_of, causes_at}
use Rattle.cpa_sound.specs.Laws.{HappensAt, AJobArrivesWithItsCause}
use Rattle.cpa_sound.specs.RunCourse.{course_of}
use Rattle.cpa_sound.proofs.CauseRuns.{event}
use Rattle.cpa_sound.proofs.CauseStreams.{is-same, activator-there}
use Rattle.cpa_sound.proofs.CourseLaws.{ended-mono}
use Rattle.cpa_sound.proofs.FieldLaws.{arrival-is}
use Rattle.cpa_sound.proofs.KeepsCauses.{Starts, started_by}
use Rattle.cpa_sound.proofs.KindRuns.{order}
use Rattle.cpa_sound.proofs.Parts.{jobs_in}
use Rattle.cpa_sound.proofs.PartLaws.{jobs_in-all, from_end}
use Rattle.cpa_sound.proofs.Soundness.{end-is, complete-by, causes-kept, has-arrived}

module _ (s : SystemLists) (tr : TraceLists) (rules : IsSystem s) (obeys : Obeys s tr) (t i k : ℕ) (h : i < length s.tasks) (has : HasJob s tr t i k) where
  -- what an activator started, if that is what started this job
  module _ (a : Activator) (by : (causes_at s tr t i k).by ≡ a) where
    starts : Starts s i a
    starts = rw by at ((causes-kept s tr rules obeys t).activated i k h (has-arrived s tr rules obeys t i k has))

    own : started_by (causes_at s tr t) i a k ≡ true
    own = is-same a (causes_at s tr t i k).by (sym by)

    numbered : (causes_at s tr t i k).number ≡ jobs_in (started_by (causes_at s tr t) i a) k
    numbered = rw by at ((causes-kept s tr rules obeys t).numbered i k h (has-arrived s tr rules obeys t i k has))

  happens : (a : Activator) → (causes_at s tr t i k).by ≡ a → HappensAt s tr t a (causes_at s tr t i k).number (arrival_of s tr t i k)
  happens (Source q) by =
      let arrives = arrival-is s tr t i k has in
      let it = event s tr obeys rules t i q.0 h (starts (Source q) by) (order s tr rules obeys i h) k (arrival_of s tr t i k) (omega (arith, arrives.1)) (own (Source q) by) arrives.0 in
      rw (numbered (Source q) by) (it.there, omega (arith, it.is_after, it.is_by))
  happens (Task j) by =
      let c = course_of s tr i in
      let d = course_of s tr j.0 in
      let from : Activator = Task j in
      let hj : j.0 < length s.tasks = activator-there s rules i from h (starts from by) in
      let o = order s tr rules obeys j.0 hj in
      let arrives = arrival-is s tr t i k has in
      let sent = from_end c d (task_at s j.0).best (task_at s j.0).worst (task_at s i).best (task_at s i).worst o (order s tr rules obeys i h)
      (started_by (causes_at s tr t) i from) (λ n. true) (t + 1)
      (λ u soon. (causes-kept s tr rules obeys t).fed i j.0 u h (starts from by) (omega arith) ∙ sym (jobs_in-all (λ n. true) (λ n. refl) (d.ended u)))
      k (arrival_of s tr t i k) (omega (arith, arrives.1)) (own from by) arrives.0 in
      let is : sent.job ≡ (causes_at s tr t i k).number = sym (jobs_in-all (λ n. true) (λ n. refl) sent.job) ∙ (sent.number ∙ sym (numbered from by)) in
      let ends = rw is at sent.ends in
      let later = ended-mono d (task_at s j.0).best (task_at s j.0).worst o (sent.end + 1) t (omega (arith, arrives.1, sent.arrives)) in
      let there : HasJob s tr t j.0 (causes_at s tr t i k).number = omega (arith, ends.1, later, ended-le ((run s tr t).jobs j.0)) in
      let done = complete-by s tr rules obeys j.0 (causes_at s tr t i k).number (sent.end + 1) t hj there (omega (arith, arrives.1, sent.arrives)) ends.1 in
      let when = end-is s tr rules obeys t j.0 (causes_at s tr t i k).number done.ended hj there done.is in
      let not_sooner : sent.end ≤ when.0 =
      elim (cases_lt when.0 sent.end) [
        | inl sooner ↦ absurd (omega (arith, when.2.1, ends.0, ended-mono d (task_at s j.0).best (task_at s j.0).worst o (when.0 + 1) sent.end (omega arith)))
        | inr rest ↦ rest
      ] in
      let now : done.ended ≡ arrival_of s tr t i k = omega (arith, done.by, when.1, not_sooner, sent.arrives) in
      (there, done.is ∙ ap Some now)

pub a_job_arrives_with_its_cause : AJobArrivesWithItsCause
a_job_arrives_with_its_cause s tr rules obeys t i k h has = happens s tr rules obeys t i k h has (causes_at s tr t i k).by refl
