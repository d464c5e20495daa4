-- In every run whose trace obeys, what a source starts comes by its clock.
use Rattle.std.proofs.Common.{◌≡◌, ℕ, ◌+◌, ◌*◌, ◌<◌, length, Some, inl, inr, arith}
use Rattle.std.proofs.lemmas.Bool.{cases_lt}
use Rattle.cpa_clock.specs.declared.anchor.Anchor.{Anchor}
use Rattle.cpa_model.specs.declared.entries.Activator.TheVariants.{Source}
use Rattle.cpa_model.specs.Rules.{IsSystem}
use Rattle.cpa_model.specs.Streams.{source_stream}
use Rattle.cpa_model.specs.SystemLists.{SystemLists, task_at}
use Rattle.cpa_model.proofs.ClockLaws.{clock-there}
use Rattle.cpa_local.specs.OnClocks.{source_anchor}
use Rattle.cpa_trace.specs.Trace.{TraceLists, KeepsClock, Obeys}
use Rattle.cpa_sound.specs.RunCourse.{course_of}
use Rattle.cpa_sound.specs.BoundsHold.{causes_at}
use Rattle.cpa_sound.proofs.Serving.{IsInOrder}
use Rattle.cpa_sound.proofs.KeepsCauses.{Starts, started_by}
use Rattle.cpa_sound.proofs.CauseRuns.{source-timed}
use Rattle.cpa_sound.proofs.AnchorLaws.{source_anchor-is}
use Rattle.cpa_sound.proofs.Timed.{PartKeepsTime}

module _ (s : SystemLists) (tr : TraceLists) (obeys : Obeys s tr) (rules : IsSystem s) where
  -- also of a number that no clock has
  keeps_clock : (c : ℕ) → KeepsClock s tr c
  keeps_clock c =
      elim (cases_lt c (length s.sources)) [
        | inl there ↦ obeys.clocks c there
        | inr none ↦ record { lead = 0; before = λ k. 0; not_early = λ k n on has. absurd (omega (arith, clock-there s k c on)); not_late = λ k n on has. absurd (omega (arith, clock-there s k c on)) }
      ]

  -- how long it had run when the trace began, and how many events of each of its sources had come
  pub clock_lead : ℕ → ℕ
  clock_lead c = (keeps_clock c).lead

  pub came_before : ℕ → ℕ → ℕ
  came_before c k = (keeps_clock c).before k

  pub sourced_on_time : ((i : ℕ) → i < length s.tasks → IsInOrder (course_of s tr i) (task_at s i).best (task_at s i).worst) → (t i k : ℕ) (a : Anchor) → i < length s.tasks → Starts s i (Source (record { 0 = k })) → source_anchor s k ≡ Some a
      → PartKeepsTime (course_of s tr i) (started_by (causes_at s tr t) i (Source (record { 0 = k }))) (clock_lead a.clock) (a.offset + came_before a.clock k * (source_stream s k).period) (source_stream s k) (t + 1)
  unfolding clock_lead came_before
  sourced_on_time orders t i k a h starts e =
      let keeps = keeps_clock a.clock in
      let at = source_anchor-is s k a e in
      source-timed s tr obeys rules t i k h starts (orders i h) keeps.lead (a.offset + keeps.before k * (source_stream s k).period) (λ n there.
      let rows : (keeps.before k + n) * (source_stream s k).period ≡ keeps.before k * (source_stream s k).period + n * (source_stream s k).period = omega arith in
      (omega (arith, keeps.not_early k n at.0 there, at.1, rows), omega (arith, keeps.not_late k n at.0 there, at.1, rows)))
