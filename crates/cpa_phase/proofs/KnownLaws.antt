-- What is known of the work of clocks.
use Rattle.std.proofs.Common.{◌≡◌, ℕ, ◌<◌, ◌≤◌, List, length, sym, subst, arith}
use Rattle.std.specs.Prelude.{slice_index_or}
use Rattle.cpa_phase.specs.declared.clock.Clock.{Clock}
use Rattle.cpa_phase.specs.declared.known.WindowWork.{WindowWork}
use Rattle.cpa_phase.specs.declared.known.KnownWork.{KnownWork}
use Rattle.cpa_phase.specs.Known.{AreKnown, IsKnown}
use Rattle.cpa_phase.proofs.WorkLaws.{clocks_work-mono}

-- what stands at a place is known
pub known-at : (clocks : List Clock) (k : KnownWork) (i : ℕ) (e : WindowWork) → AreKnown clocks k → i < length k.windows.items → e ≡ slice_index_or k.windows.items i e → IsKnown clocks e
known-at clocks k i e h there is = subst (IsKnown clocks) (sym is) (h.each i e there)

-- between two windows with the same work each has it
pub known-between : (clocks : List Clock) (before after : WindowWork) (window : ℕ) → IsKnown clocks before → IsKnown clocks after → before.work ≡ after.work → before.window ≤ window → window ≤ after.window
    → IsKnown clocks (record { window = window; work = after.work })
known-between clocks before after window b a same low high = record {
  value = omega (arith, same, b.value, a.value, clocks_work-mono clocks before.window window low, clocks_work-mono clocks window after.window high);
  small = a.small;
}
