-- What holds of the segments of a run, and of what an audit finds.
use Rattle.std.specs.Prelude.{◌≡◌, ◌<◌, List, Contains, AllPairs}
use Rattle.std.proofs.Common.{◌⊎◌}
use Rattle.cpa_model.specs.SystemLists.{SystemLists}
use Rattle.cpa_model.specs.Rules.{IsSystem}
use Rattle.cpa_trace.specs.Trace.{TraceLists}
use Rattle.cpa_sim.specs.Outcome.{CanReplay}
use Rattle.cpa_audit.specs.declared.schedule.Segment.{Segment}
use Rattle.cpa_audit.specs.declared.finding.Finding.TheVariants.{Same}
use Rattle.cpa_audit.specs.Segments.{resource_of, segments, IsSegment}
use Rattle.cpa_audit.specs.Findings.{finding_of}

-- by their starts, and for equal starts by their resources
abbrev pub ComesBefore : SystemLists → Segment → Segment → Type 0
ComesBefore s a b = (a.start < b.start) ⊎ ((a.start ≡ b.start) × (resource_of s a.task < resource_of s b.task))

-- a list of all segments of a run, each of which comes before all that are behind it; so each is there once
pub record AreSegments (s : SystemLists) (tr : TraceLists) (list : List Segment) : Type 0 where
  pub each : (seg : Segment) → Contains list seg → IsSegment s tr seg
  pub all : (seg : Segment) → IsSegment s tr seg → Contains list seg
  pub ordered : AllPairs (ComesBefore s) list

-- the segments of a run are that list
abbrev pub SegmentsAreAll : Type 0
SegmentsAreAll = (s : SystemLists) (tr : TraceLists) → IsSystem s → CanReplay s tr → AreSegments s tr (segments s tr)

-- nothing is found exactly where the lists are equal
abbrev pub SameIsEqual : Type 0
SameIsEqual = (schedule expected : List Segment) → (finding_of schedule expected ≡ Same → schedule ≡ expected) × (schedule ≡ expected → finding_of schedule expected ≡ Same)
