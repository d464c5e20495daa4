-- Where two lists of segments first differ.
use Rattle.std.specs.Prelude.{ℕ, ◌+◌, Bool, ◌&&◌, ◌==◌, if◌then◌else◌, List, [], ◌∷◌, Some, None}
use Rattle.cpa_audit.specs.declared.schedule.Segment.{Segment}
use Rattle.cpa_audit.specs.declared.finding.Finding.{Finding}
use Rattle.cpa_audit.specs.declared.finding.Finding.TheVariants.{Same, Wrong}

abbrev pub same_segment : Segment → Segment → Bool
same_segment a b = a.task.0 == b.task.0 && (a.start == b.start && a.end == b.end)

-- the first place from one on at which the lists differ, or one of them has ended, and what is expected there
abbrev pub difference_from : ℕ → List Segment → List Segment → Finding
difference_from place [] [] = Same
difference_from place [] (e ∷ es) = Wrong place (Some e)
difference_from place (g ∷ gs) [] = Wrong place None
difference_from place (g ∷ gs) (e ∷ es) = if same_segment g e then difference_from (place + 1) gs es else Wrong place (Some e)

-- what there is to say of a schedule where these segments are expected; places are counted from 1
unfoldable pub finding_of : List Segment → List Segment → Finding
finding_of schedule expected = difference_from 1 schedule expected
