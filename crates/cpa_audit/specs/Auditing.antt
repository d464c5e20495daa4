-- What an audit knows while it goes along a run.
use Rattle.std.specs.Prelude.{ℕ, ◌+◌, nat_lt, Bool, false, not, if◌then◌else◌, List, length, Option, Some, None, slice_get, slice_index_or, ◌==◌}
use Rattle.std.specs.List.{list_any}
use Rattle.cpa_sim.specs.declared.jobs.Served.{Served}
use Rattle.cpa_audit.specs.declared.schedule.Segment.{Segment}
use Rattle.cpa_audit.specs.declared.finding.Finding.{Finding}
use Rattle.cpa_audit.specs.declared.finding.Finding.TheVariants.{Same, Wrong}
use Rattle.cpa_audit.specs.declared.auditing.Open.{Open}
use Rattle.cpa_audit.specs.declared.auditing.Difference.{Difference}
use Rattle.cpa_audit.specs.Segments.{same_job}
use Rattle.cpa_audit.specs.Findings.{same_segment}

-- whether the job of an open segment goes on
abbrev pub goes_on : Option Open → Option Served → Bool
goes_on None ran = false
goes_on (Some o) None = false
goes_on (Some o) (Some j) = same_job j o.job

-- the segment that starts where a job gets the ticks from a time on
abbrev pub opened : Option Served → ℕ → ℕ → Option Open
opened None time count = None
opened (Some j) time count = Some (record { job = j; start = time; place = count })

-- how many start then
abbrev pub count_of : Option Served → ℕ
count_of None = 0
count_of (Some j) = 1

-- whether a schedule has a segment in a place
abbrev pub has_segment : Option Segment → Segment → Bool
has_segment None seg = false
has_segment (Some given) seg = same_segment given seg

-- the earlier of two differences
abbrev pub earlier : Option Difference → Difference → Difference
earlier None d = d
earlier (Some e) d = if nat_lt d.place e.place then d else e

-- the first difference so far, once this segment's end is known
abbrev pub compared : List Segment → Option Difference → ℕ → Segment → Option Difference
compared schedule first place seg = if has_segment (slice_get schedule place) seg then first else Some (earlier first (record { place = place; expected = seg }))

abbrev pub closed : List Segment → Option Difference → Option Open → ℕ → Option Difference
closed schedule first None time = first
closed schedule first (Some o) time = compared schedule first o.place (record { task = o.job.task; start = o.start; end = time })

-- what is open on a resource, the first difference, and how many segments have started more, after a job gets the ticks from a
-- time on
abbrev pub going_after : Option Open → Option Served → ℕ → ℕ → Option Open
going_after going ran time count = if goes_on going ran then going else opened ran time count

abbrev pub first_after : List Segment → Option Difference → Option Open → Option Served → ℕ → Option Difference
first_after schedule first going ran time = if goes_on going ran then first else closed schedule first going time

abbrev pub count_after : Option Open → Option Served → ℕ
count_after going ran = if goes_on going ran then 0 else count_of ran

-- what is open on each resource
abbrev pub open_at : List (Option Open) → ℕ → Option Open
open_at opens r = slice_index_or opens r None

-- with another on one
abbrev pub put : (ℕ → Option Open) → ℕ → Option Open → ℕ → Option Open
put open_on k o r = if r == k then o else open_on r

-- whether an open segment lies before a place
abbrev pub lies_before : ℕ → Option Open → Bool
lies_before place None = false
lies_before place (Some o) = nat_lt o.place place

-- whether the first difference of all is known: no open segment lies before the first so far
abbrev pub is_settled : List (Option Open) → Option Difference → Bool
is_settled opens None = false
is_settled opens (Some d) = not (list_any (lies_before d.place) opens)

-- what is found after so many segments, of which this was the first that differs
abbrev pub found : List Segment → ℕ → Option Difference → Finding
found schedule count (Some d) = Wrong (d.place + 1) (Some d.expected)
found schedule count None = if nat_lt count (length schedule) then Wrong (count + 1) None else Same
