-- The text of buffers beside peaks.
use Rattle.std.specs.Prelude.{ℕ, ◌++◌, if◌then◌else◌, List, [], length, count_by, codes, slice_index_or}
use Rattle.std.specs.List.{flat_map, range_with_len}
use Rattle.std.specs.Fmt.{decimal}
use Rattle.cpa_units.specs.declared.bound.Bound.{Bound}
use Rattle.cpa_model.specs.Kinds.{is_queue}
use Rattle.cpa_model.specs.SystemLists.{SystemLists, task_at, resource_at, task_places}
use Rattle.cpa_local.specs.Paths.{is_overload}
use Rattle.cpa_report.specs.Report.{bound_text}
use Rattle.cpa_buffer.specs.Buffers.{buffer_of, buffer_on}
use Rattle.cpa_buffer.specs.Peaks.{PeakLists}
use Rattle.cpa_buffer.specs.Work.{most_work_on}

-- a buffer and the peak beside it
unfoldable pub line : List ℕ → List ℕ → Bound → ℕ → List ℕ
line label name bound peak = label ++ name ++ codes " bound " ++ bound_text bound ++ codes " peak " ++ decimal peak ++ codes "\n"

unfoldable pub task_line : SystemLists → List Bound → PeakLists → ℕ → List ℕ
task_line s x p i = line (codes "buffer ") (task_at s i).name (buffer_of s x i) (slice_index_or p.tasks i 0)

unfoldable pub resource_line : SystemLists → List Bound → PeakLists → ℕ → List ℕ
resource_line s x p r = line (codes "resource ") (resource_at s r).name (buffer_on s x r) (slice_index_or p.resources r 0)

-- how much work can wait in a queue, in ticks; nothing is said of other resources
unfoldable pub work_line : List ℕ → Bound → List ℕ
work_line name most = codes "queue " ++ name ++ codes " work " ++ bound_text most ++ codes "\n"

unfoldable pub queue_line : SystemLists → List Bound → ℕ → List ℕ
queue_line s x r = if is_queue (resource_at s r).kind then work_line (resource_at s r).name (most_work_on s x r) else []

-- how many buffers of some tasks are no number
abbrev pub overloads : SystemLists → List Bound → List ℕ → ℕ
overloads s x is = count_by (λ i. is_overload (buffer_of s x i)) is

unfoldable pub summary_line : ℕ → ℕ → List ℕ
summary_line tasks overload = codes "summary tasks " ++ decimal tasks ++ codes " overload " ++ decimal overload ++ codes "\n"

-- a line per task, a line per resource, one more per queue, and the counts
unfoldable pub buffer_text : SystemLists → List Bound → PeakLists → List ℕ
buffer_text s x p =
    flat_map (task_line s x p) (task_places s) ++ flat_map (resource_line s x p) (range_with_len 0 (length s.resources))
    ++ flat_map (queue_line s x) (range_with_len 0 (length s.resources))
    ++ summary_line (length s.tasks) (overloads s x (task_places s))
