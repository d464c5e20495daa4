-- The text of a schedule: a row for each segment.
use Rattle.std.specs.Prelude.{ℕ, ◌++◌, List, codes}
use Rattle.std.specs.Fmt.{decimal}
use Rattle.std.specs.List.{flat_map}
use Rattle.cpa_model.specs.SystemLists.{SystemLists, task_at}
use Rattle.cpa_audit.specs.declared.schedule.Segment.{Segment}

-- the name of the task, and the ticks from the start to before the end
unfoldable pub row_text : SystemLists → Segment → List ℕ
row_text s seg = (task_at s seg.task.0).name ++ codes "," ++ decimal seg.start ++ codes "," ++ decimal seg.end ++ codes "\n"

unfoldable pub schedule_text : SystemLists → List Segment → List ℕ
schedule_text s segs = flat_map (row_text s) segs
