-- What holds of written schedules.
use Rattle.std.specs.Prelude.{◌≡◌, ◌≤◌, length, Ok}
use Rattle.cpa_units.specs.declared.limits.TheConstants.{MAX_TRACE_ROWS}
use Rattle.cpa_model.specs.SystemLists.{SystemLists}
use Rattle.cpa_model.specs.Rules.{IsSystem}
use Rattle.cpa_trace.specs.Trace.{TraceLists}
use Rattle.cpa_sim.specs.Outcome.{CanReplay}
use Rattle.cpa_audit.specs.Segments.{segments}
use Rattle.cpa_audit.specs.ScheduleReading.{schedule_of}
use Rattle.cpa_segments.specs.Rows.{schedule_text}

-- what is written of a run is read as its segments, where these are no more than a schedule may have
abbrev pub SchedulesReadBack : Type 0
SchedulesReadBack = (s : SystemLists) (tr : TraceLists) → IsSystem s → CanReplay s tr → length (segments s tr) ≤ MAX_TRACE_ROWS → schedule_of s (schedule_text s (segments s tr)) ≡ Ok (segments s tr)
