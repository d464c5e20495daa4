-- The lines of the refusals of scripts, schedules, resources, tasks and edits.
use Rattle.std.specs.Prelude.{ℕ, codes, List, [], ◌++◌}
use Rattle.std.specs.Fmt.{decimal}
use Rattle.cpa_edit.specs.declared.edit.EditRefusal.{EditRefusal}
use Rattle.cpa_edit.specs.declared.script.ScriptFault.{ScriptFault}
use Rattle.cpa_edit.specs.declared.script.ScriptFault.TheVariants as script
use Rattle.cpa_audit.specs.declared.fault.ScheduleFault.{ScheduleFault}
use Rattle.cpa_audit.specs.declared.fault.ScheduleFault.TheVariants as schedule

-- out of memory has no line
abbrev pub script_refused : ScriptFault → List ℕ
script_refused (script.BadLine line) = codes "script refused line " ++ decimal line ++ codes "\n"
script_refused script.TooManyLines = codes "script refused too many lines\n"
script_refused script.Memory = []

abbrev pub schedule_row_refused : ℕ → List ℕ → List ℕ
schedule_row_refused row why = codes "schedule refused row " ++ decimal row ++ why

-- out of memory has no line
abbrev pub schedule_refused : ScheduleFault → List ℕ
schedule_refused (schedule.BadRow row) = schedule_row_refused row (codes " malformed\n")
schedule_refused (schedule.UnknownName row) = schedule_row_refused row (codes " name\n")
schedule_refused (schedule.OutOfRange row) = schedule_row_refused row (codes " range\n")
schedule_refused schedule.TooMany = codes "schedule refused too many\n"
schedule_refused schedule.Memory = []

-- the line of a resource that can't be given an order
abbrev pub assign_refused : ℕ → List ℕ
assign_refused number = codes "assign refused " ++ decimal number ++ codes "\n"

-- the line of a task that isn't there
abbrev pub slack_refused : List ℕ
slack_refused = codes "slack refused 1\n"

-- the line of a session that says of a refused edit
abbrev pub edit_refused : ℕ → EditRefusal → List ℕ
edit_refused line number = codes "line " ++ decimal line ++ codes " refused " ++ decimal number.0 ++ codes "\n"
