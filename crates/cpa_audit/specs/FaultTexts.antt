-- The text of each fault.
use Rattle.std.specs.Prelude.{ℕ, ◌++◌, List, codes}
use Rattle.std.specs.Fmt.{decimal}
use Rattle.cpa_audit.specs.declared.fault.ScheduleFault.{ScheduleFault}
use Rattle.cpa_audit.specs.declared.fault.ScheduleFault.TheVariants as schedule_fault_is

abbrev pub schedule_fault : ScheduleFault → List ℕ
schedule_fault (schedule_fault_is.BadRow row) = codes "row " ++ decimal row ++ codes " is not a name and two numbers"
schedule_fault (schedule_fault_is.UnknownName row) = codes "row " ++ decimal row ++ codes ": no task has this name"
schedule_fault (schedule_fault_is.OutOfRange row) = codes "row " ++ decimal row ++ codes ": the start is not below the end, or the end is above 20,000,000"
schedule_fault schedule_fault_is.TooMany = codes "more than 200,000 rows"
schedule_fault schedule_fault_is.Memory = codes "out of memory"
