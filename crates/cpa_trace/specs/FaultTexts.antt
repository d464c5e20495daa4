-- The text of each fault.
use Rattle.std.specs.Prelude.{ℕ, ◌++◌, List, codes}
use Rattle.std.specs.Fmt.{decimal}
use Rattle.cpa_trace.specs.declared.fault.TraceFault.{TraceFault}
use Rattle.cpa_trace.specs.declared.fault.TraceFault.TheVariants as trace_fault_is

abbrev pub trace_fault : TraceFault → List ℕ
trace_fault (trace_fault_is.BadRow row) = codes "row " ++ decimal row ++ codes " is not a word, a name and a number, or a second phase"
trace_fault (trace_fault_is.UnknownName row) = codes "row " ++ decimal row ++ codes ": no source, task or TDMA resource has this name"
trace_fault (trace_fault_is.OutOfRange row) = codes "row " ++ decimal row ++ codes ": the number is out of range, or a time is below that of the event before"
trace_fault trace_fault_is.TooMany = codes "more than 200,000 rows or 2,000,000 jobs"
trace_fault trace_fault_is.Memory = codes "out of memory"
