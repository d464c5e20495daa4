-- The text of each fault.
use Rattle.std.specs.Prelude.{ℕ, ◌++◌, List, codes}
use Rattle.std.specs.Fmt.{decimal}
use Rattle.cpa_edit.specs.declared.edit.EditFault.{EditFault}
use Rattle.cpa_edit.specs.declared.edit.EditFault.TheVariants as edit_fault_is
use Rattle.cpa_edit.specs.declared.script.ScriptFault.{ScriptFault}
use Rattle.cpa_edit.specs.declared.script.ScriptFault.TheVariants as script_fault_is
use Rattle.cpa_edit.specs.declared.edit.EditRefusal.{EditRefusal}

abbrev pub edit_refusal : EditRefusal → List ℕ
edit_refusal r = codes "reason " ++ decimal r.0

abbrev pub edit_fault : EditFault → List ℕ
edit_fault (edit_fault_is.Refused refusal) = edit_refusal refusal
edit_fault edit_fault_is.Memory = codes "out of memory"

abbrev pub script_fault : ScriptFault → List ℕ
script_fault (script_fault_is.BadLine line) = codes "line " ++ decimal line ++ codes " is no command of a script"
script_fault script_fault_is.TooManyLines = codes "more than 10,000 lines"
script_fault script_fault_is.Memory = codes "out of memory"
