-- The text of each fault.
use Rattle.std.specs.Prelude.{ℕ, ◌++◌, List, codes}
use Rattle.cpa_draft.specs.FaultTexts.{refusal_text}
use Rattle.std.specs.Fmt.{decimal}
use Rattle.cpa_file.specs.declared.entries.ListFault.{ListFault}
use Rattle.cpa_file.specs.declared.entries.ListFault.TheVariants as list_fault_is
use Rattle.cpa_file.specs.declared.fault.ReadFault.{ReadFault}
use Rattle.cpa_file.specs.declared.fault.ReadFault.TheVariants as read_fault_is
use Rattle.cpa_file.specs.declared.read.FileRefusal.{FileRefusal}
use Rattle.cpa_file.specs.declared.read.FileRefusal.TheVariants as file_refusal_is

abbrev pub list_fault : ListFault → List ℕ
list_fault (list_fault_is.At place) = codes "entry " ++ decimal place ++ codes " is malformed"
list_fault list_fault_is.Memory = codes "out of memory"

abbrev pub read_fault : ReadFault → List ℕ
read_fault read_fault_is.Malformed = codes "malformed"
read_fault read_fault_is.Memory = codes "out of memory"

abbrev pub file_refusal : FileRefusal → List ℕ
file_refusal file_refusal_is.NotToml = codes "not TOML"
file_refusal file_refusal_is.TooLong = codes "too long"
file_refusal (file_refusal_is.Refused refusal) = refusal_text refusal
file_refusal file_refusal_is.Memory = codes "out of memory"
