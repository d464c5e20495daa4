-- The text of each fault.
use Rattle.std.specs.Prelude.{ℕ, ◌++◌, List, codes}
use Rattle.std.specs.Fmt.{decimal}
use Rattle.cpa_draft.specs.declared.refusal.BuildFault.{BuildFault}
use Rattle.cpa_draft.specs.declared.refusal.BuildFault.TheVariants as build_fault_is
use Rattle.cpa_draft.specs.declared.refusal.Part.{Part}
use Rattle.cpa_draft.specs.declared.refusal.Part.TheVariants.{File, Resource, Source, Task, Path}
use Rattle.cpa_draft.specs.declared.refusal.Refusal.{Refusal}

abbrev pub part_text : Part → List ℕ
part_text File = codes "file"
part_text Resource = codes "resource"
part_text Source = codes "source"
part_text Task = codes "task"
part_text Path = codes "path"

abbrev pub refusal_text : Refusal → List ℕ
refusal_text r = codes "reason " ++ decimal r.reason ++ codes " " ++ part_text r.part ++ codes " " ++ decimal r.place

abbrev pub build_fault : BuildFault → List ℕ
build_fault (build_fault_is.Refused refusal) = refusal_text refusal
build_fault build_fault_is.Memory = codes "out of memory"
