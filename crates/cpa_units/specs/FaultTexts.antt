-- The text of each fault.
use Rattle.std.specs.Prelude.{ℕ, List, codes}
use Rattle.cpa_units.specs.declared.name.NameFault.{NameFault}
use Rattle.cpa_units.specs.declared.name.NameFault.TheVariants.{Form, Memory}

abbrev pub name_fault : NameFault → List ℕ
name_fault Form = codes "not 1 to 64 of letters, digits, `_`, `-` and `.`"
name_fault Memory = codes "out of memory"
