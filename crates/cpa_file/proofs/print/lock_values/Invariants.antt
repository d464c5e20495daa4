use Rattle.std.proofs.Common.{◌≡◌, map, take}
use Rattle.toml.specs.View.{view}
use Rattle.cpa_file.specs.Printed.{lock_data}
use Rattle.cpa_file.proofs.print.lock_values.Given as goal

abbrev pub invariant-loop-section : goal.invariant-loop-section
invariant-loop-section l = map view l.values.items ≡ map lock_data (take l.section-index l.sections)
