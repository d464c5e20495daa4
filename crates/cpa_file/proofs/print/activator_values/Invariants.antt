use Rattle.std.proofs.Common.{◌≡◌, map, take}
use Rattle.toml.specs.View.{view}
use Rattle.cpa_file.specs.Printed.{activator_data}
use Rattle.cpa_file.proofs.print.activator_values.Given as goal

abbrev pub invariant-loop-k : goal.invariant-loop-k
invariant-loop-k l = map view l.values.items ≡ map (activator_data l.system) (take l.k l.after)
