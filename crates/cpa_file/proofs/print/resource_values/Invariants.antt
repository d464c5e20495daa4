use Rattle.std.proofs.Common.{◌≡◌, map}
use Rattle.std.specs.List.{range_with_len}
use Rattle.toml.specs.View.{view}
use Rattle.cpa_model.specs.SystemLists.{resource_at}
use Rattle.cpa_file.specs.Printed.{resource_data}
use Rattle.cpa_file.proofs.print.resource_values.Given as goal

abbrev pub invariant-loop-k : goal.invariant-loop-k
invariant-loop-k l = map view l.values.items ≡ map (λ i. resource_data (resource_at l.system i)) (range_with_len 0 l.k)
