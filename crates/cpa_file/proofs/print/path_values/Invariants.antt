use Rattle.std.proofs.Common.{◌≡◌, map}
use Rattle.std.specs.List.{range_with_len}
use Rattle.toml.specs.View.{view}
use Rattle.cpa_model.specs.SystemLists.{path_at}
use Rattle.cpa_file.specs.Printed.{path_data}
use Rattle.cpa_file.proofs.print.path_values.Given as goal

abbrev pub invariant-loop-k : goal.invariant-loop-k
invariant-loop-k l = map view l.values.items ≡ map (λ i. path_data l.system (path_at l.system i)) (range_with_len 0 l.k)
