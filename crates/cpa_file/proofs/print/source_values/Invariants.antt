use Rattle.std.proofs.Common.{◌≡◌, map}
use Rattle.std.specs.List.{range_with_len}
use Rattle.toml.specs.View.{view}
use Rattle.cpa_model.specs.SystemLists.{source_at}
use Rattle.cpa_file.specs.Printed.{source_data}
use Rattle.cpa_file.proofs.print.source_values.Given as goal

abbrev pub invariant-loop-k : goal.invariant-loop-k
invariant-loop-k l = map view l.values.items ≡ map (λ i. source_data (source_at l.system i)) (range_with_len 0 l.k)
