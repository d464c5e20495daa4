use Rattle.std.proofs.Common.{◌≡◌, map, take}
use Rattle.cpa_model.specs.declared.entries.Source.{Source}
use Rattle.cpa_trace.proofs.index.source_names.Given as goal

abbrev pub invariant-loop-k : goal.invariant-loop-k
invariant-loop-k l = l.names ≡ take l.k (map (λ (r : Source). r.name) l.system.sources)
