use Rattle.std.proofs.Common.{◌≡◌, map, take}
use Rattle.cpa_model.specs.declared.entries.Resource.{Resource}
use Rattle.cpa_trace.proofs.index.resource_names.Given as goal

abbrev pub invariant-loop-k : goal.invariant-loop-k
invariant-loop-k l = l.names ≡ take l.k (map (λ (r : Resource). r.name) l.system.resources)
