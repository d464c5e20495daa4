use Rattle.std.proofs.Common.{◌≡◌, map, take}
use Rattle.cpa_model.specs.Built.{built_activator}
use Rattle.cpa_model.proofs.build.build_activators.Given as goal

abbrev pub invariant-loop-k : goal.invariant-loop-k
invariant-loop-k l = l.built ≡ map (built_activator l.draft) (take l.k l.names)
