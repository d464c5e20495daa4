use Rattle.std.proofs.Common.{◌≡◌, ◌++◌, take}
use Rattle.std.specs.List.{flat_map}
use Rattle.cpa_effect_files.specs.ChainsText.{chain_line}
use Rattle.cpa_effect_files.proofs.text.put_chains.Given as goal

abbrev pub invariant-loop-k : goal.invariant-loop-k
invariant-loop-k l = l.text ≡ l.initial.text ++ flat_map (chain_line l.system l.x) (take l.k l.chains)
