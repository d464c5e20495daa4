use Rattle.std.proofs.Common.{◌≡◌, map, take}
use Rattle.cpa_effect_files.specs.Reading.{chain_of}
use Rattle.cpa_effect_files.proofs.chains.build_chains.Given as goal

abbrev pub invariant-loop-draft : goal.invariant-loop-draft
invariant-loop-draft l = l.built.items ≡ map (chain_of l.system) (take l.draft-index l.drafts)
