use Rattle.std.proofs.Common.{◌≡◌, map, take}
use Rattle.cpa_model.specs.Built.{built_path}
use Rattle.cpa_model.proofs.build.build_paths.Given as goal

abbrev pub invariant-loop-path : goal.invariant-loop-path
invariant-loop-path l = l.built.items ≡ map (built_path l.draft) (take l.path-index l.paths)
