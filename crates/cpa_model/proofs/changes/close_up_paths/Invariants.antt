use Rattle.std.proofs.Common.{◌≡◌, ◌++◌, map, take, drop}
use Rattle.cpa_model.specs.Changes.{path_without}
use Rattle.cpa_model.proofs.changes.close_up_paths.Given as goal

abbrev pub invariant-loop-path : goal.invariant-loop-path
invariant-loop-path l = l.paths ≡ map (path_without l.removed.0) (take l.path-index l.initial.paths) ++ drop l.path-index l.initial.paths
