use Rattle.std.proofs.Common.{◌≡◌, ◌++◌, take}
use Rattle.std.specs.List.{flat_map}
use Rattle.cpa_report.specs.Report.{path_line}
use Rattle.cpa_report.proofs.report.put_paths.Given as goal

abbrev pub invariant-loop-k : goal.invariant-loop-k
invariant-loop-k l = l.text ≡ l.initial.text ++ flat_map (path_line l.system l.x) (take l.k l.system.paths)
