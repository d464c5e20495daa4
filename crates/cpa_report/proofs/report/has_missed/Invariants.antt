use Rattle.std.proofs.Common.{◌≡◌, take, false}
use Rattle.std.specs.List.{list_any}
use Rattle.cpa_local.specs.Paths.{is_missed}
use Rattle.cpa_report.proofs.report.has_missed.Given as goal

abbrev pub invariant-loop-k : goal.invariant-loop-k
invariant-loop-k l = list_any (is_missed l.x) (take l.k l.system.paths) ≡ false
