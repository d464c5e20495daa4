use Rattle.std.proofs.Common.{◌≡◌, ◌++◌}
use Rattle.std.specs.List.{range_with_len, flat_map}
use Rattle.cpa_report.specs.Report.{task_line}
use Rattle.cpa_report.proofs.report.put_tasks.Given as goal

abbrev pub invariant-loop-k : goal.invariant-loop-k
invariant-loop-k l = l.text ≡ l.initial.text ++ flat_map (task_line l.system l.x) (range_with_len 0 l.k)
