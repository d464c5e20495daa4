use Rattle.std.proofs.Common.{append_assoc}
use Rattle.cpa_units.proofs.PlaceLaws.{flat_map-places_more}
use Rattle.cpa_report.specs.Report.{task_line}
use Rattle.cpa_report.proofs.report.put_tasks.Goals as goal

pub loop-k-preserved : goal.loop-k-preserved
loop-k-preserved c =
    rw (c.in_ok-put_task.ensures, c.loop-k.invariant, flat_map-places_more (task_line c.args.system.now c.args.x.now) c.loop-k.k) (simp append_assoc)
