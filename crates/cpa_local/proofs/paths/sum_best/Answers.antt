use Rattle.std.proofs.Common.{◌≡◌, ◌+◌, ◌∙◌, ap, sym, take, arith}
use Rattle.std.specs.List.{sum_by}
use Rattle.cpa_units.specs.declared.places.TaskId.{TaskId}
use Rattle.cpa_model.specs.declared.entries.Task.{Task}
use Rattle.cpa_model.specs.SystemLists.{task_at}
use Rattle.cpa_local.proofs.PathLaws.{sum_by-more}
use Rattle.cpa_local.proofs.paths.sum_best.Goals as goal

pub loop-k-preserved : goal.loop-k-preserved
loop-k-preserved c =
    let same : c.task.result.now.best ≡ (task_at c.args.system.now c.get.result.0).best = ap (λ (t : Task). t.best) c.task.ensures.value in
    let more = sum_by-more (λ (i : TaskId). (task_at c.args.system.now i.0).best) c.args.tasks.now c.loop-k.k c.get.result c.get.ensures in
    record {
      sum = ap (λ n. n + c.task.result.now.best) c.loop-k.invariant.sum ∙ ap (λ n. sum_by (λ (i : TaskId). (task_at c.args.system.now i.0).best) (take c.loop-k.k c.args.tasks.now) + n) same ∙ sym more;
      small = omega (arith, c.loop-k.invariant.small, c.task.ensures.rules.ordered, c.task.ensures.rules.worst);
    }
