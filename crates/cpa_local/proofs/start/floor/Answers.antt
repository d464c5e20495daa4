use Rattle.std.proofs.Common.{◌<◌, length, ap, arith}
use Rattle.std.proofs.lemmas.List.{length-set}
use Rattle.cpa_units.specs.declared.bound.Bound.TheVariants.{Within}
use Rattle.cpa_units.proofs.PlaceLaws.{set-places, all-places}
use Rattle.cpa_model.specs.declared.entries.Task.{Task}
use Rattle.cpa_model.specs.SystemLists.{task_at}
use Rattle.cpa_local.proofs.VectorLaws.{floor-vector}
use Rattle.cpa_local.proofs.SolutionLaws.{floor-below}
use Rattle.cpa_local.proofs.start.floor.Goals as goal

pub loop-k-preserved : goal.loop-k-preserved
loop-k-preserved c =
    let less : c.loop-k.k < length c.loop-k.x = omega arith in
    record {
      long = rw (c.set.ensures, length-set) c.loop-k.invariant.long;
      done = rw c.set.ensures (set-places (λ i. Within (task_at c.args.system.now i).best) c.loop-k.x c.loop-k.k (Within c.task.result.now.best) less (ap (λ (t : Task). Within t.best) c.task.ensures.value) c.loop-k.invariant.done);
    }

pub returns-clause-vector : goal.returns-clause-vector
returns-clause-vector c =
    let whole = all-places (λ i. Within (task_at c.args.system.now i).best) c.loop-k.x c.loop-k.k (length c.args.system.now.tasks) c.loop-k.invariant.long (omega arith) c.loop-k.invariant.done in
    rw whole (floor-vector c.args.system.now c.tasks.ensures.rules)

pub returns-clause-below : goal.returns-clause-below
returns-clause-below c =
    let whole = all-places (λ i. Within (task_at c.args.system.now i).best) c.loop-k.x c.loop-k.k (length c.args.system.now.tasks) c.loop-k.invariant.long (omega arith) c.loop-k.invariant.done in
    rw whole (floor-below c.args.system.now c.tasks.ensures.rules)
