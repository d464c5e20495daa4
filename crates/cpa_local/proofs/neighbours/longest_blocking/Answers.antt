use Rattle.std.proofs.Common.{◌≤◌, ℕ, get_or, sym, inl, inr, ap, subst, arith}
use Rattle.std.proofs.lemmas.Bool.{cases_eq}
use Rattle.cpa_model.specs.SystemLists.{task_at}
use Rattle.cpa_model.proofs.SystemLaws.{no_id}
use Rattle.cpa_model.proofs.ResourceTaskLaws.{on-found}
use Rattle.cpa_local.specs.Blocking.{blocking_between}
use Rattle.cpa_local.proofs.neighbours.longest_blocking.Goals as goal

pub loop-task-preserved : goal.loop-task-preserved
loop-task-preserved c =
    let s = c.args.system.now in
    record {
      most = λ i k less. elim (cases_eq k c.loop-task.task-index) [
        | inl last ↦
            let own = c.most_blocking.ensures s i (get_or c.tasks_on-task-items.result.now c.loop-task.task-index no_id).0 (sym c.task.ensures.value) in
            omega (arith, c.max-longest.ensures, own, ap (λ j. blocking_between s c.args.kind i (get_or c.tasks_on-task-items.result.now j no_id).0) last)
        | inr before ↦ omega (arith, c.max-longest.ensures, c.loop-task.invariant.most i k (omega arith))
      ];
    }

pub returns : goal.returns
returns c i j less on =
    let s = c.args.system.now in
    let at = on-found s c.args.res.0 c.tasks_on-task-items.result.now c.tasks_on-task-items.ensures.places j no_id less on in
    subst (λ (k : ℕ). blocking_between s c.args.kind i k ≤ c.loop-task.longest) at.2 (c.loop-task.invariant.most i at.0 (omega (arith, at.1)))
