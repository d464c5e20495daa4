use Rattle.std.proofs.Common.{◌≡◌, [], Option, None, All, ℕ, get_or, subst, arith, Bool, true, false}
use Rattle.std.specs.Bool.{OnFalse}
use Rattle.cpa_clock.specs.declared.anchor.Anchor.{Anchor}
use Rattle.cpa_model.proofs.SystemLaws.{no_id}
use Rattle.cpa_model.proofs.ResourceTaskLaws.{on-found}
use Rattle.cpa_local.specs.OnClocks.{anchor_list}
use Rattle.cpa_local.proofs.OffClocks.{off-all}
use Rattle.cpa_local.proofs.anchoring.find_anchors.Goals as goal

pub returns-clause-found : goal.returns-clause-found
returns-clause-found c i there on =
    let s = c.args.system.now in
    let at = on-found s c.args.res.0 c.tasks_on-task-items.result.now c.tasks_on-task-items.ensures.places i no_id there on in
    subst (λ (j : ℕ). get_or c.loop-task.anchors j [] ≡ anchor_list s j) at.2 (c.loop-task.invariant.found at.0 (omega (arith, at.1)))

pub returns-clause-none : goal.returns-clause-none
returns-clause-none c = off-all c.args.system.now c.args.res.0 c.tasks_on-task-items.result.now c.tasks_on-task-items.ensures.places c.loop-task.task-index c.loop-task-test.false c.loop-task.some c.loop-task.invariant.none
