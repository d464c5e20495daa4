use Rattle.std.proofs.Common.{◌≡◌, ◌<◌, ◌∙◌, ℕ, get_or, sym, subst, arith}
use Rattle.std.proofs.lemmas.Bool.{false≢true}
use Rattle.cpa_units.specs.Bounds.{bound_of}
use Rattle.cpa_model.proofs.SystemLaws.{no_id}
use Rattle.cpa_model.proofs.ResourceTaskLaws.{on-each, on-found}
use Rattle.cpa_fix.proofs.solving.differs_on.Goals as goal

pub returns-then-not-is_same-clause-yes : goal.returns-then-not-is_same-clause-yes
returns-then-not-is_same-clause-yes c =
    let k = c.loop-task.task-index in
    let ids = c.tasks_on-task-items.result.now in (
      (get_or ids k no_id).0,
      c.tasks_on-task-items.ensures.there k no_id c.loop-task-test.true,
      on-each c.args.system.now c.args.res.0 ids c.tasks_on-task-items.ensures.places k no_id c.loop-task-test.true,
      λ same. false≢true (sym c.if-not-is_same.true ∙ c.is_same.ensures.1 (c.get.ensures ∙ same ∙ sym c.get-in-loop-task.ensures)),
    )

pub returns-clause-no : goal.returns-clause-no
returns-clause-no c j less on =
    let ids = c.tasks_on-task-items.result.now in
    let at = on-found c.args.system.now c.args.res.0 ids c.tasks_on-task-items.ensures.places j no_id less on in
    let within : at.0 < c.loop-task.task-index = omega (arith, at.1, c.loop-task-test.false) in
    subst (λ (i : ℕ). bound_of c.args.seen.now i ≡ bound_of c.args.x.now i) at.2 (c.loop-task.invariant at.0 within)
