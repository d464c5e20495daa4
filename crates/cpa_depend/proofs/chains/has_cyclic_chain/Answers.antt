use Rattle.std.proofs.Common.{◌≡◌, ◌∙◌, ℕ, get_or, refl, sym, inl, inr, subst, arith}
use Rattle.std.proofs.lemmas.Bool.{cases_lt, false≢true}
use Rattle.cpa_model.proofs.SystemLaws.{no_id}
use Rattle.cpa_model.proofs.ResourceTaskLaws.{on-each}
use Rattle.cpa_depend.specs.Cone.{HasEarlierOn}
use Rattle.cpa_depend.proofs.ChainLaws.{back-none}
use Rattle.cpa_depend.proofs.chains.has_cyclic_chain.Goals as goal

pub returns-then-has_earlier_on : goal.returns-then-has_earlier_on
returns-then-has_earlier_on c =
    let s = c.args.system.now in
    let k = c.loop-task.task-index in
    let tasks = c.tasks_on-task-items.result.now in (
      λ is. (
        (get_or tasks k no_id).0,
        c.tasks_on-task-items.ensures.there k no_id c.loop-task-test.true,
        on-each s c.args.res.0 tasks c.tasks_on-task-items.ensures.places k no_id c.loop-task-test.true,
        c.has_earlier_on.ensures.0 c.if-has_earlier_on.true,
      ),
      λ back. refl,
    )

pub loop-task-preserved : goal.loop-task-preserved
loop-task-preserved c k less has =
    elim (cases_lt k c.loop-task.task-index) [
      | inl before ↦ c.loop-task.invariant k before has
      | inr ge ↦
          let here : k ≡ c.loop-task.task-index = omega arith in
          let found = c.has_earlier_on.ensures.1 (subst (λ (n : ℕ). HasEarlierOn c.args.system.now (get_or c.tasks_on-task-items.result.now n no_id).0 c.args.res.0) here has) in
          false≢true (sym c.if-has_earlier_on.false ∙ found)
    ]

pub returns : goal.returns
returns c = (
  λ is. absurd (false≢true is),
  λ back. absurd (back-none c.args.system.now c.args.res.0 c.tasks_on-task-items.result.now c.loop-task.task-index c.tasks_on-task-items.ensures.places c.loop-task-test.false c.loop-task.invariant back),
)
