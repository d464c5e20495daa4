use Rattle.std.proofs.Common.{◌∙◌, sym, ap, arith}
use Rattle.std.proofs.lemmas.Bool.{eq-eqb}
use Rattle.cpa_model.specs.declared.entries.Task.{Task}
use Rattle.cpa_assign.specs.Orders.{is_without_sections}
use Rattle.cpa_assign.proofs.AbleLaws.{unblocked-from, unblocked-fails}
use Rattle.cpa_assign.proofs.able.is_unblocked.Goals as goal

pub returns-then-not-is_without_sections : goal.returns-then-not-is_without_sections
returns-then-not-is_without_sections c =
    sym (unblocked-fails c.args.system.now c.args.res.0 c.loop-k.k (omega arith) (eq-eqb _ _ (ap (λ (t : Task). t.res.0) (sym c.task-entry.ensures.value) ∙ c.if-entry-res.true))
    (ap is_without_sections (sym c.task-entry.ensures.value) ∙ sym c.is_without_sections.ensures ∙ c.if-not-is_without_sections.true))

pub returns : goal.returns
returns c = sym (unblocked-from c.args.system.now c.args.res.0 (λ j less. c.loop-k.invariant j (omega arith)))
