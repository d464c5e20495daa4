use Rattle.std.proofs.Common.{◌∙◌, sym, ap, arith}
use Rattle.std.proofs.lemmas.Bool.{eq-eqb}
use Rattle.cpa_model.specs.declared.entries.Task.{Task}
use Rattle.cpa_assign.specs.Orders.{are_sources}
use Rattle.cpa_assign.proofs.AbleLaws.{fed-from, fed-fails}
use Rattle.cpa_assign.proofs.able.is_fed_by_sources.Goals as goal

pub returns-then-not-are_sources : goal.returns-then-not-are_sources
returns-then-not-are_sources c =
    sym (fed-fails c.args.system.now c.args.res.0 c.loop-k.k (omega arith) (eq-eqb _ _ (ap (λ (t : Task). t.res.0) (sym c.task-entry.ensures.value) ∙ c.if-entry-res.true))
    (ap (λ (t : Task). are_sources t.after) (sym c.task-entry.ensures.value) ∙ sym c.are_sources.ensures ∙ c.if-not-are_sources.true))

pub returns : goal.returns
returns c = sym (fed-from c.args.system.now c.args.res.0 (λ j less. c.loop-k.invariant j (omega arith)))
