use Rattle.std.proofs.Common.{◌∙◌, sym, ap, arith}
use Rattle.std.proofs.lemmas.Bool.{eq-eqb}
use Rattle.cpa_model.specs.declared.entries.Task.{Task}
use Rattle.cpa_assign.proofs.AbleLaws.{off-from, off-fails}
use Rattle.cpa_assign.proofs.able.is_off_clocks.Goals as goal

pub returns-then-is_clocked : goal.returns-then-is_clocked
returns-then-is_clocked c =
    sym (off-fails c.args.system.now c.args.res.0 c.loop-k.k (omega arith) (eq-eqb _ _ (ap (λ (t : Task). t.res.0) (sym c.task.ensures.value) ∙ c.if-task-res.true))
    (sym c.is_clocked.ensures ∙ c.if-is_clocked.true))

pub returns : goal.returns
returns c = sym (off-from c.args.system.now c.args.res.0 (λ j less. c.loop-k.invariant j (omega arith)))
