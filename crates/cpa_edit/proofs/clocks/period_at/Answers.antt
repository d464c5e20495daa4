use Rattle.std.proofs.Common.{sym, ap, ◌∙◌}
use Rattle.cpa_model.specs.declared.entries.Source.{Source}
use Rattle.cpa_edit.proofs.CycleLaws.{period-own, period-other}
use Rattle.cpa_edit.proofs.clocks.period_at.Goals as goal

pub returns-then-place-source-clause-value : goal.returns-then-place-source-clause-value
returns-then-place-source-clause-value c = λ jitter distance.
    rw (c.if-place-source.true) (sym (period-own c.args.system.now c.args.source.0 c.args.period jitter distance c.requires.source))

pub returns-else-place-source-clause-value : goal.returns-else-place-source-clause-value
returns-else-place-source-clause-value c = λ jitter distance.
    ap (λ (r : Source). r.period) c.source.ensures.value ∙ sym (period-other c.args.system.now c.args.source.0 c.args.period jitter distance c.args.place.0 c.if-place-source.false)
