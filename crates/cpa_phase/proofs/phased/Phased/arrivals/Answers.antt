use Rattle.std.proofs.Common.{sym, ◌∙◌, arith}
use Rattle.cpa_phase.proofs.PhaseLaws.{arrivals-zero, arrivals-by_period, arrivals-by_both, arrivals-by_few}
use Rattle.cpa_phase.proofs.phased.Phased.arrivals.Goals as goal

pub returns-then-window-eq0-clause-value : goal.returns-then-window-eq0-clause-value
returns-then-window-eq0-clause-value c = rw c.if-window-eq0.true (sym (arrivals-zero c.args.self.now.stream c.args.self.now.phase))

pub returns-then-by_period-le1-clause-value : goal.returns-then-by_period-le1-clause-value
returns-then-by_period-le1-clause-value c =
    let e = c.by_period-by_period.ensures.value in
    e ∙ sym (arrivals-by_few c.args.self.now.stream c.args.self.now.phase c.args.window c.requires.phased.stream.regular (omega arith) (omega (arith, e, c.if-by_period-le1.true)))

pub returns-then-self-eq0-clause-value : goal.returns-then-self-eq0-clause-value
returns-then-self-eq0-clause-value c =
    c.by_period-by_period.ensures.value ∙ sym (arrivals-by_period c.args.self.now.stream c.args.self.now.phase c.args.window c.requires.phased.stream.regular (omega arith) c.if-self-eq0.true)

pub returns-else-self-eq0-clause-value : goal.returns-else-self-eq0-clause-value
returns-else-self-eq0-clause-value c =
    let both = arrivals-by_both c.args.self.now.stream c.args.self.now.phase c.args.window c.requires.phased.stream.regular (omega arith) c.if-self-eq0.false in
    c.min.ensures ∙ (rw (c.by_period-by_period.ensures.value, c.div_ceil.ensures) (sym both))
