use Rattle.std.proofs.Common.{sym, ◌∙◌, arith}
use Rattle.cpa_events.proofs.StreamLaws.{stream_eta_plus-zero}
use Rattle.cpa_events.proofs.CurveLaws.{stream_eta_plus-by_period, stream_eta_plus-by_both}
use Rattle.cpa_events.proofs.stream.Stream.eta_plus.Goals as goal

pub returns-then-delta-eq0 : goal.returns-then-delta-eq0
returns-then-delta-eq0 c = rw c.if-delta-eq0.true (sym (stream_eta_plus-zero c.args.self.now))

pub returns-then-self-eq0 : goal.returns-then-self-eq0
returns-then-self-eq0 c =
    c.div_ceil-by_period.ensures ∙ sym (stream_eta_plus-by_period c.args.self.now c.args.delta c.requires.stream.regular (omega arith) c.if-self-eq0.true)

pub returns-else-self-eq0 : goal.returns-else-self-eq0
returns-else-self-eq0 c =
    let both = stream_eta_plus-by_both c.args.self.now c.args.delta c.requires.stream.regular (omega arith) c.if-self-eq0.false in
    c.min.ensures ∙ (rw (c.div_ceil-by_period.ensures, c.div_ceil.ensures) (sym both))
