use Rattle.std.proofs.Common.{sym}
use Rattle.cpa_events.proofs.CurveLaws.{stream_delta_plus-few, stream_delta_plus-many}
use Rattle.cpa_events.proofs.stream.Stream.delta_plus.Goals as goal

pub returns-then-n-lt2 : goal.returns-then-n-lt2
returns-then-n-lt2 c = sym (stream_delta_plus-few c.args.self.now c.args.n c.if-n-lt2.true)

pub returns : goal.returns
returns c = sym (stream_delta_plus-many c.args.self.now c.args.n c.if-n-lt2.false)
