use Rattle.std.proofs.Common.{◌+◌, ◌≤◌, arith}
use Rattle.cpa_events.specs.Streams.{stream_delta_minus, stream_eta_plus}
use Rattle.cpa_events.proofs.StreamLaws.{stream_eta_plus-le, stream_eta_plus-steady}
use Rattle.cpa_events.proofs.stream.Stream.constant_until.Goals as goal

pub overflow_add-eta_plus : goal.overflow_add-eta_plus
overflow_add-eta_plus c =
    let le : c.eta_plus.result ≤ c.args.delta + c.args.self.now.jitter = rw c.eta_plus.ensures (stream_eta_plus-le c.args.self.now c.args.delta) in
    omega (arith, c.requires.window, c.requires.stream.jitter)

pub delta_minus-requires-clause-events : goal.delta_minus-requires-clause-events
delta_minus-requires-clause-events c =
    let le : c.eta_plus.result ≤ c.args.delta + c.args.self.now.jitter = rw c.eta_plus.ensures (stream_eta_plus-le c.args.self.now c.args.delta) in
    omega (arith, c.requires.window, c.requires.stream.jitter)

pub returns : goal.returns
returns c w later sooner =
    let far : w ≤ stream_delta_minus c.args.self.now (stream_eta_plus c.args.self.now c.args.delta + 1) =
    rw (← c.eta_plus.ensures, ← c.delta_minus.ensures.value) sooner
    in
    stream_eta_plus-steady c.args.self.now c.args.delta w later far
