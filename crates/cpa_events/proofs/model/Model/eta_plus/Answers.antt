use Rattle.std.proofs.Common.{◌+◌, ◌*◌, ◌^◌, ◌≤◌, length, sym, ◌∙◌, arith}
use Rattle.std.proofs.Math.Nat.{mul-le-mul}
use Rattle.cpa_events.specs.declared.stream.TheConstants.{MAX_MODEL_JITTER}
use Rattle.cpa_events.specs.Events.{eta_plus}
use Rattle.cpa_events.proofs.EventLaws.{eta_plus-le, eta_plus-of_one}
use Rattle.cpa_events.proofs.model.Model.eta_plus.Goals as goal

pub overflow_cast-result : goal.overflow_cast-result
overflow_cast-result c =
    let le = eta_plus-le c.args.self.now c.args.delta c.requires.model.each in
    let wide : c.args.delta + MAX_MODEL_JITTER ≤ 2 ^ 33 = omega (arith, c.requires.window) in
    let most : length c.args.self.now * (c.args.delta + MAX_MODEL_JITTER) ≤ 32 * 2 ^ 33 = mul-le-mul c.requires.model.few wide in
    let same : c.events_in.result ≤ eta_plus c.args.self.now c.args.delta = rw (c.events_in.ensures, c.streams.ensures.value) (omega arith) in
    omega arith

pub returns-in-Some : goal.returns-in-Some
returns-in-Some c = let one = c.only.ensures c.in-Some.stream c.in-Some.is in rw one (c.eta_plus.ensures ∙ sym (eta_plus-of_one c.in-Some.stream c.args.delta))
