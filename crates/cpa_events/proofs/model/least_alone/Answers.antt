use Rattle.std.proofs.Common.{◌≡◌, ◌+◌, ◌≤◌, inl, inr, arith}
use Rattle.std.proofs.lemmas.Bool.{cases_lt}
use Rattle.cpa_events.specs.Events.{eta_plus}
use Rattle.cpa_events.proofs.EventLaws.{each_reaches, in_range-is_model}
use Rattle.cpa_events.proofs.model.least_alone.Goals as goal

pub loop-stream-init : goal.loop-stream-init
loop-stream-init c =
    let regular = in_range-is_model c.args.streams.now c.requires.streams in
    record {
      room = rw (c.delta_minus-least.ensures.value, c.stream.ensures, c.index-streams-0.is) (each_reaches c.args.streams.now c.args.n 0 _ regular.each regular.some);
      small = c.delta_minus-least.ensures.small;
    }

pub loop-stream-preserved : goal.loop-stream-preserved
loop-stream-preserved c =
    let regular = in_range-is_model c.args.streams.now c.requires.streams in
    let here : c.args.n ≤ eta_plus c.args.streams.now (c.delta_minus.result + 1) =
    rw (c.delta_minus.ensures.value, c.stream-in-loop-stream.ensures, c.stream-item.is) (each_reaches c.args.streams.now c.args.n c.loop-stream.stream-index _ regular.each c.loop-stream-test.true)
    in
    elim (cases_lt c.loop-stream.least c.delta_minus.result) [
      | inl less ↦ let same : c.min-least.result ≡ c.loop-stream.least = omega (arith, c.min-least.ensures) in rw same c.loop-stream.invariant
      | inr more ↦
          let same : c.min-least.result ≡ c.delta_minus.result = omega (arith, c.min-least.ensures) in
          rw same (record { room = here; small = c.delta_minus.ensures.small })
    ]
