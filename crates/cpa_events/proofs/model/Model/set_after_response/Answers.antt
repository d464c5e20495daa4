use Rattle.std.proofs.Common.{◌≡◌, ◌≤◌, ◌-◌, ◌∙◌, refl, arith}
use Rattle.cpa_events.specs.declared.stream.TheConstants.{MAX_MODEL_JITTER}
use Rattle.cpa_events.specs.Streams.{IsStreamInRange}
use Rattle.cpa_events.specs.Events.{after_response}
use Rattle.std.proofs.lemmas.List.{take_all}
use Rattle.cpa_events.proofs.EventLaws.{found_at, after_response-in_range}
use Rattle.cpa_events.proofs.model.Model.set_after_response.Goals as goal

pub after_response-requires-in-loop-k-clause-stream : goal.after_response-requires-in-loop-k-clause-stream
after_response-requires-in-loop-k-clause-stream c =
    found_at IsStreamInRange c.args.received.now c.loop-k.k c.get-in-loop-k.result c.requires.model.each (omega arith) c.get-in-loop-k.ensures

pub after_response-requires-in-loop-k-clause-room : goal.after_response-requires-in-loop-k-clause-room
after_response-requires-in-loop-k-clause-room c =
    let room : c.get-in-loop-k.result.jitter ≤ MAX_MODEL_JITTER - c.args.bound =
    found_at (λ s. s.jitter ≤ MAX_MODEL_JITTER - c.args.bound) c.args.received.now c.loop-k.k c.get-in-loop-k.result c.requires.room (omega arith) c.get-in-loop-k.ensures
    in
    omega (arith, c.requires.bound)

pub returns-clause-in_range : goal.returns-clause-in_range
returns-clause-in_range c =
    let whole : c.loop-k.self ≡ after_response c.args.received.now c.args.best c.args.bound =
    c.loop-k.invariant ∙ rw (take_all c.loop-k.k c.args.received.now (omega arith)) refl
    in
    rw whole (after_response-in_range c.args.received.now c.args.best c.args.bound c.requires.model c.requires.best c.requires.bound c.requires.room)
