use Rattle.std.proofs.Common.{◌∷◌, [], sym, ◌∙◌}
use Rattle.cpa_events.specs.Streams.{IsStreamInRange}
use Rattle.cpa_events.specs.Events.{IsModelInRange}
use Rattle.cpa_events.proofs.EventLaws.{delta_minus-of_one, first_of}
use Rattle.cpa_events.proofs.model.Model.delta_minus.Goals as goal

pub returns-in-Some : goal.returns-in-Some
returns-in-Some c =
    let alone = c.only.ensures c.in-Some.stream c.in-Some.is in
    let r : IsModelInRange (c.in-Some.stream ∷ []) = rw (← alone) c.requires.model in
    let one : IsStreamInRange c.in-Some.stream = first_of IsStreamInRange c.in-Some.stream [] r.each in
    rw alone (c.delta_minus.ensures.value ∙ sym (delta_minus-of_one c.in-Some.stream c.args.n one.regular))
