use Rattle.std.proofs.Common.{◌<◌, [], ◌∷◌, length, arith, ap, ◌∙◌}
use Rattle.std.proofs.lemmas.List.Elements.{All-append}
use Rattle.cpa_events.specs.Streams.{IsStreamInRange}
use Rattle.cpa_model.specs.SystemLists.{streams_of}
use Rattle.cpa_assign.proofs.PlacingLaws.{sources-more}
use Rattle.cpa_assign.proofs.placing.sources_model.Goals as goal

pub loop-k-preserved : goal.loop-k-preserved
loop-k-preserved c =
    let less : c.loop-k.k < length (streams_of c.args.system.now c.args.task.0) = omega (arith, c.loop-k-test.true, c.streams-count.ensures.count) in
    record {
      found = sources-more c.args.system.now c.args.task.0 c.loop-k.k c.loop-k.model c.one.result _ less c.loop-k.invariant.found
          (c.one.ensures.value ∙ ap (λ stream. stream ∷ []) c.source_stream-in-loop-k.ensures.value) c.append.ensures;
      each = rw c.append.ensures (All-append IsStreamInRange c.loop-k.model c.one.result c.loop-k.invariant.each c.one.ensures.in_range.each);
    }
