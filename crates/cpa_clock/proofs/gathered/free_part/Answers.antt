use Rattle.std.proofs.Common.{◌∙◌, ◌<◌, None, not, length, take, ap, sym, arith}
use Rattle.std.specs.Prelude.{slice_index_or}
use Rattle.std.proofs.lemmas.List.{length-take-le}
use Rattle.cpa_clock.specs.Gathered.{anchors_at, free_streams}
use Rattle.cpa_clock.proofs.FreeLaws.{free_streams-few, free_part-next, free_part-same, model_of-is, none-at, some-at}
use Rattle.cpa_clock.proofs.gathered.free_part.Goals as goal
use Rattle.cpa_clock.proofs.gathered.free_part.Goals.{then-is_none, else-is_none}

pub with_stream-requires-clause-room : goal.with_stream-requires-clause-room
with_stream-requires-clause-room c x e =
    let is = model_of-is (free_streams (anchors_at c.args.anchors.now) 0 (take c.loop-k.k c.args.model.now)) x (sym c.loop-k.invariant ∙ e) in
    let there : c.loop-k.k < length c.args.model.now = omega (arith, c.loop-k-test.true, c.len-k-end.ensures.value) in
    omega (
      arith,
      ap length is,
      free_streams-few (anchors_at c.args.anchors.now) 0 (take c.loop-k.k c.args.model.now),
      length-take-le c.loop-k.k c.args.model.now (omega arith),
      c.requires.model.few,
    )

pub loop-k-preserved : goal.loop-k-preserved
loop-k-preserved c =
    let there : c.loop-k.k < length c.args.model.now = omega (arith, c.loop-k-test.true, c.len-k-end.ensures.value) in
    elim c.if-is_none.branch [
      | then-is_none w ↦
          let off = none-at (slice_index_or c.args.anchors.now c.loop-k.k None) (c.is_none.ensures ∙ ap not w.if-is_none.true) in
          w.free-is ∙ free_part-next (anchors_at c.args.anchors.now) c.args.model.now c.loop-k.k c.loop-k.free there c.loop-k.invariant w.get.result w.with_stream.result w.get.ensures w.with_stream.ensures off
      | else-is_none w ↦
          let on = some-at (slice_index_or c.args.anchors.now c.loop-k.k None) (c.is_none.ensures ∙ ap not w.if-is_none.false) in
          w.free-is ∙ free_part-same (anchors_at c.args.anchors.now) c.args.model.now c.loop-k.k c.loop-k.free there c.loop-k.invariant (record { period = 1; jitter = 0; distance = 0 }) on.0 on.1
    ]
