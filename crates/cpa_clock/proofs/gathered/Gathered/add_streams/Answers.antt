use Rattle.std.proofs.Common.{◌∙◌, ◌<◌, None, length, take, refl, arith}
use Rattle.std.specs.Prelude.{slice_index_or}
use Rattle.std.proofs.lemmas.Slice.Zip.{AllZip-long}
use Rattle.cpa_clock.specs.Gathered.{IsAnchored}
use Rattle.cpa_clock.proofs.AddedLaws.{with_streams, with_streams-none, with_streams-take_on, with_streams-take_off, anchored-at}
use Rattle.cpa_clock.proofs.FreeLaws.{none-from}
use Rattle.cpa_clock.proofs.GatheredLaws.{cycle_of_clock}
use Rattle.cpa_clock.proofs.gathered.Gathered.add_streams.Goals as goal
use Rattle.cpa_clock.proofs.gathered.Gathered.add_streams.Goals.{in-Some+in_ok-add_stream, in_default}

pub loop-k-init : goal.loop-k-init
loop-k-init c = record { long = c.requires.long; added = refl; free = refl; more = λ own rivals h. rw (with_streams-none rivals c.args.anchors.now c.args.worst) h }

pub bounds : goal.bounds
bounds c =
    let all = c.requires.input c.args.model.now refl in
    omega (arith, AllZip-long (IsAnchored c.args.cycles.now) c.args.anchors.now c.args.model.now all.1, c.len-k-end.ensures.value, c.loop-k-test.true)

pub bounds-cycles-anchor : goal.bounds-cycles-anchor
bounds-cycles-anchor c =
    let all = c.requires.input c.args.model.now refl in
    let less : c.loop-k.k < length c.args.anchors.now = omega (arith, AllZip-long (IsAnchored c.args.cycles.now) c.args.anchors.now c.args.model.now all.1, c.len-k-end.ensures.value, c.loop-k-test.true) in
    (anchored-at c.args.cycles.now c.args.anchors.now c.args.model.now c.loop-k.k c.in-Some.anchor (record { period = 1; jitter = 0; distance = 0 }) all.1 less c.in-Some.is).there

pub loop-k-preserved : goal.loop-k-preserved
loop-k-preserved c =
    let all = c.requires.input c.args.model.now refl in
    let there : c.loop-k.k < length c.args.model.now = omega (arith, c.loop-k-test.true, c.len-k-end.ensures.value) in
    let less : c.loop-k.k < length c.args.anchors.now = omega (arith, AllZip-long (IsAnchored c.args.cycles.now) c.args.anchors.now c.args.model.now all.1, there) in
    elim c.match-anchors-k.branch [
      | in-Some+in_ok-add_stream w ↦
          let at = anchored-at c.args.cycles.now c.args.anchors.now c.args.model.now c.loop-k.k w.in-Some.anchor w.get.result all.1 less w.in-Some.is in
          rw w.self-is (record {
            long = w.in_ok-add_stream.ensures.long;
            added = w.add_stream.ensures.added ∙ c.loop-k.invariant.added;
            free = w.add_stream.ensures.free ∙ c.loop-k.invariant.free;
            more = λ own rivals h.
                let pushed = w.in_ok-add_stream.ensures.more own c.args.cycles.now (with_streams rivals c.args.anchors.now c.args.worst (take c.loop-k.k c.args.model.now)) (at.there, cycle_of_clock c.args.cycles.now w.in-Some.anchor.clock at.there) (c.loop-k.invariant.more own rivals h) in
                rw (with_streams-take_on rivals c.args.anchors.now c.args.worst c.args.model.now c.loop-k.k w.get.result w.in-Some.anchor there w.get.ensures w.in-Some.is) pushed;
          })
      | in_default w ↦
          rw w.self-is (record {
            long = c.loop-k.invariant.long;
            added = c.loop-k.invariant.added;
            free = c.loop-k.invariant.free;
            more = λ own rivals h. rw (with_streams-take_off rivals c.args.anchors.now c.args.worst c.args.model.now c.loop-k.k there (none-from (slice_index_or c.args.anchors.now c.loop-k.k None) w.in_default.not-Some)) (c.loop-k.invariant.more own rivals h);
          })
    ]
