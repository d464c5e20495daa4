use Rattle.std.proofs.Common.{◌∙◌, ◌+◌, ◌++◌, refl, ap, sym}
use Rattle.std.proofs.lemmas.Slice.Zip.{AllZip-long}
use Rattle.cpa_clock.specs.Gathered.{IsAnchored, anchors_at, as_one, free_streams, model_of}
use Rattle.cpa_clock.specs.declared.gathered.Gathered.{Gathered}
use Rattle.cpa_clock.proofs.GatheredLaws.{added-bounded}
use Rattle.cpa_clock.proofs.gathered.Gathered.add_bounded.Goals as goal

pub add_free-requires-clause-anchors : goal.add_free-requires-clause-anchors
add_free-requires-clause-anchors c = sym (AllZip-long (IsAnchored c.args.cycles.now) c.args.anchors.now c.args.model.now (c.requires.input c.args.model.now refl).1)

pub returns : goal.returns
returns c own rivals h =
    let new : Gathered = record c.add_free.new.self { added = c.add_free.new.self.added + 1 } in
    let streams = c.in_ok-add_streams.ensures.more own rivals h.streams in
    let frees = as_one c.args.worst (model_of (free_streams (anchors_at c.args.anchors.now) 0 c.args.model.now)) in
    added-bounded own c.args.cycles.now rivals c.args.anchors.now c.args.model.now c.args.worst c.args.self.now new c.requires.input c.requires.worst c.requires.room
    (ap (λ n. n + 1) (c.add_free.ensures.added ∙ c.add_streams.ensures.added))
    (record {
      clock = c.add_free.ensures.own ∙ streams.clock;
      joint = rw c.add_free.ensures.joint streams.joint;
      others = rw c.add_free.ensures.others streams.others;
    })
    (c.in_ok-add_free.ensures.free ∙ ap (λ v. v.items ++ frees) c.add_streams.ensures.free) h
