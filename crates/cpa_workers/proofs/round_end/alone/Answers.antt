use Rattle.std.proofs.Common.{sym, ◌∙◌}
use Rattle.cpa_fix.proofs.RoundLaws.{part-more, part-skip}
use Rattle.cpa_workers.proofs.round_end.alone.Goals as goal
use Rattle.cpa_workers.proofs.round_end.alone.Goals.{then-has+in_ok-round_of_one, else-has}

pub loop-place-preserved : goal.loop-place-preserved
loop-place-preserved g c =
    let s = c.args.dirty.now.system.now in
    let now = c.loop-place in
    elim c.if-has.branch [
      | then-has+in_ok-round_of_one w ↦
          let did = w.in_ok-round_of_one.ensures in
          rw (w.x-is, w.readings-is, w.trail-is)
          (part-more s c.args.dirty.now.set c.args.x.now now.x w.round_of_one.new.x c.args.readings.now now.readings w.round_of_one.new.readings c.args.trail.now now.trail w.round_of_one.new.trail now.place
          (sym c.has.ensures ∙ w.if-has.true) now.invariant did.risen did.done did.kept did.fresh did.marked)
      | else-has w ↦
          rw (w.x-is, w.readings-is, w.trail-is)
          (part-skip s c.args.dirty.now.set c.args.x.now now.x c.args.readings.now now.readings c.args.trail.now now.trail now.place (sym c.has.ensures ∙ w.if-has.false) now.invariant)
    ]
