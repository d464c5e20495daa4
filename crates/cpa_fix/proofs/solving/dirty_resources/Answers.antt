use Rattle.std.proofs.Common.{◌<◌, ◌∙◌, length, sym, arith}
use Rattle.cpa_fix.specs.Readings.{HasCleanReading}
use Rattle.cpa_fix.proofs.SolveLaws.{part-add, part-pass}
use Rattle.cpa_fix.proofs.solving.dirty_resources.Goals as goal
use Rattle.cpa_fix.proofs.solving.dirty_resources.Goals.{then-has+then-is_stale, else-has, else-has-via-then-has+else-is_stale, else-has-via-else-has}

pub loop-place-preserved : goal.loop-place-preserved
loop-place-preserved c =
    let s = c.args.system.now in
    let now = c.loop-place in
    let in_range : now.place < length s.resources = omega (arith, c.resources-count.ensures.count) in
    elim c.if-has.branch [
      | then-has+then-is_stale w ↦ rw (w.dirty-is, w.found-is) (part-add s c.args.readings.now c.args.x.now now.dirty w.with-dirty.result now.found now.place in_range w.if-is_stale.ensures.yes w.with-dirty.ensures now.invariant)
      | else-has w ↦
          let clean : HasCleanReading s c.args.readings.now c.args.x.now now.place = elim w.else-has.branch [
            | else-has-via-then-has+else-is_stale v ↦ v.if-is_stale.ensures.no
            | else-has-via-else-has v ↦ c.requires.beyond now.place in_range (sym c.has.ensures ∙ v.if-has.false)
          ] in
          rw (w.dirty-is, w.found-is) (part-pass s c.args.readings.now c.args.x.now now.dirty now.found now.place clean now.invariant)
    ]
