use Rattle.cpa_phase.proofs.KnownLaws.{known-at, known-between}
use Rattle.cpa_phase.proofs.known.KnownWork.work_at.Goals as goal

pub returns-then-window-after : goal.returns-then-window-after
returns-then-window-after c clocks h =
    let known = c.args.self.now in
    let after = rw c.deref.ensures.value at c.in_ok-after.ensures.lookup.3 in
    let before = rw c.deref-2.ensures.value at c.in_ok-before.ensures.lookup.3 in
    known-between clocks c.in_ok-before.field-0.now c.in_ok-after.field-0.now c.args.window
    (known-at clocks known c.in_ok-checked_sub.field-0 c.in_ok-before.field-0.now h before.0 (before.1 c.in_ok-before.field-0.now))
    (known-at clocks known c.args.place c.in_ok-after.field-0.now h after.0 (after.1 c.in_ok-after.field-0.now))
    c.if-before-after.true c.if-before-window.true c.if-window-after.true
