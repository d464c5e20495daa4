use Rattle.std.proofs.Common.{ℕ, arith}
use Rattle.cpa_offset.specs.Jobs.{others_work, others_work-mono}
use Rattle.cpa_offset.proofs.WalkLaws.{refused-next}
use Rattle.cpa_offset_can.specs.Frames.{busy_work, busy_work-mono}
use Rattle.cpa_offset_can.proofs.frames.busy_window.Goals as goal

pub returns-then-need-from-2-clause-none : goal.returns-then-need-from-2-clause-none
returns-then-need-from-2-clause-none g c v low high room =
    let s = c.args.starts.now in
    let l = c.loop-window in
    let frames : ℕ → ℕ = g.O.OwnFrames.frames c.args.own.now in
    let asked : ℕ → ℕ = busy_work s.worst s.blocking frames (others_work s.phased.now s.clocks.now s.free.now) in
    let mono = busy_work-mono s.worst s.blocking frames (others_work s.phased.now s.clocks.now s.free.now) (g.met.O.OwnFrames.longer c.args.own.now) (others_work-mono s.phased.now s.clocks.now s.free.now) in
    let full = refused-next asked mono 1 l.window l.invariant.refused v low (omega (arith, c.busy_work-need.ensures.value, c.from-in-loop-window.ensures, c.if-need-from-2.true)) in
    omega (arith, full, room)

pub loop-window-preserved : goal.loop-window-preserved
loop-window-preserved g c =
    let s = c.args.starts.now in
    let l = c.loop-window in
    let frames : ℕ → ℕ = g.O.OwnFrames.frames c.args.own.now in
    let asked : ℕ → ℕ = busy_work s.worst s.blocking frames (others_work s.phased.now s.clocks.now s.free.now) in
    let mono = busy_work-mono s.worst s.blocking frames (others_work s.phased.now s.clocks.now s.free.now) (g.met.O.OwnFrames.longer c.args.own.now) (others_work-mono s.phased.now s.clocks.now s.free.now) in
    record {
      later = omega (arith, l.invariant.later, c.from.ensures, c.if-need-from.false);
      refused = λ v low less. refused-next asked mono 1 l.window l.invariant.refused v low (omega (arith, c.busy_work-need.ensures.value, less));
      known = c.busy_work-need.ensures.known;
    }
