use Rattle.std.proofs.Common.{ℕ, arith}
use Rattle.cpa_offset.specs.Jobs.{others_work, others_work-mono}
use Rattle.cpa_offset.proofs.WalkLaws.{refused-next}
use Rattle.cpa_offset_can.specs.Frames.{start_work, start_work-mono}
use Rattle.cpa_offset_can.proofs.frames.start_of.Goals as goal

pub returns-then-need-from-2-clause-none : goal.returns-then-need-from-2-clause-none
returns-then-need-from-2-clause-none c v low high room =
    let s = c.args.starts.now in
    let l = c.loop-window in
    let asked : ℕ → ℕ = start_work s.worst s.blocking (others_work s.phased.now s.clocks.now s.free.now) s.bit c.args.earlier in
    let mono = start_work-mono s.worst s.blocking (others_work s.phased.now s.clocks.now s.free.now) s.bit (others_work-mono s.phased.now s.clocks.now s.free.now) c.args.earlier in
    let full = refused-next asked mono c.args.from l.window l.invariant.refused v low (omega (arith, c.start_work-need.ensures.value, c.from-in-loop-window.ensures, c.if-need-from-2.true)) in
    omega (arith, full, room)

pub loop-window-preserved : goal.loop-window-preserved
loop-window-preserved c =
    let s = c.args.starts.now in
    let l = c.loop-window in
    let asked : ℕ → ℕ = start_work s.worst s.blocking (others_work s.phased.now s.clocks.now s.free.now) s.bit c.args.earlier in
    let mono = start_work-mono s.worst s.blocking (others_work s.phased.now s.clocks.now s.free.now) s.bit (others_work-mono s.phased.now s.clocks.now s.free.now) c.args.earlier in
    record {
      later = omega (arith, l.invariant.later, c.from.ensures, c.if-need-from.false);
      refused = λ v low less. refused-next asked mono c.args.from l.window l.invariant.refused v low (omega (arith, c.start_work-need.ensures.value, less));
      known = c.start_work-need.ensures.known;
    }
