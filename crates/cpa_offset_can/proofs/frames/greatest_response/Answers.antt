use Rattle.std.proofs.Common.{ℕ, sym, arith}
use Rattle.cpa_units.specs.declared.bound.Bound.TheVariants.{Within, Overload}
use Rattle.cpa_window.proofs.WalkLaws.{window-goes_on}
use Rattle.cpa_offset.specs.Jobs.{others_work, others_work-mono}
use Rattle.cpa_offset.proofs.WalkLaws.{nothing_steady}
use Rattle.cpa_offset_can.specs.Frames.{start_work}
use Rattle.cpa_offset_can.proofs.FrameLaws.{before_the_first, none, past, next}
use Rattle.cpa_offset_can.proofs.frames.greatest_response.Goals as goal

pub loop-earlier-init : goal.loop-earlier-init
loop-earlier-init g c =
    let s = c.args.starts.now in
    record { on = before_the_first s.worst s.blocking s.bit c.args.limit (others_work s.phased.now s.clocks.now s.free.now) (g.O.OwnFrames.earliest c.args.own.now); known = c.requires.known }

pub returns-in_default-clause-value : goal.returns-in_default-clause-value
returns-in_default-clause-value g c =
    let s = c.args.starts.now in
    let l = c.loop-earlier in
    let asked : ℕ → ℕ → ℕ = start_work s.worst s.blocking (others_work s.phased.now s.clocks.now s.free.now) s.bit in
    let never = window-goes_on (asked l.earlier) l.from c.args.limit Overload l.invariant.on.ready.crowded c.in_default.ensures.none in
    sym (none s.worst s.blocking s.bit c.args.limit (others_work s.phased.now s.clocks.now s.free.now) (g.O.OwnFrames.earliest c.args.own.now) l.earlier c.args.frames (omega arith) never)

pub returns-then-end-limit-clause-value : goal.returns-then-end-limit-clause-value
returns-then-end-limit-clause-value g c =
    let s = c.args.starts.now in
    let l = c.loop-earlier in
    let asked : ℕ → ℕ → ℕ = start_work s.worst s.blocking (others_work s.phased.now s.clocks.now s.free.now) s.bit in
    let found = window-goes_on (asked l.earlier) l.from c.args.limit (Within c.in-Some.start) l.invariant.on.ready.crowded c.in-Some.ensures.found in
    sym (past s.worst s.blocking s.bit c.args.limit (others_work s.phased.now s.clocks.now s.free.now) (g.O.OwnFrames.earliest c.args.own.now) l.earlier c.args.frames (omega arith) c.in-Some.start found (omega arith))

pub loop-earlier-preserved : goal.loop-earlier-preserved
loop-earlier-preserved g c =
    let s = c.args.starts.now in
    let l = c.loop-earlier in
    let asked : ℕ → ℕ → ℕ = start_work s.worst s.blocking (others_work s.phased.now s.clocks.now s.free.now) s.bit in
    let found = window-goes_on (asked l.earlier) l.from c.args.limit (Within c.in-Some.start) l.invariant.on.ready.crowded c.in-Some.ensures.found in
    let onward =
    next s.worst s.blocking s.bit c.args.limit (others_work s.phased.now s.clocks.now s.free.now) (g.O.OwnFrames.earliest c.args.own.now) l.earlier l.from 0 l.greatest c.in-Some.start 0 s.execution (others_work-mono s.phased.now s.clocks.now s.free.now) l.invariant.on found
    (nothing_steady asked s.worst l.earlier c.in-Some.start) (omega arith)
    in
    record { on = rw (c.max-greatest.ensures, c.saturating_sub.ensures, c.earliest_of.ensures) onward; known = c.in-Some.ensures.known }
