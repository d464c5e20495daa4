use Rattle.std.proofs.Common.{ℕ, ◌≤◌, sym, ◌∙◌, arith}
use Rattle.cpa_offset.specs.Jobs.{others_work}
use Rattle.cpa_offset_can.proofs.FrameLaws.{bound-idle, bound-busy, frames-few}
use Rattle.cpa_offset_can.proofs.frames.frames_bound.Goals as goal

pub greatest_response-requires-clause-frames : goal.greatest_response-requires-clause-frames
greatest_response-requires-clause-frames g c =
    let s = c.args.starts.now in
    let asked : ℕ → ℕ = others_work s.phased.now s.clocks.now s.free.now in
    let frames : ℕ → ℕ = g.O.OwnFrames.frames c.args.own.now in
    let few : frames c.in-Some.busy ≤ c.args.limit = frames-few s.worst s.blocking s.bit c.args.limit asked (g.O.OwnFrames.earliest c.args.own.now) frames c.in-Some.busy s.execution.some c.in-Some.ensures.found in
    omega (arith, few, c.frames_in.ensures, c.requires.limit)

pub returns-in-Some-clause-value : goal.returns-in-Some-clause-value
returns-in-Some-clause-value g c =
    let s = c.args.starts.now in
    let asked : ℕ → ℕ = others_work s.phased.now s.clocks.now s.free.now in
    let bound = bound-busy s.worst s.blocking s.bit c.args.limit asked (g.O.OwnFrames.earliest c.args.own.now) (g.O.OwnFrames.frames c.args.own.now) c.in-Some.busy c.in-Some.ensures.found in
    c.greatest_response.ensures.value ∙ (rw c.frames_in.ensures (sym bound))

pub returns-in-None-clause-value : goal.returns-in-None-clause-value
returns-in-None-clause-value g c =
    let s = c.args.starts.now in
    let asked : ℕ → ℕ = others_work s.phased.now s.clocks.now s.free.now in
    sym (bound-idle s.worst s.blocking s.bit c.args.limit asked (g.O.OwnFrames.earliest c.args.own.now) (g.O.OwnFrames.frames c.args.own.now) c.in-None.ensures.none)
