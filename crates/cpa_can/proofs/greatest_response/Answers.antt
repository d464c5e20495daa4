use Rattle.std.proofs.Common.{◌+◌, sym, arith}
use Rattle.cpa_units.specs.declared.bound.Bound.TheVariants.{Within, Overload}
use Rattle.cpa_can.proofs.FrameLaws.{frame_start, next, response-past, response-none, greatest-overload}
use Rattle.cpa_can.proofs.greatest_response.Goals as goal
use Rattle.cpa_can.proofs.greatest_response.Goals.{then-earlier-frames, else-earlier-frames}

pub returns-in_default : goal.returns-in_default
returns-in_default c =
    let a = c.args in
    let s = a.starts.now in
    let l = c.loop-earlier in
    let start = frame_start a.own.now s.worst s.blocking s.rivals.now s.bit a.limit c.requires.bounded l.earlier Overload c.in_default.ensures.none in
    let past = response-none a.own.now s.worst s.blocking s.rivals.now s.bit a.limit (l.earlier + 1) start in
    sym (greatest-overload a.own.now s.worst s.blocking s.rivals.now s.bit a.limit (l.earlier + 1) a.frames (omega arith) (omega arith) past)

pub returns-then-end-limit : goal.returns-then-end-limit
returns-then-end-limit c =
    let a = c.args in
    let s = a.starts.now in
    let l = c.loop-earlier in
    let begin = c.in-Some.start.end in
    let start = frame_start a.own.now s.worst s.blocking s.rivals.now s.bit a.limit c.requires.bounded l.earlier (Within begin) c.in-Some.ensures.found in
    let past = response-past a.own.now s.worst s.blocking s.rivals.now s.bit a.limit begin (l.earlier + 1) start (omega arith) in
    sym (greatest-overload a.own.now s.worst s.blocking s.rivals.now s.bit a.limit (l.earlier + 1) a.frames (omega arith) (omega arith) past)

pub loop-earlier-preserved : goal.loop-earlier-preserved
loop-earlier-preserved c =
    let a = c.args in
    let s = a.starts.now in
    let l = c.loop-earlier in
    let onward = next a.own.now s.worst s.blocking s.rivals.now s.bit a.limit c.requires.bounded l.earlier l.from l.steady l.greatest c.in-Some.start.end in
    elim c.if-earlier-frames.branch [
      | then-earlier-frames w ↦
          rw (w.steady-is, c.max-greatest.ensures, c.saturating_sub.ensures, c.delta_minus.ensures)
          (onward w.look_ahead-steady.result s.execution l.invariant c.in-Some.ensures.found w.look_ahead-steady.ensures (omega arith))
      | else-earlier-frames w ↦
          rw (w.steady-is, c.max-greatest.ensures, c.saturating_sub.ensures, c.delta_minus.ensures)
          (onward c.in-Some.start.steady s.execution l.invariant c.in-Some.ensures.found c.in-Some.ensures.steady (omega arith))
    ]
