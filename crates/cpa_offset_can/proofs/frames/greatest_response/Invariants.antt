use Rattle.cpa_phase.specs.Known.{AreKnown}
use Rattle.cpa_offset.specs.Jobs.{others_work}
use Rattle.cpa_offset_can.proofs.FrameLaws.{IsUnderWay}
use Rattle.cpa_offset_can.proofs.frames.greatest_response.Given as goal

abbrev pub invariant-loop-earlier : goal.invariant-loop-earlier
invariant-loop-earlier g l =
    record {
      on : IsUnderWay l.starts.worst l.starts.blocking l.starts.bit l.limit (others_work l.starts.phased.now l.starts.clocks.now l.starts.free.now) (g.O.OwnFrames.earliest l.own) l.earlier l.from 0 l.greatest;
      known : AreKnown l.starts.clocks.now l.known;
    }
