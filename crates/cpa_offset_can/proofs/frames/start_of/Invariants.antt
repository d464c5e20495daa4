use Rattle.std.proofs.Common.{◌+◌, ◌-◌, ℕ, ◌<◌, ◌≤◌}
use Rattle.cpa_phase.specs.Known.{AreKnown}
use Rattle.cpa_offset.specs.Jobs.{others_work}
use Rattle.cpa_offset_can.specs.Frames.{start_work}
use Rattle.cpa_offset_can.proofs.frames.start_of.Given as goal

-- no window so far has room
abbrev pub invariant-loop-window : goal.invariant-loop-window
invariant-loop-window l =
    record {
      later : l.fn.from ≤ l.window;
      refused : (v : ℕ) → l.fn.from ≤ v → v < l.window → v < start_work l.starts.worst l.starts.blocking (others_work l.starts.phased.now l.starts.clocks.now l.starts.free.now) l.starts.bit l.earlier v;
      known : AreKnown l.starts.clocks.now l.known;
    }

abbrev pub decreases-loop-window : goal.decreases-loop-window
decreases-loop-window l = l.limit + 1 - l.window
