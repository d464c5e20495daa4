use Rattle.std.proofs.Common.{◌+◌, ◌-◌, ℕ, ◌<◌, ◌≤◌}
use Rattle.cpa_phase.specs.Known.{AreKnown}
use Rattle.cpa_offset.specs.Jobs.{others_work}
use Rattle.cpa_offset_can.specs.Frames.{busy_work}
use Rattle.cpa_offset_can.proofs.frames.busy_window.Given as goal

-- no window so far has room
abbrev pub invariant-loop-window : goal.invariant-loop-window
invariant-loop-window g l =
    record {
      later : 1 ≤ l.window;
      refused : (v : ℕ) → 1 ≤ v → v < l.window → v < busy_work l.starts.worst l.starts.blocking (g.O.OwnFrames.frames l.own) (others_work l.starts.phased.now l.starts.clocks.now l.starts.free.now) v;
      known : AreKnown l.starts.clocks.now l.known;
    }

abbrev pub decreases-loop-window : goal.decreases-loop-window
decreases-loop-window g l = l.limit + 1 - l.window
