use Rattle.std.proofs.Common.{◌+◌, ◌-◌, ℕ, ◌<◌, ◌≤◌}
use Rattle.cpa_phase.specs.Known.{AreKnown}
use Rattle.cpa_offset.specs.Jobs.{jobs_work}
use Rattle.cpa_offset.proofs.jobs.window_of.Given as goal

-- no window so far has room
abbrev pub invariant-loop-window : goal.invariant-loop-window
invariant-loop-window l =
    record {
      later : l.fn.from ≤ l.window;
      refused : (v : ℕ) → l.fn.from ≤ v → v < l.window → v < jobs_work l.jobs.worst l.jobs.blocking l.jobs.phased.now l.jobs.clocks.now l.jobs.free.now l.count v;
      known : AreKnown l.jobs.clocks.now l.known;
    }

abbrev pub decreases-loop-window : goal.decreases-loop-window
decreases-loop-window l = l.limit + 1 - l.window
