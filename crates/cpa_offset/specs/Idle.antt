-- When all others are done, wherever a window starts.
use Rattle.std.specs.Prelude.{ℕ, ◌+◌, ◌<◌, ◌≤◌, Option, List, map}
use Rattle.std.specs.Option.{ForSome}
use Rattle.cpa_window.specs.declared.rivals.Rival.{Rival}
use Rattle.cpa_phase.specs.declared.placed.Placed.{Placed}
use Rattle.cpa_phase.specs.declared.phased.Phased.{Phased}
use Rattle.cpa_phase.specs.declared.clock.Clock.{Clock}
use Rattle.cpa_phase.specs.Streams.{phased_from}
use Rattle.cpa_offset.specs.Jobs.{others_work}

-- a stream as a window sees it whose first event comes at once
abbrev pub at_once : Placed → Phased
at_once p = record { stream = p.stream; phase = 0; worst = p.worst }

-- a window within the limit in which all others have room
pub record IsIdleBy (blocking : ℕ) (joint : List Placed) (clocks : List Clock) (free : List Rival) (limit end : ℕ) : Type 0 where
  pub some : 0 < end
  pub within : end ≤ limit
  pub room : (x : ℕ) → blocking + others_work (map (phased_from x) joint) clocks free end ≤ end

-- the same where one is known
abbrev pub IsIdle : ℕ → List Placed → List Clock → List Rival → ℕ → Option ℕ → Type 0
IsIdle blocking joint clocks free limit idle = ForSome idle (IsIdleBy blocking joint clocks free limit)
