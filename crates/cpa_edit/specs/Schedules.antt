-- Schedules of clocks, source by source.
use Rattle.std.specs.Prelude.{ℕ, ◌+◌, ◌*◌, ◌/◌, ◌<◌, ◌≤◌, ◌||◌, nat_lt, if◌then◌else◌, Bool, List, Option, Some, None}
use Rattle.cpa_units.specs.declared.limits.TheConstants.{MAX_PERIOD}
use Rattle.cpa_draft.specs.declared.clocks.TheConstants.{MAX_STARTS}
use Rattle.cpa_draft.specs.Clocks.{least_common_multiple, common_cycle, starts_in}
use Rattle.cpa_edit.specs.declared.clocks.Schedule.{Schedule}

-- when the schedule of periods repeats, and how many events it has until then
abbrev pub schedule_of : List ℕ → Schedule
schedule_of periods = record { cycle = common_cycle periods; starts = starts_in (common_cycle periods) periods }

-- the same with one more period
abbrev pub joined : Schedule → ℕ → Schedule
joined s period =
    let cycle = least_common_multiple s.cycle period in
    record { cycle = cycle; starts = s.starts * (cycle / s.cycle) + cycle / period }

abbrev pub is_long : Schedule → Bool
is_long s = nat_lt MAX_PERIOD s.cycle || nat_lt MAX_STARTS s.starts

pub record IsShort (s : Schedule) : Type 0 where
  pub some : 0 < s.cycle
  pub cycle : s.cycle ≤ MAX_PERIOD
  pub starts : s.starts ≤ MAX_STARTS

-- a schedule, unless it is too long
abbrev pub unless_long : Schedule → Option Schedule
unless_long s = if is_long s then None else Some s
