-- The times of paths from end to end by the bounds of their tasks, and the verdicts on their deadlines.
-- Source: end-to-end latency as the sum of response times along a chain (Richter's thesis, 2005).
use Rattle.std.specs.Prelude.{ℕ, nat_le, Bool, true, false, Option, Some, None, List, sum_by, if◌then◌else◌}
use Rattle.cpa_units.specs.declared.bound.Bound.{Bound}
use Rattle.cpa_units.specs.declared.bound.Bound.TheVariants.{Within, Overload}
use Rattle.cpa_units.specs.declared.places.TaskId.{TaskId}
use Rattle.cpa_units.specs.Bounds.{bound_of, sum_bounds}
use Rattle.cpa_model.specs.declared.entries.Path.{Path}
use Rattle.cpa_model.specs.SystemLists.{SystemLists, task_at}
use Rattle.cpa_local.specs.declared.paths.DeadlineVerdict.{DeadlineVerdict}
use Rattle.cpa_local.specs.declared.paths.DeadlineVerdict.TheVariants.{Met, Missed, Unknown, NoDeadline}

-- the least time from end to end
abbrev pub path_best : SystemLists → Path → ℕ
path_best s p = sum_by (λ (i : TaskId). (task_at s i.0).best) p.tasks

-- the greatest, by the bounds of its tasks
abbrev pub path_worst : List Bound → Path → Bound
path_worst x p = sum_bounds (λ (i : TaskId). bound_of x i.0) p.tasks

-- the verdict on a deadline, by the greatest time
abbrev pub deadline_verdict_of : Option ℕ → Bound → DeadlineVerdict
deadline_verdict_of None worst = NoDeadline
deadline_verdict_of (Some deadline) Overload = Unknown
deadline_verdict_of (Some deadline) (Within worst) = if nat_le worst deadline then Met else Missed

abbrev pub is_missed_by : DeadlineVerdict → Bool
is_missed_by Missed = true
is_missed_by _ = false

abbrev pub is_missed : List Bound → Path → Bool
is_missed x p = is_missed_by (deadline_verdict_of p.deadline (path_worst x p))

abbrev pub is_overload : Bound → Bool
is_overload (Within ticks) = false
is_overload Overload = true
