-- How much work waits, in ticks: what a queue holds is all done before a job that comes last in it ends.
use Rattle.std.specs.Prelude.{ℕ, List, sum_by, fold, if◌then◌else◌}
use Rattle.cpa_units.specs.declared.bound.Bound.{Bound}
use Rattle.cpa_units.specs.declared.bound.Bound.TheVariants.{Within}
use Rattle.cpa_units.specs.Bounds.{bound_of, bound_max}
use Rattle.cpa_model.specs.SystemLists.{SystemLists, tasks_on}
use Rattle.cpa_trace.specs.Trace.{TraceLists}
use Rattle.cpa_sim.specs.Run.{Progress, is_open, run}

-- what a job still needs; one that is complete needs nothing
abbrev pub rest_of : Progress → ℕ
rest_of job = if is_open job then job.left else 0

-- what the jobs of a task that are pending at a time of the run still need together
unfoldable pub work_at : SystemLists → TraceLists → ℕ → ℕ → ℕ
work_at s tr t i = sum_by rest_of ((run s tr t).jobs i)

-- what those of all tasks of a resource do
unfoldable pub work_on : SystemLists → TraceLists → ℕ → ℕ → ℕ
work_on s tr t r = sum_by (work_at s tr t) (tasks_on s r)

-- the greatest bound of some tasks, 0 where there are none
abbrev pub greatest_bound : List Bound → List ℕ → Bound
greatest_bound x is = fold (λ most i. bound_max most (bound_of x i)) (Within 0) is

-- how much work can wait on a resource: the greatest bound of its tasks, by which all that waits is done. In a queue all tasks have one bound,
-- and it is that
unfoldable pub most_work_on : SystemLists → List Bound → ℕ → Bound
most_work_on s x r = greatest_bound x (tasks_on s r)
