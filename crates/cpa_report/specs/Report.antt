-- The text of a report, and its verdict.
use Rattle.std.specs.Prelude.{ℕ, ◌++◌, ◌==◌, Option, Some, None, List, length, count_by, codes, if◌then◌else◌, [], ◌∷◌}
use Rattle.std.specs.List.{list_any, flat_map}
use Rattle.std.specs.Fmt.{decimal}
use Rattle.cpa_units.specs.declared.bound.Bound.{Bound}
use Rattle.cpa_units.specs.declared.bound.Bound.TheVariants.{Within, Overload}
use Rattle.cpa_units.specs.Bounds.{bound_of}
use Rattle.cpa_events.specs.declared.stream.Stream.{Stream}
use Rattle.cpa_events.specs.Events.{Model}
use Rattle.cpa_model.specs.declared.entries.Path.{Path}
use Rattle.cpa_model.specs.SystemLists.{SystemLists, task_at, source_at, resource_of, root_of, streams_of, task_places}
use Rattle.cpa_local.specs.Inputs.{input}
use Rattle.cpa_local.specs.Paths.{path_best, path_worst, deadline_verdict_of, is_missed, is_overload}
use Rattle.cpa_local.specs.declared.paths.DeadlineVerdict.{DeadlineVerdict}
use Rattle.cpa_local.specs.declared.paths.DeadlineVerdict.TheVariants.{Met, Missed, Unknown, NoDeadline}

-- 2 where a bound is missing; else 1 where a deadline is missed; else 0
unfoldable pub verdict : SystemLists → List Bound → ℕ
verdict s x = if list_any is_overload x then 2 else if list_any (is_missed x) s.paths then 1 else 0

abbrev pub bound_text : Bound → List ℕ
bound_text (Within ticks) = decimal ticks
bound_text Overload = codes "overload"

abbrev pub deadline_verdict_text : DeadlineVerdict → List ℕ
deadline_verdict_text Met = codes "met"
deadline_verdict_text Missed = codes "missed"
deadline_verdict_text Unknown = codes "unknown"
deadline_verdict_text NoDeadline = codes "none"

abbrev pub deadline_text : Option ℕ → List ℕ
deadline_text (Some deadline) = decimal deadline
deadline_text None = codes "-"

-- the period of the source of a task's first stream
abbrev pub root_period : SystemLists → ℕ → ℕ
root_period s i = (source_at s (root_of s i).0).period

-- a task's name and its resource's
unfoldable pub names_text : SystemLists → ℕ → List ℕ
names_text s i = codes "task " ++ (task_at s i).name ++ codes " " ++ (resource_of s i).name

unfoldable pub stream_text : Stream → List ℕ
stream_text s = codes " period " ++ decimal s.period ++ codes " jitter " ++ decimal s.jitter ++ codes " distance " ++ decimal s.distance

-- of a model of one stream that stream
abbrev pub model_text : Model → List ℕ
model_text [] = []
model_text (s ∷ m) = stream_text s

unfoldable pub unbounded_text : ℕ → List ℕ
unbounded_text period = codes " period " ++ decimal period ++ codes " jitter overload distance overload"

-- a task's input model; of one that is unbounded the period alone is known
abbrev pub input_text : SystemLists → ℕ → Option Model → List ℕ
input_text s i (Some m) = model_text m
input_text s i None = unbounded_text (root_period s i)

-- how many streams a task has
unfoldable pub count_text : ℕ → List ℕ
count_text count = codes " streams " ++ decimal count

-- what comes to a task: its input model where it has one stream, else how many it has
abbrev pub streams_text : SystemLists → List Bound → ℕ → List ℕ
streams_text s x i = if length (streams_of s i) == 1 then input_text s i (input s x i) else count_text (length (streams_of s i))

-- the least execution and the bound
unfoldable pub bounds_text : ℕ → Bound → List ℕ
bounds_text best worst = codes " best " ++ decimal best ++ codes " worst " ++ bound_text worst

unfoldable pub task_line : SystemLists → List Bound → ℕ → List ℕ
task_line s x i = names_text s i ++ streams_text s x i ++ bounds_text (task_at s i).best (bound_of x i) ++ codes "\n"

unfoldable pub path_line : SystemLists → List Bound → Path → List ℕ
path_line s x p =
    codes "path " ++ p.name ++ bounds_text (path_best s p) (path_worst x p)
    ++ codes " deadline " ++ deadline_text p.deadline ++ codes " " ++ deadline_verdict_text (deadline_verdict_of p.deadline (path_worst x p)) ++ codes "\n"

unfoldable pub summary_line : ℕ → ℕ → ℕ → List ℕ
summary_line tasks overload missed =
    codes "summary tasks " ++ decimal tasks ++ codes " overload " ++ decimal overload ++ codes " missed " ++ decimal missed ++ codes "\n"

-- a line per task, a line per path, and the counts
unfoldable pub report_text : SystemLists → List Bound → List ℕ
report_text s x =
    flat_map (task_line s x) (task_places s) ++ flat_map (path_line s x) s.paths
    ++ summary_line (length s.tasks) (count_by is_overload x) (count_by (is_missed x) s.paths)
