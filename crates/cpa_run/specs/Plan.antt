-- What a call has to do, by its words and the files that they name, or why it is refused: the order of refusals.
use Rattle.std.specs.Prelude.{ℕ, not, if◌then◌else◌, List, Option, Some, None, Result, Ok, Err}
use Rattle.cpa_units.specs.declared.limits.TheConstants.{MAX_SCRIPT_FILE, MAX_TRACE_FILE}
use Rattle.cpa_units.specs.declared.places.ResId.{ResId}
use Rattle.cpa_units.specs.declared.places.TaskId.{TaskId}
use Rattle.cpa_model.specs.SystemLists.{SystemLists, resource_at, resource_named, task_named}
use Rattle.cpa_edit.specs.declared.script.Step.{Step}
use Rattle.cpa_edit.specs.Script.{Read, script_of}
use Rattle.cpa_words.specs.Words.{Asked, accepted, Analyse, Session, Simulate, Generate, Load, Hammer, Assign, Slack, Buffers, Audit}
use Rattle.cpa_model.specs.Kinds.{has_priorities}
use Rattle.cpa_assign.specs.Orders.{is_fed_by_sources, can_compare}
use Rattle.cpa_audit.specs.declared.fault.ScheduleFault.{ScheduleFault}
use Rattle.cpa_audit.specs.declared.schedule.Segment.{Segment}
use Rattle.cpa_audit.specs.ScheduleReading.{schedule_of}
use Rattle.cpa_call.specs.Lines.{words_refused}
use Rattle.cpa_call.specs.Plans.{Held, Plan, Do, Refuse, and_then, content_in, system_in, traced_in}
use Rattle.cpa_run.specs.Lines.{script_refused, assign_refused, slack_refused, schedule_refused}
use Rattle.cpa_run.specs.declared.request.Request.{Request}
use Rattle.cpa_run.specs.declared.request.Request.TheVariants as work

-- the script that a file is
abbrev pub script_by : Read → Plan (List (ℕ × Step))
script_by (Ok steps) = Do steps
script_by (Err fault) = Refuse 15 (script_refused fault)

abbrev pub script_in : Held → List ℕ → Plan (List (ℕ × Step))
script_in held file = and_then (content_in held file MAX_SCRIPT_FILE) (λ bytes. script_by (script_of bytes))

-- the schedule that a file is, which is no longer than a trace's
abbrev pub schedule_by : Result (List Segment) ScheduleFault → Plan (List Segment)
schedule_by (Ok schedule) = Do schedule
schedule_by (Err fault) = Refuse 19 (schedule_refused fault)

abbrev pub schedule_in : Held → SystemLists → List ℕ → Plan (List Segment)
schedule_in held s file = and_then (content_in held file MAX_TRACE_FILE) (λ bytes. schedule_by (schedule_of s bytes))

-- a resource that can be given an order
abbrev pub orderable_by : SystemLists → Option ResId → Plan ResId
orderable_by s None = Refuse 18 (assign_refused 1)
orderable_by s (Some r) =
    if not (has_priorities (resource_at s r.0).kind) then Refuse 18 (assign_refused 2)
    else (if not (is_fed_by_sources s r.0) then Refuse 18 (assign_refused 3) else (if not (can_compare s r.0) then Refuse 18 (assign_refused 4) else Do r))

abbrev pub orderable_in : SystemLists → List ℕ → Plan ResId
orderable_in s name = orderable_by s (resource_named s name)

-- a task that is there
abbrev pub task_by : Option TaskId → Plan TaskId
task_by None = Refuse 18 slack_refused
task_by (Some i) = Do i

abbrev pub task_in : SystemLists → List ℕ → Plan TaskId
task_in s name = task_by (task_named s name)

-- what accepted words ask for: the system file is read first, and a generated system needs none
abbrev pub plan_for : Held → Asked → Plan Request
plan_for held (Analyse file workers) = and_then (system_in held file) (λ s. Do (work.Analyse s workers))
plan_for held (Session file script workers) = and_then (system_in held file) (λ s. and_then (script_in held script) (λ steps. Do (work.Session s steps workers)))
plan_for held (Simulate file trace) = and_then (traced_in held file trace) (λ t. Do (work.Simulate t.system t.trace))
plan_for held (Generate number size) = Do (work.Generate number size)
plan_for held (Load number size workers) = Do (work.Load number size workers)
plan_for held (Hammer file number traces) = and_then (system_in held file) (λ s. Do (work.Hammer s number traces))
plan_for held (Assign file resource) = and_then (system_in held file) (λ s. and_then (orderable_in s resource) (λ r. Do (work.Assign s r)))
plan_for held (Slack file task workers) = and_then (system_in held file) (λ s. and_then (task_in s task) (λ i. Do (work.Slack s i workers)))
plan_for held (Buffers file trace workers) = and_then (traced_in held file trace) (λ t. Do (work.Buffers t.system t.trace workers))
plan_for held (Audit file trace schedule) = and_then (traced_in held file trace) (λ t. and_then (schedule_in held t.system schedule) (λ segments. Do (work.Audit t.system t.trace segments)))

abbrev pub plan_by : Held → Option Asked → Plan Request
plan_by held None = Refuse 10 words_refused
plan_by held (Some asked) = plan_for held asked

unfoldable pub plan_of : List (List ℕ) → Held → Plan Request
plan_of words held = plan_by held (accepted words)
