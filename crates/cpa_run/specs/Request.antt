-- What comes of the work that a call has to do.
use Rattle.std.specs.Prelude.{◌≡◌, ◌<◌, ◌≤◌, ◌+◌, ℕ, List, length, Option, Some, None}
use Rattle.std.specs.List.{range_with_len}
use Rattle.cpa_units.specs.declared.bound.Bound.{Bound}
use Rattle.cpa_units.specs.Sizes.{most_execution}
use Rattle.cpa_units.specs.declared.places.TaskId.{TaskId}
use Rattle.cpa_model.specs.SystemLists.{SystemLists, task_at}
use Rattle.cpa_local.specs.Solution.{IsLeast, least_of}
use Rattle.cpa_file.specs.Reading.{Accepted, reading_of}
use Rattle.cpa_file.specs.Printed.{IsPrinted}
use Rattle.cpa_edit.specs.Script.{AreNamed}
use Rattle.cpa_report.specs.Report.{verdict}
use Rattle.cpa_sim.specs.Outcome.{CanReplay, outcome_of}
use Rattle.cpa_sim.specs.SimText.{sim_text}
use Rattle.cpa_sound.specs.BoundsHold.{BoundsHold}
use Rattle.cpa_words.specs.Words.{AreWorkers, AreTraces, IsSize}
use Rattle.cpa_gen.specs.MadeSystems.{made_system}
use Rattle.cpa_gen.specs.Seen.{seen_over}
use Rattle.cpa_gen.specs.Texts.{load_text, hammer_text}
use Rattle.cpa_assign.specs.Orders.{IsOrder, IsOrderOf, IsOrderable, with_order}
use Rattle.cpa_assign.specs.OrderText.{assign_text}
use Rattle.cpa_slack.specs.declared.slack.Slack.{Slack}
use Rattle.cpa_slack.specs.declared.slack.Slack.TheVariants.{Missed, Add}
use Rattle.cpa_slack.specs.Slack.{IsSlack, longer}
use Rattle.cpa_slack.specs.SlackText.{slack_text}
use Rattle.cpa_trace.specs.Trace.{TraceLists, Obeys}
use Rattle.cpa_buffer.specs.Laws.{BuffersSuffice}
use Rattle.cpa_buffer.specs.Peaks.{peaks_of}
use Rattle.cpa_buffer.specs.BufferText.{buffer_text}
use Rattle.cpa_audit.specs.declared.finding.Finding.{Finding}
use Rattle.cpa_audit.specs.declared.finding.Finding.TheVariants.{Same, Wrong}
use Rattle.cpa_audit.specs.declared.schedule.Segment.{Segment}
use Rattle.cpa_audit.specs.Segments.{segments}
use Rattle.cpa_audit.specs.Findings.{finding_of}
use Rattle.cpa_audit.specs.AuditText.{audit_text}
use Rattle.cpa_run.specs.declared.request.Request.{Request}
use Rattle.cpa_run.specs.declared.request.Request.TheVariants.{Analyse, Session, Simulate, Generate, Load, Hammer, Assign, Slack as SlackOf, Buffers, Audit}
use Rattle.cpa_call.specs.Answers.{Answer, reply}
use Rattle.cpa_run.specs.Answers.{IsReport}
use Rattle.cpa_run.specs.Session.{IsSession}

-- a file that stands for a system: its document, as it is printed
pub record IsFileOf (s : SystemLists) (answer : Answer) : Type 0 where
  pub status_is : answer.status ≡ Some 0
  pub stands : reading_of answer.text ≡ Accepted s
  pub printed : IsPrinted s answer.text

-- the summary of a generated system, at its least solution
pub record IsSummary (number size : ℕ) (s : SystemLists) (answer : Answer) : Type 0 where
  pub bounds : List Bound
  pub least : IsLeast s bounds
  -- they bound the response times of all jobs and paths, in every run whose trace obeys
  pub hold : BoundsHold s bounds
  pub status_is : answer.status ≡ Some (verdict s bounds)
  pub text_is : answer.text ≡ load_text number size s bounds

-- what is seen of a system under its generated traces 0, 1, 2 and so on, beside its least solution
pub record IsHammered (s : SystemLists) (number traces : ℕ) (answer : Answer) : Type 0 where
  pub bounds : List Bound
  pub least : IsLeast s bounds
  pub hold : BoundsHold s bounds
  -- so no job is seen beyond its bound
  pub none_beyond : (seen_over s bounds number (range_with_len 0 traces)).beyond ≡ 0
  pub status_is : answer.status ≡ Some 0
  pub text_is : answer.text ≡ hammer_text s bounds (seen_over s bounds number (range_with_len 0 traces))

-- an order is found, or no order meets
abbrev pub order_status : Option (List TaskId) → ℕ
order_status (Some order) = 0
order_status None = 3

-- the best order of a resource that meets, or that there is none
pub record IsAssigned (s : SystemLists) (r : ℕ) (answer : Answer) : Type 0 where
  pub order : Option (List TaskId)
  pub is_best : IsOrderOf s r order
  -- under each order of the resource the least solution bounds every run
  pub hold : (o : List ℕ) → IsOrder s r o → BoundsHold (with_order s r o) (least_of (with_order s r o))
  pub status_is : answer.status ≡ Some (order_status order)
  pub text_is : answer.text ≡ assign_text s r order

-- there is room, or a deadline is missed already
abbrev pub slack_status : Slack → ℕ
slack_status (Add ticks limit) = 0
slack_status Missed = 3

-- by how much a task may grow
pub record IsGrowth (s : SystemLists) (i : ℕ) (answer : Answer) : Type 0 where
  pub slack : Slack
  pub is_most : IsSlack s i slack
  -- however much longer the task may take, the least solution bounds every run
  pub hold : (k : ℕ) → (task_at s i).worst + k ≤ most_execution s.size → BoundsHold (longer s i k) (least_of (longer s i k))
  pub status_is : answer.status ≡ Some (slack_status slack)
  pub text_is : answer.text ≡ slack_text s i slack

-- how many jobs can wait, at the least solution, and how many do under a trace
pub record IsBuffered (s : SystemLists) (tr : TraceLists) (answer : Answer) : Type 0 where
  pub bounds : List Bound
  pub least : IsLeast s bounds
  -- in no run whose trace obeys, however long, do more jobs wait
  pub suffice : (obeying : TraceLists) → Obeys s obeying → BuffersSuffice s bounds obeying
  pub status_is : answer.status ≡ Some 0
  pub text_is : answer.text ≡ buffer_text s bounds (peaks_of s tr)

-- a schedule is that of the run, or isn't
abbrev pub finding_status : Finding → ℕ
finding_status Same = 0
finding_status (Wrong segment expected) = 4

-- what there is to say of a schedule
abbrev pub audited : SystemLists → TraceLists → List Segment → Answer
audited s tr schedule = reply (finding_status (finding_of schedule (segments s tr))) (audit_text s (length schedule) (finding_of schedule (segments s tr)))

-- the number of workers is in no answer
abbrev pub IsDone : Request → Answer → Type 0
IsDone (Analyse s workers) answer = IsReport s answer
IsDone (Session s steps workers) answer = IsSession s steps answer
IsDone (Simulate s tr) answer = answer ≡ reply 0 (sim_text s (outcome_of s tr))
IsDone (Generate number size) answer = IsFileOf (made_system number size) answer
IsDone (Load number size workers) answer = IsSummary number size (made_system number size) answer
IsDone (Hammer s number traces) answer = IsHammered s number traces answer
IsDone (Assign s r) answer = IsAssigned s r.0 answer
IsDone (SlackOf s i workers) answer = IsGrowth s i.0 answer
IsDone (Buffers s tr workers) answer = IsBuffered s tr answer
IsDone (Audit s tr schedule) answer = answer ≡ audited s tr schedule

-- its numbers are within the limits, and its names are names
abbrev pub IsWithinLimits : Request → Type 0
IsWithinLimits (Analyse s workers) = AreWorkers workers
IsWithinLimits (Session s steps workers) = AreNamed steps × AreWorkers workers
IsWithinLimits (Simulate s tr) = CanReplay s tr
IsWithinLimits (Generate number size) = IsSize size
IsWithinLimits (Load number size workers) = IsSize size × AreWorkers workers
IsWithinLimits (Hammer s number traces) = AreTraces traces
IsWithinLimits (Assign s r) = IsOrderable s r.0
IsWithinLimits (SlackOf s i workers) = (i.0 < length s.tasks) × AreWorkers workers
IsWithinLimits (Buffers s tr workers) = CanReplay s tr × AreWorkers workers
IsWithinLimits (Audit s tr schedule) = CanReplay s tr

-- by how many workers it is done: by one where it doesn't say
abbrev pub workers_of : Request → ℕ
workers_of (Analyse s workers) = workers
workers_of (Session s steps workers) = workers
workers_of (Load number size workers) = workers
workers_of (SlackOf s i workers) = workers
workers_of (Buffers s tr workers) = workers
workers_of _ = 1
