-- What the program answers.
use Rattle.std.specs.Prelude.{◌≡◌, ℕ, List, [], Option, Some, None}
use Rattle.cpa_audit.specs.Segments.{segments}
use Rattle.cpa_call.specs.declared.loading.Traced.{Traced}
use Rattle.cpa_call.specs.Answers.{Answer, reply}
use Rattle.cpa_call.specs.Lines.{words_refused}
use Rattle.cpa_call.specs.Plans.{Held, Plan, Do, Refuse, Missing, traced_in}
use Rattle.cpa_call.specs.TwoFiles.{Asked, accepted}
use Rattle.cpa_segments.specs.Rows.{schedule_text}

-- the system file is read first
abbrev pub plan_by : Held → Option Asked → Plan Traced
plan_by held None = Refuse 10 words_refused
plan_by held (Some it) = traced_in held it.file it.second

unfoldable pub plan_of : List (List ℕ) → Held → Plan Traced
plan_of words held = plan_by held (accepted words)

-- the schedule of the run, or a refusal with its line; where a file in turn isn't held, there is no answer but a fault
abbrev pub answer_to : Plan Traced → Answer
answer_to (Do it) = reply 0 (schedule_text it.system (segments it.system it.trace))
answer_to (Refuse status line) = reply status line
answer_to Missing = record { status = None; text = [] }

-- the output: the one answer to these words, over files that hold these bytes
abbrev pub IsOutput : List (List ℕ) → Held → Answer → Type 0
IsOutput words held answer = answer ≡ answer_to (plan_of words held)
