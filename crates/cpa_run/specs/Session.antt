-- What a session writes: it knows the edits alone, and nothing of what is kept from one analysis to the next.
use Rattle.std.specs.Prelude.{◌≡◌, ℕ, List, [], ◌∷◌, ◌++◌, Result, Ok, Err}
use Rattle.cpa_model.specs.SystemLists.{SystemLists}
use Rattle.cpa_edit.specs.declared.edit.Edit.{Edit}
use Rattle.cpa_edit.specs.declared.edit.EditRefusal.{EditRefusal}
use Rattle.cpa_edit.specs.declared.script.Step.{Step}
use Rattle.cpa_edit.specs.declared.script.Step.TheVariants.{Report, Change}
use Rattle.cpa_edit.specs.Edited.{edited, edited_by, or_unchanged}
use Rattle.cpa_call.specs.Answers.{Answer}
use Rattle.cpa_run.specs.Answers.{IsReport}
use Rattle.cpa_run.specs.Lines.{edit_refused}

-- the system after a step: one report or refused edit leaves it as it was
abbrev pub system_after : SystemLists → Step → SystemLists
system_after s Report = s
system_after s (Change e) = or_unchanged s (edited s e)

-- the text of an edit: nothing, or the line that it is refused by
abbrev pub edit_text : ℕ → Result SystemLists EditRefusal → List ℕ
edit_text line (Ok changed) = []
edit_text line (Err number) = edit_refused line number

-- the text of a step of a line
abbrev pub IsStepText : SystemLists → ℕ → Step → List ℕ → Type 0
IsStepText s line Report text = (answer : Answer) × IsReport s answer × (text ≡ answer.text)
IsStepText s line (Change e) text = text ≡ edit_text line (edited s e)

-- an answer with a text before it
abbrev pub led_by : List ℕ → Answer → Answer
led_by text later = record { status = later.status; text = text ++ later.text }

pub record IsLed (first : List ℕ → Type 0) (rest : Answer → Type 0) (answer : Answer) : Type 0 where
  pub text : List ℕ
  pub later : Answer
  pub is_text : first text
  pub is_later : rest later
  pub answer_is : answer ≡ led_by text later

-- the text of each step in turn, and the report of the system that comes of them all, whose verdict is the status
abbrev pub IsSession : SystemLists → List (ℕ × Step) → Answer → Type 0
IsSession s [] answer = IsReport s answer
IsSession s (step ∷ rest) answer = IsLed (IsStepText s step.0 step.1) (IsSession (system_after s step.1) rest) answer

-- the edits of a script, in their order
abbrev pub with_edit : Step → List Edit → List Edit
with_edit Report rest = rest
with_edit (Change e) rest = e ∷ rest

abbrev pub edits_of : List (ℕ × Step) → List Edit
edits_of [] = []
edits_of (step ∷ rest) = with_edit step.1 (edits_of rest)

-- the law: whatever it has written before, a session ends with the report of the system after all edits of its script, whose verdict
-- is its status
abbrev pub SessionsEndEdited : Type 0
SessionsEndEdited = (s : SystemLists) (steps : List (ℕ × Step)) (answer : Answer) → IsSession s steps answer → IsLed (λ before. Unit {0}) (IsReport (edited_by s (edits_of steps))) answer
