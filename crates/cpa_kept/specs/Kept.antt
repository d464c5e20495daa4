-- What a handle keeps, and what its calls answer.
use Rattle.std.specs.Prelude.{◌≡◌, ℕ, codes, List, [], ◌∷◌, Option, Some, None, Result, Ok, Err}
use Rattle.cpa_model.specs.SystemLists.{SystemLists}
use Rattle.cpa_edit.specs.declared.edit.Edit.{Edit}
use Rattle.cpa_edit.specs.declared.edit.EditRefusal.{EditRefusal}
use Rattle.cpa_edit.specs.declared.script.Step.{Step}
use Rattle.cpa_edit.specs.declared.script.Step.TheVariants.{Report, Change}
use Rattle.cpa_edit.specs.Edited.{edited}
use Rattle.cpa_edit.specs.Script.{Read}
use Rattle.cpa_call.specs.Answers.{Answer, reply}
use Rattle.cpa_call.specs.Plans.{Plan, Do, Refuse, Missing}
use Rattle.cpa_run.specs.Lines.{script_refused, edit_refused}
use Rattle.cpa_kept.specs.declared.handle.Handle.{Handle}

-- the system that a handle keeps, where it is open
abbrev pub kept_in : Handle → Option SystemLists
kept_in h = h.sealed.kept

-- an opened handle keeps the system, and no text is given; where the system is refused the handle is closed, and the answer is the refusal
abbrev pub IsOpened : Plan SystemLists → Option SystemLists → Answer → Type 0
IsOpened (Do s) kept answer = (kept ≡ Some s) × (answer ≡ reply 0 [])
IsOpened (Refuse status line) kept answer = (kept ≡ None) × (answer ≡ reply status line)
IsOpened Missing kept answer = ⊥

-- the line of a script that isn't one edit
abbrev pub no_edit : List ℕ
no_edit = codes "script refused no edit\n"

-- the one edit of a script, with its line
abbrev pub edit_of : ℕ → Step → Plan (ℕ × Edit)
edit_of line Report = Refuse 15 no_edit
edit_of line (Change e) = Do (line, e)

abbrev pub one_edit : List (ℕ × Step) → Plan (ℕ × Edit)
one_edit [] = Refuse 15 no_edit
one_edit (step ∷ []) = edit_of step.0 step.1
one_edit (step ∷ next ∷ rest) = Refuse 15 no_edit

abbrev pub edit_in : Read → Plan (ℕ × Edit)
edit_in (Ok steps) = one_edit steps
edit_in (Err fault) = Refuse 15 (script_refused fault)

-- what comes of an edit: the edited system is kept, and no text is given, or the system stays, and the answer is the line of the rule
abbrev pub IsMade : SystemLists → ℕ → Result SystemLists EditRefusal → Option SystemLists → Answer → Type 0
IsMade s line (Ok changed) kept answer = (kept ≡ Some changed) × (answer ≡ reply 0 [])
IsMade s line (Err number) kept answer = (kept ≡ Some s) × (answer ≡ reply 21 (edit_refused line number))

-- what comes of a text that is to be one edit
abbrev pub IsEdited : SystemLists → Plan (ℕ × Edit) → Option SystemLists → Answer → Type 0
IsEdited s (Do it) kept answer = IsMade s it.0 (edited s it.1) kept answer
IsEdited s (Refuse status line) kept answer = (kept ≡ Some s) × (answer ≡ reply status line)
IsEdited s Missing kept answer = ⊥
