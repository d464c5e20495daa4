-- The text of the bounds of a chain, and its status.
use Rattle.std.specs.Prelude.{ℕ, zero, suc, ◌++◌, ◌||◌, if◌then◌else◌, List, length, codes}
use Rattle.std.specs.Fmt.{decimal}
use Rattle.std.specs.List.{flat_map, range_with_len}
use Rattle.cpa_units.specs.declared.bound.Bound.{Bound}
use Rattle.cpa_units.specs.declared.places.TaskId.{TaskId}
use Rattle.cpa_units.specs.Bounds.{bound_of}
use Rattle.cpa_model.specs.SystemLists.{SystemLists, task_at}
use Rattle.cpa_local.specs.Paths.{is_overload}
use Rattle.cpa_report.specs.Report.{bound_text}
use Rattle.cpa_effects.specs.declared.steps.Step.{Step}
use Rattle.cpa_effects.specs.declared.steps.Step.TheVariants.{Register, Merge, Activation}
use Rattle.cpa_effects.specs.declared.steps.Reading.{Reading}
use Rattle.cpa_effects.specs.declared.steps.Reading.TheVariants.{Anywhere, WhileRunning}
use Rattle.cpa_effects.specs.declared.steps.Passage.{Passage}
use Rattle.cpa_effects.specs.declared.steps.Passage.TheVariants.{By, FromAbove, OfOneSource}
use Rattle.cpa_effects.specs.Bounds.{passage_in, wait_of, task_in, reaction_by, age_by, held_by}

abbrev pub step_word : Step → List ℕ
step_word Register = codes " register"
step_word Merge = codes " merge"
step_word Activation = codes " activation"

abbrev pub passage_word : Passage → List ℕ
passage_word (By step) = step_word step
passage_word FromAbove = codes " above"
passage_word OfOneSource = codes " same-source"

-- how data comes to the task in a place
abbrev pub place_word : Reading → SystemLists → List TaskId → ℕ → List ℕ
place_word reading s tasks zero = codes " first"
place_word reading s tasks (suc k) = passage_word (passage_in reading s tasks k)

-- what is presumed of when jobs read
abbrev pub reading_word : Reading → List ℕ
reading_word Anywhere = codes "chain "
reading_word WhileRunning = codes "chain while-running "

-- a bound after its label
unfoldable pub labelled : List ℕ → Bound → List ℕ
labelled label bound = label ++ bound_text bound

unfoldable pub times_text : Bound → Bound → List ℕ
times_text wait response = labelled (codes " wait ") wait ++ labelled (codes " response ") response ++ codes "\n"

unfoldable pub step_line : Reading → SystemLists → List Bound → List TaskId → ℕ → List ℕ
step_line reading s x tasks k =
    codes "step " ++ (task_at s (task_in tasks k).0).name ++ place_word reading s tasks k
    ++ times_text (wait_of s x (task_in tasks k).0) (bound_of x (task_in tasks k).0)

-- what the bounds presume: after each event of a source that the chain waits for the next one comes within the period and the jitter
abbrev pub premise : List ℕ
premise = codes " if sources stay near\n"

unfoldable pub total_line : Reading → ℕ → Bound → Bound → Bound → List ℕ
total_line reading count reaction age held =
    reading_word reading ++ codes "tasks " ++ decimal count
    ++ labelled (codes " reaction ") reaction ++ labelled (codes " age ") age ++ labelled (codes " held ") held ++ premise

-- a line for each task of the chain, and the bounds
unfoldable pub chain_text : Reading → SystemLists → List Bound → List TaskId → List ℕ
chain_text reading s x tasks =
    flat_map (step_line reading s x tasks) (range_with_len 0 (length tasks))
    ++ total_line reading (length tasks) (reaction_by reading s x tasks) (age_by reading s x tasks) (held_by reading s x tasks)

-- 2 where a bound is missing, else 0; what is held is bounded where the reaction is
unfoldable pub chain_status : Reading → SystemLists → List Bound → List TaskId → ℕ
chain_status reading s x tasks = if is_overload (reaction_by reading s x tasks) || is_overload (age_by reading s x tasks) then 2 else 0
