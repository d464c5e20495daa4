-- What the program answers.
use Rattle.std.specs.Prelude.{◌≡◌, ℕ, ◌+◌, ◌-◌, Bool, true, ◌==◌, not, ◌&&◌, ◌++◌, nat_lt, nat_le, if◌then◌else◌, List, [], ◌∷◌, map, length, take, codes, bytes_eq, string_bytes, slice_index_or, Option, Some, None}
use Rattle.std.specs.Fmt.{decimal}
use Rattle.std.specs.List.{list_any}
use Rattle.cpa_units.specs.declared.places.TaskId.{TaskId}
use Rattle.cpa_units.specs.declared.limits.TheConstants.{MAX_CHAIN}
use Rattle.cpa_io.specs.Causes.{Rose}
use Rattle.cpa_model.specs.SystemLists.{SystemLists, task_named}
use Rattle.cpa_local.specs.Solution.{least_of}
use Rattle.cpa_call.specs.declared.errors.InputError.{InputError}
use Rattle.cpa_call.specs.Answers.{Answer, reply}
use Rattle.cpa_call.specs.Ends.{IsUnreadLine}
use Rattle.cpa_call.specs.Lines.{words_refused}
use Rattle.cpa_call.specs.Plans.{Held, Plan, Do, Refuse, Missing, and_then, system_in}
use Rattle.cpa_effects.specs.declared.steps.Reading.{Reading}
use Rattle.cpa_effects.specs.declared.steps.Reading.TheVariants.{Anywhere, WhileRunning}
use Rattle.cpa_effects.specs.declared.words.Named.{Named}
use Rattle.cpa_effects.specs.declared.words.Request.{Request}
use Rattle.cpa_effects.specs.declared.command.Chained.{Chained}
use Rattle.cpa_effects.specs.ChainText.{chain_text, chain_status}

-- what a call asks for: when jobs read, and the words beside that
pub record Call : Type 0 where
  pub reading : Reading
  pub words : List (List ℕ)

-- as the program has it
abbrev pub call : Request → Call
call r = record { reading = r.reading; words = map string_bytes r.words.now }

-- the word that says that jobs read only while they run
abbrev pub flag : List ℕ
flag = codes "--while-running"

-- it stands last, or isn't there
abbrev pub call_by_last : List (List ℕ) → Call
call_by_last words =
    if bytes_eq (slice_index_or words (length words - 1) []) flag then record { reading = WhileRunning; words = take (length words - 1) words }
    else record { reading = Anywhere; words = words }

-- it stands first, or last, or isn't there; of two one is left among the words, which begins with a hyphen
abbrev pub call_of : List (List ℕ) → Call
call_of [] = record { reading = Anywhere; words = [] }
call_of (word ∷ words) = if bytes_eq word flag then record { reading = WhileRunning; words = words } else call_by_last (word ∷ words)

-- the file that accepted words name, and the tasks
pub record Asked : Type 0 where
  pub file : List ℕ
  pub tasks : List (List ℕ)

-- as the program has them
abbrev pub asked : Named → Asked
asked n = record { file = n.file.now; tasks = map string_bytes n.tasks.now }

-- a word that is empty or begins with a hyphen
abbrev pub is_no_word : List ℕ → Bool
is_no_word [] = true
is_no_word (c ∷ cs) = c == 45

-- as many tasks as a chain may have
abbrev pub is_count : ℕ → Bool
is_count count = nat_lt 0 count && nat_le count MAX_CHAIN

-- so many words, none of which is so
abbrev pub is_chain : List (List ℕ) → Bool
is_chain tasks = is_count (length tasks) && not (list_any is_no_word tasks)

abbrev pub asked_by : List ℕ → List (List ℕ) → Option Asked
asked_by file tasks = if not (is_no_word file) && is_chain tasks then Some (record { file = file; tasks = tasks }) else None

-- the words are a file, and 1 to 32 tasks
abbrev pub accepted : List (List ℕ) → Option Asked
accepted [] = None
accepted (file ∷ tasks) = asked_by file tasks

-- no task has the name that stands in a place among those of tasks, from 1
abbrev pub chain_refused : ℕ → List ℕ
chain_refused place = codes "chain refused " ++ decimal place ++ codes "\n"

-- a chain of tasks of a system
pub record Chain : Type 0 where
  pub system : SystemLists
  pub tasks : List TaskId

-- as the program has it
abbrev pub chain_of : Chained → Chain
chain_of c = record { system = c.system; tasks = c.tasks.items }

abbrev pub refused_at : ℕ → Plan Chain
refused_at place = Refuse 18 (chain_refused place)

-- a task that was found leads on, and none is refused
abbrev pub chain_on : Plan Chain → (TaskId → Plan Chain) → Option TaskId → Plan Chain
chain_on refused next None = refused
chain_on refused next (Some i) = next i

-- the tasks with these names, of which the first stands in a place, after those that were found already
abbrev pub chain_from : SystemLists → ℕ → List TaskId → List (List ℕ) → Plan Chain
chain_from s place found [] = Do (record { system = s; tasks = found })
chain_from s place found (name ∷ names) = chain_on (refused_at place) (λ i. chain_from s (place + 1) (found ++ i ∷ []) names) (task_named s name)

abbrev pub chain_by : SystemLists → List (List ℕ) → Plan Chain
chain_by s names = chain_from s 1 [] names

-- the system file is read first
abbrev pub plan_for : Held → Asked → Plan Chain
plan_for held it = and_then (system_in held it.file) (λ s. chain_by s it.tasks)

abbrev pub plan_by : Held → Option Asked → Plan Chain
plan_by held None = Refuse 10 words_refused
plan_by held (Some it) = plan_for held it

unfoldable pub plan_of : List (List ℕ) → Held → Plan Chain
plan_of words held = plan_by held (accepted words)

-- the chain's bounds at the least solution, or a refusal with its line; where the file isn't held, there is no answer but a fault
abbrev pub answer_to : Reading → Plan Chain → Answer
answer_to reading (Do it) = reply (chain_status reading it.system (least_of it.system) it.tasks) (chain_text reading it.system (least_of it.system) it.tasks)
answer_to reading (Refuse status line) = reply status line
answer_to reading Missing = record { status = None; text = [] }

-- the one answer to a call, over files that hold these bytes
abbrev pub IsOutputOf : Call → Held → Answer → Type 0
IsOutputOf it held answer = answer ≡ answer_to it.reading (plan_of it.words held)

-- the output: the one answer to these words, over files that hold these bytes
abbrev pub IsOutput : List (List ℕ) → Held → Answer → Type 0
IsOutput words held answer = IsOutputOf (call_of words) held answer

-- the file that the words name is the one whose load failed last, and the count of faults rose
pub record IsUnread (words : List (List ℕ)) (before now : ℕ) (last : List ℕ) : Type 0 where
  pub asked : Asked
  pub accepted : accepted words ≡ Some asked
  pub named : last ≡ asked.file
  pub rose : Rose before now

-- why a call ends before its work: where the file couldn't be loaded, its line says its name
abbrev pub IsUnreadCall : List (List ℕ) → ℕ → ℕ → List ℕ → InputError → Type 0
IsUnreadCall words before now last = IsUnreadLine (IsUnread words before now last) last
