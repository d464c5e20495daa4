-- The words that the program accepts.
use Rattle.std.specs.Prelude.{◌≤◌, true, false, ℕ, codes, Bool, not, ◌&&◌, ◌==◌, if◌then◌else◌, List, [], ◌∷◌, length, take, drop, slice_index_or, Option, Some, None, option_map, option_and_then, IfSome}
use Rattle.std.specs.List.{list_all}
use Rattle.std.specs.Option.{option_map_or}
use Rattle.std.specs.Str.{bytes_eq}
use Rattle.cpa_units.specs.declared.limits.TheConstants.{MAX_WORKERS, MAX_NUMBER, MAX_SIZE, MAX_TRACES}
use Rattle.cpa_words.specs.declared.verb.Verb.{Verb}
use Rattle.cpa_words.specs.declared.verb.Verb.TheVariants as verb
use Rattle.cpa_words.specs.Numbers.{number_within}

-- what accepted words ask for; files, resources and tasks are told by their words
pub data Asked : Type 0 where
  -- the report of the system in a file, by so many workers
  Analyse : List ℕ → ℕ → Asked
  -- the reports of a system under the script in a second file, by so many workers
  Session : List ℕ → List ℕ → ℕ → Asked
  -- what is observed of a system under the trace in a second file
  Simulate : List ℕ → List ℕ → Asked
  -- the generated system of a number and a size
  Generate : ℕ → ℕ → Asked
  -- the summary of its analysis, by so many workers
  Load : ℕ → ℕ → ℕ → Asked
  -- what is observed of the system in a file under the generated traces of a number
  Hammer : List ℕ → ℕ → ℕ → Asked
  -- a priority order of the resource with a name, of the system in a file
  Assign : List ℕ → List ℕ → Asked
  -- by how much the task with a name may grow, of the system in a file, by so many workers
  Slack : List ℕ → List ℕ → ℕ → Asked
  -- how many jobs wait of a system under the trace in a second file, and how many can, by so many workers
  Buffers : List ℕ → List ℕ → ℕ → Asked
  -- whether the schedule in a third file is that of a system under the trace in a second
  Audit : List ℕ → List ℕ → List ℕ → Asked

-- so many workers, numbers, sizes and traces as there may be
abbrev pub AreWorkers : ℕ → Type 0
AreWorkers n = (1 ≤ n) × (n ≤ MAX_WORKERS)

abbrev pub AreTraces : ℕ → Type 0
AreTraces n = (1 ≤ n) × (n ≤ MAX_TRACES)

abbrev pub IsNumber : ℕ → Type 0
IsNumber n = n ≤ MAX_NUMBER

abbrev pub IsSize : ℕ → Type 0
IsSize n = n ≤ MAX_SIZE

-- each number of what is asked for is within its limits
abbrev pub IsWithin : Asked → Type 0
IsWithin (Analyse file workers) = AreWorkers workers
IsWithin (Session file script workers) = AreWorkers workers
IsWithin (Simulate file trace) = Unit {0}
IsWithin (Generate number size) = IsNumber number × IsSize size
IsWithin (Load number size workers) = IsNumber number × IsSize size × AreWorkers workers
IsWithin (Hammer file number traces) = IsNumber number × AreTraces traces
IsWithin (Assign file resource) = Unit {0}
IsWithin (Slack file task workers) = AreWorkers workers
IsWithin (Buffers file trace workers) = AreWorkers workers
IsWithin (Audit file trace schedule) = Unit {0}

-- the command of a name
abbrev pub verb_of : List ℕ → Option Verb
verb_of word = if bytes_eq word (codes "analyse") then Some verb.Analyse
    else (if bytes_eq word (codes "session") then Some verb.Session
    else (if bytes_eq word (codes "simulate") then Some verb.Simulate
    else (if bytes_eq word (codes "generate") then Some verb.Generate
    else (if bytes_eq word (codes "load") then Some verb.Load
    else (if bytes_eq word (codes "hammer") then Some verb.Hammer
    else (if bytes_eq word (codes "assign") then Some verb.Assign
    else (if bytes_eq word (codes "slack") then Some verb.Slack
    else (if bytes_eq word (codes "buffers") then Some verb.Buffers
    else (if bytes_eq word (codes "audit") then Some verb.Audit else None)))))))))

-- how many operands it has
abbrev pub operands_of : Verb → ℕ
operands_of verb.Analyse = 1
operands_of verb.Hammer = 3
operands_of verb.Audit = 3
operands_of _ = 2

-- whether it takes the number of workers
abbrev pub takes_workers : Verb → Bool
takes_workers verb.Analyse = true
takes_workers verb.Session = true
takes_workers verb.Load = true
takes_workers verb.Slack = true
takes_workers verb.Buffers = true
takes_workers _ = false

-- a word that isn't empty and doesn't begin with a dash
abbrev pub is_operand : List ℕ → Bool
is_operand [] = false
is_operand (first ∷ rest) = not (first == 45)

-- the value of the option `--workers=VALUE`
abbrev pub joined_value : List ℕ → Option (List ℕ)
joined_value word = if bytes_eq (take 10 word) (codes "--workers=") then Some (drop 10 word) else None

-- the words after a command, by what they are
pub record Sorted : Type 0 where
  -- all words but those of the option, in their order
  pub operands : List (List ℕ)
  -- the value of the option
  pub workers : Option (List ℕ)

abbrev pub with_operand : List ℕ → Sorted → Sorted
with_operand word s = record s { operands = word ∷ s.operands }

abbrev pub with_value : List (List ℕ) → List ℕ → Sorted
with_value others value = record { operands = others; workers = Some value }

-- `--workers VALUE`; where nothing follows, it is a word like others
abbrev pub with_next : List (List ℕ) → Sorted
with_next [] = record { operands = codes "--workers" ∷ []; workers = None }
with_next (value ∷ others) = with_value others value

-- the words with the first use of the option taken out
abbrev pub sorted : List (List ℕ) → Sorted
sorted [] = record { operands = []; workers = None }
sorted (word ∷ rest) = if bytes_eq word (codes "--workers") then with_next rest
    else option_map_or (with_value rest) (joined_value word) (with_operand word (sorted rest))

-- the words of a command: those that take no option have operands alone
abbrev pub words_of : Verb → List (List ℕ) → Sorted
words_of verb words = if takes_workers verb then sorted words else record { operands = words; workers = None }

-- as many operands, and an option that has a value
abbrev pub is_regular : ℕ → Sorted → Bool
is_regular n s = length s.operands == n && (list_all is_operand s.operands && option_map_or is_operand s.workers true)

abbrev pub operand : Sorted → ℕ → List ℕ
operand s k = slice_index_or s.operands k []

-- the number of workers, 1 where it isn't given
abbrev pub workers_of : Option (List ℕ) → Option ℕ
workers_of None = Some 1
workers_of (Some value) = number_within 1 MAX_WORKERS value

abbrev pub with_numbers : (ℕ → ℕ → Asked) → Option ℕ → Option ℕ → Option Asked
with_numbers ask (Some n) (Some m) = Some (ask n m)
with_numbers ask _ _ = None

abbrev pub loaded : Option ℕ → Option ℕ → Option ℕ → Option Asked
loaded (Some number) (Some size) (Some workers) = Some (Load number size workers)
loaded _ _ _ = None

-- what regular words after a command ask for
abbrev pub asked_for : Verb → Sorted → Option Asked
asked_for verb.Analyse s = option_map (Analyse (operand s 0)) (workers_of s.workers)
asked_for verb.Session s = option_map (Session (operand s 0) (operand s 1)) (workers_of s.workers)
asked_for verb.Simulate s = Some (Simulate (operand s 0) (operand s 1))
asked_for verb.Generate s = with_numbers Generate (number_within 0 MAX_NUMBER (operand s 0)) (number_within 0 MAX_SIZE (operand s 1))
asked_for verb.Load s = loaded (number_within 0 MAX_NUMBER (operand s 0)) (number_within 0 MAX_SIZE (operand s 1)) (workers_of s.workers)
asked_for verb.Hammer s = with_numbers (Hammer (operand s 0)) (number_within 0 MAX_NUMBER (operand s 1)) (number_within 1 MAX_TRACES (operand s 2))
asked_for verb.Assign s = Some (Assign (operand s 0) (operand s 1))
asked_for verb.Slack s = option_map (Slack (operand s 0) (operand s 1)) (workers_of s.workers)
asked_for verb.Buffers s = option_map (Buffers (operand s 0) (operand s 1)) (workers_of s.workers)
asked_for verb.Audit s = Some (Audit (operand s 0) (operand s 1) (operand s 2))

-- what the words after a command ask for
abbrev pub asked_by : List (List ℕ) → Verb → Option Asked
asked_by words verb = if is_regular (operands_of verb) (words_of verb words) then asked_for verb (words_of verb words) else None

-- what the words ask for, where they are accepted
abbrev pub accepted : List (List ℕ) → Option Asked
accepted [] = None
accepted (command ∷ words) = option_and_then (asked_by words) (verb_of command)

-- accepted words ask for nothing out of range
abbrev pub AcceptedAreWithin : Type 0
AcceptedAreWithin = (words : List (List ℕ)) → IfSome (accepted words) IsWithin
