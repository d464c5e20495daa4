-- What the program answers, and what it has sent when it ends.
use Rattle.std.specs.Prelude.{◌≡◌, ◌⊎◌, ℕ, Bool, true, List, [], Option, Some, None}
use Rattle.cpa_io.specs.Causes.{Rose}
use Rattle.cpa_file.specs.Reading.{reading_of}
use Rattle.cpa_words.specs.Words.{Asked, accepted, Analyse, Session, Simulate, Generate, Load, Hammer, Assign, Slack, Buffers, Audit}
use Rattle.cpa_call.specs.declared.errors.InputError.{InputError}
use Rattle.cpa_call.specs.declared.loading.Traced.{Traced}
use Rattle.cpa_call.specs.Answers.{Answer, reply, SendsPart}
use Rattle.cpa_call.specs.Ends.{IsUnreadLine}
use Rattle.cpa_call.specs.Plans.{Held, Plan, Do, Refuse, Missing, traced_in, IsSecond}
use Rattle.cpa_run.specs.declared.request.Request.{Request}
use Rattle.cpa_run.specs.declared.request.Request.TheVariants as work
use Rattle.cpa_run.specs.Plan.{plan_of}
use Rattle.cpa_run.specs.Request.{IsDone}

-- a refusal is its status and its line; where a file in turn isn't held, there is no answer but a fault
abbrev pub IsAnswerTo : Plan Request → Answer → Type 0
IsAnswerTo (Do it) answer = IsDone it answer
IsAnswerTo (Refuse status line) answer = answer ≡ reply status line
IsAnswerTo Missing answer = answer ≡ record { status = None; text = [] }

-- the output: the answer to these words, over files that hold these bytes
abbrev pub IsOutput : List (List ℕ) → Held → Answer → Type 0
IsOutput words held answer = IsAnswerTo (plan_of words held) answer

-- what may have been sent when a call ends before its whole answer: a prefix of an answer's text; of a generated system's file, of which no
-- definition lays one out, nothing or such a prefix
abbrev pub SendsSome : Plan Request → Option (List ℕ) → Option (List ℕ) → Type 0
SendsSome (Do (work.Generate number size)) before now = (now ≡ before) ⊎ SendsPart (IsDone (work.Generate number size)) before now
SendsSome plan before now = SendsPart (IsAnswerTo plan) before now

-- two answers to one call: of two files of a generated system it is said that both stand for it, and all else is the same
abbrev pub AreAlike : Plan Request → Answer → Answer → Type 0
AreAlike (Do (work.Generate number size)) a b = (a.status ≡ b.status) × (reading_of a.text ≡ reading_of b.text)
AreAlike plan a b = a ≡ b

-- of a generated system's file it isn't said that there is one
abbrev pub HasAnswer : Plan Request → Type 0
HasAnswer (Do (work.Generate number size)) = Unit {0}
HasAnswer plan = (answer : Answer) × IsAnswerTo plan answer

-- each call has an output, and it has one only
abbrev pub OutputsExist : Type 0
OutputsExist = (words : List (List ℕ)) (held : Held) → HasAnswer (plan_of words held)

abbrev pub OutputsAreOne : Type 0
OutputsAreOne = (words : List (List ℕ)) (held : Held) (a b : Answer) → IsOutput words held a → IsOutput words held b → AreAlike (plan_of words held) a b

-- two files are accepted, one after the other
abbrev pub AreAccepted : Held → List ℕ → List ℕ → Type 0
AreAccepted held file trace = (t : Traced) × (traced_in held file trace ≡ Do t)

-- a third file is loaded once the trace obeys
abbrev pub IsThird : Bool → Held → List ℕ → List ℕ → List ℕ → List ℕ → Type 0
IsThird told held file trace third last = IsSecond told held file trace last ⊎ ((last ≡ third) × (told ≡ true → AreAccepted held file trace))

-- the file whose load may have been the last that failed
abbrev pub IsNamed : Bool → Held → Asked → List ℕ → Type 0
IsNamed told held (Analyse file workers) last = last ≡ file
IsNamed told held (Session file script workers) last = IsSecond told held file script last
IsNamed told held (Simulate file trace) last = IsSecond told held file trace last
IsNamed told held (Generate number size) last = ⊥
IsNamed told held (Load number size workers) last = ⊥
IsNamed told held (Hammer file number traces) last = last ≡ file
IsNamed told held (Assign file resource) last = last ≡ file
IsNamed told held (Slack file task workers) last = last ≡ file
IsNamed told held (Buffers file trace workers) last = IsSecond told held file trace last
IsNamed told held (Audit file trace schedule) last = IsThird told held file trace schedule last

-- a file that the words name is the one whose load failed last, and the count of faults rose
pub record IsUnread (words : List (List ℕ)) (told : Bool) (held : Held) (before now : ℕ) (last : List ℕ) : Type 0 where
  pub asked : Asked
  pub accepted : accepted words ≡ Some asked
  pub named : IsNamed told held asked last
  pub rose : Rose before now

-- why a call ends before its work: where a file couldn't be loaded, its line says its name
abbrev pub IsUnreadCall : List (List ℕ) → Bool → Held → ℕ → ℕ → List ℕ → InputError → Type 0
IsUnreadCall words told held before now last = IsUnreadLine (IsUnread words told held before now last) last
