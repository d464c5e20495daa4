-- What a call owes, whatever its command: its status, and what it sent.
use Rattle.std.specs.Prelude.{◌≡◌, ◌≢◌, ◌≤◌, ◌⊎◌, ℕ, Bool, true, List, Option, Result, Ok, Err, IfOk, OnOk, OnErr}
use Rattle.cpa_units.specs.declared.places.NoMemory.{NoMemory}
use Rattle.cpa_io.specs.Causes.{grown, Rose, SentPart}
use Rattle.cpa_call.specs.declared.errors.InputError.{InputError}
use Rattle.cpa_call.specs.declared.errors.InputError.TheVariants.{Refused, Unread, Memory}
use Rattle.cpa_call.specs.declared.errors.OutputError.{OutputError}
use Rattle.cpa_call.specs.declared.errors.OutputError.TheVariants as stopped
use Rattle.cpa_call.specs.declared.errors.Reply.{Reply}
use Rattle.cpa_call.specs.Answers.{Answer, reply, IsOfOutput, Sends, SendsPart}
use Rattle.cpa_call.specs.Lines.{cannot_read}

-- what is seen of the files of a call: whether they say what they hold, how often a load had failed before it and after it, and the name whose
-- load failed last
pub record Loaded : Type 0 where
  pub told : Bool
  pub before : ℕ
  pub now : ℕ
  pub last : List ℕ

abbrev pub loaded : Bool → ℕ → ℕ → List ℕ → Loaded
loaded told before now last = record { told = told; before = before; now = now; last = last }

-- what is seen of its sink: the bytes sent before it and after it, and how often a send had failed
pub record Sent : Type 0 where
  pub before : Option (List ℕ)
  pub now : Option (List ℕ)
  pub faults_before : ℕ
  pub faults_now : ℕ

abbrev pub sent : Option (List ℕ) → Option (List ℕ) → ℕ → ℕ → Sent
sent before now faults_before faults_now = record { before = before; now = now; faults_before = faults_before; faults_now = faults_now }

-- IsOutput: an answer is right; IsPart: what is sent where not all is; IsUnread: a file that the words name couldn't be loaded
pub record MeetsCall (IsOutput : Answer → Type 0) (IsPart : Option (List ℕ) → Option (List ℕ) → Type 0) (IsUnread : Type 0) (files : Loaded) (sink : Sent) (status : ℕ) : Type 0 where
  -- over files that say what they hold, status and bytes sent are those of the output
  pub answered : files.told ≡ true → IsOfOutput status → Sends IsOutput status sink.before sink.now
  -- they are so, or memory ran out, wherever neither count of faults rose
  pub complete : files.told ≡ true → ¬ (Rose files.before files.now) → ¬ (Rose sink.faults_before sink.faults_now) → status ≢ 30 → Sends IsOutput status sink.before sink.now
  -- a named file couldn't be loaded, and its line was sent
  pub unread : status ≡ 11 → IsUnread
  pub unread_line : status ≡ 11 → sink.now ≡ grown sink.before (cannot_read files.last)
  -- the sink failed
  pub unsent : status ≡ 20 → Rose sink.faults_before sink.faults_now
  -- at a fault of the sink, and where memory runs out, a prefix of the output was sent, or of the line of a file that couldn't be loaded
  pub part : files.told ≡ true → (status ≡ 20) ⊎ (status ≡ 30) → IsPart sink.before sink.now ⊎ (IsUnread × SentPart sink.before sink.now (cannot_read files.last))

-- ---- the steps of a call

-- a text was sent, which goes with a status; or a part of it, at a fault of the sink or where memory ran out
pub record SendsText (status : ℕ) (text : List ℕ) (sink : Sent) (result : Result ℕ OutputError) : Type 0 where
  pub sent : OnOk result (sink.now ≡ grown sink.before text)
  pub told : IfOk result (λ told. told ≡ status)
  pub part : OnErr result (SentPart sink.before sink.now text)
  pub rises : sink.faults_before ≤ sink.faults_now
  pub failed : result ≡ Err stopped.Sink → Rose sink.faults_before sink.faults_now

-- memory ran out before anything was sent
abbrev pub SendsNothing : Sent → Result ℕ OutputError → Type 0
SendsNothing sink result = (result ≡ Err stopped.Memory) × (sink.now ≡ sink.before)

-- a reply was sent, where there is one
abbrev pub SendsReply : Result Reply NoMemory → Sent → Result ℕ OutputError → Type 0
SendsReply (Ok r) sink result = SendsText r.status r.text.items sink result
SendsReply (Err none) sink result = SendsNothing sink result

-- the line of a call that ends before its work was sent, where it has one
abbrev pub SendsEnd : InputError → Sent → Result ℕ OutputError → Type 0
SendsEnd (Refused r) sink result = SendsText r.status r.text.items sink result
SendsEnd (Unread line) sink result = SendsText 11 line.items sink result
SendsEnd Memory sink result = SendsNothing sink result

-- what work owes that sends its answer: all of it with its status, or nothing, or a part
pub record MeetsAnswer (IsOutput : Answer → Type 0) (sink : Sent) (result : Result ℕ OutputError) : Type 0 where
  pub sends : IfOk result (λ status. Sends IsOutput status sink.before sink.now)
  pub status : IfOk result IsOfOutput
  pub part : OnErr result ((sink.now ≡ sink.before) ⊎ SendsPart IsOutput sink.before sink.now)
  pub failed : result ≡ Err stopped.Sink → Rose sink.faults_before sink.faults_now

-- the status of a call whose sending came to this
abbrev pub status_by : Result ℕ OutputError → ℕ
status_by (Ok status) = status
status_by (Err stopped.Sink) = 20
status_by (Err stopped.Memory) = 30
