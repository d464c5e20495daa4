-- Why a call ends before its work is done, by the plan of its words and files.
use Rattle.std.specs.Prelude.{◌≡◌, ℕ, List}
use Rattle.cpa_io.specs.Causes.{Rose}
use Rattle.cpa_io.specs.declared.sink.SinkFault.{SinkFault}
use Rattle.cpa_io.specs.declared.sink.SinkFault.TheVariants as fault
use Rattle.cpa_call.specs.Answers.{IsOfOutput}
use Rattle.cpa_call.specs.Lines.{cannot_read, words_refused}
use Rattle.cpa_call.specs.Plans.{Plan, Refuse}
use Rattle.cpa_call.specs.declared.errors.InputError.{InputError}
use Rattle.cpa_call.specs.declared.errors.InputError.TheVariants.{Refused, Unread, Memory}
use Rattle.cpa_call.specs.declared.errors.OutputError.{OutputError}
use Rattle.cpa_call.specs.declared.errors.OutputError.TheVariants as stopped

-- a refusal is that of the plan
abbrev pub IsEndOf : {A : Type 0} → Plan A → InputError → Type 0
IsEndOf plan (Refused reply) = plan ≡ Refuse reply.status reply.text.items
IsEndOf plan _ = Unit {0}

-- a refusal has a status that the output decides
abbrev pub HasStatus : InputError → Type 0
HasStatus (Refused reply) = IsOfOutput reply.status
HasStatus _ = Unit {0}

-- where a file couldn't be loaded, the count of faults rose, and the line says the name that failed last, which is so and so
abbrev pub IsUnreadFile : (List ℕ → Type 0) → ℕ → ℕ → List ℕ → InputError → Type 0
IsUnreadFile named before now last (Unread line) = named last × Rose before now × (line.items ≡ cannot_read last)
IsUnreadFile named before now last _ = Unit {0}

-- so of a whole call, of which so much is known then
abbrev pub IsUnreadLine : Type 0 → List ℕ → InputError → Type 0
IsUnreadLine known last (Unread line) = known × (line.items ≡ cannot_read last)
IsUnreadLine known last _ = Unit {0}

abbrev pub IsStopOf : SinkFault → OutputError → Type 0
IsStopOf fault.Failed s = s ≡ stopped.Sink
IsStopOf fault.Memory s = s ≡ stopped.Memory

-- no file was to be loaded
abbrev pub IsNoUnread : InputError → Type 0
IsNoUnread (Unread line) = ⊥
IsNoUnread _ = Unit {0}

-- the words aren't accepted
abbrev pub IsWordsEnd : InputError → Type 0
IsWordsEnd (Refused reply) = (reply.status ≡ 10) × (reply.text.items ≡ words_refused)
IsWordsEnd (Unread line) = ⊥
IsWordsEnd Memory = Unit {0}
