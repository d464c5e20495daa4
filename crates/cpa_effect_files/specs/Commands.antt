-- What the program answers to words that begin with a command.
use Rattle.std.specs.Prelude.{◌≡◌, ℕ, Bool, if◌then◌else◌, List, [], ◌∷◌, codes}
use Rattle.std.specs.Str.{bytes_eq}
use Rattle.cpa_call.specs.Answers.{Answer, reply}
use Rattle.cpa_call.specs.Lines.{words_refused}
use Rattle.cpa_call.specs.Plans.{Held}
use Rattle.cpa_effects.specs.Calls as effects
use Rattle.cpa_effect_files.specs.Calls as chains
use Rattle.cpa_call.specs.TwoFiles as two_files
use Rattle.cpa_effect_files.specs.declared.commands.Command.{Command}
use Rattle.cpa_effect_files.specs.declared.commands.Command.TheVariants.{Chain, Chains, Unknown}

abbrev pub command_of : List ℕ → Command
command_of word = if bytes_eq word (codes "chain") then Chain else if bytes_eq word (codes "chains") then Chains else Unknown

abbrev pub IsWordsRefused : Answer → Type 0
IsWordsRefused answer = answer ≡ reply 10 words_refused

-- the output of a command for the words after it
abbrev pub IsOutputOf : Command → List (List ℕ) → Held → Answer → Type 0
IsOutputOf Chain words held = effects.IsOutput words held
IsOutputOf Chains words held = chains.IsOutput words held
IsOutputOf Unknown words held = IsWordsRefused

-- the output for words that begin with a command
abbrev pub IsOutput : List (List ℕ) → Held → Answer → Type 0
IsOutput [] held = IsWordsRefused
IsOutput (command ∷ words) held = IsOutputOf (command_of command) words held

-- a file that the words after a command name is the one whose load failed last
abbrev pub IsUnreadOf : Command → List (List ℕ) → Bool → Held → ℕ → ℕ → List ℕ → Type 0
IsUnreadOf Chain words told held before now last = effects.IsUnread (effects.call_of words).words before now last
IsUnreadOf Chains words told held before now last = two_files.IsUnread words told held before now last
IsUnreadOf Unknown words told held before now last = ⊥

abbrev pub IsUnread : List (List ℕ) → Bool → Held → ℕ → ℕ → List ℕ → Type 0
IsUnread [] told held before now last = ⊥
IsUnread (command ∷ words) told held before now last = IsUnreadOf (command_of command) words told held before now last
