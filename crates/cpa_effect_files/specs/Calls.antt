-- What the command `chains` answers.
use Rattle.std.specs.Prelude.{◌≡◌, ℕ, ◌==◌, ◌++◌, if◌then◌else◌, List, [], Option, Some, None, codes}
use Rattle.std.specs.Fmt.{decimal}
use Rattle.cpa_model.specs.SystemLists.{SystemLists}
use Rattle.cpa_local.specs.Solution.{least_of}
use Rattle.cpa_call.specs.Answers.{Answer, reply}
use Rattle.cpa_call.specs.Lines.{words_refused, not_toml}
use Rattle.cpa_call.specs.Plans.{Held, Plan, Do, Refuse, Missing, and_then, content_in, system_in}
use Rattle.cpa_call.specs.TwoFiles.{Asked, accepted}
use Rattle.cpa_effect_files.specs.Chain.{Chain}
use Rattle.cpa_effect_files.specs.ChainsText.{chains_text, chains_status}
use Rattle.cpa_effect_files.specs.Reading.{Reading, NotToml, Refused, Accepted, reading_of}
use Rattle.cpa_effect_files.specs.declared.command.Listed.{Listed}
use Rattle.cpa_effect_files.specs.declared.command.TheConstants.{MAX_CHAINS_FILE}
use Rattle.cpa_effect_files.specs.declared.refusal.ChainsRefusal.{ChainsRefusal}

-- the line of chains that are refused
abbrev pub part_word : ℕ → List ℕ
part_word place = if place == 0 then codes " file " else codes " chain "

abbrev pub chains_refused : ChainsRefusal → List ℕ
chains_refused r = codes "chains refused reason " ++ decimal r.reason ++ part_word r.place ++ decimal r.place ++ codes "\n"

-- a system, and chains of its tasks
pub record Chains : Type 0 where
  pub system : SystemLists
  pub chains : List Chain

-- as the program has them
abbrev pub chains_of : Listed → Chains
chains_of l = record { system = l.system; chains = l.chains.items }

-- the chains that a file stands for
abbrev pub chains_by : List ℕ → Reading → Plan (List Chain)
chains_by file NotToml = Refuse 13 (not_toml file)
chains_by file (Refused r) = Refuse 18 (chains_refused r)
chains_by file (Accepted chains) = Do chains

abbrev pub chains_in : Held → SystemLists → List ℕ → Plan (List Chain)
chains_in held s file = and_then (content_in held file MAX_CHAINS_FILE) (λ bytes. chains_by file (reading_of s bytes))

-- the system file is read first
abbrev pub listed : SystemLists → List Chain → Plan Chains
listed s chains = Do (record { system = s; chains = chains })

abbrev pub plan_for : Held → List ℕ → List ℕ → Plan Chains
plan_for held file chains = and_then (system_in held file) (λ s. and_then (chains_in held s chains) (listed s))

abbrev pub plan_by : Held → Option Asked → Plan Chains
plan_by held None = Refuse 10 words_refused
plan_by held (Some it) = plan_for held it.file it.second

unfoldable pub plan_of : List (List ℕ) → Held → Plan Chains
plan_of words held = plan_by held (accepted words)

-- the bounds of the chains at the least solution, with their verdicts, or a refusal with its line; where a file in turn isn't held, there is no
-- answer but a fault
abbrev pub answer_to : Plan Chains → Answer
answer_to (Do it) = reply (chains_status it.system (least_of it.system) it.chains) (chains_text it.system (least_of it.system) it.chains)
answer_to (Refuse status line) = reply status line
answer_to Missing = record { status = None; text = [] }

-- the output: the one answer to these words, over files that hold these bytes
abbrev pub IsOutput : List (List ℕ) → Held → Answer → Type 0
IsOutput words held answer = answer ≡ answer_to (plan_of words held)
