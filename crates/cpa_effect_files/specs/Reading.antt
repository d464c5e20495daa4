-- What the bytes of a file of chains stand for over a system.
use Rattle.std.specs.Prelude.{◌≡◌, ◌<◌, ◌≤◌, ℕ, List, length, map, option_map, unwrap_or, All, Option, Some, None, Result, Ok, Err}
use Rattle.toml.specs.Data.{Members, table}
use Rattle.cpa_units.specs.declared.limits.TheConstants.{MAX_CHAIN}
use Rattle.cpa_units.specs.declared.places.TaskId.{TaskId}
use Rattle.cpa_draft.specs.Numbers.{nat_of}
use Rattle.cpa_model.specs.SystemLists.{SystemLists, task_named}
use Rattle.cpa_file.specs.Document.{document_of}
use Rattle.cpa_effect_files.specs.Chain.{Chain}
use Rattle.cpa_effect_files.specs.Drafts.{draft_of}
use Rattle.cpa_effect_files.specs.Refusals.{first_refusal}
use Rattle.cpa_effect_files.specs.declared.draft.DraftChain.{DraftChain}
use Rattle.cpa_effect_files.specs.declared.refusal.ChainsRefusal.{ChainsRefusal}
use Rattle.cpa_effect_files.specs.declared.refusal.ChainsFault.{ChainsFault}
use Rattle.cpa_effect_files.specs.declared.refusal.ChainsFault.TheVariants as fault

-- the task with a name; of a name that names none no rule speaks
abbrev pub task_of : SystemLists → List ℕ → TaskId
task_of s name = unwrap_or (task_named s name) (record { 0 = 0 })

abbrev pub chain_of : SystemLists → DraftChain → Chain
chain_of s c = record { name = c.name; tasks = map (task_of s) c.tasks; reaction = option_map nat_of c.reaction; age = option_map nat_of c.age; held = option_map nat_of c.held }

-- no TOML document, a refusal, or chains
pub data Reading : Type 0 where
  NotToml : Reading
  Refused : ChainsRefusal → Reading
  Accepted : List Chain → Reading

-- by the first of reasons 2 to 12 that applies to a draft
abbrev pub by_refusal : SystemLists → List DraftChain → Option ChainsRefusal → Reading
by_refusal s chains None = Accepted (map (chain_of s) chains)
by_refusal s chains (Some r) = Refused r

-- by the draft, or the refusal with reason 13 or 1
abbrev pub by_draft : SystemLists → Result (List DraftChain) ChainsRefusal → Reading
by_draft s (Ok chains) = by_refusal s chains (first_refusal s chains)
by_draft s (Err r) = Refused r

abbrev pub by_document : SystemLists → Option Members → Reading
by_document s None = NotToml
by_document s (Some members) = by_draft s (draft_of (table members))

-- what the bytes of a file stand for
unfoldable pub reading_of : SystemLists → List ℕ → Reading
reading_of s bytes = by_document s (document_of bytes)

-- why a file stands for no chains; memory may be wanting at any time
abbrev pub IsFault : ChainsFault → Reading → Type 0
IsFault fault.NotToml reading = reading ≡ NotToml
IsFault (fault.Refused r) reading = reading ≡ Refused r
IsFault fault.Memory reading = Unit {0}

-- a chain has as many tasks as a chain may have, and each is a task of the system
pub record IsChainIn (s : SystemLists) (c : Chain) : Type 0 where
  pub some : 0 < length c.tasks
  pub few : length c.tasks ≤ MAX_CHAIN
  pub there : All (λ (i : TaskId). i.0 < length s.tasks) c.tasks
