-- The law that the crate's public functions state.
use Rattle.std.specs.Prelude.{◌≡◌, ℕ, List, All}
use Rattle.cpa_model.specs.SystemLists.{SystemLists}
use Rattle.cpa_local.specs.Solution.{least_of}
use Rattle.cpa_trace.specs.Trace.{TraceLists, Obeys}
use Rattle.cpa_sound.specs.BoundsHold.{SourcesStayNear}
use Rattle.cpa_effects.specs.declared.steps.Reading.TheVariants.{Anywhere}
use Rattle.cpa_effects.specs.Laws.{IsChain, ChainHolds}
use Rattle.cpa_call.specs.Answers.{Answer}
use Rattle.cpa_call.specs.Plans.{Held, Do}
use Rattle.cpa_effect_files.specs.Chain.{Chain}
use Rattle.cpa_effect_files.specs.ChainsText.{chains_text}
use Rattle.cpa_effect_files.specs.Calls.{Chains, plan_of, IsOutput}

-- the bounds of a chain at the least solution hold in every run whose sources stay near, whenever its jobs read
pub record HoldsInRuns (s : SystemLists) (c : Chain) : Type 0 where
  pub is_chain : IsChain s c.tasks
  pub holds : (tr : TraceLists) → Obeys s tr → SourcesStayNear s tr → ChainHolds Anywhere s (least_of s) tr c.tasks

-- where no file is refused, the output has the bounds of the chains at the least solution, and they hold in runs
abbrev pub PrintedChainsHold : Type 0
PrintedChainsHold =
    (words : List (List ℕ)) (held : Held) (answer : Answer) (it : Chains) → IsOutput words held answer → plan_of words held ≡ Do it
    → (answer.text ≡ chains_text it.system (least_of it.system) it.chains) × All (HoldsInRuns it.system) it.chains
