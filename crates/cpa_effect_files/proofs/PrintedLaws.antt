-- Printed bounds hold in runs.
use Rattle.std.proofs.Common.{◌≡◌, ℕ, List, All, get_or, Option, Some, None, ap, subst, ◌∙◌}
use Rattle.cpa_model.specs.SystemLists.{SystemLists}
use Rattle.cpa_model.specs.Rules.{IsSystem}
use Rattle.cpa_local.specs.Solution.{least_of}
use Rattle.cpa_local.specs.Laws.{LeastExists}
use Rattle.cpa_effects.specs.declared.steps.Reading.TheVariants.{Anywhere}
use Rattle.cpa_effects.specs.Laws.{IsChain, LeastSolutionsBoundChains}
use Rattle.cpa_call.specs.Answers.{Answer}
use Rattle.cpa_call.specs.Plans.{Held, Do, and_then, content_in, system_in}
use Rattle.cpa_call.specs.TwoFiles.{Asked, accepted}
use Rattle.cpa_call.proofs.PlanLaws.{then-done, done-same, planned-system}
use Rattle.cpa_effect_files.specs.Chain.{Chain}
use Rattle.cpa_effect_files.specs.Reading.{Reading, NotToml, Refused, Accepted, reading_of, IsChainIn}
use Rattle.cpa_effect_files.specs.Calls.{Chains, chains_by, chains_in, listed, plan_for, plan_by, plan_of, answer_to}
use Rattle.cpa_effect_files.specs.Laws.{PrintedChainsHold}
use Rattle.cpa_effect_files.specs.declared.command.TheConstants.{MAX_CHAINS_FILE}
use Rattle.cpa_effect_files.proofs.ReadingLaws.{accepted-in}

abbrev IsPlanned : Chains → Type 0
IsPlanned it = IsSystem it.system × All (IsChainIn it.system) it.chains

read-chains : (file : List ℕ) (r : Reading) (chains : List Chain) → chains_by file r ≡ Do chains → r ≡ Accepted chains
read-chains file NotToml chains e = cc
read-chains file (Refused r) chains e = cc
read-chains file (Accepted cs) chains e = ap Accepted (done-same cs chains e)

planned-chains : (held : Held) (s : SystemLists) (file : List ℕ) (chains : List Chain) → chains_in held s file ≡ Do chains → All (IsChainIn s) chains
planned-chains held s file chains e =
    let h = then-done (content_in held file MAX_CHAINS_FILE) (λ bytes. chains_by file (reading_of s bytes)) chains e in
    accepted-in s h.0 chains (read-chains file (reading_of s h.0) chains h.2)

planned-for : (held : Held) (file chains : List ℕ) (it : Chains) → plan_for held file chains ≡ Do it → IsPlanned it
planned-for held file chains it e =
    let h = then-done (system_in held file) (λ s. and_then (chains_in held s chains) (listed s)) it e in
    let k = then-done (chains_in held h.0 chains) (listed h.0) it h.2 in
    let same : record { system = h.0; chains = k.0 } ≡ it = done-same {A = Chains} (record { system = h.0; chains = k.0 }) it k.2 in
    subst IsPlanned same (planned-system held file h.0 h.1, planned-chains held h.0 chains k.0 k.1)

planned-by : (held : Held) (o : Option Asked) (it : Chains) → plan_by held o ≡ Do it → IsPlanned it
planned-by held None it e = cc
planned-by held (Some asked) it e = planned-for held asked.file asked.second it e

planned : (words : List (List ℕ)) (held : Held) (it : Chains) → plan_of words held ≡ Do it → IsPlanned it
unfolding plan_of
planned words held it e = planned-by held (accepted words) it e

pub printed-hold : LeastSolutionsBoundChains → LeastExists → PrintedChainsHold
printed-hold bound least words held answer it output plan =
    let (rules, chains) = planned words held it plan in (
      ap (λ (a : Answer). a.text) (output ∙ ap answer_to plan),
      λ k d less. let own : IsChainIn it.system (get_or it.chains k d) = chains k d less in
          let chain : IsChain it.system (get_or it.chains k d).tasks = record { some = own.some; there = own.there } in
          record { is_chain = chain; holds = λ tr obeys near. bound it.system (least_of it.system) rules (least it.system rules) tr obeys near _ chain Anywhere },
    )
