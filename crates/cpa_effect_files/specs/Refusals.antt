-- Why a draft of chains is refused over a system: the reasons in their order, and the first chain that the first of them applies to.
use Rattle.std.specs.Prelude.{ℕ, ◌+◌, ◌&&◌, nat_le, not, Bool, List, [], Option, Some, None, is_none, length}
use Rattle.std.specs.List.{list_any}
use Rattle.cpa_units.specs.Name.{is_name}
use Rattle.cpa_units.specs.declared.limits.TheConstants.{MAX_PERIOD}
use Rattle.cpa_draft.specs.First.{first_place, first_known}
use Rattle.cpa_draft.specs.Numbers.{may_be_within}
use Rattle.cpa_draft.specs.Refusals.{◌or_else◌}
use Rattle.cpa_model.specs.SystemLists.{SystemLists, task_named}
use Rattle.cpa_effects.specs.Calls.{is_count}
use Rattle.cpa_effect_files.specs.declared.draft.DraftChain.{DraftChain}
use Rattle.cpa_effect_files.specs.declared.refusal.ChainsRefusal.{ChainsRefusal}
use Rattle.cpa_effect_files.specs.declared.refusals.TheConstants.{MAX_CHAINS}

-- the refusal of a reason at a place, which counts from 0 in the list and from 1 in the refusal
abbrev pub refused_at : ℕ → Option ℕ → Option ChainsRefusal
refused_at reason None = None
refused_at reason (Some k) = Some (record { reason = reason; place = k + 1 })

-- the refusal for the first chain that a reason applies to
abbrev pub first_with : ℕ → (DraftChain → Bool) → List DraftChain → Option ChainsRefusal
first_with reason marks chains = refused_at reason (first_place (λ k c. marks c) chains)

-- all deadlines are in their range
abbrev pub fits : DraftChain → Bool
fits c = may_be_within 1 MAX_PERIOD c.reaction && may_be_within 1 MAX_PERIOD c.age && may_be_within 1 MAX_PERIOD c.held

-- no task has the name
abbrev pub is_unknown : SystemLists → List ℕ → Bool
is_unknown s name = is_none (task_named s name)

-- 2: a deadline is out of its range; 3: the chain's name hasn't the form of one; 4: an earlier chain has the name
unfoldable pub by_entries : List DraftChain → Option ChainsRefusal
by_entries chains =
    first_with 2 (λ c. not (fits c)) chains
    or_else first_with 3 (λ c. not (is_name c.name)) chains
    or_else refused_at 4 (first_known (λ (c : DraftChain). c.name) [] chains)

-- 5: a name in `tasks` names no task; 11: there is no task, or there are too many; 12: more chains than the limit
unfoldable pub by_tasks : SystemLists → List DraftChain → Option ChainsRefusal
by_tasks s chains =
    first_with 5 (λ c. list_any (is_unknown s) c.tasks) chains
    or_else first_with 11 (λ c. not (is_count (length c.tasks))) chains
    or_else refused_at 12 (first_place (λ k c. nat_le MAX_CHAINS k) chains)

-- the first reason that applies, with its first place
unfoldable pub first_refusal : SystemLists → List DraftChain → Option ChainsRefusal
first_refusal s chains = by_entries chains or_else by_tasks s chains
