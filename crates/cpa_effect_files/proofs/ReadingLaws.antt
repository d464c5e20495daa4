-- What is known of chains that a file stands for.
use Rattle.std.proofs.Common.{◌≡◌, ℕ, ◌<◌, nat_lt, nat_le, Bool, true, false, not, List, length, map, get_or, All, Option, Some, None, is_none, Result, Ok, Err, refl, sym, subst, arith}
use Rattle.std.specs.Prelude.{unwrap_or}
use Rattle.std.specs.List.{list_any}
use Rattle.std.proofs.lemmas.Bool.{true≢false, and_parts, leb-true, ltb-true}
use Rattle.std.proofs.lemmas.List.{length-map}
use Rattle.std.proofs.lemmas.Option.{none-some}
use Rattle.toml.specs.Data.{Members, table}
use Rattle.cpa_units.specs.declared.limits.TheConstants.{MAX_CHAIN}
use Rattle.cpa_units.specs.declared.places.TaskId.{TaskId}
use Rattle.cpa_draft.specs.Refusals.{◌or_else◌}
use Rattle.cpa_draft.proofs.FirstLemmas.{none_marked}
use Rattle.cpa_draft.proofs.ListLaws.{all-map, none-at, not-false}
use Rattle.cpa_model.specs.SystemLists.{SystemLists, task_named}
use Rattle.cpa_file.specs.Document.{document_of}
use Rattle.cpa_effects.proofs.CallLaws.{task-there}
use Rattle.cpa_effect_files.specs.declared.draft.DraftChain.{DraftChain}
use Rattle.cpa_effect_files.specs.declared.refusal.ChainsRefusal.{ChainsRefusal}
use Rattle.cpa_effect_files.specs.Chain.{Chain}
use Rattle.cpa_effect_files.specs.Drafts.{draft_of}
use Rattle.cpa_effect_files.specs.Refusals.{refused_at, first_with, is_unknown, by_entries, by_tasks, first_refusal}
use Rattle.cpa_effects.specs.Calls.{is_count}
use Rattle.cpa_effect_files.specs.Reading.{Accepted, task_of, chain_of, by_refusal, by_draft, by_document, reading_of, IsChainIn}

or_none : {X : Type 0} (a b : Option X) → (a or_else b) ≡ None → (a ≡ None) × (b ≡ None)
or_none None b e = (refl, e)
or_none (Some x) b e = absurd (none-some x (sym e))

at_none : (reason : ℕ) (o : Option ℕ) → refused_at reason o ≡ None → o ≡ None
at_none reason None e = refl
at_none reason (Some k) e = absurd (none-some _ (sym e))

-- where a reason applies to no chain
fails : (reason : ℕ) (marks : DraftChain → Bool) (chains : List DraftChain) → first_with reason marks chains ≡ None → All (λ c. marks c ≡ false) chains
fails reason marks chains e = λ k c less. none_marked (λ k c. marks c) chains k c (at_none reason _ e) less

-- who is named is there
found : (s : SystemLists) (name : List ℕ) (o : Option TaskId) → task_named s name ≡ o → is_none o ≡ false → (unwrap_or o (record { 0 = 0 })).0 < length s.tasks
found s name None e some = absurd (true≢false some)
found s name (Some i) e some = task-there s name i e

chain-in : (s : SystemLists) (c : DraftChain) → list_any (is_unknown s) c.tasks ≡ false → not (is_count (length c.tasks)) ≡ false → IsChainIn s (chain_of s c)
chain-in s c known counted =
    let count : (nat_lt 0 (length c.tasks) ≡ true) × (nat_le (length c.tasks) MAX_CHAIN ≡ true) = and_parts _ _ (not-false _ counted) in
    let long = length-map c.tasks (task_of s) in
    record {
      some = omega (arith, long, ltb-true _ _ count.0);
      few = omega (arith, long, leb-true _ _ count.1);
      there = all-map (λ (i : TaskId). i.0 < length s.tasks) (task_of s) c.tasks (λ k d less. found s _ (task_named s (get_or c.tasks k d)) refl (none-at (is_unknown s) c.tasks k d known less));
    }

unrefused-in : (s : SystemLists) (chains : List DraftChain) → first_refusal s chains ≡ None → All (IsChainIn s) (map (chain_of s) chains)
unfolding first_refusal by_tasks
unrefused-in s chains e =
    let tasks = (or_none (by_entries chains) _ e).1 in
    let counted = (or_none _ _ tasks).0 in
    let both = or_none _ _ counted in
    all-map (IsChainIn s) (chain_of s) chains
    (λ k d less. chain-in s (get_or chains k d) (fails 5 (λ c. list_any (is_unknown s) c.tasks) chains both.0 k d less) (fails 11 (λ c. not (is_count (length c.tasks))) chains both.1 k d less))

same_chains : (a b : List Chain) → Accepted a ≡ Accepted b → a ≡ b
same_chains a b e = cc

of-refusal : (s : SystemLists) (drafts : List DraftChain) (o : Option ChainsRefusal) (chains : List Chain) → first_refusal s drafts ≡ o → by_refusal s drafts o ≡ Accepted chains → All (IsChainIn s) chains
of-refusal s drafts None chains free e = subst (All (IsChainIn s)) (same_chains _ chains e) (unrefused-in s drafts free)
of-refusal s drafts (Some r) chains free e = cc

of-draft : (s : SystemLists) (r : Result (List DraftChain) ChainsRefusal) (chains : List Chain) → by_draft s r ≡ Accepted chains → All (IsChainIn s) chains
of-draft s (Ok drafts) chains e = of-refusal s drafts (first_refusal s drafts) chains refl e
of-draft s (Err r) chains e = cc

of-document : (s : SystemLists) (o : Option Members) (chains : List Chain) → by_document s o ≡ Accepted chains → All (IsChainIn s) chains
of-document s None chains e = cc
of-document s (Some members) chains e = of-draft s (draft_of (table members)) chains e

-- each has 1 to 32 tasks, which are there
pub accepted-in : (s : SystemLists) (bytes : List ℕ) (chains : List Chain) → reading_of s bytes ≡ Accepted chains → All (IsChainIn s) chains
unfolding reading_of
accepted-in s bytes chains e = of-document s (document_of bytes) chains e
