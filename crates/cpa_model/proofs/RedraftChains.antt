-- The chains of the redraft of a system reach their sources, within as many tasks as there are.
use Rattle.std.proofs.Common.{◌≡◌, ◌≢◌, ℕ, zero, suc, ◌<◌, ◌≤◌, true, false, List, [], ◌∷◌, map, length, slice_index_or, get_or, Option, Some, None, IsSome, is_none, inl, inr, refl, sym, ap, ◌∙◌, arith}
use Rattle.std.specs.List.{list_any, IsDistinct, AllByRecursion}
use Rattle.std.proofs.lemmas.Bool.{cases_Bool, false≢true, eqb-true, ne_eqb}
use Rattle.std.proofs.Math.Dec.{eqb}
use Rattle.std.proofs.lemmas.List.{length-map, get_or-map}
use Rattle.std.proofs.lemmas.Option.{same_Some}
use Rattle.std.proofs.lemmas.Map.Keys.{IsDistinct-cons}
use Rattle.std.proofs.lemmas.Map.Steps.{length-le_from_distinct_below}
use Rattle.cpa_draft.specs.Names.{link_of, links_of}
use Rattle.cpa_draft.specs.Chains.{chain_within, first_longer}
use Rattle.cpa_draft.specs.declared.draft.DraftTask.{DraftTask}
use Rattle.cpa_draft.specs.declared.links.Link.{Link}
use Rattle.cpa_draft.specs.declared.links.Link.TheVariants as link
use Rattle.cpa_draft.proofs.FirstLemmas.{all_unmarked}
use Rattle.cpa_draft.proofs.ChainLaws.{chain_within-exact, chain_within-on}
use Rattle.cpa_model.specs.Chains.{activators}
use Rattle.cpa_model.specs.SystemLists.{SystemLists, task_at, no_task}
use Rattle.cpa_model.specs.declared.entries.Activator.{Activator}
use Rattle.cpa_model.specs.declared.entries.Activator.TheVariants as activator
use Rattle.cpa_model.specs.Rules.{IsSystem, IsActivator}
use Rattle.cpa_model.specs.Redraft.{redraft_task, redraft}
use Rattle.cpa_model.proofs.BuiltLaws.{link_from, links_from, at-map, chain-same}
use Rattle.cpa_model.proofs.SystemLaws.{activators_at, fed-within}
use Rattle.cpa_model.proofs.RedraftNames.{tasks-redraft, links_of-redraft}

-- what a rule of each member gives
all-members : {X : Type 0} (P Q : X → Type 0) (xs : List X) → ((x : X) → P x → Q x) → AllByRecursion P xs → AllByRecursion Q xs
all-members P Q [] f each = tt
all-members P Q (x ∷ xs) f each = (f x each.0, all-members P Q xs f each.1)

-- what is a member of numbers below n is below n
member-below : (n : ℕ) (xs : List ℕ) → AllByRecursion (λ q. q < n) xs → (q : ℕ) → list_any (eqb q) xs ≡ true → q < n
member-below n [] each q h = absurd (false≢true h)
member-below n (x ∷ xs) each q h = elim (cases_Bool (eqb q x)) [
  | inl same ↦ rw (eqb-true q x same) each.0
  | inr other ↦ member-below n xs each.1 q (rw other at h)
]

-- a task whose chain has at most so many tasks
record HasChain (links : List (List Link)) (limit most place : ℕ) : Type 0 where
  pub count : ℕ
  pub found : chain_within links limit place ≡ Some count
  pub few : count ≤ most

-- the tasks of a chain
record IsChain (links : List (List Link)) (limit count : ℕ) (places : List ℕ) : Type 0 where
  pub counted : length places ≡ count
  pub differ : IsDistinct eqb places
  pub below : AllByRecursion (λ q. q < length links) places
  pub chains : AllByRecursion (HasChain links limit count) places

-- each task that is an activator is there
abbrev pub AreThere : List (List Link) → Type 0
AreThere links = (i k j : ℕ) → k < length (slice_index_or links i []) → slice_index_or (slice_index_or links i []) k link.Nothing ≡ link.Task j → j < length links

-- a task isn't one of those of shorter chains
other-task : (links : List (List Link)) (limit m i q : ℕ) → chain_within links limit i ≡ Some (suc m) → HasChain links limit m q → eqb i q ≡ false
other-task links limit m i q found chain = ne_eqb i q apart
  where
    apart : i ≢ q
    apart same =
        let once : suc m ≡ chain.count = same_Some (suc m) chain.count (sym found ∙ ap (chain_within links limit) same ∙ chain.found) in
        absurd (omega (arith, chain.few))

-- one more task of a chain
chain-cons : (links : List (List Link)) (limit m i : ℕ) (places : List ℕ) → i < length links → chain_within links limit i ≡ Some (suc m) → IsChain links limit m places → IsChain links limit (suc m) (i ∷ places)
chain-cons links limit m i places there found chain = record {
  counted = omega (arith, chain.counted);
  differ = IsDistinct-cons eqb i places (all-members (HasChain links limit m) (λ q. eqb i q ≡ false) places (λ q has. other-task links limit m i q found has) chain.chains) chain.differ;
  below = (there, chain.below);
  chains = (record { count = suc m; found = found; few = omega arith }, all-members (HasChain links limit m) (HasChain links limit (suc m)) places (λ q has. record { count = has.count; found = has.found; few = omega (arith, has.few) }) chain.chains);
}

-- no task is a chain of none
chain-none : (links : List (List Link)) (limit m : ℕ) → m ≡ 0 → IsChain links limit m []
unfolding IsDistinct
chain-none links limit m none = record { counted = sym none; differ = tt; below = tt; chains = tt }

-- the tasks of a chain that is found
chain-places : (links : List (List Link)) → AreThere links → (limit count i : ℕ) → i < length links → chain_within links limit i ≡ Some count → (places : List ℕ) × IsChain links limit count places
chain-places links there limit zero i less found = ([], chain-none links limit zero refl)
chain-places links there limit (suc zero) i less found = (i ∷ [], chain-cons links limit zero i [] less found (chain-none links limit zero refl))
chain-places links there limit (suc (suc m)) i less found =
    let on = chain_within-on links limit i m found in
    let rest = chain-places links there limit (suc m) on.1 (there i on.0 on.1 on.2 on.3) on.4 in
    (i ∷ rest.0, chain-cons links limit (suc m) i rest.0 less found rest.1)

-- so a chain that is found has at most as many tasks as there are
chain-few : (links : List (List Link)) → AreThere links → (limit count i : ℕ) → i < length links → chain_within links limit i ≡ Some count → count ≤ length links
chain-few links there limit count i less found =
    let chain = chain-places links there limit count i less found in
    omega (arith, chain.1.counted, length-le_from_distinct_below chain.0 (length links) chain.1.differ (member-below (length links) chain.0 chain.1.below))

-- and it is found within as many
found-within : (links : List (List Link)) → AreThere links → (n m i : ℕ) → i < length links → length links ≤ m → IsSome (chain_within links n i) → is_none (chain_within links m i) ≡ false
found-within links there n m i less few some = by (chain_within links n i) refl some
  where
    by : (o : Option ℕ) → chain_within links n i ≡ o → IsSome o → is_none (chain_within links m i) ≡ false
    by None is some = absurd (false≢true some)
    by (Some d) is some = rw (chain_within-exact links n m i d is (omega (arith, chain-few links there n d i less is))) refl

-- how many links there are
links-count : (s : SystemLists) → length (links_of (redraft s)) ≡ length s.tasks
unfolding redraft
links-count s = length-map (map (redraft_task s) s.tasks) (λ (t : DraftTask). map (link_of (redraft s)) t.after) ∙ length-map s.tasks (redraft_task s)

-- the activators of the redraft are there
task-of : (a : Activator) (j : ℕ) → link_from a ≡ link.Task j → a ≡ activator.Task (record { 0 = j })
task-of (activator.Source k) j e = cc
task-of (activator.Task i) j e = let same : i.0 ≡ j = cc in ap (λ m. activator.Task (record { 0 = m })) same

redraft-there : (s : SystemLists) → IsSystem s → AreThere (links_of (redraft s))
redraft-there s rules i k j within is =
    let links : slice_index_or (links_of (redraft s)) i [] ≡ links_from (task_at s i).after =
    ap (λ all. slice_index_or all i []) (links_of-redraft s rules) ∙ at-map links_from (activators s.tasks) i [] ∙ ap links_from (activators_at s.tasks i) in
    let long : k < length (task_at s i).after = omega (arith, ap length links, length-map (task_at s i).after link_from) in
    let some : 0 < length (task_at s i).after = omega arith in
    let less : i < length s.tasks = fed-within s i some in
    let no : Activator = activator.Source (record { 0 = 0 }) in
    let here : link_from (get_or (task_at s i).after k no) ≡ link.Task j =
    sym (get_or-map link_from (task_at s i).after k no link.Nothing long) ∙ sym (ap (λ ls. slice_index_or ls k link.Nothing) links) ∙ is in
    let there : IsActivator s (activator.Task (record { 0 = j })) = rw (task-of (get_or (task_at s i).after k no) j here) at ((rules.tasks i no_task less).activated k no long) in
    omega (arith, links-count s, there)

-- each chain of the redraft is found within 32
redraft-found : (s : SystemLists) → IsSystem s → (i : ℕ) → i < length (links_of (redraft s)) → IsSome (chain_within (links_of (redraft s)) 32 i)
redraft-found s rules i less =
    rw (ap (λ links. chain_within links 32 i) (links_of-redraft s rules) ∙ chain-same (activators s.tasks) 32 i)
    (rules.chains i (omega (arith, links-count s)))

-- what is there isn't nothing
some-not_none : {X : Type 0} (o : Option X) → IsSome o → is_none o ≡ false
some-not_none None some = absurd (false≢true some)
some-not_none (Some x) some = refl

-- so no chain is too long
pub chains-short : (s : SystemLists) → IsSystem s → first_longer (links_of (redraft s)) 32 ≡ None
unfolding first_longer
chains-short s rules =
    all_unmarked (λ i _. is_none (chain_within (links_of (redraft s)) 32 i)) (links_of (redraft s)) (λ i d less. some-not_none _ (redraft-found s rules i less))

-- and each reaches a source
pub chains-sourced : (s : SystemLists) → IsSystem s → first_longer (links_of (redraft s)) (length (redraft s).tasks) ≡ None
unfolding first_longer
chains-sourced s rules =
    all_unmarked (λ i _. is_none (chain_within (links_of (redraft s)) (length (redraft s).tasks) i)) (links_of (redraft s))
    (λ i d less. found-within (links_of (redraft s)) (redraft-there s rules) 32 (length (redraft s).tasks) i less (omega (arith, links-count s, tasks-redraft s)) (redraft-found s rules i less))
