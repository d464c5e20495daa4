-- Chains over several activators: where links are added or moved they stay.
use Rattle.std.proofs.Common.{◌≡◌, ℕ, zero, suc, ◌<◌, ◌≤◌, List, [], ◌∷◌, ◌++◌, map, length, Option, Some, None, option_map, slice_index_or, All, fold, refl, sym, ap, ◌∙◌, arith}
use Rattle.std.specs.List.{flat_map}
use Rattle.std.proofs.lemmas.Option.{none-some, same_Some}
use Rattle.std.proofs.lemmas.List.{get_or_append_left}
use Rattle.std.proofs.lemmas.List.Elements.{All-head, All-tail, All-weaker}
use Rattle.cpa_units.specs.declared.places.SourceId.{SourceId}
use Rattle.cpa_model.specs.declared.entries.Activator.{Activator}
use Rattle.cpa_model.specs.declared.entries.Activator.TheVariants.{Source as BySource, Task}
use Rattle.cpa_draft.specs.Chains.{longer}
use Rattle.cpa_model.proofs.ActivatorLaws.{flat_map-same}
use Rattle.cpa_model.proofs.LongestLaws.{IsWithin}
use Rattle.cpa_model.proofs.SystemLaws.{depth_within-each, depth_within-some}
use Rattle.cpa_model.specs.Chains.{chain_step, chain_steps, depth_within, streams_step, streams_within}

abbrev pub Links : Type 0
Links = List (List Activator)

-- ---- steps that agree

abbrev longest_from : List Activator → (ℕ → Option ℕ) → Option ℕ → Option ℕ
longest_from us deeper least = fold (λ longest a. longer longest (chain_step a deeper)) least us

longest-same : (us : List Activator) (f g : ℕ → Option ℕ) (least : Option ℕ) → All (λ (a : Activator). chain_step a f ≡ chain_step a g) us → longest_from us f least ≡ longest_from us g least
longest-same [] f g least each = refl
longest-same ((a ∷ us)) f g least each =
    rw (All-head (λ (a : Activator). chain_step a f ≡ chain_step a g) a us each)
    (longest-same us f g (longer least (chain_step a g)) (All-tail (λ (a : Activator). chain_step a f ≡ chain_step a g) a us each))

pub steps-same : (us : List Activator) (f g : ℕ → Option ℕ) → All (λ (a : Activator). chain_step a f ≡ chain_step a g) us → chain_steps us f ≡ chain_steps us g
steps-same us f g each = longest-same us f g (Some 1) each

longest-moved : (us : List Activator) (h : Activator → Activator) (f g : ℕ → Option ℕ) (least : Option ℕ) → All (λ (a : Activator). chain_step (h a) f ≡ chain_step a g) us → longest_from (map h us) f least ≡ longest_from us g least
longest-moved [] h f g least each = refl
longest-moved ((a ∷ us)) h f g least each =
    ap (λ one. longest_from (map h us) f (longer least one)) (All-head (λ (a : Activator). chain_step (h a) f ≡ chain_step a g) a us each)
    ∙ longest-moved us h f g (longer least (chain_step a g)) (All-tail (λ (a : Activator). chain_step (h a) f ≡ chain_step a g) a us each)

-- other activators, with the same steps
pub steps-moved : (us : List Activator) (h : Activator → Activator) (f g : ℕ → Option ℕ) → All (λ (a : Activator). chain_step (h a) f ≡ chain_step a g) us → chain_steps (map h us) f ≡ chain_steps us g
steps-moved us h f g each = longest-moved us h f g (Some 1) each

pub streams-moved : (us : List Activator) (h : Activator → Activator) (f g : Activator → List SourceId) → All (λ (a : Activator). f (h a) ≡ g a) us → flat_map f (map h us) ≡ flat_map g us
streams-moved [] h f g each = refl
streams-moved ((a ∷ us)) h f g each =
    ap (λ one. one ++ flat_map f (map h us)) (All-head (λ (a : Activator). f (h a) ≡ g a) a us each)
    ∙ ap (λ rest. g a ++ rest) (streams-moved us h f g (All-tail (λ (a : Activator). f (h a) ≡ g a) a us each))

-- ---- a chain that ends

step-fewer : (f g : ℕ → Option ℕ) (n d : ℕ) → ((j x : ℕ) → f j ≡ Some x → x ≤ n → g j ≡ Some x) → d ≤ suc n → (a : Activator) → IsWithin (chain_step a f) d → chain_step a f ≡ chain_step a g
step-fewer f g n d more few (BySource k) h = refl
step-fewer f g n d more few (Task j) h = by (f j.0) (more j.0) h.found
  where
    by : (o : Option ℕ) → ((x : ℕ) → o ≡ Some x → x ≤ n → g j.0 ≡ Some x) → option_map suc o ≡ Some h.count → option_map suc o ≡ option_map suc (g j.0)
    by None each e = absurd (none-some h.count e)
    by (Some x) each e = let p : suc x ≡ h.count = same_Some (suc x) h.count e in rw (each x refl (omega (arith, p, h.few))) refl

-- a chain of so many tasks is met within as many
pub depth_within-fewer : (links : Links) (n i d : ℕ) → depth_within links (suc n) i ≡ Some d → d ≤ n → depth_within links n i ≡ Some d
unfolding depth_within
depth_within-fewer links zero i d e few = absurd (let some = depth_within-some links 1 i d e in omega (arith, some))
depth_within-fewer links (suc n) i d e few =
    sym (steps-same (slice_index_or links i []) (depth_within links (suc n)) (depth_within links n)
    (All-weaker (λ (a : Activator). IsWithin (chain_step a (depth_within links (suc n))) d) (λ (a : Activator). chain_step a (depth_within links (suc n)) ≡ chain_step a (depth_within links n))
    (step-fewer (depth_within links (suc n)) (depth_within links n) n d (depth_within-fewer links n) few) (slice_index_or links i []) (depth_within-each links (suc n) i d e)))
    ∙ e

-- ---- links that are added behind

-- an activator that is one of so many tasks, where it is a task
abbrev pub IsAmong : ℕ → Activator → Type 0
IsAmong n (BySource k) = Unit {0}
IsAmong n (Task j) = j.0 < n

-- links lead to no task but theirs
abbrev pub AreAmong : Links → Type 0
AreAmong links = (i : ℕ) → i < length links → All (IsAmong (length links)) (slice_index_or links i [])

step-within : (n : ℕ) (f g : ℕ → Option ℕ) → ((j : ℕ) → j < n → f j ≡ g j) → (a : Activator) → IsAmong n a → chain_step a f ≡ chain_step a g
step-within n f g same (BySource k) h = refl
step-within n f g same (Task j) h = ap (option_map suc) (same j.0 h)

streams_step-within : (n : ℕ) (f g : ℕ → List SourceId) → ((j : ℕ) → j < n → f j ≡ g j) → (a : Activator) → IsAmong n a → streams_step a f ≡ streams_step a g
streams_step-within n f g same (BySource k) h = refl
streams_step-within n f g same (Task j) h = same j.0 h

-- a chain stays where links are added behind
pub depth_within-longer : (links more : Links) → AreAmong links → (n i : ℕ) → i < length links → depth_within (links ++ more) n i ≡ depth_within links n i
unfolding depth_within
depth_within-longer links more within zero i less = refl
depth_within-longer links more within (suc n) i less =
    rw (get_or_append_left links more [] i less)
    (steps-same (slice_index_or links i []) (depth_within (links ++ more) n) (depth_within links n)
    (All-weaker (IsAmong (length links)) (λ (a : Activator). chain_step a (depth_within (links ++ more) n) ≡ chain_step a (depth_within links n))
    (step-within (length links) (depth_within (links ++ more) n) (depth_within links n) (depth_within-longer links more within n)) (slice_index_or links i []) (within i less)))

-- and so do the streams
pub streams_within-longer : (links more : Links) → AreAmong links → (n i : ℕ) → i < length links → streams_within (links ++ more) n i ≡ streams_within links n i
unfolding streams_within
streams_within-longer links more within zero i less = refl
streams_within-longer links more within (suc n) i less =
    rw (get_or_append_left links more [] i less)
    (flat_map-same (λ (a : Activator). streams_step a (streams_within (links ++ more) n)) (λ (a : Activator). streams_step a (streams_within links n)) (slice_index_or links i [])
    (All-weaker (IsAmong (length links)) (λ (a : Activator). streams_step a (streams_within (links ++ more) n) ≡ streams_step a (streams_within links n))
    (streams_step-within (length links) (streams_within (links ++ more) n) (streams_within links n) (streams_within-longer links more within n)) (slice_index_or links i []) (within i less)))
