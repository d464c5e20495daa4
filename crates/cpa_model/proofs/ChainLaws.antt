-- Following activators over a list of them.
use Rattle.std.proofs.Common.{◌≡◌, ℕ, suc, ◌+◌, ◌-◌, ◌<◌, ◌≤◌, List, [], ◌∷◌, length, take, get_or, Option, Some, None, option_map, slice_index_or, slice_get, refl, sym, ap, ◌∙◌, arith}
use Rattle.std.specs.Option.{IfSome}
use Rattle.std.specs.List.{flat_map}
use Rattle.std.proofs.lemmas.List.{take_all}
use Rattle.std.proofs.lemmas.Option.{slice_get-get_or, slice_get_within, get_or_from_slice_get}
use Rattle.std.proofs.lemmas.List.Sums.{fold_more}
use Rattle.std.proofs.lemmas.List.Concat.{get_or-flat_map}
use Rattle.std.proofs.lemmas.List.Folds.{length-flat_map-take}
use Rattle.cpa_units.specs.declared.places.SourceId.{SourceId}
use Rattle.cpa_units.specs.declared.places.TaskId.{TaskId}
use Rattle.cpa_model.specs.declared.entries.Activator.TheVariants.{Task}
use Rattle.std.proofs.lemmas.List.{append-nil}
use Rattle.cpa_model.specs.declared.entries.Activator.{Activator}
use Rattle.cpa_draft.specs.Chains.{longer}
use Rattle.cpa_model.specs.Chains.{chain_step, chain_steps, depth_within, streams_step, streams_within}

abbrev pub Links : Type 0
Links = List (List Activator)

-- none are met within no task
pub depth_within-none : (links : Links) (most i : ℕ) → most ≡ 0 → depth_within links most i ≡ None
unfolding depth_within
depth_within-none links most i none = rw none refl

pub streams_within-none : (links : Links) (most i : ℕ) → most ≡ 0 → streams_within links most i ≡ []
unfolding streams_within
streams_within-none links most i none = rw none refl

-- else one step is taken over each activator
pub depth_within-next : (links : Links) (most less i : ℕ) → most ≡ suc less → depth_within links most i ≡ chain_steps (slice_index_or links i []) (depth_within links less)
unfolding depth_within
depth_within-next links most less i next = rw next refl

pub depth_within-step : (links : Links) (most i : ℕ) → 0 < most → depth_within links most i ≡ chain_steps (slice_index_or links i []) (depth_within links (most - 1))
depth_within-step links most i some = depth_within-next links most (most - 1) i (omega arith)

-- the streams of one activator
abbrev pub streams_by : Links → ℕ → Activator → List SourceId
streams_by links n a = streams_step a (streams_within links n)

pub streams_within-next : (links : Links) (most less i : ℕ) → most ≡ suc less → streams_within links most i ≡ flat_map (streams_by links less) (slice_index_or links i [])
unfolding streams_within
streams_within-next links most less i next = rw next refl

-- what comes to a task that one task alone activates is what comes to that one
pub streams-only : (links : Links) (most less i : ℕ) (j : TaskId) → most ≡ suc less → slice_index_or links i [] ≡ Task j ∷ [] → streams_within links most i ≡ streams_within links less j.0
streams-only links most less i j next only =
    streams_within-next links most less i next ∙ ap (flat_map (streams_by links less)) only ∙ append-nil (streams_within links less j.0)

pub streams_within-step : (links : Links) (most i : ℕ) → 0 < most → streams_within links most i ≡ flat_map (streams_by links (most - 1)) (slice_index_or links i [])
streams_within-step links most i some = streams_within-next links most (most - 1) i (omega arith)

-- a chain with a task more is as short
pub one_more-few : (depth : Option ℕ) (most : ℕ) → 0 < most → IfSome depth (λ d. d ≤ most - 1) → IfSome (option_map suc depth) (λ d. d ≤ most)
one_more-few None most some few = few
one_more-few (Some d) most some few = omega arith

-- the longer of two chains is as short as both
pub longer-few : (first second : Option ℕ) (most : ℕ) → IfSome first (λ d. d ≤ most) → IfSome second (λ d. d ≤ most) → IfSome (longer first second) (λ d. d ≤ most)
longer-few None second most few _ = few
longer-few (Some d) None most _ few = few
longer-few (Some d) (Some e) most few fewer = omega arith

-- one activator more is gone over
pub depth-more : (links : Links) (less k : ℕ) (items : List Activator) (a d : Activator) (longest depth now : Option ℕ) → k < length items → get_or items k d ≡ a → depth ≡ chain_step a (depth_within links less)
    → longest ≡ chain_steps (take k items) (depth_within links less) → now ≡ longer longest depth → now ≡ chain_steps (take (k + 1) items) (depth_within links less)
depth-more links less k items a d longest depth now there at step so e =
    e ∙ ap (λ x. longer x depth) so
    ∙ ap (longer (chain_steps (take k items) (depth_within links less))) (step ∙ ap (λ b. chain_step b (depth_within links less)) (sym at))
    ∙ sym (fold_more (λ l b. longer l (chain_step b (depth_within links less))) (Some 1) items k d there)

-- all activators were gone over
pub depth-all : (links : Links) (most i count : ℕ) (items : List Activator) (longest : Option ℕ) → 0 < most → items ≡ slice_index_or links i [] → length items ≤ count
    → longest ≡ chain_steps (take count items) (depth_within links (most - 1)) → longest ≡ depth_within links most i
depth-all links most i count items longest some is all e =
    e ∙ ap (λ ts. chain_steps ts (depth_within links (most - 1))) (take_all count items all ∙ is) ∙ sym (depth_within-step links most i some)

pub streams-all : (links : Links) (most i count : ℕ) (items : List Activator) → 0 < most → items ≡ slice_index_or links i [] → length items ≤ count
    → flat_map (streams_by links (most - 1)) (take count items) ≡ streams_within links most i
streams-all links most i count items some is all =
    ap (flat_map (streams_by links (most - 1))) (take_all count items all ∙ is) ∙ sym (streams_within-step links most i some)

-- the streams of the activators before one, and its own, are among the task's
pub streams-part : (links : Links) (most i k : ℕ) (items : List Activator) (a d : Activator) → 0 < most → items ≡ slice_index_or links i [] → k < length items → get_or items k d ≡ a
    → length (flat_map (streams_by links (most - 1)) (take k items)) + length (streams_by links (most - 1) a) ≤ length (streams_within links most i)
streams-part links most i k items a d some is less at =
    let part = length-flat_map-take (streams_by links (most - 1)) items k d less in
    let whole : flat_map (streams_by links (most - 1)) items ≡ streams_within links most i = ap (flat_map (streams_by links (most - 1))) is ∙ sym (streams_within-step links most i some) in
    rw (← whole) (rw at at part)

-- a stream of one of the activators is the task's, past those of the activators before
pub stream-there : (links : Links) (most i k place left : ℕ) (items : List Activator) (a d : Activator) (source : SourceId) → 0 < most → items ≡ slice_index_or links i [] → k < length items → get_or items k d ≡ a
    → left + length (flat_map (streams_by links (most - 1)) (take k items)) ≡ place → slice_get (streams_by links (most - 1) a) left ≡ Some source → slice_get (streams_within links most i) place ≡ Some source
stream-there links most i k place left items a d source some is less at past found =
    let whole : flat_map (streams_by links (most - 1)) items ≡ streams_within links most i = ap (flat_map (streams_by links (most - 1))) is ∙ sym (streams_within-step links most i some) in
    let within = slice_get_within (streams_by links (most - 1) a) left source found in
    let part = streams-part links most i k items a d some is less at in
    let short : left < length (streams_by links (most - 1) (get_or items k d)) = rw at within in
    let here = get_or-flat_map (streams_by links (most - 1)) items k left d source less short in
    let there : length (flat_map (streams_by links (most - 1)) (take k items)) + left ≡ place = omega arith in
    slice_get-get_or (streams_within links most i) place source (omega arith)
    ∙ ap Some (ap (λ ks. get_or ks place source) (sym whole) ∙ ap (λ n. get_or (flat_map (streams_by links (most - 1)) items) n source) (sym there) ∙ here
    ∙ ap (λ b. get_or (streams_by links (most - 1) b) left source) at ∙ get_or_from_slice_get (streams_by links (most - 1) a) left source source found)
