-- What names stand for, and what is planned.
use Rattle.std.proofs.Common.{◌≡◌, ℕ, ◌+◌, ◌<◌, ◌++◌, List, [], ◌∷◌, Bool, true, length, map, drop, get_or, Option, Some, None, refl, sym, ap, ◌∙◌, subst, arith}
use Rattle.std.specs.Prelude.{All, ◌||◌, ◌&&◌, not, option_map}
use Rattle.std.specs.List.{list_any}
use Rattle.std.proofs.lemmas.List.{at_drop_more, length-map}
use Rattle.std.proofs.lemmas.List.Elements.{All-append}
use Rattle.cpa_units.specs.declared.places.TaskId.{TaskId}
use Rattle.cpa_model.specs.SystemLists.{SystemLists, task_named, no_task}
use Rattle.std.proofs.lemmas.Option.{none-some}
use Rattle.std.proofs.lemmas.List.Quantifiers.{position-Some}
use Rattle.cpa_call.specs.Lines.{words_refused}
use Rattle.cpa_call.specs.Plans.{Held, Refuse}
use Rattle.cpa_effects.specs.Calls.{is_no_word, is_count, is_chain, Asked, refused_at, chain_on, chain_from, accepted, plan_for, plan_of}

-- who is named is there
task_at_place : (o : Option ℕ) (i : TaskId) → option_map (λ k. record { 0 = k }) o ≡ Some i → o ≡ Some i.0
task_at_place None i e = absurd (none-some _ e)
task_at_place (Some k) i e = ap (option_map (λ (q : TaskId). q.0)) e

pub task-there : (s : SystemLists) (name : List ℕ) (i : TaskId) → task_named s name ≡ Some i → i.0 < length s.tasks
task-there s name i e = (position-Some _ s.tasks i.0 no_task (task_at_place _ i e)).0

pub list_any_map : {X Y : Type 0} (p : Y → Bool) (f : X → Y) (xs : List X) → list_any p (map f xs) ≡ list_any (λ x. p (f x)) xs
list_any_map p f [] = refl
list_any_map p f (x ∷ xs) = ap (λ b. p (f x) || b) (list_any_map p f xs)

-- the words of a chain
pub chain-words : {X : Type 0} (f : X → List ℕ) (xs : List X) (bad : Bool) → is_count (length xs) ≡ true → bad ≡ list_any (λ x. is_no_word (f x)) xs → not bad ≡ is_chain (map f xs)
chain-words f xs bad few is =
    let long : is_count (length (map f xs)) ≡ true = ap is_count (length-map xs f) ∙ few in
    ap not (is ∙ sym (list_any_map is_no_word f xs)) ∙ ap (λ b. b && not (list_any is_no_word (map f xs))) (sym long)

module _ (s : SystemLists) (place : ℕ) (found : List TaskId) (names : List (List ℕ)) (k : ℕ) (name : List ℕ) (less : k < length names) (is : get_or names k [] ≡ name) where
  next-name : chain_from s place found (drop k names) ≡ chain_from s place found (name ∷ drop (k + 1) names)
  next-name = at_drop_more (chain_from s place found) names k [] less ∙ ap (λ n. chain_from s place found (n ∷ drop (k + 1) names)) is

  pub found-next : (i : TaskId) → Some i ≡ task_named s name → chain_from s place found (drop k names) ≡ chain_from s (place + 1) (found ++ i ∷ []) (drop (k + 1) names)
  found-next i named = next-name ∙ ap (chain_on (refused_at place) (λ j. chain_from s (place + 1) (found ++ j ∷ []) (drop (k + 1) names))) (sym named)

  pub missed-next : None ≡ task_named s name → chain_from s place found (drop k names) ≡ refused_at place
  missed-next named = next-name ∙ ap (chain_on (refused_at place) (λ j. chain_from s (place + 1) (found ++ j ∷ []) (drop (k + 1) names))) (sym named)

pub one-more_there : (s : SystemLists) (found more : List TaskId) (i : TaskId) → All (λ (j : TaskId). j.0 < length s.tasks) found → i.0 < length s.tasks → more ≡ found ++ i ∷ [] → All (λ (j : TaskId). j.0 < length s.tasks) more
one-more_there s found more i before here is =
    subst (All (λ (j : TaskId). j.0 < length s.tasks)) (sym is)
    (All-append (λ (j : TaskId). j.0 < length s.tasks) found (i ∷ []) before (λ k d less. only k d less))
  where
    only : (k : ℕ) (d : TaskId) → k < 1 → (get_or (i ∷ []) k d).0 < length s.tasks
    only k d less = let e : k ≡ 0 = omega arith in rw e here

-- ---- plans

pub plan-some : (words : List (List ℕ)) (held : Held) (it : Asked) → Some it ≡ accepted words → plan_of words held ≡ plan_for held it
unfolding plan_of
plan-some words held it e = rw (← e) refl

pub plan-none : (words : List (List ℕ)) (held : Held) → None ≡ accepted words → plan_of words held ≡ Refuse 10 words_refused
unfolding plan_of
plan-none words held e = rw (← e) refl
