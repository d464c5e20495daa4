-- Whether a resource has tasks, by the list of them.
use Rattle.std.proofs.Common.{◌≡◌, ℕ, Bool, true, false, ◌||◌, ◌==◌, nat_lt, if◌then◌else◌, List, [], ◌∷◌, map, length, filter, refl, sym, ap, ◌∙◌, rules, arith}
use Rattle.std.specs.List.{list_any}
use Rattle.cpa_units.proofs.PlaceLaws.{map-all_places}
use Rattle.cpa_model.specs.declared.entries.Task.{Task}
use Rattle.cpa_model.specs.SystemLists.{SystemLists, is_on, no_task, task_places, tasks_on}
use Rattle.cpa_trace.specs.Breaches.{has_tasks}

any-map : {X : Type 0} (p : X → Bool) (xs : List X) → list_any p xs ≡ list_any (λ b. b) (map p xs)
any-map p [] = refl
any-map p (x ∷ xs) = ap (λ b. p x || b) (any-map p xs)

if_kept : {X : Type 0} (b c : Bool) (x : X) (kept : List X) → c ≡ nat_lt 0 (length kept) → (b || c) ≡ nat_lt 0 (length (if b then x ∷ kept else kept))
if_kept true c x kept e = search (rules, arith)
if_kept false c x kept e = e

any-filter : {X : Type 0} (p : X → Bool) (xs : List X) → list_any p xs ≡ nat_lt 0 (length (filter p xs))
any-filter p [] = refl
any-filter p (x ∷ xs) = if_kept (p x) (list_any p xs) x (filter p xs) (any-filter p xs)

pub has_tasks-by_list : (s : SystemLists) (r : ℕ) → has_tasks s r ≡ nat_lt 0 (length (tasks_on s r))
has_tasks-by_list s r =
    let on : Task → Bool = λ t. t.res.0 == r in
    any-map on s.tasks ∙ ap (list_any (λ b. b)) (sym (map-all_places on s.tasks no_task)) ∙ sym (any-map (is_on s r) (task_places s)) ∙ any-filter (is_on s r) (task_places s)
