-- No two tasks of the redraft of a system have one priority on one resource.
use Rattle.std.proofs.Common.{◌≡◌, ◌≢◌, ℕ, ℤ, suc, ◌<◌, Bool, true, false, cond, List, [], ◌∷◌, length, take, get_or, Option, Some, None, option_map, refl, sym, ap, ◌∙◌, arith, length-take}
use Rattle.std.specs.List.{list_any, filter_map, cons_option}
use Rattle.std.proofs.lemmas.Bool.{and_parts, eqb-true, false_from_ne_true}
use Rattle.std.proofs.lemmas.List.{get_or-take}
use Rattle.std.proofs.lemmas.Option.{none-some, same_Some}
use Rattle.cpa_draft.specs.Numbers.{nat_of}
use Rattle.cpa_draft.specs.First.{first_place}
use Rattle.cpa_draft.specs.Refusals.{by_priority, rank_of, same_rank, is_taken}
use Rattle.cpa_draft.specs.DraftLists.{DraftLists}
use Rattle.cpa_draft.specs.declared.draft.DraftTask.{DraftTask}
use Rattle.cpa_draft.proofs.FirstLemmas.{all_unmarked}
use Rattle.cpa_model.specs.declared.entries.Task.{Task}
use Rattle.cpa_model.specs.declared.entries.Turn.{Turn}
use Rattle.cpa_model.specs.declared.entries.Turn.TheVariants as turn
use Rattle.cpa_model.specs.SystemLists.{SystemLists, resource_at, no_task}
use Rattle.cpa_model.specs.Rules.{IsSystem, IsTask}
use Rattle.cpa_model.specs.Redraft.{word_of, priority_at, redraft_task, redraft}
use Rattle.cpa_model.proofs.RedraftNames.{place_of-resource, kind_of-redraft, tasks-redraft, task_at-redraft}

-- a test that marks neither what is given first nor what is given later
none-cons : {Y : Type 0} (p : Y → Bool) (o : Option Y) (ys : List Y) → ((y : Y) → o ≡ Some y → p y ≡ false) → list_any p ys ≡ false → list_any p (cons_option o ys) ≡ false
none-cons p None ys here later = later
none-cons p (Some y) ys here later = rw (here y refl) later

-- nor what it marks in what a list gives
none-kept : {X Y : Type 0} (f : X → Option Y) (p : Y → Bool) (xs : List X) → ((i : ℕ) (d : X) → i < length xs → (y : Y) → f (get_or xs i d) ≡ Some y → p y ≡ false) → list_any p (filter_map f xs) ≡ false
none-kept f p [] each = refl
none-kept f p (x ∷ xs) each = none-cons p (f x) (filter_map f xs) (each 0 x (omega arith)) (none-kept f p xs (λ i d less. each (suc i) d (omega arith)))

-- a rank is that of a turn with this priority
rank-turn : (b : Bool) (place : ℕ) (u : Turn) (r : ℕ × ℕ) → cond b (option_map {U = ℕ × ℕ} (λ (z : ℤ). (place, nat_of z)) (priority_at u)) None ≡ Some r → (place ≡ r.0) × (u ≡ turn.Priority r.1)
rank-turn true place (turn.Priority number) r is = let same : (place, number) ≡ r = same_Some _ r is in rw (← same) (refl, refl)
rank-turn true place (turn.Slot ticks) r is = absurd (none-some r is)
rank-turn true place turn.Queued r is = absurd (none-some r is)
rank-turn false place u r is = absurd (none-some r is)

-- the rank of a task of the redraft
rank-redraft : (s : SystemLists) → IsSystem s → (t : Task) → IsTask s t → (r : ℕ × ℕ) → rank_of (redraft s) (redraft_task s t) ≡ Some r → (t.res.0 ≡ r.0) × (t.turn ≡ turn.Priority r.1)
rank-redraft s rules t fits r is =
    rank-turn (by_priority (Some (word_of (resource_at s t.res.0).kind))) t.res.0 t.turn r
    (rw (kind_of-redraft s rules t.res.0 fits.placed, place_of-resource s rules t.res.0 fits.placed) at is)

-- ranks that a test can't tell apart are the same
same-rank : (a b : ℕ × ℕ) → same_rank a b ≡ true → (a.0 ≡ b.0) × (a.1 ≡ b.1)
same-rank a b h = let parts = and_parts _ _ h in (eqb-true _ _ parts.0, eqb-true _ _ parts.1)

-- two tasks of a system have no one rank
ranks-apart : (s : SystemLists) → IsSystem s → (i k : ℕ) (t : Task) → i < k → k < length s.tasks → (a b : ℕ × ℕ)
    → rank_of (redraft s) (redraft_task s (get_or s.tasks k t)) ≡ Some a → rank_of (redraft s) (redraft_task s (get_or s.tasks i t)) ≡ Some b → same_rank a b ≡ false
ranks-apart s rules i k t before less a b rank-k rank-i = false_from_ne_true _ apart
  where
    apart : same_rank a b ≢ true
    apart h =
        let same = same-rank a b h in
        let later = rank-redraft s rules (get_or s.tasks k t) (rules.tasks k t less) a rank-k in
        let first = rank-redraft s rules (get_or s.tasks i t) (rules.tasks i t (omega arith)) b rank-i in
        let place : (get_or s.tasks i t).res ≡ (get_or s.tasks k t).res = ap (λ n. record { 0 = n }) (first.0 ∙ sym same.0 ∙ sym later.0) in
        rules.priorities i k t before less place a.1 (first.1 ∙ ap turn.Priority (sym same.1)) later.1

-- a rank that none of some tasks has isn't taken by them
untaken : (o : Option (ℕ × ℕ)) (d : DraftLists) (ts : List DraftTask) → ((a : ℕ × ℕ) → o ≡ Some a → (i : ℕ) (t : DraftTask) → i < length ts → (b : ℕ × ℕ) → rank_of d (get_or ts i t) ≡ Some b → same_rank a b ≡ false)
    → is_taken o (filter_map (rank_of d) ts) ≡ false
untaken None d ts each = refl
untaken (Some a) d ts each = none-kept (rank_of d) (same_rank a) ts (each a refl)

-- so none is taken by those before
rank-own : (s : SystemLists) → IsSystem s → (k : ℕ) (t : DraftTask) → k < length (redraft s).tasks
    → is_taken (rank_of (redraft s) (get_or (redraft s).tasks k t)) (filter_map (rank_of (redraft s)) (take k (redraft s).tasks)) ≡ false
rank-own s rules k t less =
    let here : k < length s.tasks = omega (arith, tasks-redraft s) in
    untaken (rank_of (redraft s) (get_or (redraft s).tasks k t)) (redraft s) (take k (redraft s).tasks)
    (λ a rank-k i u below b rank-i.
    let before : i < k = omega (arith, length-take k (redraft s).tasks) in
    ranks-apart s rules i k no_task before here a b
    (ap (rank_of (redraft s)) (sym (task_at-redraft s k t here)) ∙ rank-k)
    (ap (rank_of (redraft s)) (sym (get_or-take k (redraft s).tasks i u before ∙ task_at-redraft s i u (omega arith))) ∙ rank-i))

-- and no task has the priority of one before it
pub ranks-own : (s : SystemLists) → IsSystem s → first_place (λ k t. is_taken (rank_of (redraft s) t) (filter_map (rank_of (redraft s)) (take k (redraft s).tasks))) (redraft s).tasks ≡ None
ranks-own s rules = all_unmarked (λ k t. is_taken (rank_of (redraft s) t) (filter_map (rank_of (redraft s)) (take k (redraft s).tasks))) (redraft s).tasks (rank-own s rules)
