-- Names that differ, and the places at which they are found.
use Rattle.std.proofs.Common.{◌≡◌, ◌≢◌, ℕ, zero, suc, ◌+◌, ◌<◌, ◌||◌, Bool, true, false, List, [], ◌∷◌, ◌++◌, map, length, take, get_or, slice_index_or, Option, Some, None, is_none, unwrap_or, refl, sym, ap, ◌∙◌, inl, inr, arith, length-take, length-append}
use Rattle.std.proofs.lemmas.List.{length-map, get_or-map, get_or-take, get_or_append_left, get_or-append-add}
use Rattle.std.proofs.lemmas.List.Quantifiers.{position-Some}
use Rattle.std.specs.List.{position_from, list_any, list_all, AllPairs}
use Rattle.std.specs.Str.{bytes_eq}
use Rattle.std.proofs.lemmas.Bool.{true≢false, false_from_ne_true, cases_lt}
use Rattle.std.proofs.lemmas.Slice.Eq.{bytes_eq-Decides}
use Rattle.std.proofs.lemmas.Iterator.Adapters.{position_from-zero}
use Rattle.cpa_draft.specs.First.{first_known}
use Rattle.cpa_draft.specs.Names.{place_of}
use Rattle.cpa_draft.proofs.FirstLemmas.{none_marked, all_unmarked}
use Rattle.cpa_draft.proofs.ListLaws.{any-append, none-at, none-any, all-map, all-append, pairs-map, pairs-append, passes-at, get_or-any}
use Rattle.cpa_draft.specs.DraftLists.{DraftLists, no_task, task_at}
use Rattle.cpa_draft.specs.declared.draft.DraftTask.{DraftTask}
use Rattle.cpa_draft.specs.Search.{is_short, HaveSameNames, AreLongLists}
use Rattle.std.proofs.lemmas.List.{take_more}
use Rattle.std.proofs.lemmas.List.Folds.{list_any-append}
use Rattle.std.proofs.Math.ListN.{get_or-eq_default}

-- no two names are the same
abbrev pub Differ : List (List ℕ) → Type 0
Differ names = AllPairs (λ first second. first ≢ second) names

pub same-bytes : (a : List ℕ) → bytes_eq a a ≡ true
same-bytes a = (bytes_eq-Decides a a).1 refl

pub bytes-same : (a b : List ℕ) → bytes_eq a b ≡ true → a ≡ b
bytes-same a b h = (bytes_eq-Decides a b).0 h

pub other-bytes : (a b : List ℕ) → bytes_eq a b ≡ false → a ≢ b
other-bytes a b h same = true≢false (sym ((bytes_eq-Decides a b).1 same) ∙ h)

pub differ-bytes : (a b : List ℕ) → a ≢ b → bytes_eq a b ≡ false
differ-bytes a b h = false_from_ne_true _ (λ e. h ((bytes_eq-Decides a b).0 e))

-- where a name is found
pub at_place : (names : List (List ℕ)) (a : List ℕ) (k : ℕ) → place_of names a ≡ Some k → a ≡ get_or names k []
at_place names a k e = (bytes_eq-Decides a (get_or names k [])).0 (position-Some (bytes_eq a) names k [] e).1

pub place_below : (names : List (List ℕ)) (a : List ℕ) (k : ℕ) → place_of names a ≡ Some k → k < length names
place_below names a k e = (position-Some (bytes_eq a) names k [] e).0

-- two names that are found at one place are the same
pub same_name : (names : List (List ℕ)) (a b : List ℕ) (o p : Option ℕ) → place_of names a ≡ o → place_of names b ≡ p → is_none o ≡ false → is_none p ≡ false → unwrap_or o 0 ≡ unwrap_or p 0 → a ≡ b
same_name names a b None p ea eb so sp e = absurd (true≢false so)
same_name names a b (Some k) None ea eb so sp e = absurd (true≢false sp)
same_name names a b (Some k) (Some l) ea eb so sp e = at_place names a k ea ∙ rw e (sym (at_place names b l eb))

-- the first that passes is found
position_from-first : (p : List ℕ → Bool) (n : ℕ) (xs : List (List ℕ)) (k : ℕ) → k < length xs → p (get_or xs k []) ≡ true → ((j : ℕ) → j < k → p (get_or xs j []) ≡ false) → position_from p n xs ≡ Some (n + k)
position_from-first p n [] k h here before = absurd (omega arith)
position_from-first p n (x ∷ xs) zero h here before = rw here (ap Some (omega arith))
position_from-first p n (x ∷ xs) (suc k) h here before =
    rw (before 0 (omega arith))
    (position_from-first p (n + 1) xs k (omega arith) here (λ j less. before (suc j) (omega arith)) ∙ ap Some (omega arith))

-- a name that differs from all others stands at its own place
pub place_of-own : (names : List (List ℕ)) (k : ℕ) → Differ names → k < length names → place_of names (get_or names k []) ≡ Some k
place_of-own names k differ h =
    position_from-zero (bytes_eq (get_or names k [])) names
    ∙ position_from-first (bytes_eq (get_or names k [])) 0 names k h (same-bytes (get_or names k []))
    (λ j less. differ-bytes _ _ (λ e. differ j k [] less h (sym e)))
    ∙ ap Some (omega arith)

-- names that are new differ
pub new-differ : {X : Type 0} (name : X → List ℕ) (before : List (List ℕ)) (xs : List X) → first_known name before xs ≡ None → Differ before → Differ (before ++ map name xs)
unfolding first_known
new-differ name before xs new differ =
    pairs-append (λ a b. a ≢ b) before (map name xs) differ
    (pairs-map (λ a b. a ≢ b) name xs later)
    (λ i d less. all-map (λ b. get_or before i d ≢ b) name xs (λ j x below. earlier i d less j x below))
  where
    unknown : (k : ℕ) (x : _) → k < length xs → list_any (bytes_eq (name (get_or xs k x))) (before ++ take k (map name xs)) ≡ false
    unknown k x less = none_marked (λ k x. list_any (bytes_eq (name x)) (before ++ take k (map name xs))) xs k x new less

    later : (i j : ℕ) (x : _) → i < j → j < length xs → name (get_or xs i x) ≢ name (get_or xs j x)
    later i j x less below =
        let long : i < length (take j (map name xs)) = omega (arith, length-take j (map name xs), length-map xs name) in
        let none = none-at (bytes_eq (name (get_or xs j x))) (take j (map name xs)) i [] (any-append _ before (take j (map name xs)) (unknown j x below)).1 long in
        λ same. other-bytes _ _ none (sym (get_or-take j (map name xs) i [] less ∙ get_or-map name xs i x [] (omega arith) ∙ same))

    earlier : (i : ℕ) (d : List ℕ) → i < length before → (j : ℕ) (x : _) → j < length xs → get_or before i d ≢ name (get_or xs j x)
    earlier i d less j x below =
        let none = none-at (bytes_eq (name (get_or xs j x))) before i d (any-append _ before (take j (map name xs)) (unknown j x below)).0 less in
        λ same. other-bytes _ _ none (sym same)

-- and names that differ are new
pub differ-new : {X : Type 0} (name : X → List ℕ) (before : List (List ℕ)) (xs : List X) → Differ (before ++ map name xs) → first_known name before xs ≡ None
unfolding first_known
differ-new name before xs differ =
    all_unmarked (λ k x. list_any (bytes_eq (name x)) (before ++ take k (map name xs))) xs
    (λ k x less. none-any (bytes_eq (name (get_or xs k x))) (before ++ take k (map name xs))
    (all-append (λ b. bytes_eq (name (get_or xs k x)) b ≡ false) before (take k (map name xs))
    (λ i d below. differ-bytes _ _ (λ same. apart i k d below less (own k x d less ∙ same)))
    (λ i d below. differ-bytes _ _ (λ same. later i k d (shorter k i below) less (own k x d less ∙ same ∙ get_or-take k (map name xs) i d (shorter k i below))))))
  where
    shorter : (k i : ℕ) → i < length (take k (map name xs)) → i < k
    shorter k i below = omega (arith, length-take k (map name xs))

    own : (k : ℕ) (x : _) (d : List ℕ) → k < length xs → get_or (map name xs) k d ≡ name (get_or xs k x)
    own k x d less = get_or-map name xs k x d less

    apart : (i k : ℕ) (d : List ℕ) → i < length before → k < length xs → get_or (map name xs) k d ≢ get_or before i d
    apart i k d below less same =
        differ i (length before + k) d (omega arith) (omega (arith, length-append before (map name xs), length-map xs name))
        (get_or_append_left before (map name xs) d i below ∙ sym same ∙ sym (get_or-append-add before (map name xs) k d))

    later : (i k : ℕ) (d : List ℕ) → i < k → k < length xs → get_or (map name xs) k d ≢ get_or (map name xs) i d
    later i k d before_it less same =
        differ (length before + i) (length before + k) d (omega arith) (omega (arith, length-append before (map name xs), length-map xs name))
        (get_or-append-add before (map name xs) i d ∙ sym same ∙ sym (get_or-append-add before (map name xs) k d))

-- one more name of a list, which is put into a set
same-added : (names found : List (List ℕ)) (name : List ℕ) → HaveSameNames names found → HaveSameNames (names ++ name ∷ []) (found ++ name ∷ [])
same-added names found name same x = rw (list_any-append (bytes_eq x) found (name ∷ []), list_any-append (bytes_eq x) names (name ∷ []), same x) refl

same-known : (names found : List (List ℕ)) (name : List ℕ) → list_any (bytes_eq name) found ≡ true → HaveSameNames names found → HaveSameNames (names ++ name ∷ []) found
same-known names found name known same x = by (bytes_eq x name) refl
  where
    joined : list_any (bytes_eq x) (names ++ name ∷ []) ≡ (list_any (bytes_eq x) found || (bytes_eq x name || false))
    joined = list_any-append (bytes_eq x) names (name ∷ []) ∙ ap (λ b. b || (bytes_eq x name || false)) (sym (same x))

    or-false : (b : Bool) → (b || (false || false)) ≡ b
    or-false true = refl
    or-false false = refl

    by : (b : Bool) → bytes_eq x name ≡ b → list_any (bytes_eq x) found ≡ list_any (bytes_eq x) (names ++ name ∷ [])
    by true is =
        let there : list_any (bytes_eq x) found ≡ true = rw ((bytes_eq-Decides x name).0 is) known in
        rw (joined, there) refl
    by false is = sym (joined ∙ rw is (or-false (list_any (bytes_eq x) found)))

pub same-more : (names : List (List ℕ)) (k : ℕ) (name : List ℕ) (found after : List (List ℕ)) (new : Bool) → k < length names → name ≡ get_or names k name
    → (new ≡ true → after ≡ found ++ name ∷ []) → (new ≡ false → list_any (bytes_eq name) found ≡ true) → (new ≡ false → after ≡ found)
    → HaveSameNames (take k names) found → HaveSameNames (take (k + 1) names) after
same-more names k name found after true less at added known unchanged same =
    rw (take_more names k name less, ← at, added refl) (same-added (take k names) found name same)
same-more names k name found after false less at added known unchanged same =
    rw (take_more names k name less, ← at, unchanged refl) (same-known (take k names) found name (known refl) same)

-- one more task, whose names are put into a set where there are many
pub long-more : (tasks : List DraftTask) (lists : List (List (List ℕ))) (k : ℕ) (t : DraftTask) (names : List (List ℕ)) → k < length tasks → t ≡ get_or tasks k t → length lists ≡ k
    → (is_short t.after ≡ false → HaveSameNames t.after names)
    → ((i : ℕ) → i < k → is_short (slice_index_or tasks i no_task).after ≡ false → HaveSameNames (slice_index_or tasks i no_task).after (slice_index_or lists i []))
    → (i : ℕ) → i < k + 1 → is_short (slice_index_or tasks i no_task).after ≡ false → HaveSameNames (slice_index_or tasks i no_task).after (slice_index_or (lists ++ names ∷ []) i [])
long-more tasks lists k t names less is count here before i below = elim (cases_lt i k) [
  | inl earlier ↦ λ short. rw (get_or_append_left lists (names ∷ []) [] i (omega arith)) (before i earlier short)
  | inr late ↦
      let last : i ≡ k = omega arith in
      let same : slice_index_or tasks i no_task ≡ t = rw last (get_or-any tasks k no_task t less ∙ sym is) in
      let end : i ≡ length lists + 0 = omega arith in
      let found : slice_index_or (lists ++ names ∷ []) i [] ≡ names = rw end (get_or-append-add lists (names ∷ []) 0 []) in
      λ short. rw (same, found) (here (rw same at short))
]

-- past the tasks there are no names
pub long-all : (d : DraftLists) (lists : List (List (List ℕ))) → ((i : ℕ) → i < length d.tasks → is_short (task_at d i).after ≡ false → HaveSameNames (task_at d i).after (slice_index_or lists i []))
    → AreLongLists d lists
long-all d lists each i long = elim (cases_lt i (length d.tasks)) [
  | inl below ↦ each i below long
  | inr past ↦
      let none : task_at d i ≡ no_task = get_or-eq_default d.tasks no_task past in
      absurd (true≢false (rw none at long))
]

-- where all lists are short, no set is made
pub long-none : (d : DraftLists) → list_all (λ (t : DraftTask). is_short t.after) d.tasks ≡ true → AreLongLists d []
long-none d short = long-all d [] (λ i below long. absurd (true≢false (sym (passes-at (λ (t : DraftTask). is_short t.after) d.tasks i no_task short below) ∙ long)))
