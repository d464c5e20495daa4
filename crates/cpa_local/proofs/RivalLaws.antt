-- The other tasks of a resource, found one by one among its tasks.
use Rattle.std.proofs.Common.{◌≡◌, ◌≢◌, ℕ, zero, suc, ◌+◌, ◌<◌, ◌≤◌, ◌==◌, nat_lt, not, cond, Bool, true, false, List, [], ◌∷◌, ◌++◌, length, take, get_or, refl, sym, ap, ◌∙◌, arith, subst}
use Rattle.std.specs.Prelude.{filter}
use Rattle.std.proofs.lemmas.Bool.{and_parts, ltb-true, true≢false}
use Rattle.std.proofs.lemmas.Bool.Decides.{nat_tests}
use Rattle.std.proofs.lemmas.List.{take_all, take_more, length-append, length-map, map-append, append-nil}
use Rattle.std.proofs.lemmas.List.Elements.{filter-append}
use Rattle.cpa_units.specs.declared.places.TaskId.{TaskId}
use Rattle.cpa_units.proofs.PlaceLaws.{places, places-more}
use Rattle.cpa_model.specs.SystemLists.{SystemLists, is_on, is_higher, is_other, task_places, tasks_on, place_of, places_of, priority_of, task_at}

-- a resource has as many tasks as its list
pub places-long : (ids : List TaskId) (places : List ℕ) → places_of ids ≡ places → length ids ≡ length places
places-long ids places e = sym (length-map ids place_of) ∙ ap length e

-- no task is of higher priority than itself
higher-other : (s : SystemLists) (i k : ℕ) → is_higher s i k ≡ true → k ≢ i
higher-other s i k h same =
    let own : is_higher s i i ≡ true = subst (λ j. is_higher s i j ≡ true) same h in
    let less_own : priority_of (task_at s i).turn < priority_of (task_at s i).turn = ltb-true _ _ (and_parts _ _ own).1 in
    omega (arith, less_own)

-- no task is another than itself
other-other : (s : SystemLists) (i k : ℕ) → is_other s i k ≡ true → k ≢ i
other-other s i k h = differs k i (and_parts _ _ h).1
  where
    differs : (j i : ℕ) → not (j == i) ≡ true → j ≢ i
    differs j i d = grind (arith, nat_tests)

-- both are on the task's resource
eqb-sym : (a b : ℕ) → (a == b) ≡ true → (b == a) ≡ true
eqb-sym a b h = grind (arith, nat_tests)

pub higher-on : (s : SystemLists) (i k : ℕ) → is_higher s i k ≡ true → is_on s (task_at s i).res.0 k ≡ true
higher-on s i k h = eqb-sym (task_at s i).res.0 (task_at s k).res.0 (and_parts _ _ h).0

pub lower-on : (s : SystemLists) (i k : ℕ) → is_higher s k i ≡ true → is_on s (task_at s i).res.0 k ≡ true
lower-on s i k h = (and_parts _ _ h).0

pub other-on : (s : SystemLists) (i k : ℕ) → is_other s i k ≡ true → is_on s (task_at s i).res.0 k ≡ true
other-on s i k h = eqb-sym (task_at s i).res.0 (task_at s k).res.0 (and_parts _ _ h).0

-- ---- one task of the resource further

pub take-places : (ids : List TaskId) (k : ℕ) (d : TaskId) → k < length ids → places_of (take (k + 1) ids) ≡ places_of (take k ids) ++ (get_or ids k d).0 ∷ []
take-places ids k d less = ap places_of (take_more ids k d less) ∙ map-append place_of (take k ids) (get_or ids k d ∷ [])

pub passing-more : (q : ℕ → Bool) (ids : List TaskId) (k : ℕ) (d : TaskId) → k < length ids → q (get_or ids k d).0 ≡ true
    → filter q (places_of (take (k + 1) ids)) ≡ filter q (places_of (take k ids)) ++ (get_or ids k d).0 ∷ []
passing-more q ids k d less passes =
    let one : filter q ((get_or ids k d).0 ∷ []) ≡ (get_or ids k d).0 ∷ [] = rw passes refl in
    ap (filter q) (take-places ids k d less) ∙ filter-append q (places_of (take k ids)) ((get_or ids k d).0 ∷ []) ∙ ap (λ js. filter q (places_of (take k ids)) ++ js) one

pub failing-more : (q : ℕ → Bool) (ids : List TaskId) (k : ℕ) (d : TaskId) → k < length ids → q (get_or ids k d).0 ≡ false
    → filter q (places_of (take (k + 1) ids)) ≡ filter q (places_of (take k ids))
failing-more q ids k d less fails =
    let none : filter q ((get_or ids k d).0 ∷ []) ≡ [] = rw fails refl in
    ap (filter q) (take-places ids k d less) ∙ filter-append q (places_of (take k ids)) ((get_or ids k d).0 ∷ []) ∙ ap (λ js. filter q (places_of (take k ids)) ++ js) none ∙ append-nil (filter q (places_of (take k ids)))

-- a test that only passes what another passes
filter-narrow : (p q : ℕ → Bool) → ((j : ℕ) → q j ≡ true → p j ≡ true) → (js : List ℕ) → filter q (filter p js) ≡ filter q js
filter-narrow p q narrow [] = refl
filter-narrow p q narrow (j ∷ js) = by (p j) (q j) refl refl (filter-narrow p q narrow js)
  where
    by : (b c : Bool) → p j ≡ b → q j ≡ c → filter q (filter p js) ≡ filter q js → filter q (filter p (j ∷ js)) ≡ filter q (j ∷ js)
    by true true e f rest = rw (e, f) (ap (λ ks. j ∷ ks) rest)
    by true false e f rest = rw (e, f) rest
    by false false e f rest = rw (e, f) rest
    by false true e f rest = absurd (true≢false (sym (narrow j f) ∙ e))

-- the tasks of the resource have all that pass
pub found-all : (s : SystemLists) (r : ℕ) (q : ℕ → Bool) (ids : List TaskId) (k : ℕ) → ((j : ℕ) → q j ≡ true → is_on s r j ≡ true) → places_of ids ≡ tasks_on s r → length ids ≤ k
    → filter q (places_of (take k ids)) ≡ filter q (task_places s)
found-all s r q ids k narrow are end =
    ap (λ ts. filter q (places_of ts)) (take_all k ids end) ∙ ap (filter q) are ∙ filter-narrow (is_on s r) q narrow (task_places s)

-- ---- a task isn't among its neighbours, so that there are fewer than all

found-few : (q : ℕ → Bool) (i n : ℕ) → q i ≡ false → length (filter q (places n)) + cond (nat_lt i n) 1 0 ≤ n
found-few q i zero fails = start
  where
    start : 0 + cond (nat_lt i 0) 1 0 ≤ 0
    start = grind (arith, nat_tests)
found-few q i (suc n) fails =
    let more : suc n ≡ n + 1 = omega arith in
    subst (λ m. length (filter q (places m)) + cond (nat_lt i m) 1 0 ≤ m) (sym more) (next (q n) refl (found-few q i n fails))
  where
    step : (found : ℕ) → n ≢ i → found + cond (nat_lt i n) 1 0 ≤ n → found + 1 + cond (nat_lt i (n + 1)) 1 0 ≤ n + 1
    step found other few = grind (arith, nat_tests)

    left : (found : ℕ) → found + cond (nat_lt i n) 1 0 ≤ n → found + cond (nat_lt i (n + 1)) 1 0 ≤ n + 1
    left found few = grind (arith, nat_tests)

    grown : filter q (places (n + 1)) ≡ filter q (places n) ++ filter q (n ∷ [])
    grown = ap (filter q) (places-more n) ∙ filter-append q (places n) (n ∷ [])

    next : (b : Bool) → q n ≡ b → length (filter q (places n)) + cond (nat_lt i n) 1 0 ≤ n → length (filter q (places (n + 1))) + cond (nat_lt i (n + 1)) 1 0 ≤ n + 1
    next true e few =
        let one : filter q (n ∷ []) ≡ n ∷ [] = rw e refl in
        let long : length (filter q (places (n + 1))) ≡ length (filter q (places n)) + 1 = ap length (grown ∙ ap (λ js. filter q (places n) ++ js) one) ∙ length-append (filter q (places n)) (n ∷ []) in
        rw long (step (length (filter q (places n))) (λ same. true≢false (sym e ∙ ap q same ∙ fails)) few)
    next false e few =
        let none : filter q (n ∷ []) ≡ [] = rw e refl in
        let long : length (filter q (places (n + 1))) ≡ length (filter q (places n)) = ap length (grown ∙ ap (λ js. filter q (places n) ++ js) none ∙ append-nil (filter q (places n))) in
        rw long (left (length (filter q (places n))) few)

not-own : (q : ℕ → Bool) (i : ℕ) → ((k : ℕ) → q k ≡ true → k ≢ i) → q i ≡ false
not-own q i other = by (q i) refl
  where
    by : (b : Bool) → q i ≡ b → q i ≡ false
    by true e = absurd (other i e refl)
    by false e = e

fewer : (s : SystemLists) (q : ℕ → Bool) (i : ℕ) → i < length s.tasks → ((k : ℕ) → q k ≡ true → k ≢ i) → length (filter q (task_places s)) < length s.tasks
fewer s q i less other =
    let few = found-few q i (length s.tasks) (not-own q i other) in
    by-own (length (filter q (task_places s))) (length s.tasks) less few
  where
    by-own : (found n : ℕ) → i < n → found + cond (nat_lt i n) 1 0 ≤ n → found < n
    by-own found n there few = grind (arith, nat_tests)

pub higher-few : (s : SystemLists) (i : ℕ) → i < length s.tasks → length (filter (is_higher s i) (task_places s)) < length s.tasks
higher-few s i less = fewer s (is_higher s i) i less (higher-other s i)

pub others-few : (s : SystemLists) (i : ℕ) → i < length s.tasks → length (filter (is_other s i) (task_places s)) < length s.tasks
others-few s i less = fewer s (is_other s i) i less (other-other s i)
