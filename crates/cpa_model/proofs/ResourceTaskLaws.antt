-- The tasks of each resource, as tasks come, change and go.
use Rattle.std.proofs.Common.{◌≡◌, ◌≢◌, ℕ, zero, suc, ◌+◌, ◌-◌, ◌<◌, ◌≤◌, ◌==◌, not, Bool, true, false, cond, List, [], ◌∷◌, ◌++◌, All, length, map, take, set, replicate, slice_index_or, get_or, refl, sym, ap, ◌∙◌, inl, inr, arith, subst, get_or-set_same, get_or-set_other}
use Rattle.std.specs.Prelude.{filter}
use Rattle.std.specs.List.{remove, sum_by}
use Rattle.std.proofs.Math.Seq.{get_or-append_seam}
use Rattle.std.proofs.lemmas.Bool.{cases_eq, lt-ltb, le-ltb, eq-eqb, eqb-true, ne_eqb}
use Rattle.std.proofs.lemmas.List.{take_all, length-append, length-set, length-map, get_or-map, get_or_append_left, map-append, append-nil, get_or-replicate, length-replicate}
use Rattle.std.proofs.lemmas.List.Edits.{length-remove, get_or-remove_below, get_or-remove_above}
use Rattle.std.proofs.lemmas.List.Elements.{filter-append, All-append}
use Rattle.std.proofs.lemmas.List.Sums.{sum_by-cons, sum_by_more}
use Rattle.std.proofs.lemmas.List.Filters.{length-filter_both}
use Rattle.std.proofs.lemmas.List.FromFn.{length-range_with_len}
use Rattle.cpa_draft.proofs.ListLaws.{get_or-any}
use Rattle.cpa_units.specs.declared.places.TaskId.{TaskId}
use Rattle.cpa_units.proofs.PlaceLaws.{places, places-more}
use Rattle.cpa_model.specs.declared.entries.Task.{Task}
use Rattle.cpa_model.specs.Changes.{place_without, ids_without, task_without}
use Rattle.cpa_model.specs.SystemLists.{SystemLists, task_at, is_on, tasks_on, no_task, place_of, places_of}
use Rattle.cpa_model.specs.ResourceTasks.{listed_on, with_task_added, is_placed_on, AreTasksByResource}

-- a place, where it passes
abbrev pub if_passing : (ℕ → Bool) → ℕ → List ℕ
if_passing p k = cond (p k) (k ∷ []) []

one-passing : (p : ℕ → Bool) (k : ℕ) (b : Bool) → p k ≡ b → filter p (k ∷ []) ≡ cond b (k ∷ []) []
one-passing p k true e = rw e refl
one-passing p k false e = rw e refl

-- one place more
pub filter-places_more : (p : ℕ → Bool) (k : ℕ) → filter p (places (k + 1)) ≡ filter p (places k) ++ if_passing p k
filter-places_more p k =
    ap (filter p) (places-more k) ∙ filter-append p (places k) (k ∷ []) ∙ ap (λ js. filter p (places k) ++ js) (one-passing p k (p k) refl)

-- tests that agree on the places below n
pub filter-below : (p q : ℕ → Bool) (n : ℕ) → ((k : ℕ) → k < n → p k ≡ q k) → filter p (places n) ≡ filter q (places n)
filter-below p q zero same = refl
filter-below p q (suc n) same =
    let more : suc n ≡ n + 1 = omega arith in
    let here : if_passing p n ≡ if_passing q n = ap (λ b. cond b (n ∷ []) []) (same n (omega arith)) in
    let before : filter p (places n) ≡ filter q (places n) = filter-below p q n (λ k less. same k (omega arith)) in
    subst (λ m. filter p (places m) ≡ filter q (places m)) (sym more)
    (filter-places_more p n ∙ ap (λ js. js ++ if_passing p n) before ∙ ap (λ js. filter q (places n) ++ js) here ∙ sym (filter-places_more q n))

-- what passes is a place below n
all-one : (b : Bool) (k n : ℕ) → k < n → All (λ j. j < n) (cond b (k ∷ []) [])
all-one true k n less zero d h = less
all-one true k n less (suc i) d h = absurd (let f : ⊥ = omega arith in f)
all-one false k n less i d h = absurd (let f : ⊥ = omega arith in f)

all-up : (js : List ℕ) (m n : ℕ) → m ≤ n → All (λ j. j < m) js → All (λ j. j < n) js
all-up js m n le all i d h = let less : get_or js i d < m = all i d h in omega arith

pub passing-below : (p : ℕ → Bool) (n : ℕ) → All (λ j. j < n) (filter p (places n))
passing-below p zero = none-below
  where
    none-below : All (λ j. j < 0) []
    none-below i d h = absurd (let f : ⊥ = omega arith in f)
passing-below p (suc n) =
    let more : suc n ≡ n + 1 = omega arith in
    subst (λ m. All (λ j. j < m) (filter p (places m))) (sym more) (rw (filter-places_more p n) (All-append (λ j. j < n + 1) (filter p (places n)) (if_passing p n) (all-up (filter p (places n)) n (n + 1) (omega arith) (passing-below p n)) (all-one (p n) n (n + 1) (omega arith))))

-- so the tasks of a list are in the list
pub task_list-there : (p : ℕ → Bool) (n : ℕ) (tasks : List TaskId) → places_of tasks ≡ filter p (places n) → All (λ (t : TaskId). t.0 < n) tasks
task_list-there p n tasks e i d h =
    let below : All (λ j. j < n) (places_of tasks) = rw e (passing-below p n) in
    let same : get_or (places_of tasks) i 0 ≡ (get_or tasks i d).0 = get_or-map place_of tasks i d 0 h in
    let within : i < length (places_of tasks) = rw (length-map tasks place_of) h in
    let less : get_or (places_of tasks) i 0 < n = below i 0 within in
    rw (← same) less

-- ---- task_lists that are gathered

pub task_lists-none : (resources : ℕ) (tasks : List Task) → AreTasksByResource resources tasks 0 (replicate resources [])
task_lists-none resources tasks =
    record {
      long = length-replicate resources [];
      each = λ r less. ap places_of (get_or-replicate resources r [] [] less);
    }

added-here : (task_lists : List (List TaskId)) (r : ℕ) (task : TaskId) → r < length task_lists → listed_on (with_task_added task_lists r task) r ≡ listed_on task_lists r ++ task ∷ []
added-here task_lists r task less = get_or-set_same task_lists r (listed_on task_lists r ++ task ∷ []) [] less

added-there : (task_lists : List (List TaskId)) (r q : ℕ) (task : TaskId) → q ≢ r → listed_on (with_task_added task_lists r task) q ≡ listed_on task_lists q
added-there task_lists r q task other = get_or-set_other task_lists r q (listed_on task_lists r ++ task ∷ []) [] other

-- the next task is put into its list
pub task_lists-more : (resources : ℕ) (tasks : List Task) (k r : ℕ) (task : TaskId) (task_lists : List (List TaskId)) → task.0 ≡ k → (slice_index_or tasks k no_task).res.0 ≡ r → r < resources
    → AreTasksByResource resources tasks k task_lists → AreTasksByResource resources tasks (k + 1) (with_task_added task_lists r task)
task_lists-more resources tasks k r task task_lists place on less are =
    record {
      long = length-set task_lists r (listed_on task_lists r ++ task ∷ []) ∙ are.long;
      each = λ q within. elim (cases_eq q r) [
        | inl same ↦
            let here : is_placed_on tasks q k ≡ true = eq-eqb (slice_index_or tasks k no_task).res.0 q (on ∙ sym same) in
            let room : r < length task_lists = omega (arith, are.long) in
            rw (same, added-here task_lists r task room, map-append place_of (listed_on task_lists r) (task ∷ []), filter-places_more (is_placed_on tasks r) k, ← same, here, place, are.each q within) refl
        | inr other ↦
            let away : is_placed_on tasks q k ≡ false = ne_eqb (slice_index_or tasks k no_task).res.0 q (λ e. other (sym e ∙ on)) in
            rw (added-there task_lists r q task other, filter-places_more (is_placed_on tasks q) k, away, append-nil (filter (is_placed_on tasks q) (places k)), are.each q within) refl
      ];
    }

-- ---- task_lists of a list that changes

-- a list whose tasks are on the same resources
pub task_lists-same : (resources : ℕ) (ts us : List Task) (count : ℕ) (task_lists : List (List TaskId))
    → ((k : ℕ) → k < count → (slice_index_or ts k no_task).res.0 ≡ (slice_index_or us k no_task).res.0) → AreTasksByResource resources ts count task_lists → AreTasksByResource resources us count task_lists
task_lists-same resources ts us count task_lists same are =
    record {
      long = are.long;
      each = λ r less. are.each r less ∙ filter-below (is_placed_on ts r) (is_placed_on us r) count (λ k within. ap (λ n. n == r) (same k within));
    }

-- a task is changed, and stays where it is
pub task_lists-set : (resources : ℕ) (ts : List Task) (i : ℕ) (t : Task) (task_lists : List (List TaskId)) → i < length ts → (slice_index_or ts i no_task).res.0 ≡ t.res.0
    → AreTasksByResource resources ts (length ts) task_lists → AreTasksByResource resources (set ts i t) (length (set ts i t)) task_lists
task_lists-set resources ts i t task_lists less stays are =
    rw (length-set ts i t)
    (task_lists-same resources ts (set ts i t) (length ts) task_lists
    (λ k within. elim (cases_eq k i) [
      | inl same ↦ rw same (stays ∙ ap (λ (u : Task). u.res.0) (sym (get_or-set_same ts i t no_task less)))
      | inr other ↦ ap (λ (u : Task). u.res.0) (sym (get_or-set_other ts i k t no_task other))
    ]) are)

-- a task more, at the end
pub task_lists-push : (resources : ℕ) (ts : List Task) (t : Task) (task : TaskId) (task_lists : List (List TaskId)) → task.0 ≡ length ts → t.res.0 < resources
    → AreTasksByResource resources ts (length ts) task_lists → AreTasksByResource resources (ts ++ t ∷ []) (length (ts ++ t ∷ [])) (with_task_added task_lists t.res.0 task)
task_lists-push resources ts t task task_lists place less are =
    let last : slice_index_or (ts ++ t ∷ []) (length ts) no_task ≡ t = get_or-append_seam ts t [] no_task in
    rw (length-append ts (t ∷ []))
    (task_lists-more resources (ts ++ t ∷ []) (length ts) t.res.0 task task_lists place (ap (λ (u : Task). u.res.0) last) less
    (task_lists-same resources ts (ts ++ t ∷ []) (length ts) task_lists (λ k within. ap (λ (u : Task). u.res.0) (sym (get_or_append_left ts (t ∷ []) no_task k within))) are))

-- ---- a task is gone

abbrev is_left : ℕ → ℕ → Bool
is_left i j = not (j == i)

-- what is left of some places, closed up
abbrev closed_up : ℕ → List ℕ → List ℕ
closed_up i js = map (place_without i) (filter (is_left i) js)

places-without : (i : ℕ) (tasks : List TaskId) → places_of (ids_without i tasks) ≡ closed_up i (places_of tasks)
places-without i [] = refl
places-without i (t ∷ ts) = by (is_left i t.0) refl (places-without i ts)
  where
    by : (b : Bool) → is_left i t.0 ≡ b → places_of (ids_without i ts) ≡ closed_up i (places_of ts) → places_of (ids_without i (t ∷ ts)) ≡ closed_up i (places_of (t ∷ ts))
    by true e rest = rw e (ap (λ js. place_without i t.0 ∷ js) rest)
    by false e rest = rw e rest

closed-append : (i : ℕ) (js ks : List ℕ) → closed_up i (js ++ ks) ≡ closed_up i js ++ closed_up i ks
closed-append i js ks = ap (map (place_without i)) (filter-append (is_left i) js ks) ∙ map-append (place_without i) (filter (is_left i) js) (filter (is_left i) ks)

closed-one : (i k m : ℕ) (b : Bool) → k ≢ i → place_without i k ≡ m → closed_up i (cond b (k ∷ []) []) ≡ cond b (m ∷ []) []
closed-one i k m false other e = refl
closed-one i k m true other e = let left : is_left i k ≡ true = rw (ne_eqb k i other) refl in rw (left, e) refl

closed-gone : (i : ℕ) (b : Bool) → closed_up i (cond b (i ∷ []) []) ≡ []
closed-gone i false = refl
closed-gone i true = let gone : is_left i i ≡ false = rw (eq-eqb i i refl) refl in rw gone refl

module _ (i : ℕ) (p q : ℕ → Bool) (below : (k : ℕ) → k < i → p k ≡ q k) (above : (k : ℕ) → i ≤ k → p (k + 1) ≡ q k) where
  closed-more : (k m : ℕ) → k ≢ i → place_without i k ≡ m → p k ≡ q m → closed_up i (filter p (places k)) ≡ filter q (places m) → closed_up i (filter p (places (k + 1))) ≡ filter q (places (m + 1))
  closed-more k m other e same done =
      rw (filter-places_more p k, filter-places_more q m, closed-append i (filter p (places k)) (if_passing p k), done, same) (ap (λ js. filter q (places m) ++ js) (closed-one i k m (q m) other e))

  closed-to : (k : ℕ) → k ≤ i → closed_up i (filter p (places k)) ≡ filter q (places k)
  closed-to zero le = refl
  closed-to (suc k) le =
      let more : suc k ≡ k + 1 = omega arith in
      let stays : place_without i k ≡ k = rw (le-ltb i k (omega arith)) refl in
      subst (λ m. closed_up i (filter p (places m)) ≡ filter q (places m)) (sym more)
      (closed-more k k (λ e. absurd (let f : ⊥ = omega arith in f)) stays (below k (omega arith)) (closed-to k (omega arith)))

  closed-past : (m : ℕ) → closed_up i (filter p (places (i + m + 1))) ≡ filter q (places (i + m))
  closed-past zero =
      let same : i + 0 ≡ i = omega arith in
      rw (same, filter-places_more p i, closed-append i (filter p (places i)) (if_passing p i), closed-gone i (p i), append-nil (closed_up i (filter p (places i)))) (closed-to i (omega arith))
  closed-past (suc m) =
      let next : i + suc m ≡ i + m + 1 = omega arith in
      let moved : place_without i (i + m + 1) ≡ i + m = rw (lt-ltb i (i + m + 1) (omega arith)) (omega arith) in
      rw next (closed-more (i + m + 1) (i + m) (λ e. absurd (let f : ⊥ = omega arith in f)) moved (above (i + m) (omega arith)) (closed-past m))

abbrev kept : List Task → ℕ → List Task
kept ts i = map (task_without i) (remove ts i)

pub task_lists-without : (resources : ℕ) (ts : List Task) (i : ℕ) (task_lists : List (List TaskId)) → i < length ts
    → AreTasksByResource resources ts (length ts) task_lists → AreTasksByResource resources (map (task_without i) (remove ts i)) (length (map (task_without i) (remove ts i))) (map (ids_without i) task_lists)
task_lists-without resources ts i task_lists less are =
    record {
      long = length-map task_lists (ids_without i) ∙ are.long;
      each = λ r within.
          let n = length (kept ts i) in
          let one : n + 1 ≡ length ts = ap (λ m. m + 1) (length-map (remove ts i) (task_without i)) ∙ length-remove ts i less in
          let long : length (remove ts i) ≡ n = sym (length-map (remove ts i) (task_without i)) in
          let e : i + (n - i) ≡ n = omega arith in
          let here : listed_on (map (ids_without i) task_lists) r ≡ ids_without i (listed_on task_lists r) = get_or-map (ids_without i) task_lists r [] [] (omega (arith, are.long)) in
          let same : (k : ℕ) → k < length (remove ts i) → (slice_index_or (kept ts i) k no_task).res.0 ≡ (slice_index_or (remove ts i) k no_task).res.0 =
          λ k there. ap (λ (u : Task). u.res.0) (get_or-map (task_without i) (remove ts i) k no_task no_task there) in
          let past : closed_up i (filter (is_placed_on ts r) (places (i + (n - i) + 1))) ≡ filter (is_placed_on (remove ts i) r) (places (i + (n - i))) =
          closed-past i (is_placed_on ts r) (is_placed_on (remove ts i) r)
          (λ k before. ap (λ (u : Task). u.res.0 == r) (sym (get_or-remove_below ts i no_task k before less)))
          (λ k behind. ap (λ (u : Task). u.res.0 == r) (sym (get_or-remove_above ts i no_task k behind less))) (n - i) in
          ap places_of here ∙ places-without i (listed_on task_lists r) ∙ ap (closed_up i) (are.each r within) ∙ ap (λ m. closed_up i (filter (is_placed_on ts r) (places m))) (sym one ∙ ap (λ m. m + 1) (sym e))
          ∙ past ∙ ap (λ m. filter (is_placed_on (remove ts i) r) (places m)) e
          ∙ filter-below (is_placed_on (remove ts i) r) (is_placed_on (kept ts i) r) n (λ k there. ap (λ m. m == r) (sym (same k (omega arith))));
    }

-- ---- what readers and writers of task_lists cite

-- a list has at most all tasks
pub task_list-few : (p : ℕ → Bool) (n : ℕ) (tasks : List TaskId) → places_of tasks ≡ filter p (places n) → length tasks ≤ n
task_list-few p n tasks e =
    let long : length tasks ≡ length (filter p (places n)) = sym (length-map tasks place_of) ∙ ap length e in
    let both = length-filter_both p (λ k. not (p k)) (λ k. refl) (places n) in
    omega (arith, length-range_with_len 0 n)

-- a task that was read is written over, and stays where it is
pub task_lists-written : (resources : ℕ) (ts : List Task) (i : ℕ) (read new : Task) (task_lists : List (List TaskId)) → i < length ts → read ≡ slice_index_or ts i read → read.res.0 ≡ new.res.0
    → AreTasksByResource resources ts (length ts) task_lists → AreTasksByResource resources (set ts i new) (length (set ts i new)) task_lists
task_lists-written resources ts i read new task_lists less is stays are =
    task_lists-set resources ts i new task_lists less (ap (λ (u : Task). u.res.0) (sym (is ∙ get_or-any ts i read no_task less)) ∙ stays) are

-- lists and task_lists by equations
pub task_lists-by : (resources : ℕ) (ts us : List Task) (task_lists others : List (List TaskId)) → ts ≡ us → task_lists ≡ others
    → AreTasksByResource resources us (length us) others → AreTasksByResource resources ts (length ts) task_lists
task_lists-by resources ts us task_lists others e f are = rw (e, f) are

-- the slots of a list, one task further, and in all
pub slots-next : (f : TaskId → ℕ) (tasks : List TaskId) (k cycle slot gap : ℕ) (d : TaskId) → k < length tasks → cycle ≡ sum_by f (take k tasks) + gap → slot ≡ f (get_or tasks k d)
    → cycle + slot ≡ sum_by f (take (k + 1) tasks) + gap
slots-next f tasks k cycle slot gap d less sum e = let more = sum_by_more f tasks k d less in omega arith

sum_by-places : (f : ℕ → ℕ) (tasks : List TaskId) → sum_by f (places_of tasks) ≡ sum_by (λ (t : TaskId). f t.0) tasks
sum_by-places f [] = refl
sum_by-places f (t ∷ ts) = sum_by-cons f t.0 (places_of ts) ∙ ap (λ n. f t.0 + n) (sum_by-places f ts) ∙ sym (sum_by-cons (λ (u : TaskId). f u.0) t ts)

pub slots-all : (f : ℕ → ℕ) (tasks : List TaskId) (places : List ℕ) (k cycle gap : ℕ) → length tasks ≤ k → places_of tasks ≡ places → cycle ≡ sum_by (λ (t : TaskId). f t.0) (take k tasks) + gap
    → cycle ≡ sum_by f places + gap
slots-all f tasks places k cycle gap end are sum =
    sum ∙ ap (λ ts. sum_by (λ (t : TaskId). f t.0) ts + gap) (take_all k tasks end) ∙ ap (λ n. n + gap) (sym (sum_by-places f tasks)) ∙ ap (λ js. sum_by f js + gap) are

-- ---- the members of a list

one-passes : (p : ℕ → Bool) (k : ℕ) (b : Bool) → p k ≡ b → All (λ j. p j ≡ true) (cond b (k ∷ []) [])
one-passes p k true e zero d h = e
one-passes p k true e (suc i) d h = absurd (let f : ⊥ = omega arith in f)
one-passes p k false e i d h = absurd (let f : ⊥ = omega arith in f)

all-passing : (p : ℕ → Bool) (n : ℕ) → All (λ j. p j ≡ true) (filter p (places n))
all-passing p zero = none
  where
    none : All (λ j. p j ≡ true) []
    none i d h = absurd (let f : ⊥ = omega arith in f)
all-passing p (suc n) =
    let more : suc n ≡ n + 1 = omega arith in
    subst (λ m. All (λ j. p j ≡ true) (filter p (places m))) (sym more)
    (rw (filter-places_more p n) (All-append (λ j. p j ≡ true) (filter p (places n)) (if_passing p n) (all-passing p n) (one-passes p n (p n) refl)))

-- the place in a list at which a number stands
abbrev StandsIn : List ℕ → ℕ → Type 0
StandsIn js i = (k : ℕ) × (k < length js) × (get_or js k 0 ≡ i)

stands-before : (js ks : List ℕ) (i : ℕ) → StandsIn js i → StandsIn (js ++ ks) i
stands-before js ks i at = (at.0, omega (arith, at.1, length-append js ks), get_or_append_left js ks 0 at.0 at.1 ∙ at.2)

stands-last : (js : List ℕ) (i : ℕ) → StandsIn (js ++ i ∷ []) i
stands-last js i = (length js, omega (arith, length-append js (i ∷ [])), get_or-append_seam js i [] 0)

passing-stands : (p : ℕ → Bool) (n i : ℕ) → i < n → p i ≡ true → StandsIn (filter p (places n)) i
passing-stands p zero i less passes = absurd (let f : ⊥ = omega arith in f)
passing-stands p (suc n) i less passes =
    let more : suc n ≡ n + 1 = omega arith in
    subst (λ m. StandsIn (filter p (places m)) i) (sym more)
    (rw (filter-places_more p n)
    (elim (cases_eq i n) [
      | inl same ↦
          let last : if_passing p n ≡ i ∷ [] = rw (← same, passes) refl in
          rw last (stands-last (filter p (places n)) i)
      | inr other ↦ stands-before (filter p (places n)) (if_passing p n) i (passing-stands p n i (omega arith) passes)
    ]))

-- each task of a list is on its resource
pub on-each : (s : SystemLists) (r : ℕ) (tasks : List TaskId) → places_of tasks ≡ tasks_on s r → (k : ℕ) (d : TaskId) → k < length tasks → (task_at s (get_or tasks k d).0).res.0 ≡ r
on-each s r tasks are k d less =
    let passes : All (λ j. is_on s r j ≡ true) (places_of tasks) = rw are (all-passing (is_on s r) (length s.tasks)) in
    let same : get_or (places_of tasks) k 0 ≡ (get_or tasks k d).0 = get_or-map place_of tasks k d 0 less in
    let here : is_on s r (get_or (places_of tasks) k 0) ≡ true = passes k 0 (rw (length-map tasks place_of) less) in
    eqb-true (task_at s (get_or tasks k d).0).res.0 r (rw same at here)

-- and each task on the resource stands in its list
pub on-found : (s : SystemLists) (r : ℕ) (tasks : List TaskId) → places_of tasks ≡ tasks_on s r → (i : ℕ) (d : TaskId) → i < length s.tasks → (task_at s i).res.0 ≡ r
    → (k : ℕ) × (k < length tasks) × ((get_or tasks k d).0 ≡ i)
on-found s r tasks are i d less on =
    let at : StandsIn (places_of tasks) i = rw are (passing-stands (is_on s r) (length s.tasks) i less (eq-eqb (task_at s i).res.0 r on)) in
    let within : at.0 < length tasks = omega (arith, at.1, length-map tasks place_of) in
    (at.0, within, sym (get_or-map place_of tasks at.0 d 0 within) ∙ at.2)
