-- What the search for a place knows.
use Rattle.std.proofs.Common.{slice_index_or, ◌≡◌, ◌≢◌, ℕ, zero, suc, ◌+◌, ◌<◌, ◌≤◌, ◌==◌, ◌&&◌, not, ◌↔◌, nat_lt, Bool, true, false, Option, None, min, List, [], ◌∷◌, ◌++◌, Some, map, set, take, length, slice_get, refl, ap, sym, ◌∙◌, subst, inl, inr, arith}
use Rattle.std.specs.Prelude.{filter, Result, Ok, Err, IfOk}
use Rattle.std.proofs.lemmas.Bool.{and_parts, not-true, cases_Bool, cases_lt, false≢true, eq-eqb, eqb-true, ltb-true, lt-ltb, le-ltb}
use Rattle.std.proofs.Math.Dec.{eqb-suc-zero, eqb-zero-suc}
use Rattle.std.proofs.lemmas.List.{get_or_past, length-map, map_push, take_more}
use Rattle.std.proofs.lemmas.List.FromFn.{get_or-map-range_with_len, length-map-range_with_len, length-range_with_len}
use Rattle.std.proofs.lemmas.Option.{same_Some}
use Rattle.std.proofs.lemmas.List.Sums.{length-filter, count_by-le-length}
use Rattle.cpa_units.specs.declared.bound.Bound.{Bound}
use Rattle.cpa_units.specs.declared.bound.Bound.TheVariants.{Within, Overload}
use Rattle.cpa_units.specs.declared.places.SourceId.{SourceId}
use Rattle.cpa_units.specs.declared.places.TaskId.{TaskId}
use Rattle.cpa_events.specs.Events.{Model}
use Rattle.cpa_model.specs.Streams.{source_stream}
use Rattle.cpa_units.specs.Bounds.{IsAtMost}
use Rattle.cpa_units.specs.Sets.{holds}
use Rattle.cpa_model.specs.declared.entries.Task.{Task}
use Rattle.cpa_model.specs.declared.entries.Path.{Path}
use Rattle.cpa_model.specs.SystemLists.{SystemLists, path_at, task_places, is_on, tasks_on, place_of, places_of, stream_at, streams_of}
use Rattle.cpa_assign.specs.Orders.{is_member, is_task_on, IsWithinDeadline, IsPathInTime, IsInTime, IsOrder, ordered_task, with_order}
use Rattle.cpa_assign.proofs.OrderLaws.{once-from, and-true}
use Rattle.cpa_assign.proofs.CountLaws.{once-long}
use Rattle.cpa_assign.specs.Placing.{without, Fits}
use Rattle.cpa_local.proofs.PassingPlaces.{filter-agree}

pub without-other : (free : ℕ → Bool) (i k : ℕ) → without free i k ≡ true → k ≢ i
without-other free i k h = λ same. false≢true (sym (not-true (k == i) (and_parts (free k) _ h).1) ∙ eq-eqb k i same)

-- a list of one task
pub only-one : (ts : List TaskId) (i : ℕ) (t : TaskId) → length ts ≡ 1 → slice_get ts 0 ≡ Some t → t.0 ≡ i → ts ≡ record { 0 = i } ∷ []
only-one [] i t long first same = absurd (omega (arith, long))
only-one (u ∷ []) i t long first same = ap (λ (n : ℕ). let id : TaskId = record { 0 = n } in id ∷ []) (ap (λ (v : TaskId). v.0) (same_Some u t first) ∙ same)
only-one (u ∷ v ∷ ts) i t long first same = absurd (omega (arith, long))

-- a deadline that there is
pub within-some : (d : ℕ) (b : Bound) → IsWithinDeadline (Some d) b ↔ IsAtMost b (Within d)
within-some d b = (λ h. h d refl, λ h e is. subst (λ (n : ℕ). IsAtMost b (Within n)) (same_Some d e is) h)

-- and none
pub within-none : (b : Bound) → IsWithinDeadline None b
within-none b = λ d is. cc is

-- a path of this task alone is in time just where the bound is within its deadline
pub alone-in_time : (p : Path) (i : ℕ) → p.tasks ≡ record { 0 = i } ∷ [] → (b : Bound) → IsPathInTime p i b ↔ IsWithinDeadline p.deadline b
alone-in_time p i alone b = (λ h. h alone, λ h only. h)

-- any other path says nothing of the task
other-in_time : (p : Path) (i : ℕ) → ¬ (p.tasks ≡ record { 0 = i } ∷ []) → (b : Bound) → IsPathInTime p i b ↔ IsWithinDeadline None b
other-in_time p i other b = (λ h. within-none b, λ h only. absurd (other only))

pub longer-in_time : (p : Path) (i : ℕ) → length p.tasks ≢ 1 → (b : Bound) → IsPathInTime p i b ↔ IsWithinDeadline None b
longer-in_time p i long = other-in_time p i (λ only. long (ap length only))

pub another-in_time : (p : Path) (i : ℕ) (t : TaskId) → slice_get p.tasks 0 ≡ Some t → t.0 ≢ i → (b : Bound) → IsPathInTime p i b ↔ IsWithinDeadline None b
another-in_time p i t first differs =
    other-in_time p i (λ only. let is : Some t ≡ Some (record { 0 = i }) = sym first ∙ ap (λ (ts : List TaskId). slice_get ts 0) only in differs (ap (λ (id : TaskId). id.0) (same_Some t (record { 0 = i }) is)))

-- of two deadlines the shorter counts
at_most-min : (x y : ℕ) (b : Bound) → IsAtMost b (Within x) → IsAtMost b (Within y) → IsAtMost b (Within (min x y))
at_most-min x y (Within t) h k = omega (arith, h, k)
at_most-min x y Overload h k = h

at_most-later : (x y : ℕ) (b : Bound) → x ≤ y → IsAtMost b (Within x) → IsAtMost b (Within y)
at_most-later x y (Within t) le h = omega (arith, h)
at_most-later x y Overload le h = h

pub within-shorter : (x y : ℕ) (b : Bound) → (IsWithinDeadline (Some x) b × IsWithinDeadline (Some y) b) ↔ IsWithinDeadline (Some (min x y)) b
within-shorter x y b = (
  λ h. (within-some (min x y) b).1 (at_most-min x y b ((within-some x b).0 h.0) ((within-some y b).0 h.1)),
  λ h. (
    (within-some x b).1 (at_most-later (min x y) x b (omega arith) ((within-some (min x y) b).0 h)),
    (within-some y b).1 (at_most-later (min x y) y b (omega arith) ((within-some (min x y) b).0 h)),
  ),
)

pub within-first : (o : Option ℕ) (b : Bound) → (IsWithinDeadline o b × IsWithinDeadline None b) ↔ IsWithinDeadline o b
within-first o b = (λ h. h.0, λ h. (h, within-none b))

pub within-second : (o : Option ℕ) (b : Bound) → (IsWithinDeadline None b × IsWithinDeadline o b) ↔ IsWithinDeadline o b
within-second o b = (λ h. h.1, λ h. (within-none b, h))

-- the paths before one are in time
abbrev pub AreInTimeTo : SystemLists → ℕ → ℕ → Bound → Type 0
AreInTimeTo s i k b = (j : ℕ) → j < k → IsPathInTime (path_at s j) i b

-- one path more
pub in_time-more : (s : SystemLists) (i k : ℕ) (least own shorter : Option ℕ)
    → ((b : Bound) → AreInTimeTo s i k b ↔ IsWithinDeadline least b)
    → ((b : Bound) → IsPathInTime (path_at s k) i b ↔ IsWithinDeadline own b)
    → ((b : Bound) → (IsWithinDeadline least b × IsWithinDeadline own b) ↔ IsWithinDeadline shorter b)
    → (b : Bound) → AreInTimeTo s i (k + 1) b ↔ IsWithinDeadline shorter b
in_time-more s i k least own shorter before here both b = (
  λ h. (both b).0 ((before b).0 (λ j less. h j (omega arith)), (here b).0 (h k (omega arith))),
  λ h j less.
      let two = (both b).1 h in
      elim (cases_lt j k) [
        | inl early ↦ (before b).1 two.0 j early
        | inr now ↦ let same : j ≡ k = omega arith in rw same ((here b).1 two.1)
      ],
)

-- and all of them
pub in_time-all : (s : SystemLists) (i k : ℕ) (least : Option ℕ) → k ≡ length s.paths → ((b : Bound) → AreInTimeTo s i k b ↔ IsWithinDeadline least b) → (b : Bound) → IsInTime s i b ↔ IsWithinDeadline least b
in_time-all s i k least whole so_far b =
    (λ h. (so_far b).0 (λ j less. h j (omega (arith, whole))), λ h j less. (so_far b).1 h j (omega (arith, whole)))

-- the tasks of a resource are told one by one
pub task_list-long : (s : SystemLists) (r : ℕ) (ids : List TaskId) → places_of ids ≡ tasks_on s r → length ids ≡ length (tasks_on s r)
task_list-long s r ids are = sym (length-map ids place_of) ∙ ap length are

pub places-long : (ids : List TaskId) → length (places_of ids) ≡ length ids
places-long ids = length-map ids place_of

pub there-on : (s : SystemLists) (r i : ℕ) → is_task_on s r i ≡ true → (i < length s.tasks) × (is_on s r i ≡ true)
there-on s r i h =
    let both = and_parts (nat_lt i (length s.tasks)) (is_on s r i) h in
    (ltb-true i (length s.tasks) both.0, both.1)

-- the tasks of a system with an order
pub ordered-long : (s : SystemLists) (r : ℕ) (o : List ℕ) → length (with_order s r o).tasks ≡ length s.tasks
unfolding with_order
ordered-long s r o = length-map-range_with_len (ordered_task s r o) 0 (length s.tasks)

pub ordered-at : (s : SystemLists) (r : ℕ) (o : List ℕ) (j : ℕ) (d : Task) → j < length s.tasks → slice_index_or (with_order s r o).tasks j d ≡ ordered_task s r o j
unfolding with_order
ordered-at s r o j d less = get_or-map-range_with_len (ordered_task s r o) 0 (length s.tasks) j j d less (omega arith)

-- an order has as many tasks as the resource
pub order-long : (s : SystemLists) (r : ℕ) (o : List ℕ) → IsOrder s r o → length o ≡ length (tasks_on s r)
order-long s r o order =
    once-long o (length s.tasks) (once-from o order.once) (λ i member. (there-on s r i (sym (order.members i) ∙ member)).0)
    ∙ ap length (filter-agree (is_member o) (is_on s r) 0 (length s.tasks) (λ j low high. order.members j ∙ (rw (lt-ltb j (length s.tasks) (omega arith)) refl)))

-- there are no more of them than tasks
pub task_list-few : (s : SystemLists) (r : ℕ) → length (tasks_on s r) ≤ length s.tasks
task_list-few s r =
    let few = count_by-le-length (is_on s r) (task_places s) in
    omega (arith, few, length-filter (is_on s r) (task_places s), length-range_with_len 0 (length s.tasks))

-- the marks tell which tasks are on the resource
pub marks-tell : (s : SystemLists) (r : ℕ) (marks : List Bool) → marks ≡ map (is_on s r) (task_places s) → (j : ℕ) → holds marks j ≡ is_task_on s r j
marks-tell s r marks are j =
    elim (cases_lt j (length s.tasks)) [
      | inl less ↦ rw (are, lt-ltb j (length s.tasks) less) (get_or-map-range_with_len (is_on s r) 0 (length s.tasks) j j false less (omega arith))
      | inr past ↦ rw (are, le-ltb j (length s.tasks) past) (get_or_past (map (is_on s r) (task_places s)) j false (omega (arith, past, length-map-range_with_len (is_on s r) 0 (length s.tasks))))
    ]

pub marks-long : (s : SystemLists) (r : ℕ) (marks : List Bool) → marks ≡ map (is_on s r) (task_places s) → length marks ≡ length s.tasks
marks-long s r marks are = rw are (length-map-range_with_len (is_on s r) 0 (length s.tasks))

pub marks-count : (s : SystemLists) (r : ℕ) (marks : List Bool) → marks ≡ map (is_on s r) (task_places s) → length (filter (holds marks) (task_places s)) ≡ length (tasks_on s r)
marks-count s r marks are =
    ap length (filter-agree (holds marks) (is_on s r) 0 (length s.tasks) (λ j low high.
    marks-tell s r marks are j ∙ (rw (lt-ltb j (length s.tasks) (omega arith)) refl)))

and-false : (b : Bool) → (b && false) ≡ false
and-false true = refl
and-false false = refl

-- one mark fewer
pub set-tells : (free : List Bool) (i : ℕ) → i < length free → (j : ℕ) → holds (set free i false) j ≡ without (holds free) i j
set-tells [] i less j = absurd (omega (arith, less))
set-tells (b ∷ free) zero less zero = sym (and-false b)
set-tells (b ∷ free) zero less (suc j) = rw (eqb-suc-zero j) (sym (and-true (holds free j)))
set-tells (b ∷ free) (suc i) less zero = rw (eqb-zero-suc i) (sym (and-true b))
set-tells (b ∷ free) (suc i) less (suc j) = set-tells free i (omega (arith, less)) j ∙ ap (λ (t : Bool). holds free j && not t) (more-equal j i)
  where
    more-equal : (j i : ℕ) → (j == i) ≡ (suc j == suc i)
    more-equal j i = elim (cases_Bool (j == i)) [
      | inl same ↦ same ∙ sym (eq-eqb (suc j) (suc i) (ap suc (eqb-true j i same)))
      | inr other ↦ elim (cases_Bool (suc j == suc i)) [
        | inl too ↦ let e = eqb-true (suc j) (suc i) too in absurd (false≢true (sym other ∙ eq-eqb j i (omega (arith, e))))
        | inr not_too ↦ other ∙ sym not_too
      ]
    ]

-- the streams of a task, one further
pub sources-more : (s : SystemLists) (i k : ℕ) (so_far one all : Model) → k < length (streams_of s i) → so_far ≡ map (λ (k : SourceId). source_stream s k.0) (take k (streams_of s i))
    → one ≡ source_stream s (stream_at s i k).0 ∷ [] → all ≡ so_far ++ one → all ≡ map (λ (k : SourceId). source_stream s k.0) (take (k + 1) (streams_of s i))
sources-more s i k so_far one all less found is e =
    e ∙ ap (λ m. m ++ one) found ∙ ap (λ m. map (λ (k : SourceId). source_stream s k.0) (take k (streams_of s i)) ++ m) is
    ∙ sym (map_push (λ (k : SourceId). source_stream s k.0) (take k (streams_of s i)) (stream_at s i k))
    ∙ ap (map (λ (k : SourceId). source_stream s k.0)) (sym (take_more (streams_of s i) k (record { 0 = 0 }) less))

-- what is so of an answer says as much of it otherwise
pub ok-maps : {A E : Type 0} (P Q : A → Type 0) (answer : Result A E) → ((a : A) → P a → Q a) → IfOk answer P → IfOk answer Q
ok-maps P Q (Ok a) f h = f a h
ok-maps P Q (Err e) f h = h

-- one free task more that isn't in time
pub none-more : (s : SystemLists) (r : ℕ) (free : ℕ → Bool) (k : ℕ) → ((j : ℕ) → j < k → free j ≡ true → ¬ Fits s r (without free j) j) → (free k ≡ true → ¬ Fits s r (without free k) k)
    → (j : ℕ) → j < k + 1 → free j ≡ true → ¬ Fits s r (without free j) j
none-more s r free k before here j less is_free =
    elim (cases_lt j k) [
      | inl early ↦ before j early is_free
      | inr now ↦ let same : j ≡ k = omega arith in (subst (λ (i : ℕ). free i ≡ true → ¬ Fits s r (without free i) i) (sym same) here) is_free
    ]
