-- Whom the step rules choose.
use Rattle.std.proofs.Common.{◌≡◌, ℕ, zero, suc, ◌+◌, ◌-◌, ◌<◌, ◌≤◌, ◌++◌, length, List, [], ◌∷◌, Bool, true, Option, Some, None, refl, sym, inl, inr, arith, subst}
use Rattle.std.specs.List.{AllByRecursion, filter, range_with_len}
use Rattle.std.proofs.lemmas.Bool.{cases_lt, cases_Bool, lt-ltb, le-ltb, cond-true, cond-false}
use Rattle.cpa_model.specs.SystemLists.{SystemLists, task_at, task_places, priority_of, slot_of, is_on, tasks_on}
use Rattle.cpa_sound.proofs.Serving.{AnyOf}
use Rattle.cpa_sound.proofs.Turns.{ahead}
use Rattle.cpa_sched.specs.Steps.{first_of, more_urgent, most_urgent, owner_at, ring_after}
use Rattle.cpa_sched.specs.States.{IsOn, IsWaiting}
use Rattle.cpa_sched.proofs.OptionLaws.{some-injective}
use Rattle.cpa_sched.proofs.StepLaws.{all_filter, all_append, all_range}
use Rattle.cpa_sound.proofs.RingLaws.{ahead-lt, ahead-ge}
use Rattle.cpa_sound.proofs.LevelLaws.{all_map}

-- j is in a list
abbrev pub IsIn : ℕ → List ℕ → Type 0
IsIn j js = AnyOf (λ k. k ≡ j) js

pub all_at : (P : ℕ → Type 0) (js : List ℕ) (j : ℕ) → AllByRecursion P js → IsIn j js → P j
all_at P [] j all h = absurd h
all_at P (k ∷ js) j all (inl e) = subst P e all.0
all_at P (k ∷ js) j all (inr h) = all_at P js j all.1 h

pub any_at : (Q : ℕ → Type 0) (js : List ℕ) (j : ℕ) → IsIn j js → Q j → AnyOf Q js
any_at Q [] j h q = absurd h
any_at Q (k ∷ js) j (inl e) q = inl (subst Q (sym e) q)
any_at Q (k ∷ js) j (inr h) q = inr (any_at Q js j h q)

pub in_filter : (p : ℕ → Bool) (js : List ℕ) (j : ℕ) → p j ≡ true → IsIn j js → IsIn j (filter p js)
in_filter p [] j passes h = absurd h
in_filter p (k ∷ js) j passes (inl e) = let here : p k ≡ true = rw e passes in rw here (inl e)
in_filter p (k ∷ js) j passes (inr h) =
    elim (cases_Bool (p k)) [ inl kept ↦ rw kept (inr (in_filter p js j passes h)) | inr dropped ↦ rw dropped (in_filter p js j passes h) ]

pub in_range : (a m j : ℕ) → a ≤ j → j < a + m → IsIn j (range_with_len a m)
in_range a zero j low high = absurd (omega arith)
in_range a (suc m) j low high =
    elim (cases_lt a j) [ inl later ↦ inr (in_range (a + 1) m j (omega arith) (omega arith)) | inr here ↦ inl (omega arith) ]

pub in_append_left : (js ks : List ℕ) (j : ℕ) → IsIn j js → IsIn j (js ++ ks)
in_append_left [] ks j h = absurd h
in_append_left (k ∷ js) ks j (inl e) = inl e
in_append_left (k ∷ js) ks j (inr h) = inr (in_append_left js ks j h)

pub in_append_right : (js ks : List ℕ) (j : ℕ) → IsIn j ks → IsIn j (js ++ ks)
in_append_right [] ks j h = h
in_append_right (k ∷ js) ks j h = inr (in_append_right js ks j h)

-- ---- the waiting tasks of a resource

pub in_tasks_on : (s : SystemLists) (r j : ℕ) → IsOn s r j → IsIn j (tasks_on s r)
in_tasks_on s r j on = in_filter (is_on s r) (task_places s) j on.here (in_range 0 (length s.tasks) j (omega arith) (omega (arith, on.task)))

pub in_waiting : (s : SystemLists) (r : ℕ) (waits : ℕ → Bool) (j : ℕ) → IsWaiting s r waits j → IsIn j (filter waits (tasks_on s r))
in_waiting s r waits j w = in_filter waits (tasks_on s r) j w.waits_now (in_tasks_on s r j w.on)

-- ---- the most urgent

priority : SystemLists → ℕ → ℕ
priority s j = priority_of (task_at s j).turn

more_urgent-first : (s : SystemLists) (j k : ℕ) → priority_of (task_at s k).turn < priority_of (task_at s j).turn → more_urgent s j (Some k) ≡ k
more_urgent-first s j k h = cond-true _ k j (lt-ltb _ _ h)

more_urgent-second : (s : SystemLists) (j k : ℕ) → priority_of (task_at s j).turn ≤ priority_of (task_at s k).turn → more_urgent s j (Some k) ≡ j
more_urgent-second s j k h = cond-false _ k j (le-ltb _ _ h)

-- of the tasks of a list it is one that none is more urgent than
pub record IsMostUrgent (s : SystemLists) (P : ℕ → Type 0) (js : List ℕ) (k : ℕ) : Type 0 where
  pub one : P k
  pub first : AllByRecursion (λ j. priority_of (task_at s k).turn ≤ priority_of (task_at s j).turn) js

none_urgent : (s : SystemLists) (js : List ℕ) → most_urgent s js ≡ None → js ≡ []
none_urgent s [] e = refl
none_urgent s (j ∷ js) e = cc

urgent_among : (s : SystemLists) (P : ℕ → Type 0) (j : ℕ) (js : List ℕ) → AllByRecursion P (j ∷ js) → ((k : ℕ) → most_urgent s js ≡ Some k → IsMostUrgent s P js k) → (o : Option ℕ) → most_urgent s js ≡ o → IsMostUrgent s P (j ∷ js) (more_urgent s j o)
urgent_among s P j js all rest None same = rw (none_urgent s js same) (record { one = all.0; first = (omega arith, tt) })
urgent_among s P j js all rest (Some k) same =
    let before = rest k same in
    elim (cases_lt (priority_of (task_at s k).turn) (priority_of (task_at s j).turn)) [
      | inl less ↦ rw (more_urgent-first s j k less) (record { one = before.one; first = (omega arith, before.first) })
      | inr more ↦
          rw (more_urgent-second s j k more)
          (record {
            one = all.0;
            first = (
              omega arith,
              all_map (λ l. priority_of (task_at s k).turn ≤ priority_of (task_at s l).turn) (λ l. priority_of (task_at s j).turn ≤ priority_of (task_at s l).turn) (λ l h. omega arith) js before.first,
            );
          })
    ]

pub urgent_is : (s : SystemLists) (P : ℕ → Type 0) (js : List ℕ) → AllByRecursion P js → (k : ℕ) → most_urgent s js ≡ Some k → IsMostUrgent s P js k
urgent_is s P [] all k e = cc
urgent_is s P (j ∷ js) all k e =
    let among = urgent_among s P j js all (urgent_is s P js all.1) (most_urgent s js) refl in
    rw (some-injective (more_urgent s j (most_urgent s js)) k e) at among

pub some_urgent : (s : SystemLists) (js : List ℕ) (j : ℕ) → IsIn j js → most_urgent s js ≡ None → ⊥
some_urgent s [] j h e = h
some_urgent s (k ∷ js) j h e = cc

-- ---- the owner of a place in the cycle

pub owner-here : (s : SystemLists) (j : ℕ) (js : List ℕ) (place : ℕ) → place < slot_of (task_at s j).turn → owner_at s (j ∷ js) place ≡ Some j
owner-here s j js place h = cond-true _ _ _ (lt-ltb place (slot_of (task_at s j).turn) h)

pub owner-later : (s : SystemLists) (j : ℕ) (js : List ℕ) (place : ℕ) → slot_of (task_at s j).turn ≤ place → owner_at s (j ∷ js) place ≡ owner_at s js (place - slot_of (task_at s j).turn)
owner-later s j js place h = cond-false _ _ _ (le-ltb place (slot_of (task_at s j).turn) h)

-- ---- the first of a list

pub some_first : (js : List ℕ) (j : ℕ) → IsIn j js → first_of js ≡ None → ⊥
some_first [] j h e = h
some_first (k ∷ js) j h e = cc

-- ---- the ring after a task

-- a list in the order of a number
abbrev pub IsSortedBy : (ℕ → ℕ) → List ℕ → Type 0
IsSortedBy f [] = Unit {0}
IsSortedBy f (j ∷ js) = AllByRecursion (λ k. f j ≤ f k) js × IsSortedBy f js

sorted_filter : (f : ℕ → ℕ) (p : ℕ → Bool) (js : List ℕ) → IsSortedBy f js → IsSortedBy f (filter p js)
sorted_filter f p [] h = tt
sorted_filter f p (j ∷ js) h =
    elim (cases_Bool (p j)) [
      | inl kept ↦ rw kept (all_filter p (λ k. f j ≤ f k) (λ k. f j ≤ f k) (λ k passes le. le) js h.0, sorted_filter f p js h.1)
      | inr dropped ↦ rw dropped (sorted_filter f p js h.1)
    ]

sorted_append : (f : ℕ → ℕ) (js ks : List ℕ) → IsSortedBy f js → IsSortedBy f ks → AllByRecursion (λ j. AllByRecursion (λ k. f j ≤ f k) ks) js → IsSortedBy f (js ++ ks)
sorted_append f [] ks a b h = b
sorted_append f (j ∷ js) ks a b h = (all_append (λ k. f j ≤ f k) js ks a.0 h.0, sorted_append f js ks a.1 b h.1)

sorted_range : (f : ℕ → ℕ) (a m : ℕ) → ((j k : ℕ) → a ≤ j → j ≤ k → k < a + m → f j ≤ f k) → IsSortedBy f (range_with_len a m)
sorted_range f a zero h = tt
sorted_range f a (suc m) h =
    (all_range (λ k. f a ≤ f k) (a + 1) m (λ j low high. h a j (omega arith) (omega arith) (omega arith)), sorted_range f (a + 1) m (λ j k low le high. h j k (omega arith) le (omega arith)))

first_least : (f : ℕ → ℕ) (js : List ℕ) (k j : ℕ) → IsSortedBy f js → first_of js ≡ Some k → IsIn j js → f k ≤ f j
first_least f [] k j sorted e h = absurd h
first_least f (l ∷ js) k j sorted e h =
    let same = some-injective l k e in
    subst (λ m. f m ≤ f j) same (all_at (λ m. f l ≤ f m) (l ∷ js) j (omega arith, sorted.0) h)

module _ (s : SystemLists) (r h : ℕ) (h_in : h < length s.tasks) where
  ring : List ℕ
  ring = range_with_len (h + 1) (length s.tasks - (h + 1)) ++ range_with_len 0 (h + 1)

  ring-sorted : IsSortedBy (ahead (length s.tasks) h) ring
  unfolding ring
  ring-sorted =
      sorted_append (ahead (length s.tasks) h) (range_with_len (h + 1) (length s.tasks - (h + 1))) (range_with_len 0 (h + 1))
      (sorted_range (ahead (length s.tasks) h) (h + 1) (length s.tasks - (h + 1)) (λ j k low le high. omega (arith, ahead-lt (length s.tasks) h j (omega arith), ahead-lt (length s.tasks) h k (omega arith))))
      (sorted_range (ahead (length s.tasks) h) 0 (h + 1) (λ j k low le high. omega (arith, ahead-ge (length s.tasks) h j (omega arith), ahead-ge (length s.tasks) h k (omega arith))))
      (all_range (λ j. AllByRecursion (λ k. ahead (length s.tasks) h j ≤ ahead (length s.tasks) h k) (range_with_len 0 (h + 1))) (h + 1) (length s.tasks - (h + 1)) (λ j low high.
      all_range (λ k. ahead (length s.tasks) h j ≤ ahead (length s.tasks) h k) 0 (h + 1) (λ k low' high'. omega (arith, ahead-lt (length s.tasks) h j (omega arith), ahead-ge (length s.tasks) h k (omega arith)))))

  ring-has : (j : ℕ) → j < length s.tasks → IsIn j ring
  unfolding ring
  ring-has j below =
      elim (cases_lt h j) [
        | inl after ↦ in_append_left (range_with_len (h + 1) (length s.tasks - (h + 1))) (range_with_len 0 (h + 1)) j (in_range (h + 1) (length s.tasks - (h + 1)) j (omega arith) (omega arith))
        | inr before ↦ in_append_right (range_with_len (h + 1) (length s.tasks - (h + 1))) (range_with_len 0 (h + 1)) j (in_range 0 (h + 1) j (omega arith) (omega arith))
      ]

  pub in_ring_after : (waits : ℕ → Bool) (j : ℕ) → IsWaiting s r waits j → IsIn j (filter waits (ring_after s r h))
  unfolding ring
  in_ring_after waits j w = in_filter waits (ring_after s r h) j w.waits_now (in_filter (is_on s r) _ j w.on.here (ring-has j w.on.task))

  -- the next waiting task on the ring is the nearest
  pub next-nearest : (waits : ℕ → Bool) (k j : ℕ) → first_of (filter waits (ring_after s r h)) ≡ Some k → IsWaiting s r waits j → ahead (length s.tasks) h k ≤ ahead (length s.tasks) h j
  unfolding ring
  next-nearest waits k j e w =
      first_least (ahead (length s.tasks) h) (filter waits (ring_after s r h)) k j (sorted_filter (ahead (length s.tasks) h) waits (ring_after s r h) (sorted_filter (ahead (length s.tasks) h) (is_on s r) _ ring-sorted)) e (in_ring_after waits j w)
