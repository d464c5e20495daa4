-- A resource that can be given an order has an answer: the search for it, with tests in the place of code.
use Rattle.std.proofs.Common.{◌≡◌, ℕ, zero, suc, ◌<◌, ◌==◌, ◌&&◌, ◌||◌, ◌⊎◌, not, Bool, true, false, List, [], ◌∷◌, Option, Some, None, length, refl, ap, sym, ◌∙◌, subst, inl, inr, arith}
use Rattle.std.specs.Prelude.{filter}
use Rattle.std.specs.Bool.{Decides}
use Rattle.std.proofs.lemmas.Bool.{and_parts, cases_lt, false≢true, eqb-true, eq-eqb}
use Rattle.std.proofs.lemmas.Bool.Decides.{Decides-below_and}
use Rattle.cpa_units.specs.declared.bound.Bound.{Bound}
use Rattle.cpa_units.specs.declared.places.TaskId.{TaskId}
use Rattle.cpa_units.specs.Bounds.{fits}
use Rattle.cpa_units.specs.Search.{least_from}
use Rattle.cpa_units.proofs.DeadlineLaws.{meets_deadline, deadline-decides}
use Rattle.cpa_units.proofs.SearchLaws.{all_pass, least_from-passes, least_from-above}
use Rattle.cpa_model.specs.declared.entries.Path.{Path}
use Rattle.cpa_model.specs.SystemLists.{SystemLists, path_at, task_places}
use Rattle.cpa_model.specs.Rules.{IsSystem}
use Rattle.cpa_assign.specs.Orders.{IsPathInTime, IsBestOrder, IsOrderOf, IsOrderable, is_task_on}
use Rattle.cpa_assign.specs.Placing.{placed_bound, without, Fits, IsLowestOf, NoneIsLowest}
use Rattle.cpa_assign.proofs.CountLaws.{count-without, some-passes, none-passes}
use Rattle.cpa_assign.proofs.MeetLaws.{IsPart, begun, next, best, none_meets}
use Rattle.cpa_assign.proofs.OneOrderLaws.{tasks_at, places-tasks_at}
use Rattle.cpa_assign.proofs.PlacingLaws.{there-on}

abbrev is_alone : List TaskId → ℕ → Bool
is_alone [] i = false
is_alone (t ∷ []) i = t.0 == i
is_alone (t ∷ u ∷ ts) i = false

alone-decides : (ts : List TaskId) (i : ℕ) → Decides (is_alone ts i) (ts ≡ record { 0 = i } ∷ [])
alone-decides [] i = (λ told. absurd (false≢true told), λ alone. let short = ap length alone in absurd (omega (arith, short)))
alone-decides (t ∷ []) i = (
  λ told. ap (λ (n : ℕ). let id : TaskId = record { 0 = n } in id ∷ []) (eqb-true t.0 i told),
  λ alone. eq-eqb t.0 i (ap first_place alone),
)
  where
    first_place : List TaskId → ℕ
    first_place [] = 0
    first_place (t ∷ ts) = t.0
alone-decides (t ∷ u ∷ ts) i = (λ told. absurd (false≢true told), λ alone. let long = ap length alone in absurd (omega (arith, long)))

-- whether the bound is at most the deadline, where the path is of this task alone
abbrev path_in_time : Path → ℕ → Bound → Bool
path_in_time p i bound = not (is_alone p.tasks i) || meets_deadline p.deadline bound

then-decides : {P Q : Type 0} (a b : Bool) → Decides a P → Decides b Q → Decides (not a || b) (P → Q)
then-decides true b first second = (λ told p. second.0 told, λ h. second.1 (h (first.0 refl)))
then-decides false b first second = (λ told p. absurd (false≢true (first.1 p)), λ h. refl)

path-decides : (p : Path) (i : ℕ) (bound : Bound) → Decides (path_in_time p i bound) (IsPathInTime p i bound)
path-decides p i bound = then-decides (is_alone p.tasks i) (meets_deadline p.deadline bound) (alone-decides p.tasks i) (deadline-decides p.deadline bound)

module _ (s : SystemLists) (r : ℕ) where
  -- whether a task is in time below those that `above` says
  is_fit : (ℕ → Bool) → ℕ → Bool
  is_fit above i = all_pass (λ k. path_in_time (path_at s k) i (placed_bound s r above i)) (length s.paths)

  fit-decides : (above : ℕ → Bool) (i : ℕ) → Decides (is_fit above i) (Fits s r above i)
  unfolding is_fit
  fit-decides above i =
      Decides-below_and (λ k. path_in_time (path_at s k) i (placed_bound s r above i)) (λ k. IsPathInTime (path_at s k) i (placed_bound s r above i))
      (all_pass (λ k. path_in_time (path_at s k) i (placed_bound s r above i))) (λ k. path-decides (path_at s k) i (placed_bound s r above i)) refl (λ n. refl) (length s.paths)

  -- whether a free task is in time below all others of them
  is_low : (ℕ → Bool) → ℕ → Bool
  is_low free k = free k && is_fit (without free k) k

  low-parts : (free : ℕ → Bool) (k : ℕ) → is_low free k ≡ true → (free k ≡ true) × Fits s r (without free k) k
  unfolding is_low
  low-parts free k low =
      let both = and_parts (free k) (is_fit (without free k) k) low in
      (both.0, (fit-decides (without free k) k).0 both.1)

  low-from : (free : ℕ → Bool) (k : ℕ) → free k ≡ true → Fits s r (without free k) k → is_low free k ≡ true
  unfolding is_low
  low-from free k is_free fits = rw (is_free, (fit-decides (without free k) k).1 fits) refl

  -- the first free task that is in time there, or none is
  lowest-or-none : (free : ℕ → Bool) (n : ℕ) → ((k : ℕ) → free k ≡ true → k < n) → ((i : ℕ) × (i < n) × IsLowestOf s r free i) ⊎ NoneIsLowest s r free
  lowest-or-none free n known =
      elim (cases_lt (least_from (is_low free) 0 n) n) [
        | inl found ↦
            let it = low-parts free (least_from (is_low free) 0 n) (least_from-passes (is_low free) 0 n (omega arith)) in
            inl (
              least_from (is_low free) 0 n,
              found,
              record {
                unplaced = it.0;
                fits = it.1;
                first = λ k less is_free fits. false≢true (sym (least_from-above (is_low free) 0 n k (omega arith) less) ∙ low-from free k is_free fits);
              },
            )
        | inr past ↦
            inr (λ k is_free fits. let less = known k is_free in
            false≢true (sym (least_from-above (is_low free) 0 n k (omega arith) (omega arith)) ∙ low-from free k is_free fits))
      ]

  module _ (rules : IsSystem s) (able : IsOrderable s r) where
    Answer : Type 0
    Answer = (it : Option (List TaskId)) × IsOrderOf s r it

    found-best : (o : List ℕ) → IsBestOrder s r o → Answer
    unfolding Answer
    found-best o order = (Some (tasks_at o), subst (IsBestOrder s r) (sym (places-tasks_at o)) order)

    -- from any lower part on, with so many that have no place
    search : (left : ℕ) (free : ℕ → Bool) (o : List ℕ) → IsPart s r rules able free o → length (filter free (task_places s)) ≡ left → Answer
    unfolding Answer
    search zero free o part none =
        found-best o (best s r rules able free o part (λ j less. none-passes free 0 (length s.tasks) none j (omega arith) (omega (arith, less))))
    search (suc left) free o part some =
        let known : (k : ℕ) → free k ≡ true → k < length s.tasks =
        λ k is_free. (there-on s r k (and_parts (is_task_on s r k) _ (sym (part.apart k) ∙ is_free)).0).0 in
        elim (lowest-or-none free (length s.tasks) known) [
          | inl found ↦
              let one = count-without free (without free found.0) found.0 0 (length s.tasks) (λ j. refl) found.2.unplaced (omega arith) (omega (arith, found.1)) in
              search left (without free found.0) (found.0 ∷ o) (next s r rules able free (without free found.0) o found.0 part found.2 (λ j. refl)) (omega (arith, one, some))
          | inr none ↦
              let it = some-passes free 0 (length s.tasks) (omega (arith, some)) in
              (None, none_meets s r rules able free o it.0 part it.1 none)
        ]

    pub decided : (it : Option (List TaskId)) × IsOrderOf s r it
    unfolding Answer
    decided = search (length (filter (is_task_on s r) (task_places s))) (is_task_on s r) [] (begun s r rules able (is_task_on s r) (λ j. refl)) refl

pub orders_are_decided : (s : SystemLists) (r : ℕ) → IsSystem s → IsOrderable s r → (it : Option (List TaskId)) × IsOrderOf s r it
orders_are_decided s r rules able = decided s r rules able
