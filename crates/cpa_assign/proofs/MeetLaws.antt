-- An order meets the deadlines where each of its tasks is in time below those before it.
use Rattle.std.proofs.Common.{◌≡◌, ◌≢◌, ℕ, zero, suc, ◌<◌, ◌==◌, nat_lt, Bool, true, false, List, [], ◌∷◌, Option, length, All, slice_index_or, refl, ap, sym, ◌∙◌, subst, inl, inr, arith}
use Rattle.std.specs.List.{AllPairs}
use Rattle.std.specs.Option.{ForSome}
use Rattle.std.proofs.lemmas.Bool.{and_parts, cases_Bool, false≢true, ltb-true, lt-ltb, or_parts}
use Rattle.std.proofs.lemmas.List.Kept.{AllPairs-cons}
use Rattle.cpa_units.specs.declared.bound.Bound.{Bound}
use Rattle.cpa_units.specs.declared.bound.Bound.TheVariants.{Within, Overload}
use Rattle.cpa_units.specs.declared.places.TaskId.{TaskId}
use Rattle.cpa_units.specs.Bounds.{IsAtMost, bound_of, bound_plus}
use Rattle.cpa_units.proofs.BoundLaws.{IsAtMost_trans}
use Rattle.cpa_model.specs.declared.entries.Path.{Path}
use Rattle.cpa_model.specs.SystemLists.{SystemLists, path_at, no_path, is_on}
use Rattle.cpa_model.specs.Rules.{IsSystem, IsPath}
use Rattle.cpa_local.specs.Solution.{least_of}
use Rattle.cpa_local.proofs.ResponseLaws.{bound_of-responses}
use Rattle.cpa_local.proofs.SolutionLaws.{responses-least_of}
use Rattle.cpa_local.specs.Paths.{path_worst}
use Rattle.cpa_assign.specs.Orders.{is_member, is_task_on, with_order, Meets, IsOrder, IsOrderable, IsBestOrder}
use Rattle.cpa_assign.specs.Placing.{placed_bound, without, Fits, IsLowestOf, NoneIsLowest}
use Rattle.cpa_assign.proofs.OrderLaws.{is_before, AreOnce, once-from, same_place}
use Rattle.cpa_assign.proofs.AudsleyLaws.{IsLowerPart, IsFitting, OrderFits, lower-next, lower-none, lower-same, none-fits, whole-fits}
use Rattle.cpa_assign.proofs.TradeLaws.{fewer_above}
use Rattle.cpa_assign.proofs.PlacingLaws.{ordered-long}
use Rattle.cpa_assign.proofs.OrderedLaws.{member-there, response-placed}

within-deadline : (deadline : Option ℕ) (a b : Bound) → IsAtMost a b → ForSome deadline (λ d. IsAtMost b (Within d)) → ForSome deadline (λ d. IsAtMost a (Within d))
within-deadline deadline a b le h = λ d is. IsAtMost_trans a b (Within d) le (h d is)

plus-none : (a : Bound) → bound_plus a (Within 0) ≡ a
plus-none (Within a) = ap Within (omega arith)
plus-none Overload = refl

differ-all : (k : ℕ) (o : List ℕ) → is_member o k ≡ false → All (λ j. k ≢ j) o
differ-all k o none = λ j d less. apart o j d less none
  where
    apart : (o : List ℕ) (j d : ℕ) → j < length o → is_member o k ≡ false → k ≢ slice_index_or o j d
    apart [] j d less none = absurd (omega (arith, less))
    apart (m ∷ o) zero d less none = λ same. absurd (false≢true (sym none ∙ (rw (same, same_place m) refl)))
    apart (m ∷ o) (suc j) d less none = apart o j d (omega (arith, less)) (or_parts (m == k) (is_member o k) none).1

once-to : (o : List ℕ) → AreOnce o → AllPairs (λ i j. i ≢ j) o
once-to [] h = λ i j d lt le. absurd (omega (arith, lt, le))
once-to (k ∷ o) h = AllPairs-cons (λ i j. i ≢ j) k o (differ-all k o h.0) (once-to o h.1)

module _ (s : SystemLists) (r : ℕ) (rules : IsSystem s) (able : IsOrderable s r) where
  pub fewer_fits : (fewer above : ℕ → Bool) (i : ℕ) → ((j : ℕ) → fewer j ≡ true → above j ≡ true) → Fits s r above i → Fits s r fewer i
  fewer_fits fewer above i moved fits = λ k less only.
      let own : IsPath s (path_at s k) = rules.paths k no_path less in
      let there = rw only at own.there in
      let in_range : i < length s.tasks = there 0 (record { 0 = 0 }) (omega arith) in
      within-deadline (path_at s k).deadline (placed_bound s r fewer i) (placed_bound s r above i) (fewer_above s r i fewer above rules in_range moved) (fits k less only)

  abbrev pub IsPart : (ℕ → Bool) → List ℕ → Type 0
  IsPart free o = IsLowerPart (Fits s r) fewer_fits (is_task_on s r) free o

  -- what a path whose only task is a member takes at most
  worst-placed : (o : List ℕ) → IsOrder s r o → (k i : ℕ) → is_member o i ≡ true → (path_at s k).tasks ≡ record { 0 = i } ∷ []
      → path_worst (least_of (with_order s r o)) (path_at s k) ≡ placed_bound s r (is_before o i) i
  worst-placed o order k i member only =
      let t = with_order s r o in
      let x = least_of t in
      let own = member-there s r o rules able order i member in
      let there : i < length t.tasks = omega (arith, own.0, ordered-long s r o) in
      let alone : path_worst x (path_at s k) ≡ bound_plus (bound_of x i) (Within 0) = rw only refl in
      alone ∙ plus-none (bound_of x i)
      ∙ ap (λ (y : List Bound). bound_of y i) (sym (responses-least_of t))
      ∙ bound_of-responses t x i there
      ∙ response-placed s r o rules able order x i member

  meets-fits : (o : List ℕ) → IsOrder s r o → Meets s r o → OrderFits (Fits s r) fewer_fits (is_task_on s r) o
  meets-fits o order meets i member = λ k less only.
      let own = member-there s r o rules able order i member in
      subst (λ (b : Bound). ForSome (path_at s k).deadline (λ d. IsAtMost b (Within d)))
      (worst-placed o order k i member only) (meets k i less only own.1)

  only-there : (p : Path) (i : ℕ) → IsPath s p → p.tasks ≡ record { 0 = i } ∷ [] → i < length s.tasks
  only-there p i path only = (subst (λ (ts : List TaskId). All (λ (t : TaskId). t.0 < length s.tasks) ts) only path.there) 0 (record { 0 = 0 }) (omega arith)

  fits-meets : (o : List ℕ) → IsOrder s r o → OrderFits (Fits s r) fewer_fits (is_task_on s r) o → Meets s r o
  fits-meets o order fits k i less only on =
      let path : IsPath s (path_at s k) = rules.paths k no_path less in
      let there : i < length s.tasks = only-there (path_at s k) i path only in
      let member : is_member o i ≡ true = order.members i ∙ (rw (lt-ltb i (length s.tasks) there, on) refl) in
      subst (λ (b : Bound). ForSome (path_at s k).deadline (λ d. IsAtMost b (Within d)))
      (sym (worst-placed o order k i member only)) (fits i member k less only)

  fitting-from : (p : List ℕ) → IsOrder s r p → Meets s r p → IsFitting (Fits s r) fewer_fits (is_task_on s r) p
  fitting-from p order meets =
      record { members = order.members; once = once-from p order.once; fits = meets-fits p order meets }

  -- once all have a place it is the best order
  pub best : (free : ℕ → Bool) (o : List ℕ) → IsPart free o → ((j : ℕ) → j < length s.tasks → free j ≡ false) → IsBestOrder s r o
  best free o part none =
      let order : IsOrder s r o = record {
        members = λ i. elim (cases_Bool (is_member o i)) [
          | inl member ↦ member ∙ sym (part.known i member)
          | inr outside ↦ outside ∙ sym (elim (cases_Bool (is_task_on s r i)) [
            | inl there ↦
                let both = and_parts (nat_lt i (length s.tasks)) (is_on s r i) there in
                absurd (false≢true (sym (none i (ltb-true i (length s.tasks) both.0)) ∙ part.apart i ∙ (rw (there, outside) refl)))
            | inr elsewhere ↦ elsewhere
          ])
        ];
        once = once-to o part.once;
      } in
      record {
        order = order;
        meets = fits-meets o order (whole-fits (Fits s r) fewer_fits (is_task_on s r) free o part.fits);
        least = λ p its meets. part.least p (fitting-from p its meets);
      }

  -- at the begin nobody has a place
  pub begun : (free : ℕ → Bool) → ((j : ℕ) → free j ≡ is_task_on s r j) → IsPart free []
  begun free same =
      lower-same (Fits s r) fewer_fits (is_task_on s r) (is_task_on s r) free [] (λ j. sym (same j)) (lower-none (Fits s r) fewer_fits (is_task_on s r))

  -- the first that is in time gets the lowest free place
  pub next : (free free' : ℕ → Bool) (o : List ℕ) (i : ℕ) → IsPart free o → IsLowestOf s r free i → ((j : ℕ) → free' j ≡ without free i j) → IsPart free' (i ∷ o)
  next free free' o i part lowest same =
      lower-same (Fits s r) fewer_fits (is_task_on s r) (without free i) free' (i ∷ o) (λ j. sym (same j))
      (lower-next (Fits s r) fewer_fits (is_task_on s r) free o part i (record { unplaced = lowest.unplaced; fits = lowest.fits; first = lowest.first }))

  -- where none of the free is in time, no order meets
  pub none_meets : (free : ℕ → Bool) (o : List ℕ) (i : ℕ) → IsPart free o → free i ≡ true → NoneIsLowest s r free → (p : List ℕ) → IsOrder s r p → ¬ Meets s r p
  none_meets free o i part is_free none p order meets =
      none-fits (Fits s r) fewer_fits (is_task_on s r) free o part i is_free none p (fitting-from p order meets)
