-- All tasks of a queue have one bound: that of what they ask for together.
use Rattle.std.proofs.Common.{◌≡◌, ℕ, zero, suc, ◌+◌, ◌-◌, ◌*◌, ◌<◌, ◌≤◌, ◌==◌, ◌&&◌, Bool, true, false, not, length, List, [], ◌∷◌, map, Option, Some, None, refl, sym, ap, ◌∙◌, inl, inr, subst, arith}
use Rattle.std.specs.Prelude.{filter}
use Rattle.std.specs.List.{range_with_len}
use Rattle.std.proofs.lemmas.Bool.{cases_Bool, cases_eq, eq-eqb, ne_eqb}
use Rattle.cpa_units.specs.declared.bound.Bound.{Bound}
use Rattle.cpa_units.specs.declared.bound.Bound.TheVariants.{Within, Overload}
use Rattle.cpa_units.specs.Bounds.{IsAtMost, bound_plus, bound_minus, bound_times, sum_bounds}
use Rattle.cpa_events.specs.Events.{Model, eta_plus}
use Rattle.cpa_window.specs.Rivals.{events_in, work_in}
use Rattle.cpa_window.specs.Windows.{IsWindow, window}
use Rattle.cpa_window.proofs.WindowLaws.{window-is}
use Rattle.cpa_fifo.specs.Fifo.{fifo_demand, greatest_while_busy}
use Rattle.cpa_model.specs.declared.entries.Kind.TheVariants.{Fifo}
use Rattle.cpa_model.specs.SystemLists.{SystemLists, task_at, resource_at, resource_of, task_places, shares_resource, other_tasks}
use Rattle.cpa_local.specs.Inputs.{input}
use Rattle.cpa_local.specs.Local.{rival_of, bound_by_kind, bound_at_input, response}

-- ---- one of the places that pass a test, and the others

plus-swapped : (a b c : Bound) → bound_plus a (bound_plus b c) ≡ bound_plus b (bound_plus a c)
plus-swapped (Within a) (Within b) (Within c) = ap Within (omega arith)
plus-swapped (Within a) (Within b) Overload = refl
plus-swapped (Within a) Overload c = refl
plus-swapped Overload (Within b) c = refl
plus-swapped Overload Overload c = refl

abbrev without : (ℕ → Bool) → ℕ → ℕ → Bool
without p i j = p j && not (j == i)

-- past a place it makes no difference
without-past : (p : ℕ → Bool) (i a n : ℕ) → i < a → filter (without p i) (range_with_len a n) ≡ filter p (range_with_len a n)
without-past p i a zero past = refl
without-past p i a (suc n) past =
    let rest = without-past p i (a + 1) n (omega arith) in
    let apart : (a == i) ≡ false = ne_eqb a i (λ e. omega arith) in
    elim (cases_Bool (p a)) [
      | inl passes ↦ rw (passes, apart) (ap (λ (js : List ℕ). a ∷ js) rest)
      | inr fails ↦ rw fails rest
    ]

without-one : (f : ℕ → Bound) (p : ℕ → Bool) (i a n : ℕ) → p i ≡ true → a ≤ i → i < a + n
    → bound_plus (f i) (sum_bounds f (filter (without p i) (range_with_len a n))) ≡ sum_bounds f (filter p (range_with_len a n))
without-one f p i a zero is low high = absurd (omega arith)
without-one f p i a (suc n) is low high =
    elim (cases_eq a i) [
      | inl here ↦
          let on : p a ≡ true = subst (λ (j : ℕ). p j ≡ true) (sym here) is in
          rw (on, eq-eqb a i here)
          (ap (λ (j : ℕ). bound_plus (f j) (sum_bounds f (filter (without p i) (range_with_len (a + 1) n)))) (sym here)
          ∙ ap (λ (js : List ℕ). bound_plus (f a) (sum_bounds f js)) (without-past p i (a + 1) n (omega (arith, here))))
      | inr other ↦
          let rest = without-one f p i (a + 1) n is (omega arith) (omega arith) in
          elim (cases_Bool (p a)) [
            | inl passes ↦
                rw (passes, ne_eqb a i other)
                (plus-swapped (f i) (f a) (sum_bounds f (filter (without p i) (range_with_len (a + 1) n))) ∙ ap (bound_plus (f a)) rest)
            | inr fails ↦ rw fails rest
          ]
    ]

module _ (s : SystemLists) (x : List Bound) where
  -- what a task asks for in a window
  abbrev load : ℕ → ℕ → Bound
  load w j = bound_times (events_in (input s x j) w) (task_at s j).worst

  -- and all tasks of a resource
  abbrev whole_demand : ℕ → ℕ → Bound
  whole_demand r w = sum_bounds (load w) (filter (λ j. r == (task_at s j).res.0) (task_places s))

  abbrev queue_bound : ℕ → Bound
  queue_bound r = greatest_while_busy (λ w. bound_minus (whole_demand r w) (w - 1)) (window (whole_demand r) 1 (resource_at s r).limit)

  work-loads : (w : ℕ) (js : List ℕ) → work_in (map (rival_of s x) js) w ≡ sum_bounds (load w) js
  work-loads w [] = refl
  work-loads w (j ∷ js) = ap (bound_plus (load w j)) (work-loads w js)

  module _ (i : ℕ) (less : i < length s.tasks) where
    whole-is : (w : ℕ) → bound_plus (load w i) (sum_bounds (load w) (other_tasks s i)) ≡ whole_demand (task_at s i).res.0 w
    whole-is w = without-one (load w) (shares_resource s i) i 0 (length s.tasks) (eq-eqb (task_at s i).res.0 (task_at s i).res.0 refl) (omega arith) (omega arith)

    demand-is : (own : Model) → input s x i ≡ Some own → (w : ℕ) → fifo_demand own (task_at s i).worst (map (rival_of s x) (other_tasks s i)) w ≡ whole_demand (task_at s i).res.0 w
    demand-is own e w =
        ap (bound_plus (Within (eta_plus own w * (task_at s i).worst))) (work-loads w (other_tasks s i))
        ∙ ap (λ (m : Option Model). bound_plus (bound_times (events_in m w) (task_at s i).worst) (sum_bounds (load w) (other_tasks s i))) (sym e)
        ∙ whole-is w

    unbounded-whole : input s x i ≡ None → (w : ℕ) → whole_demand (task_at s i).res.0 (suc w) ≡ Overload
    unbounded-whole e w =
        sym (whole-is (suc w))
        ∙ ap (λ (m : Option Model). bound_plus (bound_times (events_in m (suc w)) (task_at s i).worst) (sum_bounds (load (suc w)) (other_tasks s i))) e

    no_window : input s x i ≡ None → (limit : ℕ) (b : Bound) → IsWindow (whole_demand (task_at s i).res.0) 1 limit b → b ≡ Overload
    no_window e limit Overload is = refl
    no_window e limit (Within zero) is = absurd (omega (arith, is.0))
    no_window e limit (Within (suc w)) is = absurd (subst (λ (b : Bound). IsAtMost b (Within (suc w))) (unbounded-whole e w) is.2)

    response-queue : (resource_of s i).kind ≡ Fifo → response s x i ≡ queue_bound (task_at s i).res.0
    unfolding response
    response-queue kind = by (input s x i) refl
      where
        by : (o : Option Model) → input s x i ≡ o → bound_at_input s x i o ≡ queue_bound (task_at s i).res.0
        by None e =
            let whole = whole_demand (task_at s i).res.0 in
            let limit = (resource_of s i).limit in
            sym (ap (greatest_while_busy (λ w. bound_minus (whole w) (w - 1))) (no_window e limit (window whole 1 limit) (window-is whole 1 limit)))
        by (Some own) e =
            let same : fifo_demand own (task_at s i).worst (map (rival_of s x) (other_tasks s i)) ≡ whole_demand (task_at s i).res.0 = λ t w. demand-is own e w t in
            ap (bound_by_kind s x i own) kind
            ∙ ap (λ demand. greatest_while_busy (λ w. bound_minus (demand w) (w - 1)) (window demand 1 (resource_of s i).limit)) same

-- where tasks are on one queue
pub one_bound : (s : SystemLists) (x : List Bound) (r i k : ℕ) → (resource_at s r).kind ≡ Fifo → i < length s.tasks → (task_at s i).res.0 ≡ r → k < length s.tasks → (task_at s k).res.0 ≡ r → response s x i ≡ response s x k
one_bound s x r i k kind i_less i_on k_less k_on =
    response-queue s x i i_less (ap (λ (q : ℕ). (resource_at s q).kind) i_on ∙ kind)
    ∙ ap (queue_bound s x) (i_on ∙ sym k_on)
    ∙ sym (response-queue s x k k_less (ap (λ (q : ℕ). (resource_at s q).kind) k_on ∙ kind))
