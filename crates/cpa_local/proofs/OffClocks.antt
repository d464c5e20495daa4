-- Resources whose tasks' streams are on no clock: the bounds are those without clocks.
use Rattle.std.proofs.Common.{◌≡◌, ℕ, zero, suc, ◌+◌, ◌<◌, ◌≤◌, Bool, true, false, All, List, [], ◌∷◌, length, map, get_or, Option, None, refl, sym, ap, ◌∙◌, inl, inr, arith, subst}
use Rattle.std.specs.Prelude.{filter}
use Rattle.std.specs.Bool.{OnFalse}
use Rattle.std.specs.Prelude.{option_map}
use Rattle.std.specs.List.{range_with_len, flat_map}
use Rattle.std.proofs.lemmas.Bool.{cases_Bool, cases_lt, eqb-true}
use Rattle.std.proofs.lemmas.List.{get_or_past}
use Rattle.std.proofs.lemmas.List.Elements.{All-cons, All-nil, All-append, All-head, All-tail}
use Rattle.cpa_units.specs.declared.bound.Bound.{Bound}
use Rattle.cpa_units.specs.declared.places.TaskId.{TaskId}
use Rattle.cpa_events.specs.Events.{Model}
use Rattle.cpa_spp.specs.Preemptive.{preemptive_bound}
use Rattle.cpa_can.specs.Can.{can_bound}
use Rattle.cpa_clock.specs.Laws.{PlainBoundsAreTheSame}
use Rattle.cpa_clock.specs.declared.anchor.Anchor.{Anchor}
use Rattle.cpa_clock.specs.Rivals.{ClockedRival}
use Rattle.cpa_clock.specs.Wider.{AreOffClocks, AreSameRivals}
use Rattle.cpa_model.specs.SystemLists.{SystemLists, task_at, places_of, tasks_on, task_places, resource_of, higher_tasks, is_higher}
use Rattle.cpa_model.specs.declared.entries.Activator.{Activator}
use Rattle.cpa_model.specs.declared.entries.Activator.TheVariants.{Source as FromSource, Task as FromTask}
use Rattle.cpa_model.specs.declared.entries.Kind.TheVariants.{Can}
use Rattle.cpa_model.specs.Clocks.{has_clocks, clock_of, clock_cycle, offset_of}
use Rattle.cpa_model.specs.Rules.{IsSystem}
use Rattle.cpa_model.proofs.ClockLaws.{no_clocks}
use Rattle.cpa_model.proofs.ResourceTaskLaws.{on-found}
use Rattle.cpa_model.proofs.SystemLaws.{no_id}
use Rattle.cpa_local.specs.Local.{rival_of, priority_bound, bound_by_kind}
use Rattle.cpa_local.specs.Plain.{plain_priority_bound}
use Rattle.cpa_local.specs.Blocking.{blocking_of}
use Rattle.cpa_local.specs.OnClocks.{source_anchor, later_anchor, anchors_step, anchors_within, anchor_list, anchors_of, clocked_rival_of}
use Rattle.cpa_local.specs.Worked.{IsOffClocks}
use Rattle.cpa_local.proofs.RivalLaws.{higher-on}

-- no stream of a list is on a clock
off-list : (s : SystemLists) (i : ℕ) → All (λ (a : Option Anchor). a ≡ None) (anchor_list s i) → AreOffClocks (anchors_of s i)
off-list s i each q =
    elim (cases_lt q (length (anchor_list s i))) [
      | inl there ↦ each q None there
      | inr past ↦ get_or_past (anchor_list s i) q None past
    ]

-- where none of all tasks of a resource is
pub off-all : (s : SystemLists) (r : ℕ) (tasks : List TaskId) → places_of tasks ≡ tasks_on s r → (count : ℕ) → length tasks ≤ count → (some : Bool)
    → OnFalse some ((k : ℕ) → k < count → All (λ (a : Option Anchor). a ≡ None) (anchor_list s (get_or tasks k no_id).0)) → OnFalse some (IsOffClocks s r)
off-all s r tasks are count all true none = none
off-all s r tasks are count all false none = λ i there on.
    let at = on-found s r tasks are i no_id there on in
    subst (λ (j : ℕ). AreOffClocks (anchors_of s j)) at.2 (off-list s (get_or tasks at.0 no_id).0 (none at.0 (omega (arith, at.1))))

-- ---- in a system without clocks

no-source : (s : SystemLists) → ((k : ℕ) → clock_of s k ≡ None) → (k : ℕ) → source_anchor s k ≡ None
no-source s none k = ap (λ o. option_map (λ c. record { clock = c; offset = offset_of s k }) o) (none k)

no-later : (best : ℕ) (os : List (Option Anchor)) → All (λ (a : Option Anchor). a ≡ None) os → All (λ (a : Option Anchor). a ≡ None) (map (later_anchor best) os)
no-later best [] each = All-nil (λ (a : Option Anchor). a ≡ None)
no-later best (o ∷ os) each =
    All-cons (λ (a : Option Anchor). a ≡ None) (later_anchor best o) (map (later_anchor best) os) (ap (later_anchor best) (All-head (λ (a : Option Anchor). a ≡ None) o os each)) (no-later best os (All-tail (λ (a : Option Anchor). a ≡ None) o os each))

module _ (s : SystemLists) (none : (k : ℕ) → clock_of s k ≡ None) where
  no-steps : (f : ℕ → List (Option Anchor)) → ((j : ℕ) → All (λ (a : Option Anchor). a ≡ None) (f j)) → (after : List Activator) → All (λ (a : Option Anchor). a ≡ None) (flat_map (anchors_step s f) after)
  no-steps f each [] = All-nil (λ (a : Option Anchor). a ≡ None)
  no-steps f each (FromSource k ∷ others) = All-cons (λ (a : Option Anchor). a ≡ None) (source_anchor s k.0) (flat_map (anchors_step s f) others) (no-source s none k.0) (no-steps f each others)
  no-steps f each (FromTask j ∷ others) =
      All-append (λ (a : Option Anchor). a ≡ None) (map (later_anchor (task_at s j.0).best) (f j.0)) (flat_map (anchors_step s f) others) (no-later (task_at s j.0).best (f j.0) (each j.0)) (no-steps f each others)

  no-within : (n i : ℕ) → All (λ (a : Option Anchor). a ≡ None) (anchors_within s n i)
  unfolding anchors_within
  no-within zero i = All-nil (λ (a : Option Anchor). a ≡ None)
  no-within (suc n) i = no-steps (anchors_within s n) (no-within n) (task_at s i).after

pub off-clocks : (s : SystemLists) (r : ℕ) → has_clocks s ≡ false → IsOffClocks s r
off-clocks s r none i there on = off-list s i (no-within s (no_clocks s none) 32 i)

-- ---- the rivals of a task

same-rivals : (s : SystemLists) (x : List Bound) (js : List ℕ) → AreSameRivals (map (clocked_rival_of s x) js) (map (rival_of s x) js)
same-rivals s x [] = tt
same-rivals s x (j ∷ js) = (record { model = refl; worst = refl }, same-rivals s x js)

module _ (s : SystemLists) (x : List Bound) (i : ℕ) (off : IsOffClocks s (task_at s i).res.0) where
  off-passing : (a n : ℕ) → a + n ≤ length s.tasks → All (λ (r : ClockedRival). AreOffClocks r.anchors) (map (clocked_rival_of s x) (filter (is_higher s i) (range_with_len a n)))
  off-passing a zero few = All-nil (λ (r : ClockedRival). AreOffClocks r.anchors)
  off-passing a (suc n) few =
      let rest = off-passing (a + 1) n (omega arith) in
      elim (cases_Bool (is_higher s i a)) [
        | inl passes ↦
            rw passes
            (All-cons (λ (r : ClockedRival). AreOffClocks r.anchors) (clocked_rival_of s x a) (map (clocked_rival_of s x) (filter (is_higher s i) (range_with_len (a + 1) n)))
            (off a (omega arith) (eqb-true _ _ (higher-on s i a passes))) rest)
        | inr fails ↦ rw fails rest
      ]

  off-rivals : All (λ (r : ClockedRival). AreOffClocks r.anchors) (map (clocked_rival_of s x) (higher_tasks s i))
  off-rivals = off-passing 0 (length s.tasks) (omega arith)

  module _ (there : i < length s.tasks) (laws : PlainBoundsAreTheSame) (own : Model) where
    pub plain-preemptive : (blocking : ℕ) → plain_priority_bound s x i own blocking ≡ priority_bound s x i own blocking
    plain-preemptive blocking =
        sym (laws own (anchors_of s i) (task_at s i).worst blocking (map (clocked_rival_of s x) (higher_tasks s i)) (map (rival_of s x) (higher_tasks s i)) (clock_cycle s) (length s.sources) (resource_of s i).limit
        (off i there refl) off-rivals (same-rivals s x (higher_tasks s i))).0

    pub plain-can : (bit : ℕ) → can_bound own (task_at s i).worst (blocking_of s (Can bit) i) (map (rival_of s x) (higher_tasks s i)) bit (resource_of s i).limit ≡ bound_by_kind s x i own (Can bit)
    plain-can bit =
        sym ((laws own (anchors_of s i) (task_at s i).worst (blocking_of s (Can bit) i) (map (clocked_rival_of s x) (higher_tasks s i)) (map (rival_of s x) (higher_tasks s i)) (clock_cycle s) (length s.sources) (resource_of s i).limit
        (off i there refl) off-rivals (same-rivals s x (higher_tasks s i))).1 bit)
