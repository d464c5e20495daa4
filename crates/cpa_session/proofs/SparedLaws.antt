-- What can't be reached by an edit keeps its bounds: each task there asks what it asked before.
use Rattle.std.proofs.Common.{◌≡◌, ℕ, zero, suc, ◌+◌, ◌-◌, ◌<◌, ◌≤◌, min, max, ◌++◌, ◌==◌, length, Bool, true, false, List, [], ◌∷◌, map, Option, Some, None, refl, sym, ap, ◌∙◌, inl, inr, slice_index_or, arith, subst}
use Rattle.std.specs.Prelude.{filter}
use Rattle.std.specs.List.{AllZip, list_any, flat_map, range_with_len, sum_by}
use Rattle.std.specs.Str.{bytes_eq}
use Rattle.std.proofs.lemmas.Bool.{cases_Bool, false≢true, and_parts, and_left, or_cases, or_left, or_right, eqb-true, ne_eqb, eq-eqb, cases_eq}
use Rattle.cpa_units.specs.Sets.{holds, Members}
use Rattle.cpa_units.specs.declared.bound.Bound.{Bound}
use Rattle.cpa_units.specs.declared.limits.TheConstants.{MAX_CHAIN, MAX_PRIORITY}
use Rattle.cpa_units.specs.Bounds.{bound_of}
use Rattle.cpa_events.specs.Events.{Model}
use Rattle.cpa_clock.specs.declared.anchor.Anchor.{Anchor}
use Rattle.cpa_clock.specs.Gathered.{anchors_at}
use Rattle.cpa_clock.specs.Rivals.{ClockedRival}
use Rattle.cpa_clock.specs.Clocked.{clocked_preemptive_bound, clocked_can_bound}
use Rattle.cpa_model.specs.Clocks.{clock_cycle}
use Rattle.cpa_model.proofs.ClockLaws.{clock-some}
use Rattle.cpa_model.specs.declared.entries.Resource.{Resource}
use Rattle.cpa_model.specs.declared.entries.Kind.{Kind}
use Rattle.cpa_model.specs.declared.entries.Kind.TheVariants.{Preemptive, RoundRobin, Tdma, Can, Fifo, Ceiling}
use Rattle.cpa_model.specs.declared.entries.Activator.{Activator}
use Rattle.cpa_model.specs.declared.entries.Activator.TheVariants.{Source as FromSource, Task as FromTask}
use Rattle.cpa_model.specs.SystemLists.{SystemLists, task_at, resource_at, resource_of, task_places, tasks_on, priority_of, slot_of, gap_of, is_higher, is_other, higher_tasks, other_tasks, cycle_of, is_task, no_resource}
use Rattle.cpa_model.specs.Rules.{IsSystem}
use Rattle.cpa_model.proofs.SystemLaws.{activated-there}
use Rattle.cpa_model.specs.declared.locks.CriticalSection.{CriticalSection}
use Rattle.cpa_model.specs.Locks.{uses_lock, ceiling_of, section_of, lock_sections, blocking_by_sections, ceiling_blocking}
use Rattle.cpa_local.specs.Blocking.{blocking_between, blocking_of}
use Rattle.cpa_local.specs.Inputs.{sent_by, joined, sent_by_all, input_along, input}
use Rattle.cpa_local.specs.Local.{rival_of, priority_bound, bound_by_kind, bound_at_input, response}
use Rattle.cpa_local.specs.OnClocks.{anchors_step, anchors_within, anchor_list, anchors_of, clocked_rival_of}
use Rattle.cpa_session.proofs.CycleLaws.{IsWholeInput, AreWholeFrom, AreWholeRivals, clocked_preemptive-same, clocked_can-same}
use Rattle.cpa_session.proofs.WholeInputs.{both-whole}
use Rattle.cpa_depend.specs.Cone.{Activates, LeadsTo, directly, through, Reads, earlier, IsClosedUnder}
use Rattle.cpa_session.specs.Spared.{IsSameActivator, IsSameTask, AreSameTests, IsSpared, AgreeApart}
use Rattle.cpa_local.proofs.PlaceLists.{greatest_over, least_over}
use Rattle.cpa_local.proofs.PassingPlaces.{map-passing, map-map, sum_by-map, sum_by-passing, greatest-map, greatest-passing, least-map, least-passing}

-- a rival by its input, its anchors and its execution
abbrev seen_with : Option Model → List (Option Anchor) → ℕ → ClockedRival
seen_with m anchors worst = record { model = m; anchors = anchors_at anchors; worst = worst }

-- a set of resources that has those that were touched and, in the new system, every resource that reads a member
pub record IsReach (s t : SystemLists) (touched reached : List Bool) (was : ℕ → ℕ) : Type 0 where
  pub before : IsSystem s
  pub rules : IsSystem t
  pub spared : IsSpared s t touched was
  pub wider : (r : ℕ) → Members touched r → Members reached r
  pub closed : IsClosedUnder t reached

module _ (s t : SystemLists) (touched reached : List Bool) (was : ℕ → ℕ) (h : IsReach s t touched reached was) where
  -- what can't be reached reads nothing that can
  pub unread : (r q : ℕ) → Reads t r q → holds reached r ≡ false → holds reached q ≡ false
  unread r q reads off =
      elim (cases_Bool (holds reached q)) [
        | inl on ↦ absurd (false≢true (sym off ∙ h.closed r q reads on))
        | inr it ↦ it
      ]

  pub untouched : (r : ℕ) → holds reached r ≡ false → holds touched r ≡ false
  untouched r off =
      elim (cases_Bool (holds touched r)) [
        | inl on ↦ absurd (false≢true (sym off ∙ h.wider r on))
        | inr it ↦ it
      ]

  pub same_task : (i : ℕ) → i < length t.tasks → holds reached (task_at t i).res.0 ≡ false → IsSameTask s t was i
  same_task i less off = h.spared.same i less (untouched (task_at t i).res.0 off)

  before_one : (k : ℕ) (a b : Activator) → IsSameActivator s t was a b → is_task k b ≡ true → is_task (was k) a ≡ true
  before_one k (FromSource m) (FromSource n) same on = absurd (false≢true on)
  before_one k (FromSource m) (FromTask n) same on = absurd same
  before_one k (FromTask m) (FromSource n) same on = absurd same
  before_one k (FromTask m) (FromTask n) same on = eq-eqb m.0 (was k) (same ∙ ap was (eqb-true n.0 k on))

  -- a task among some activators was among those that stood there before
  before_task : (k : ℕ) (old new : List Activator) → AllZip (IsSameActivator s t was) old new → list_any (is_task k) new ≡ true → list_any (is_task (was k)) old ≡ true
  before_task k [] [] same on = on
  before_task k [] (b ∷ new) same on = absurd same
  before_task k (a ∷ old) [] same on = absurd same
  before_task k (a ∷ old) (b ∷ new) same on =
      elim (or_cases (is_task k b) (list_any (is_task k) new) on) [
        | inl here ↦ or_left (is_task (was k) a) (list_any (is_task (was k)) old) (before_one k a b same.0 here)
        | inr later ↦ or_right (is_task (was k) a) (list_any (is_task (was k)) old) (before_task k old new same.1 later)
      ]

  -- what activates a task that can't be reached can't be reached either, and activated it before
  activated_before : (j i : ℕ) → Activates t j i → i < length t.tasks → holds reached (task_at t i).res.0 ≡ false
      → (j < length t.tasks) × (holds reached (task_at t j).res.0 ≡ false) × Activates s (was j) (was i)
  activated_before j i e less off = (
    activated-there t h.rules i j less e,
    unread (task_at t i).res.0 (task_at t j).res.0 (earlier (directly e)) off,
    before_task j (task_at s (was i)).after (task_at t i).after (same_task i less off).after e,
  )

  -- what leads to a task that can't be reached led to it before
  pub leads_before : (j i : ℕ) → LeadsTo t j i → i < length t.tasks → holds reached (task_at t i).res.0 ≡ false
      → (j < length t.tasks) × (holds reached (task_at t j).res.0 ≡ false) × LeadsTo s (was j) (was i)
  leads_before j i (directly e) less off =
      let it = activated_before j i e less off in
      (it.0, it.1, directly it.2)
  leads_before j i (through {k = k} leads e) less off =
      let last = activated_before k i e less off in
      let it = leads_before j k leads last.0 last.1 in
      (it.0, it.1, through it.2 last.2)

  module _ (i : ℕ) (less : i < length t.tasks) (off : holds reached (task_at t i).res.0 ≡ false) where
    own : IsSameTask s t was i
    own = same_task i less off

    off_touched : holds touched (task_at t i).res.0 ≡ false
    off_touched = untouched (task_at t i).res.0 off

    -- the resource of the task isn't one that was touched
    not_there : (k : ℕ) → Members touched (task_at s k).res.0 → (task_at s (was i)).res.0 ≡ (task_at s k).res.0 → ⊥
    not_there k on same =
        let here : holds touched (task_at s k).res.0 ≡ false = ap (holds touched) (sym same ∙ own.res) ∙ off_touched in
        false≢true (sym here ∙ on)

    not_here : (j : ℕ) → Members touched (task_at t j).res.0 → (task_at t i).res.0 ≡ (task_at t j).res.0 → ⊥
    not_here j on same =
        let here : holds touched (task_at t j).res.0 ≡ false = ap (holds touched) (sym same) ∙ off_touched in
        false≢true (sym here ∙ on)

    higher_tests : AreSameTests s t touched was (is_higher s (was i)) (is_higher t i)
    higher_tests =
        record {
          none_old = λ k k_less on. and_left _ _ (ne_eqb (task_at s (was i)).res.0 (task_at s k).res.0 (not_there k on));
          none_new = λ j j_less on. and_left _ _ (ne_eqb (task_at t i).res.0 (task_at t j).res.0 (not_here j on));
          same = λ j j_less j_off. let it = h.spared.same j j_less j_off in rw (own.res, own.turn, it.res, it.turn) refl;
        }

    lower_tests : AreSameTests s t touched was (λ k. is_higher s k (was i)) (λ j. is_higher t j i)
    lower_tests =
        record {
          none_old = λ k k_less on. and_left _ _ (ne_eqb (task_at s k).res.0 (task_at s (was i)).res.0 (λ e. not_there k on (sym e)));
          none_new = λ j j_less on. and_left _ _ (ne_eqb (task_at t j).res.0 (task_at t i).res.0 (λ e. not_here j on (sym e)));
          same = λ j j_less j_off. let it = h.spared.same j j_less j_off in rw (own.res, own.turn, it.res, it.turn) refl;
        }

    apart_same : (j : ℕ) → (was j == was i) ≡ (j == i)
    apart_same j =
        elim (cases_eq j i) [
          | inl same ↦ eq-eqb (was j) (was i) (ap was same) ∙ sym (eq-eqb j i same)
          | inr other ↦ ne_eqb (was j) (was i) (λ e. other (h.spared.apart j i e)) ∙ sym (ne_eqb j i other)
        ]

    other_tests : AreSameTests s t touched was (is_other s (was i)) (is_other t i)
    other_tests =
        record {
          none_old = λ k k_less on. and_left _ _ (ne_eqb (task_at s (was i)).res.0 (task_at s k).res.0 (not_there k on));
          none_new = λ j j_less on. and_left _ _ (ne_eqb (task_at t i).res.0 (task_at t j).res.0 (not_here j on));
          same = λ j j_less j_off. let it = h.spared.same j j_less j_off in rw (own.res, it.res, apart_same j) refl;
        }

    cycle_tests : AreSameTests s t touched was (λ k. (task_at s k).res.0 == (task_at s (was i)).res.0) (λ j. (task_at t j).res.0 == (task_at t i).res.0)
    cycle_tests =
        record {
          none_old = λ k k_less on. ne_eqb (task_at s k).res.0 (task_at s (was i)).res.0 (λ e. not_there k on (sym e));
          none_new = λ j j_less on. ne_eqb (task_at t j).res.0 (task_at t i).res.0 (λ e. not_here j on (sym e));
          same = λ j j_less j_off. let it = h.spared.same j j_less j_off in rw (own.res, it.res) refl;
        }

    -- a task of the same resource can't be reached either
    beside : (j : ℕ) → (task_at t i).res.0 ≡ (task_at t j).res.0 → holds reached (task_at t j).res.0 ≡ false
    beside j same = ap (holds reached) (sym same) ∙ off

    resource_same : resource_of s (was i) ≡ resource_of t i
    resource_same =
        ap (λ (rs : List Resource). slice_index_or rs (task_at s (was i)).res.0 no_resource) h.spared.resources
        ∙ ap (λ (r : ℕ). resource_at t r) own.res

    cycle_same : cycle_of s (task_at s (was i)).res.0 ≡ cycle_of t (task_at t i).res.0
    cycle_same =
        let slots : sum_by (λ k. slot_of (task_at s k).turn) (filter (λ k. (task_at s k).res.0 == (task_at s (was i)).res.0) (task_places s)) ≡ sum_by (λ j. slot_of (task_at t j).turn) (filter (λ j. (task_at t j).res.0 == (task_at t i).res.0) (task_places t)) =
        ap (sum_by (λ k. slot_of (task_at s k).turn)) (h.spared.listed (λ k. (task_at s k).res.0 == (task_at s (was i)).res.0) (λ j. (task_at t j).res.0 == (task_at t i).res.0) cycle_tests)
        ∙ sum_by-map (λ k. slot_of (task_at s k).turn) was (filter (λ j. (task_at t j).res.0 == (task_at t i).res.0) (task_places t))
        ∙ sum_by-passing (λ j. (task_at t j).res.0 == (task_at t i).res.0) (λ j. slot_of (task_at s (was j)).turn) (λ j. slot_of (task_at t j).turn) 0 (length t.tasks)
        (λ j low high passes. ap slot_of (same_task j (omega arith) (beside j (sym (eqb-true (task_at t j).res.0 (task_at t i).res.0 passes)))).turn) in
        let gap : gap_of (resource_of s (was i)).kind ≡ gap_of (resource_of t i).kind = ap (λ (r : Resource). gap_of r.kind) resource_same in
        omega arith

    -- the ceilings of the locks on the resource of the task
    ceiling_same : (lock : List ℕ) → ceiling_of s (task_at s (was i)).res.0 lock ≡ ceiling_of t (task_at t i).res.0 lock
    ceiling_same lock =
        ap (λ ks. least_over (λ k. priority_of (task_at s k).turn) MAX_PRIORITY (filter (λ k. uses_lock lock (task_at s k)) ks))
        (h.spared.listed (λ k. (task_at s k).res.0 == (task_at s (was i)).res.0) (λ j. (task_at t j).res.0 == (task_at t i).res.0) cycle_tests)
        ∙ least-map (λ k. uses_lock lock (task_at s k)) (λ k. priority_of (task_at s k).turn) was MAX_PRIORITY (tasks_on t (task_at t i).res.0)
        ∙ least-passing (λ j. (task_at t j).res.0 == (task_at t i).res.0) (λ j. uses_lock lock (task_at s (was j))) (λ j. uses_lock lock (task_at t j))
        (λ j. priority_of (task_at s (was j)).turn) (λ j. priority_of (task_at t j).turn) MAX_PRIORITY 0 (length t.tasks)
        (λ j low high passes.
        let it = same_task j (omega arith) (beside j (sym (eqb-true (task_at t j).res.0 (task_at t i).res.0 passes))) in
        (ap (list_any (λ (c : CriticalSection). bytes_eq lock c.lock)) it.locks, ap priority_of it.turn))

    sections_same : (locks : List CriticalSection) → map (section_of s (task_at s (was i)).res.0) locks ≡ map (section_of t (task_at t i).res.0) locks
    sections_same [] = refl
    sections_same (c ∷ locks) =
        ap (λ ceiling. record { start = c.start; ticks = c.length; ceiling = ceiling } ∷ map (section_of s (task_at s (was i)).res.0) locks) (ceiling_same c.lock)
        ∙ ap (λ sections. section_of t (task_at t i).res.0 c ∷ sections) (sections_same locks)

    lock_sections_same : lock_sections s (was i) ≡ lock_sections t i
    lock_sections_same = ap (map (section_of s (task_at s (was i)).res.0)) own.locks ∙ sections_same (task_at t i).locks

  -- ---- blocking

  module _ (i : ℕ) (less : i < length t.tasks) (off : holds reached (task_at t i).res.0 ≡ false) where
    ceiling_blocking_same : (j : ℕ) → j < length t.tasks → holds reached (task_at t j).res.0 ≡ false → ceiling_blocking s (was i) (was j) ≡ ceiling_blocking t i j
    ceiling_blocking_same j j_less j_off =
        let it = same_task j j_less j_off in
        rw (it.region, it.worst, (same_task i less off).turn)
        (ap (λ sections. max (min (task_at t j).region (task_at t j).worst - 1) (blocking_by_sections (priority_of (task_at t i).turn) (task_at t j).worst sections)) (lock_sections_same j j_less j_off))

    blocking_between_same : (kind : Kind) (j : ℕ) → j < length t.tasks → holds reached (task_at t j).res.0 ≡ false → blocking_between s kind (was i) (was j) ≡ blocking_between t kind i j
    blocking_between_same Preemptive j j_less j_off = let it = same_task j j_less j_off in rw (it.region, it.worst) refl
    blocking_between_same RoundRobin j j_less j_off = refl
    blocking_between_same (Tdma gap) j j_less j_off = refl
    blocking_between_same (Can bit) j j_less j_off = (same_task j j_less j_off).worst
    blocking_between_same Fifo j j_less j_off = refl
    blocking_between_same Ceiling j j_less j_off = ceiling_blocking_same j j_less j_off

    blocking_same : (kind : Kind) → blocking_of s kind (was i) ≡ blocking_of t kind i
    blocking_same kind =
        ap (greatest_over (blocking_between s kind (was i)) 0) (h.spared.listed (λ k. is_higher s k (was i)) (λ j. is_higher t j i) (lower_tests i less off))
        ∙ greatest-map (blocking_between s kind (was i)) was 0 (filter (λ j. is_higher t j i) (task_places t))
        ∙ greatest-passing (λ j. is_higher t j i) (λ j. blocking_between s kind (was i) (was j)) (blocking_between t kind i) 0 0 (length t.tasks)
        (λ j low high passes. blocking_between_same kind j (omega arith) (beside i less off j (sym (eqb-true (task_at t j).res.0 (task_at t i).res.0 (and_parts _ _ passes).0))))

  -- ---- on clocks

  anchors_one_same : (chain : ℕ) (a b : Activator) → IsSameActivator s t was a b → ((m : ℕ) → is_task m b ≡ true → (m < length t.tasks) × (holds reached (task_at t m).res.0 ≡ false))
      → ((j : ℕ) → j < length t.tasks → holds reached (task_at t j).res.0 ≡ false → anchors_within s chain (was j) ≡ anchors_within t chain j)
      → anchors_step s (anchors_within s chain) a ≡ anchors_step t (anchors_within t chain) b
  anchors_one_same chain (FromSource k) (FromSource m) same out step = ap (λ (o : Option Anchor). o ∷ []) same.1
  anchors_one_same chain (FromSource k) (FromTask m) same out step = absurd same
  anchors_one_same chain (FromTask j) (FromSource m) same out step = absurd same
  anchors_one_same chain (FromTask j) (FromTask m) same out step =
      let there = out m.0 (eq-eqb m.0 m.0 refl) in
      let it = same_task m.0 there.0 there.1 in
      let list : anchors_within s chain (was m.0) ≡ anchors_within t chain m.0 = step m.0 there.0 there.1 in
      rw (same, it.best, list) refl

  anchors_all_same : (chain : ℕ) (old new : List Activator) → AllZip (IsSameActivator s t was) old new
      → ((m : ℕ) → list_any (is_task m) new ≡ true → (m < length t.tasks) × (holds reached (task_at t m).res.0 ≡ false))
      → ((j : ℕ) → j < length t.tasks → holds reached (task_at t j).res.0 ≡ false → anchors_within s chain (was j) ≡ anchors_within t chain j)
      → flat_map (anchors_step s (anchors_within s chain)) old ≡ flat_map (anchors_step t (anchors_within t chain)) new
  anchors_all_same chain [] [] same out step = refl
  anchors_all_same chain [] (b ∷ new) same out step = absurd same
  anchors_all_same chain (a ∷ old) [] same out step = absurd same
  anchors_all_same chain (a ∷ old) (b ∷ new) same out step =
      let one = anchors_one_same chain a b same.0 (λ m on. out m (or_left (is_task m b) (list_any (is_task m) new) on)) step in
      let others = anchors_all_same chain old new same.1 (λ m on. out m (or_right (is_task m b) (list_any (is_task m) new) on)) step in
      ap (λ os. os ++ flat_map (anchors_step s (anchors_within s chain)) old) one ∙ ap (λ os. anchors_step t (anchors_within t chain) b ++ os) others

  anchors_within_same : (chain i : ℕ) → i < length t.tasks → holds reached (task_at t i).res.0 ≡ false → anchors_within s chain (was i) ≡ anchors_within t chain i
  unfolding anchors_within
  anchors_within_same zero i less off = refl
  anchors_within_same (suc chain) i less off =
      anchors_all_same chain (task_at s (was i)).after (task_at t i).after (same_task i less off).after (λ m on. let it = activated_before m i on less off in (it.0, it.1)) (anchors_within_same chain)

  -- the streams of a task that can't be reached are on clocks where they were
  anchors_same : (i : ℕ) → i < length t.tasks → holds reached (task_at t i).res.0 ≡ false → anchor_list s (was i) ≡ anchor_list t i
  anchors_same i less off = anchors_within_same MAX_CHAIN i less off

  -- ---- at vectors that agree

  module _ (x y : List Bound) (agree : AgreeApart t reached was x y) where
    sent_same : (chain : ℕ) (a b : Activator) → IsSameActivator s t was a b → ((m : ℕ) → is_task m b ≡ true → (m < length t.tasks) × (holds reached (task_at t m).res.0 ≡ false))
        → ((j : ℕ) → j < length t.tasks → holds reached (task_at t j).res.0 ≡ false → input_along s x chain (was j) ≡ input_along t y chain j)
        → sent_by s x (input_along s x chain) a ≡ sent_by t y (input_along t y chain) b
    sent_same chain (FromSource k) (FromSource m) same out step = ap Some same.0
    sent_same chain (FromSource k) (FromTask m) same out step = absurd same
    sent_same chain (FromTask j) (FromSource m) same out step = absurd same
    sent_same chain (FromTask j) (FromTask m) same out step =
        let there = out m.0 (eq-eqb m.0 m.0 refl) in
        let it = same_task m.0 there.0 there.1 in
        let bound : bound_of x (was m.0) ≡ bound_of y m.0 = agree m.0 there.0 there.1 in
        let model : input_along s x chain (was m.0) ≡ input_along t y chain m.0 = step m.0 there.0 there.1 in
        rw (same, it.best, bound, model) refl

    -- some activators send what those sent that stood there before
    all_sent_same : (chain : ℕ) (old new : List Activator) → AllZip (IsSameActivator s t was) old new
        → ((m : ℕ) → list_any (is_task m) new ≡ true → (m < length t.tasks) × (holds reached (task_at t m).res.0 ≡ false))
        → ((j : ℕ) → j < length t.tasks → holds reached (task_at t j).res.0 ≡ false → input_along s x chain (was j) ≡ input_along t y chain j)
        → sent_by_all s x (input_along s x chain) old ≡ sent_by_all t y (input_along t y chain) new
    all_sent_same chain [] [] same out step = refl
    all_sent_same chain [] (b ∷ new) same out step = absurd same
    all_sent_same chain (a ∷ old) [] same out step = absurd same
    all_sent_same chain (a ∷ old) (b ∷ new) same out step =
        let one = sent_same chain a b same.0 (λ m on. out m (or_left (is_task m b) (list_any (is_task m) new) on)) step in
        let others = all_sent_same chain old new same.1 (λ m on. out m (or_right (is_task m b) (list_any (is_task m) new) on)) step in
        ap (λ first. joined first (sent_by_all s x (input_along s x chain) old)) one ∙ ap (joined (sent_by t y (input_along t y chain) b)) others

    along_same : (chain i : ℕ) → i < length t.tasks → holds reached (task_at t i).res.0 ≡ false → input_along s x chain (was i) ≡ input_along t y chain i
    along_same zero i less off = refl
    along_same (suc chain) i less off =
        all_sent_same chain (task_at s (was i)).after (task_at t i).after (same_task i less off).after (λ m on. let it = activated_before m i on less off in (it.0, it.1)) (along_same chain)

    -- an input is what it was
    pub input_same : (i : ℕ) → i < length t.tasks → holds reached (task_at t i).res.0 ≡ false → input s x (was i) ≡ input t y i
    unfolding input
    input_same i less off = along_same MAX_CHAIN i less off

    rival_same : (j : ℕ) → j < length t.tasks → holds reached (task_at t j).res.0 ≡ false → rival_of s x (was j) ≡ rival_of t y j
    rival_same j less off =
        let it = same_task j less off in
        let bound : bound_of x (was j) ≡ bound_of y j = agree j less off in
        let model : input s x (was j) ≡ input t y j = input_same j less off in
        rw (it.worst, it.turn, bound, model) refl

    clocked_rival_same : (j : ℕ) → j < length t.tasks → holds reached (task_at t j).res.0 ≡ false → clocked_rival_of s x (was j) ≡ clocked_rival_of t y j
    clocked_rival_same j less off =
        let model : input s x (was j) ≡ input t y j = input_same j less off in
        ap (λ m. seen_with m (anchor_list s (was j)) (task_at s (was j)).worst) model
        ∙ ap (λ anchors. seen_with (input t y j) anchors (task_at s (was j)).worst) (anchors_same j less off)
        ∙ ap (λ worst. seen_with (input t y j) (anchor_list t j) worst) (same_task j less off).worst

    -- its streams come again in each cycle that their clocks had and have
    whole_same : (j : ℕ) → j < length t.tasks → holds reached (task_at t j).res.0 ≡ false → IsWholeInput (clock_cycle s) (clock_cycle t) (anchors_of t j) (input t y j)
    whole_same j less off = both-whole s t x y h.before h.rules (was j) j (same_task j less off).there less (anchors_same j less off) (input_same j less off)

    module _ (i : ℕ) (less : i < length t.tasks) (off : holds reached (task_at t i).res.0 ≡ false) where
      whole_passing : (a n : ℕ) → a + n ≤ length t.tasks → AreWholeRivals (clock_cycle s) (clock_cycle t) (map (clocked_rival_of t y) (filter (is_higher t i) (range_with_len a n)))
      whole_passing a zero few = tt
      whole_passing a (suc n) few =
          let rest = whole_passing (a + 1) n (omega arith) in
          elim (cases_Bool (is_higher t i a)) [
            | inl passes ↦ rw passes (whole_same a (omega arith) (beside i less off a (eqb-true (task_at t i).res.0 (task_at t a).res.0 (and_parts _ _ passes).0)), rest)
            | inr fails ↦ rw fails rest
          ]

      whole_rivals : AreWholeRivals (clock_cycle s) (clock_cycle t) (map (clocked_rival_of t y) (higher_tasks t i))
      whole_rivals = whole_passing 0 (length t.tasks) (omega arith)

      rivals_same : (old new : ℕ → Bool) → AreSameTests s t touched was old new → ((j : ℕ) → new j ≡ true → (task_at t i).res.0 ≡ (task_at t j).res.0)
          → map (rival_of s x) (filter old (task_places s)) ≡ map (rival_of t y) (filter new (task_places t))
      rivals_same old new tests together =
          ap (map (rival_of s x)) (h.spared.listed old new tests)
          ∙ map-map (rival_of s x) was (filter new (task_places t))
          ∙ map-passing new (λ j. rival_of s x (was j)) (rival_of t y) 0 (length t.tasks)
          (λ j low high passes. rival_same j (omega arith) (beside i less off j (together j passes)))

      higher_same : map (clocked_rival_of s x) (higher_tasks s (was i)) ≡ map (clocked_rival_of t y) (higher_tasks t i)
      higher_same =
          ap (map (clocked_rival_of s x)) (h.spared.listed (is_higher s (was i)) (is_higher t i) (higher_tests i less off))
          ∙ map-map (clocked_rival_of s x) was (higher_tasks t i)
          ∙ map-passing (is_higher t i) (λ j. clocked_rival_of s x (was j)) (clocked_rival_of t y) 0 (length t.tasks)
          (λ j low high passes. clocked_rival_same j (omega arith) (beside i less off j (eqb-true (task_at t i).res.0 (task_at t j).res.0 (and_parts _ _ passes).0)))

      others_same : map (rival_of s x) (other_tasks s (was i)) ≡ map (rival_of t y) (other_tasks t i)
      others_same =
          rivals_same (is_other s (was i)) (is_other t i) (other_tests i less off) (λ j passes. eqb-true (task_at t i).res.0 (task_at t j).res.0 (and_parts _ _ passes).0)

      own_whole : (own : Model) → input t y i ≡ Some own → AreWholeFrom (clock_cycle s) (clock_cycle t) (anchors_of t i) 0 own
      own_whole own is = subst (IsWholeInput (clock_cycle s) (clock_cycle t) (anchors_of t i)) is (whole_same i less off)

      priority_bound_same : (own : Model) (blocking : ℕ) → input t y i ≡ Some own → priority_bound s x (was i) own blocking ≡ priority_bound t y i own blocking
      priority_bound_same own blocking is =
          rw (higher_same, h.spared.sources, (same_task i less off).worst, resource_same i less off)
          (ap (λ os. clocked_preemptive_bound own (anchors_at os) (task_at t i).worst blocking (map (clocked_rival_of t y) (higher_tasks t i)) (clock_cycle s) (length t.sources) (resource_of t i).limit) (anchors_same i less off)
          ∙ clocked_preemptive-same (clock_cycle s) (clock_cycle t) (clock-some s) (clock-some t) (map (clocked_rival_of t y) (higher_tasks t i)) whole_rivals (length t.sources) own (anchors_of t i)
          (task_at t i).worst blocking (resource_of t i).limit (own_whole own is))

      by_kind_same : (own : Model) (kind : Kind) → input t y i ≡ Some own → bound_by_kind s x (was i) own kind ≡ bound_by_kind t y i own kind
      by_kind_same own Preemptive is = rw (blocking_same i less off Preemptive) (priority_bound_same own (blocking_of t Preemptive i) is)
      by_kind_same own RoundRobin is = rw (others_same, (same_task i less off).worst, (same_task i less off).turn, resource_same i less off) refl
      by_kind_same own (Tdma gap) is = rw (cycle_same i less off, (same_task i less off).worst, (same_task i less off).turn, resource_same i less off) refl
      by_kind_same own (Can bit) is =
          rw (higher_same, h.spared.sources, blocking_same i less off (Can bit), (same_task i less off).worst, resource_same i less off)
          (ap (λ os. clocked_can_bound own (anchors_at os) (task_at t i).worst (blocking_of t (Can bit) i) (map (clocked_rival_of t y) (higher_tasks t i)) (clock_cycle s) (length t.sources) bit (resource_of t i).limit) (anchors_same i less off)
          ∙ clocked_can-same (clock_cycle s) (clock_cycle t) (clock-some s) (clock-some t) (map (clocked_rival_of t y) (higher_tasks t i)) whole_rivals (length t.sources) own (anchors_of t i)
          (task_at t i).worst (blocking_of t (Can bit) i) bit (resource_of t i).limit (own_whole own is))
      by_kind_same own Ceiling is = rw (blocking_same i less off Ceiling) (priority_bound_same own (blocking_of t Ceiling i) is)
      by_kind_same own Fifo is = rw (others_same, (same_task i less off).worst, resource_same i less off) refl

      at_input_same : (m : Option Model) → input t y i ≡ m → bound_at_input s x (was i) m ≡ bound_at_input t y i m
      at_input_same (Some own) is = ap (λ (r : Resource). bound_by_kind s x (was i) own r.kind) (resource_same i less off) ∙ by_kind_same own (resource_of t i).kind is
      at_input_same None is = refl

      -- and so is the bound
      pub response_same : response s x (was i) ≡ response t y i
      unfolding response
      response_same = ap (bound_at_input s x (was i)) (input_same i less off) ∙ at_input_same (input t y i) refl
