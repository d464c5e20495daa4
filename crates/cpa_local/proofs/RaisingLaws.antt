-- Where each task asks for at least as much as before, no bound falls.
use Rattle.std.proofs.Common.{◌≡◌, ℕ, zero, suc, ◌+◌, ◌-◌, ◌<◌, ◌≤◌, ◌==◌, length, true, List, [], ◌∷◌, map, Option, Some, None, refl, ap, ◌∙◌, subst, slice_index_or, arith}
use Rattle.std.specs.Prelude.{filter}
use Rattle.std.specs.List.{sum_by, range_with_len, list_any, AllZip}
use Rattle.std.proofs.lemmas.Bool.{or_left, or_right}
use Rattle.cpa_units.specs.declared.bound.Bound.{Bound}
use Rattle.cpa_units.specs.declared.bound.Bound.TheVariants.{Within, Overload}
use Rattle.cpa_units.specs.declared.limits.TheConstants.{MAX_CHAIN}
use Rattle.cpa_units.specs.Bounds.{IsAtMost, IsNowhereAbove, bound_of}
use Rattle.cpa_events.specs.Events.{Model}
use Rattle.cpa_window.specs.Rivals.{IsInputNoDenser, IsNoHeavier, AreNoHeavier}
use Rattle.cpa_clock.specs.Clocked.{clocked_preemptive_bound, clocked_can_bound}
use Rattle.cpa_clock.specs.Wider.{AreWider, IsInputWider, IsRivalWider, AreRivalsWider}
use Rattle.cpa_clock.proofs.BoundLaws.{clocked_preemptive_bound-grows, clocked_can_bound-grows}
use Rattle.cpa_clock.proofs.WiderLaws.{wide-denser}
use Rattle.cpa_fifo.proofs.FifoBoundLaws.{fifo_bound-mono}
use Rattle.cpa_rr.proofs.RoundRobinLaws.{round_robin_bound-mono}
use Rattle.cpa_tdma.proofs.TdmaLaws.{tdma_bound-mono}
use Rattle.cpa_model.specs.declared.entries.Resource.{Resource}
use Rattle.cpa_model.specs.declared.entries.Kind.{Kind}
use Rattle.cpa_model.specs.declared.entries.Kind.TheVariants.{Preemptive, RoundRobin, Tdma, Can, Fifo, Ceiling}
use Rattle.cpa_model.specs.declared.entries.Activator.{Activator}
use Rattle.cpa_model.specs.declared.entries.Activator.TheVariants.{Source as FromSource, Task as FromTask}
use Rattle.cpa_model.specs.Clocks.{clock_cycle}
use Rattle.cpa_model.specs.SystemLists.{SystemLists, task_at, resource_at, resource_of, task_places, slot_of, gap_of, is_higher, is_other, higher_tasks, other_tasks, cycle_of, is_task, no_resource}
use Rattle.cpa_model.specs.Rules.{IsSystem}
use Rattle.cpa_model.proofs.SystemLaws.{activated-there}
use Rattle.cpa_local.specs.Blocking.{blocking_between, blocking_of}
use Rattle.cpa_local.specs.Inputs.{input}
use Rattle.cpa_local.specs.Local.{rival_of, priority_bound, bound_by_kind, bound_at_input, response}
use Rattle.cpa_local.specs.OnClocks.{anchors_of, clocked_rival_of}
use Rattle.cpa_local.specs.Raising.{IsRaisedTask, IsRaising}
use Rattle.cpa_local.proofs.WiderLaws.{IsSentWider, input-wider, input_wider-denser}
use Rattle.cpa_local.proofs.LockLaws.{ceiling_blocking-up}
use Rattle.cpa_local.proofs.PlaceLists.{rivals-passing, clocked_rivals-passing, sum-passing, greatest_over, greatest-more_passing}

module _ (s t : SystemLists) (rules : IsSystem s) (up : IsRaising s t) (x y : List Bound) (sent : (j : ℕ) → j < length s.tasks → IsSentWider s t x y j) where
  -- what a task receives comes in wider intervals, and no less densely
  input_wider : (i : ℕ) → i < length s.tasks → IsInputWider (anchors_of s i) (anchors_of t i) (input s x i) (input t y i)
  input_wider = input-wider s t x y (λ j. j < length s.tasks) (activated-there s rules) (λ i less. (up.tasks i less).after) sent

  input_denser : (i : ℕ) → i < length s.tasks → IsInputNoDenser (input s x i) (input t y i)
  input_denser i less = input_wider-denser (anchors_of s i) (anchors_of t i) (input s x i) (input t y i) (input_wider i less)

  -- how many tasks there are more
  added : ℕ
  added = length t.tasks - length s.tasks

  all_tasks : length s.tasks + added ≡ length t.tasks
  unfolding added
  all_tasks = omega (arith, up.more)

  rival_heavier : (j : ℕ) → j < length s.tasks → IsNoHeavier (rival_of s x j) (rival_of t y j)
  rival_heavier j less =
      let it = up.tasks j less in
      record { model = input_denser j less; worst = it.worst; slot = ap slot_of it.turn; bound = (sent j less).bound }

  clocked_rival_wider : (j : ℕ) → j < length s.tasks → IsRivalWider (clocked_rival_of s x j) (clocked_rival_of t y j)
  clocked_rival_wider j less = record { input = input_wider j less; worst = (up.tasks j less).worst }

  clocks_as : clock_cycle s ≡ clock_cycle t
  clocks_as k c = up.cycles c k

  module _ (i : ℕ) (less : i < length s.tasks) where
    own : IsRaisedTask s t i
    own = up.tasks i less

    higher_as : (j : ℕ) → j < length s.tasks → is_higher s i j ≡ is_higher t i j
    higher_as j j_less = let it = up.tasks j j_less in rw (own.res, own.turn, it.res, it.turn) refl

    lower_as : (j : ℕ) → j < length s.tasks → is_higher s j i ≡ is_higher t j i
    lower_as j j_less = let it = up.tasks j j_less in rw (own.res, own.turn, it.res, it.turn) refl

    other_as : (j : ℕ) → j < length s.tasks → is_other s i j ≡ is_other t i j
    other_as j j_less = let it = up.tasks j j_less in rw (own.res, it.res) refl

    on_as : (j : ℕ) → j < length s.tasks → ((task_at s j).res.0 == (task_at s i).res.0) ≡ ((task_at t j).res.0 == (task_at t i).res.0)
    on_as j j_less = let it = up.tasks j j_less in rw (own.res, it.res) refl

    resource_as : resource_of s i ≡ resource_of t i
    resource_as =
        ap (λ (rs : List Resource). slice_index_or rs (task_at s i).res.0 no_resource) up.resources
        ∙ ap (λ (r : ℕ). resource_at t r) own.res

    -- what holds of clocks, of how many, and of the limit
    clocked_as : (P : (ℕ → ℕ) → ℕ → ℕ → Type 0) → P (clock_cycle s) (length s.sources) (resource_of s i).limit → P (clock_cycle t) (length t.sources) (resource_of t i).limit
    clocked_as P h =
        subst (λ (r : Resource). P (clock_cycle t) (length t.sources) r.limit) resource_as
        (subst (λ (k : ℕ). P (clock_cycle t) k (resource_of s i).limit) up.sources (subst (λ (f : ℕ → ℕ). P f (length s.sources) (resource_of s i).limit) clocks_as h))

    higher_wider : AreRivalsWider (map (clocked_rival_of s x) (higher_tasks s i)) (map (clocked_rival_of t y) (higher_tasks t i))
    higher_wider =
        subst (λ (n : ℕ). AreRivalsWider (map (clocked_rival_of s x) (higher_tasks s i)) (map (clocked_rival_of t y) (filter (is_higher t i) (range_with_len 0 n)))) all_tasks
        (clocked_rivals-passing (is_higher s i) (is_higher t i) (clocked_rival_of s x) (clocked_rival_of t y) 0 (length s.tasks) added
        (λ j low high. higher_as j (omega arith)) (λ j low high. clocked_rival_wider j (omega arith)))

    others_heavier : AreNoHeavier (map (rival_of s x) (other_tasks s i)) (map (rival_of t y) (other_tasks t i))
    others_heavier =
        subst (λ (n : ℕ). AreNoHeavier (map (rival_of s x) (other_tasks s i)) (map (rival_of t y) (filter (is_other t i) (range_with_len 0 n)))) all_tasks
        (rivals-passing (is_other s i) (is_other t i) (rival_of s x) (rival_of t y) 0 (length s.tasks) added
        (λ j low high. other_as j (omega arith)) (λ j low high. rival_heavier j (omega arith)))

    cycle_up : cycle_of s (task_at s i).res.0 ≤ cycle_of t (task_at t i).res.0
    cycle_up =
        let slots : sum_by (λ j. slot_of (task_at s j).turn) (filter (λ j. (task_at s j).res.0 == (task_at s i).res.0) (task_places s)) ≤ sum_by (λ j. slot_of (task_at t j).turn) (filter (λ j. (task_at t j).res.0 == (task_at t i).res.0) (task_places t)) =
        subst (λ (n : ℕ). sum_by (λ j. slot_of (task_at s j).turn) (filter (λ j. (task_at s j).res.0 == (task_at s i).res.0) (task_places s)) ≤ sum_by (λ j. slot_of (task_at t j).turn) (filter (λ j. (task_at t j).res.0 == (task_at t i).res.0) (range_with_len 0 n))) all_tasks
        (sum-passing (λ j. (task_at s j).res.0 == (task_at s i).res.0) (λ j. (task_at t j).res.0 == (task_at t i).res.0) (λ j. slot_of (task_at s j).turn) (λ j. slot_of (task_at t j).turn) 0 (length s.tasks) added
        (λ j low high. on_as j (omega arith)) (λ j low high. let same = ap slot_of (up.tasks j (omega arith)).turn in omega arith)) in
        let gap : gap_of (resource_of s i).kind ≡ gap_of (resource_of t i).kind = ap (λ (r : Resource). gap_of r.kind) resource_as in
        omega arith

    blocking_between_up : (kind : Kind) (j : ℕ) → j < length s.tasks → blocking_between s kind i j ≤ blocking_between t kind i j
    blocking_between_up Preemptive j j_less = let it = up.tasks j j_less in omega (arith, it.worst, it.region)
    blocking_between_up RoundRobin j j_less = omega arith
    blocking_between_up (Tdma gap) j j_less = omega arith
    blocking_between_up (Can bit) j j_less = (up.tasks j j_less).worst
    blocking_between_up Fifo j j_less = omega arith
    blocking_between_up Ceiling j j_less = ceiling_blocking-up s t up i j less j_less

    blocking_up : (kind : Kind) → blocking_of s kind i ≤ blocking_of t kind i
    blocking_up kind =
        subst (λ (n : ℕ). blocking_of s kind i ≤ greatest_over (blocking_between t kind i) 0 (filter (λ j. is_higher t j i) (range_with_len 0 n))) all_tasks
        (greatest-more_passing (λ j. is_higher s j i) (λ j. is_higher t j i) (blocking_between s kind i) (blocking_between t kind i) 0 0 0 (length s.tasks) added (omega arith)
        (λ j low high. lower_as j (omega arith)) (λ j low high. blocking_between_up kind j (omega arith)))

    preemptive_up : (m n : Model) (blocking more : ℕ) → blocking ≤ more → AreWider (anchors_of s i) (anchors_of t i) 0 m n → IsAtMost (priority_bound s x i m blocking) (priority_bound t y i n more)
    preemptive_up m n blocking more longer d =
        clocked_as (λ cycle count limit. IsAtMost (priority_bound s x i m blocking) (clocked_preemptive_bound n (anchors_of t i) (task_at t i).worst more (map (clocked_rival_of t y) (higher_tasks t i)) cycle count limit))
        (clocked_preemptive_bound-grows (task_at s i).worst (task_at t i).worst blocking more (map (clocked_rival_of s x) (higher_tasks s i)) (map (clocked_rival_of t y) (higher_tasks t i))
        (clock_cycle s) (length s.sources) (resource_of s i).limit own.worst longer higher_wider m n (anchors_of s i) (anchors_of t i) d)

    can_up : (m n : Model) (bit : ℕ) → AreWider (anchors_of s i) (anchors_of t i) 0 m n → IsAtMost (bound_by_kind s x i m (Can bit)) (bound_by_kind t y i n (Can bit))
    can_up m n bit d =
        clocked_as (λ cycle count limit. IsAtMost (bound_by_kind s x i m (Can bit)) (clocked_can_bound n (anchors_of t i) (task_at t i).worst (blocking_of t (Can bit) i) (map (clocked_rival_of t y) (higher_tasks t i)) cycle count bit limit))
        (clocked_can_bound-grows (task_at s i).worst (task_at t i).worst (blocking_of s (Can bit) i) (blocking_of t (Can bit) i) (map (clocked_rival_of s x) (higher_tasks s i)) (map (clocked_rival_of t y) (higher_tasks t i))
        (clock_cycle s) (length s.sources) (resource_of s i).limit own.worst (blocking_up (Can bit)) higher_wider m n (anchors_of s i) (anchors_of t i) bit d)

    by_kind_up : (m n : Model) (kind : Kind) → AreWider (anchors_of s i) (anchors_of t i) 0 m n → IsAtMost (bound_by_kind s x i m kind) (bound_by_kind t y i n kind)
    by_kind_up m n Preemptive d = preemptive_up m n (blocking_of s Preemptive i) (blocking_of t Preemptive i) (blocking_up Preemptive) d
    by_kind_up m n RoundRobin d =
        rw (← resource_as, ← own.turn)
        (round_robin_bound-mono m n (task_at s i).worst (task_at t i).worst (slot_of (task_at s i).turn) _ _ (resource_of s i).limit (wide-denser (anchors_of s i) (anchors_of t i) 0 m n d) own.worst others_heavier)
    by_kind_up m n (Tdma gap) d =
        let limit : (resource_of s i).limit ≡ (resource_of t i).limit = ap (λ (r : Resource). r.limit) resource_as in
        rw (← limit, ← own.turn)
        (tdma_bound-mono m n (task_at s i).worst (task_at t i).worst (slot_of (task_at s i).turn) (cycle_of s (task_at s i).res.0) (cycle_of t (task_at t i).res.0) (resource_of s i).limit (wide-denser (anchors_of s i) (anchors_of t i) 0 m n d) own.worst cycle_up)
    by_kind_up m n (Can bit) d = can_up m n bit d
    by_kind_up m n Fifo d =
        rw (← resource_as)
        (fifo_bound-mono m n (task_at s i).worst (task_at t i).worst _ _ (resource_of s i).limit (wide-denser (anchors_of s i) (anchors_of t i) 0 m n d) own.worst others_heavier)
    by_kind_up m n Ceiling d = preemptive_up m n (blocking_of s Ceiling i) (blocking_of t Ceiling i) (blocking_up Ceiling) d

    at_input_up : (m n : Option Model) → IsInputWider (anchors_of s i) (anchors_of t i) m n → IsAtMost (bound_at_input s x i m) (bound_at_input t y i n)
    at_input_up m None d = tt
    at_input_up None (Some n) d = absurd d
    at_input_up (Some m) (Some n) d =
        subst (λ (r : Resource). IsAtMost (bound_by_kind s x i m (resource_of s i).kind) (bound_by_kind t y i n r.kind)) resource_as (by_kind_up m n (resource_of s i).kind d)

    -- a bound is no smaller than before
    pub response_up : IsAtMost (response s x i) (response t y i)
    unfolding response
    response_up = at_input_up (input s x i) (input t y i) (input_wider i less)
