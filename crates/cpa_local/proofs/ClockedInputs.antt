-- Inputs whose streams are on clocks, and the cycles of clocks in a list.
use Rattle.std.proofs.Common.{◌≡◌, ℕ, zero, suc, ◌+◌, ◌*◌, ◌<◌, ◌≤◌, ◌%◌, All, List, [], ◌∷◌, length, map, get_or, take, drop, ◌++◌, Option, Some, None, false, refl, sym, ap, ◌∙◌, inl, inr, arith, subst, true, Bool}
use Rattle.std.specs.Prelude.{filter, position, slice_index_or, IfSome, option_map}
use Rattle.std.specs.List.{AllZip, range_with_len, position_or_len}
use Rattle.std.specs.Option.{ForSome}
use Rattle.std.specs.Str.{bytes_eq}
use Rattle.std.proofs.lemmas.Bool.{cases_lt, true≢false, eqb-true}
use Rattle.std.proofs.lemmas.List.{length-map, length-append, map-append, take-append-drop, take_all, get_or_past, get_or-map}
use Rattle.std.proofs.lemmas.List.Elements.{filter-append}
use Rattle.std.proofs.lemmas.List.Sums.{fails_before_first}
use Rattle.std.proofs.lemmas.Slice.Eq.{bytes_eq-Decides}
use Rattle.std.proofs.lemmas.Grind.{common_steps}
use Rattle.std.proofs.lemmas.List.FromFn.{length-range_with_len, get_or-range_with_len}
use Rattle.std.proofs.lemmas.Option.{none-some, same_Some}
use Rattle.cpa_units.specs.declared.bound.Bound.{Bound}
use Rattle.cpa_units.specs.declared.limits.TheConstants.{MAX_PERIOD, MAX_EXECUTION, MAX_SOURCES}
use Rattle.cpa_units.specs.declared.places.SourceId.{SourceId}
use Rattle.cpa_events.specs.declared.stream.Stream.{Stream}
use Rattle.cpa_events.specs.Events.{Model, IsModelInRange}
use Rattle.cpa_phase.specs.declared.placed.TheConstants.{MAX_OFFSET}
use Rattle.cpa_clock.specs.declared.anchor.Anchor.{Anchor}
use Rattle.cpa_clock.specs.Gathered.{AreCycles, IsAnchored, IsAnchoredAt, IsInputOn, added_rival, anchors_at, cycles_at}
use Rattle.cpa_clock.specs.Clocked.{clocked_preemptive_bound, clocked_can_bound}
use Rattle.cpa_model.specs.declared.entries.Kind.TheVariants.{Can}
use Rattle.cpa_local.specs.Blocking.{blocking_of}
use Rattle.cpa_local.specs.Local.{priority_bound, bound_by_kind}
use Rattle.cpa_units.specs.declared.places.TaskId.{TaskId}
use Rattle.cpa_model.specs.declared.entries.OnClock.{OnClock}
use Rattle.cpa_model.specs.declared.entries.Source.{Source}
use Rattle.cpa_model.specs.Clocks.{clock_of, clock_cycle, offset_of, ticking_of, cycle_on, first_on, is_on_clock, names_clock}
use Rattle.cpa_model.specs.declared.clocks.Ticking.{Ticking}
use Rattle.cpa_model.specs.Rules.{IsSystem}
use Rattle.cpa_model.specs.SystemLists.{SystemLists, task_at, source_at, streams_of, no_source, resource_of, is_higher, higher_tasks, task_places, tasks_on, places_of, place_of}
use Rattle.cpa_model.proofs.ClockLaws.{clock-some, clock-short}
use Rattle.cpa_model.proofs.SystemLaws.{range-more}
use Rattle.cpa_local.specs.Inputs.{input, AreInputs}
use Rattle.cpa_local.specs.OnClocks.{anchor_list, anchors_of, clocked_rival_of}
use Rattle.cpa_local.specs.Solution.{IsVector}
use Rattle.cpa_local.specs.Worked.{AreInputsOn, clocked_rival_by}
use Rattle.cpa_local.proofs.AnchorLists.{IsOnClock, IsOnClockOf, anchors-on}
use Rattle.cpa_local.proofs.InputLaws.{input-in_range}
use Rattle.cpa_local.proofs.StreamLaws.{input-follows}
use Rattle.cpa_local.proofs.PassingPlaces.{map-passing}
use Rattle.cpa_local.proofs.RivalLaws.{higher-on, higher-few, passing-more, found-all}

module _ (s : SystemLists) (cycles : List ℕ) (are : cycles ≡ map (clock_cycle s) (range_with_len 0 (length s.sources))) where
  pub cycles-long : length cycles ≡ length s.sources
  cycles-long = ap length are ∙ length-map (range_with_len 0 (length s.sources)) (clock_cycle s) ∙ length-range_with_len 0 (length s.sources)

  -- each stands at its clock's number
  cycles-there : (c d : ℕ) → c < length s.sources → get_or cycles c d ≡ clock_cycle s c
  cycles-there c d there =
      let long = length-range_with_len 0 (length s.sources) in
      let same : 0 + c ≡ c = omega arith in
      let at : get_or (range_with_len 0 (length s.sources)) c 0 ≡ c = get_or-range_with_len 0 (length s.sources) c 0 there ∙ same in
      ap (λ cs. get_or cs c d) are ∙ get_or-map (clock_cycle s) (range_with_len 0 (length s.sources)) c 0 d (omega arith) ∙ ap (clock_cycle s) at

  pub cycles-at : (c : ℕ) → cycles_at cycles c ≡ clock_cycle s c
  cycles-at c =
      elim (cases_lt c (length s.sources)) [
        | inl there ↦ cycles-there c 1 there
        | inr past ↦ let long = cycles-long in get_or_past cycles c 1 (omega arith) ∙ sym (ap (λ (r : Source). cycle_on s r.on_clock) (get_or_past s.sources c no_source past))
      ]

  -- as functions
  pub cycles-same : cycles_at cycles ≡ clock_cycle s
  cycles-same = λ i c. cycles-at c i

  pub are-cycles : IsSystem s → AreCycles cycles
  are-cycles rules =
      let long = cycles-long in
      record {
        few = omega (arith, rules.few_sources);
        some = λ c d less. rw (cycles-there c d (omega arith)) (clock-some s c);
        short = λ c d less. rw (cycles-there c d (omega arith)) (clock-short s rules c);
      }

  -- ---- inputs

  anchored : (k : SourceId) (a : Anchor) (t : Stream) → t.period ≡ (source_at s k.0).period → IsOnClockOf s (MAX_PERIOD + 32 * MAX_EXECUTION) k a → IsAnchoredAt cycles a t
  anchored k a t period h =
      record {
        there = omega (arith, h.there, cycles-long);
        offset = omega (arith, h.small);
        whole = rw (cycles-at a.clock, period) h.whole;
      }

  all-anchored : (os : List (Option Anchor)) (ks : List SourceId) (m : Model) → AllZip (IsOnClock s (MAX_PERIOD + 32 * MAX_EXECUTION)) os ks
      → map (λ (t : Stream). t.period) m ≡ map (λ (k : SourceId). (source_at s k.0).period) ks → AllZip (IsAnchored cycles) os m
  all-anchored [] [] [] h periods = tt
  all-anchored [] [] (t ∷ m) h periods = absurd (omega (arith, ap length periods))
  all-anchored [] (k ∷ ks) m h periods = absurd h
  all-anchored (o ∷ os) [] m h periods = absurd h
  all-anchored (o ∷ os) (k ∷ ks) [] h periods = absurd (omega (arith, ap length periods))
  all-anchored (o ∷ os) (k ∷ ks) (t ∷ m) h periods =
      (λ a is. anchored k a t (ap (λ ps. get_or ps 0 0) periods) (h.0 a is), all-anchored os ks m h.1 (ap (drop 1) periods))

  module _ (rules : IsSystem s) (x : List Bound) (vector : IsVector s x) where
    pub input-on : (i : ℕ) → i < length s.tasks → IsInputOn cycles (anchor_list s i) (input s x i)
    input-on i there m is =
        let range : IfSome (Some m) IsModelInRange = subst (λ (o : Option Model). IfSome o IsModelInRange) is (input-in_range s x rules vector i there) in
        (range, all-anchored (anchor_list s i) (streams_of s i) m (anchors-on s rules i) (input-follows s x rules i m there is))

    pub inputs-on : (r : ℕ) (inputs : List (Option Model)) → AreInputs s r x inputs → AreInputsOn s r cycles inputs
    inputs-on r inputs known i there on = subst (IsInputOn cycles (anchor_list s i)) (sym (known i there on)) (input-on i there)

-- ---- a source on no clock

position-None : {X : Type 0} (p : X → Bool) (xs : List X) (k : ℕ) (d : X) → position p xs ≡ None → k < length xs → p (get_or xs k d) ≡ false
position-None p xs k d none there =
    let past : length xs ≤ position_or_len p xs = grind (arith, common_steps) in
    fails_before_first p xs k d (omega (arith, past))

pub cycle-none : (s : SystemLists) (k : ℕ) → k < length s.sources → clock_of s k ≡ None → clock_cycle s k ≡ 1
cycle-none s k there none = by (source_at s k).on_clock refl
  where
    by : (on : Option OnClock) → (source_at s k).on_clock ≡ on → clock_cycle s k ≡ 1
    by None e = ap (cycle_on s) e
    by (Some o) e =
        let unfound : position (is_on_clock o.clock) s.sources ≡ None = sym (ap (first_on s) e) ∙ none in
        let apart : names_clock o.clock (source_at s k).on_clock ≡ false = position-None (is_on_clock o.clock) s.sources k no_source unfound there in
        absurd (true≢false (sym ((bytes_eq-Decides o.clock o.clock).1 refl) ∙ (sym (ap (names_clock o.clock) e) ∙ apart)))

pub unticking : (s : SystemLists) (k : ℕ) → ticking_of s k ≡ None → clock_of s k ≡ None
unticking s k none = by (clock_of s k) refl
  where
    by : (o : Option ℕ) → clock_of s k ≡ o → clock_of s k ≡ None
    by None e = e
    by (Some c) e =
        let ticking : Ticking = record { clock = record { 0 = c }; cycle = clock_cycle s k; offset = offset_of s k } in
        let some : ticking_of s k ≡ Some ticking = ap (λ o. option_map (λ c. record { clock = record { 0 = c }; cycle = clock_cycle s k; offset = offset_of s k }) o) e in
        absurd (none-some ticking (sym none ∙ some))

-- one cycle more
pub cycles-more : (s : SystemLists) (k : ℕ) → map (clock_cycle s) (range_with_len 0 k) ++ clock_cycle s k ∷ [] ≡ map (clock_cycle s) (range_with_len 0 (k + 1))
cycles-more s k =
    let same : 0 + k ≡ k = omega arith in
    ap (λ n. map (clock_cycle s) (range_with_len 0 k) ++ clock_cycle s n ∷ []) (sym same)
    ∙ (sym (map-append (clock_cycle s) (range_with_len 0 k) ((0 + k) ∷ [])) ∙ ap (map (clock_cycle s)) (sym (range-more 0 k)))

-- ---- what is known of a rival

pub rivals-known : (s : SystemLists) (x : List Bound) (i : ℕ) (inputs : List (Option Model)) → AreInputs s (task_at s i).res.0 x inputs
    → map (clocked_rival_by s inputs) (higher_tasks s i) ≡ map (clocked_rival_of s x) (higher_tasks s i)
rivals-known s x i inputs known =
    map-passing (is_higher s i) (clocked_rival_by s inputs) (clocked_rival_of s x) 0 (length s.tasks)
    (λ j low less higher. ap (λ (m : Option Model). added_rival m (anchor_list s j) (task_at s j).worst) (known j (omega arith) (eqb-true _ _ (higher-on s i j higher))))

-- the bounds by the lists in which this is known
module _ (s : SystemLists) (x : List Bound) (i : ℕ) (inputs : List (Option Model)) (known : AreInputs s (task_at s i).res.0 x inputs) (cycles : List ℕ) (are : cycles ≡ map (clock_cycle s) (range_with_len 0 (length s.sources)))
    (own : Model) (anchors : List (Option Anchor)) (worst blocking limit : ℕ) (anchored : anchors ≡ anchor_list s i) (worst_is : worst ≡ (task_at s i).worst) (limit_is : limit ≡ (resource_of s i).limit) where
  pub by-preemptive : clocked_preemptive_bound own (anchors_at anchors) worst blocking (map (clocked_rival_by s inputs) (higher_tasks s i)) (cycles_at cycles) (length cycles) limit ≡ priority_bound s x i own blocking
  by-preemptive =
      rw (anchored, worst_is, limit_is)
      (ap (λ rivals. clocked_preemptive_bound own (anchors_of s i) (task_at s i).worst blocking rivals (cycles_at cycles) (length cycles) (resource_of s i).limit) (rivals-known s x i inputs known)
      ∙ ap (λ cycle. clocked_preemptive_bound own (anchors_of s i) (task_at s i).worst blocking (map (clocked_rival_of s x) (higher_tasks s i)) cycle (length cycles) (resource_of s i).limit) (cycles-same s cycles are)
      ∙ ap (λ count. clocked_preemptive_bound own (anchors_of s i) (task_at s i).worst blocking (map (clocked_rival_of s x) (higher_tasks s i)) (clock_cycle s) count (resource_of s i).limit) (cycles-long s cycles are))

  pub by-can : (bit : ℕ) → blocking ≡ blocking_of s (Can bit) i
      → clocked_can_bound own (anchors_at anchors) worst blocking (map (clocked_rival_by s inputs) (higher_tasks s i)) (cycles_at cycles) (length cycles) bit limit ≡ bound_by_kind s x i own (Can bit)
  by-can bit blocking_is =
      rw (anchored, worst_is, limit_is, blocking_is)
      (ap (λ rivals. clocked_can_bound own (anchors_of s i) (task_at s i).worst (blocking_of s (Can bit) i) rivals (cycles_at cycles) (length cycles) bit (resource_of s i).limit) (rivals-known s x i inputs known)
      ∙ ap (λ cycle. clocked_can_bound own (anchors_of s i) (task_at s i).worst (blocking_of s (Can bit) i) (map (clocked_rival_of s x) (higher_tasks s i)) cycle (length cycles) bit (resource_of s i).limit) (cycles-same s cycles are)
      ∙ ap (λ count. clocked_can_bound own (anchors_of s i) (task_at s i).worst (blocking_of s (Can bit) i) (map (clocked_rival_of s x) (higher_tasks s i)) (clock_cycle s) count bit (resource_of s i).limit) (cycles-long s cycles are))

-- fewer are of higher priority than there may be tasks
pub higher-before : (s : SystemLists) (i : ℕ) (ids : List TaskId) (k : ℕ) (d : TaskId) → i < length s.tasks → places_of ids ≡ tasks_on s (task_at s i).res.0 → k < length ids → is_higher s i (get_or ids k d).0 ≡ true
    → length (filter (is_higher s i) (places_of (take k ids))) + 1 < length s.tasks
higher-before s i ids k d there are less higher =
    let q = is_higher s i in
    let one : length (filter q (places_of (take (k + 1) ids))) ≡ length (filter q (places_of (take k ids))) + 1 =
    ap length (passing-more q ids k d less higher) ∙ length-append (filter q (places_of (take k ids))) ((get_or ids k d).0 ∷ []) in
    let split : places_of ids ≡ places_of (take (k + 1) ids) ++ places_of (drop (k + 1) ids) = ap places_of (sym (take-append-drop (k + 1) ids)) ∙ map-append place_of (take (k + 1) ids) (drop (k + 1) ids) in
    let parts : length (filter q (places_of ids)) ≡ length (filter q (places_of (take (k + 1) ids))) + length (filter q (places_of (drop (k + 1) ids))) =
    ap (λ js. length (filter q js)) split ∙ (ap length (filter-append q (places_of (take (k + 1) ids)) (places_of (drop (k + 1) ids))) ∙ length-append (filter q (places_of (take (k + 1) ids))) (filter q (places_of (drop (k + 1) ids)))) in
    let whole : filter q (places_of (take (length ids) ids)) ≡ filter q (task_places s) = found-all s (task_at s i).res.0 q ids (length ids) (higher-on s i) are (omega arith) in
    let all : length (filter q (places_of ids)) ≡ length (filter q (task_places s)) = ap (λ js. length (filter q (places_of js))) (sym (take_all (length ids) ids (omega arith))) ∙ ap length whole in
    let few = higher-few s i there in
    omega arith
