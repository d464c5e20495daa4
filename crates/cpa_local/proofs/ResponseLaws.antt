-- Bounds grow with the vector; each is at least the task's greatest execution, and its number within the resource's limit.
use Rattle.std.proofs.Common.{◌≡◌, ℕ, zero, suc, ◌+◌, ◌<◌, ◌≤◌, length, List, [], ◌∷◌, ◌++◌, map, true, All, Option, Some, None, refl, inl, inr, arith}
use Rattle.std.specs.List.{list_any}
use Rattle.std.proofs.lemmas.Bool.{cases_lt, or_left, or_right}
use Rattle.std.proofs.lemmas.List.{get_or_past, length-append}
use Rattle.std.proofs.lemmas.List.Elements.{All-append, All-nil}
use Rattle.std.proofs.lemmas.List.FromFn.{get_or-map-range_with_len, length-map-range_with_len}
use Rattle.std.proofs.Math.ListN.{get_or-eq_default}
use Rattle.cpa_units.specs.declared.bound.Bound.{Bound}
use Rattle.cpa_units.specs.declared.bound.Bound.TheVariants.{Within, Overload}
use Rattle.cpa_units.specs.declared.limits.TheConstants.{MAX_CHAIN}
use Rattle.cpa_units.specs.Bounds.{IsAtMost, RespectsLimit, IsNowhereAbove, bound_of}
use Rattle.cpa_events.specs.Events.{Model}
use Rattle.cpa_events.specs.Streams.{IsStream}
use Rattle.cpa_events.proofs.EventLaws.{one-is_model, after_response-is_model}
use Rattle.cpa_window.specs.Rivals.{IsInput, IsInputNoDenser, AreNoHeavier}
use Rattle.cpa_fifo.proofs.FifoBoundLaws.{fifo_bound-mono, fifo_bound-limit}
use Rattle.cpa_rr.proofs.RoundRobinLaws.{round_robin_bound-mono, round_robin_bound-low, round_robin_bound-high}
use Rattle.cpa_tdma.proofs.TdmaLaws.{tdma_bound-mono, tdma_bound-low, tdma_bound-high}
use Rattle.cpa_clock.specs.Wider.{AreWider, IsInputWider, AreRivalsWider}
use Rattle.cpa_clock.proofs.BoundLaws.{clocked_preemptive_bound-grows, clocked_can_bound-grows}
use Rattle.cpa_clock.proofs.WiderLaws.{wide-denser}
use Rattle.cpa_clock.proofs.RangeLaws.{OnlyReturns, clocked_preemptive_bound-low, clocked_can_bound-low, clocked_preemptive_bound-limit, clocked_can_bound-limit}
use Rattle.cpa_model.specs.Clocks.{clock_cycle}
use Rattle.cpa_model.specs.declared.entries.Kind.{Kind}
use Rattle.cpa_model.specs.declared.entries.Kind.TheVariants.{Preemptive, RoundRobin, Tdma, Can, Fifo, Ceiling}
use Rattle.cpa_model.specs.declared.entries.Activator.{Activator}
use Rattle.cpa_model.specs.declared.entries.Activator.TheVariants.{Source as FromSource, Task as FromTask}
use Rattle.cpa_model.specs.SystemLists.{SystemLists, task_at, source_at, resource_of, slot_of, higher_tasks, other_tasks, cycle_of, is_task, no_source, no_task}
use Rattle.cpa_model.specs.Rules.{IsSystem, IsSource, IsTask}
use Rattle.cpa_model.proofs.SystemLaws.{activated-there}
use Rattle.cpa_model.specs.Streams.{source_stream}
use Rattle.cpa_local.specs.Blocking.{blocking_of}
use Rattle.cpa_local.specs.Inputs.{output_of, sent_by, joined, sent_by_all, input_along, input}
use Rattle.cpa_local.specs.OnClocks.{anchors_of, clocked_rival_of}
use Rattle.cpa_local.specs.Raising.{IsDenserActivator}
use Rattle.cpa_local.specs.Local.{rival_of, priority_bound, bound_by_kind, bound_at_input, response, responses}
use Rattle.cpa_local.proofs.QueueLaws.{queue_bound-ge}
use Rattle.cpa_local.proofs.SentLaws.{is_task-itself}
use Rattle.cpa_local.proofs.WiderLaws.{input-wider, input_wider-denser, each-itself, denser-itself}
use Rattle.cpa_local.proofs.WholeLaws.{AreWhole, input-some, input-returns, system-whole}

-- ---- inputs are models

output_of-is_input : (best : ℕ) (bound : Bound) (m : Option Model) → IsInput m → IsInput (output_of best bound m)
output_of-is_input best (Within bound) (Some m) i = after_response-is_model m best bound i
output_of-is_input best (Within bound) None i = tt
output_of-is_input best Overload m i = tt

-- each of its streams is one, where it is bounded; there may be none
abbrev HasStreams : Option Model → Type 0
HasStreams None = Unit {0}
HasStreams (Some m) = All IsStream m

input-streams : (o : Option Model) → IsInput o → HasStreams o
input-streams None h = tt
input-streams (Some m) h = h.each

joined-streams : (o p : Option Model) → HasStreams o → HasStreams p → HasStreams (joined o p)
joined-streams None p h k = tt
joined-streams (Some m) None h k = tt
joined-streams (Some m) (Some n) h k = All-append IsStream m n h k

joined-is_input : (o p : Option Model) → IsInput o → HasStreams p → IsInput (joined o p)
joined-is_input None p h k = tt
joined-is_input (Some m) None h k = tt
joined-is_input (Some m) (Some n) h k =
    let long : length (m ++ n) ≡ length m + length n = length-append m n in
    record { some = let some = h.some in omega arith; each = All-append IsStream m n h.each k }

module _ (s : SystemLists) (x : List Bound) (rules : IsSystem s) where
  pub source-is_stream : (k : ℕ) → IsStream (source_stream s k)
  source-is_stream k =
      elim (cases_lt k (length s.sources)) [
        | inl less ↦ let r : IsSource (source_at s k) = rules.sources k no_source less in r.some_period
        | inr past ↦ rw (get_or-eq_default s.sources no_source past) (omega arith)
      ]

  sent_by-is_input : (f : ℕ → Option Model) (a : Activator) → ((j : ℕ) → is_task j a ≡ true → IsInput (f j)) → IsInput (sent_by s x f a)
  sent_by-is_input f (FromSource k) h = one-is_model (source_stream s k.0) (source-is_stream k.0)
  sent_by-is_input f (FromTask j) h = output_of-is_input (task_at s j.0).best (bound_of x j.0) (f j.0) (h j.0 (is_task-itself j.0))

  sent_all-streams : (f : ℕ → Option Model) (after : List Activator) → ((j : ℕ) → list_any (is_task j) after ≡ true → IsInput (f j)) → HasStreams (sent_by_all s x f after)
  sent_all-streams f [] h = All-nil IsStream
  sent_all-streams f (a ∷ others) h =
      joined-streams (sent_by s x f a) (sent_by_all s x f others) (input-streams (sent_by s x f a) (sent_by-is_input f a (λ j e. h j (or_left _ _ e)))) (sent_all-streams f others (λ j e. h j (or_right _ _ e)))

  sent_all-is_input : (f : ℕ → Option Model) (after : List Activator) → 0 < length after → ((j : ℕ) → list_any (is_task j) after ≡ true → IsInput (f j)) → IsInput (sent_by_all s x f after)
  sent_all-is_input f [] some h = absurd (omega arith)
  sent_all-is_input f (a ∷ others) some h =
      joined-is_input (sent_by s x f a) (sent_by_all s x f others) (sent_by-is_input f a (λ j e. h j (or_left _ _ e))) (sent_all-streams f others (λ j e. h j (or_right _ _ e)))

  pub input_along-is_input : (chain i : ℕ) → i < length s.tasks → IsInput (input_along s x chain i)
  input_along-is_input zero i there = tt
  input_along-is_input (suc chain) i there =
      let t : IsTask s (task_at s i) = rules.tasks i no_task there in
      sent_all-is_input (input_along s x chain) (task_at s i).after t.some (λ j e. input_along-is_input chain j (activated-there s rules i j there e))

  pub input-is_input : (i : ℕ) → i < length s.tasks → IsInput (input s x i)
  unfolding input
  input-is_input i there = input_along-is_input MAX_CHAIN i there

module _ (t : SystemLists) (n : ℕ) (y : List Bound) (whole : AreWhole t n) where
  priority_bound-ge : (i : ℕ) (own : Model) (blocking : ℕ) → OnlyReturns (clock_cycle t) (anchors_of t i) own → IsAtMost (Within (task_at t i).worst) (priority_bound t y i own blocking)
  priority_bound-ge i own blocking returns =
      clocked_preemptive_bound-low (task_at t i).worst blocking (map (clocked_rival_of t y) (higher_tasks t i)) (clock_cycle t) (length t.sources) (resource_of t i).limit own (anchors_of t i) returns

  bound_by_kind-ge : (i : ℕ) (own : Model) (kind : Kind) → 0 < length own → OnlyReturns (clock_cycle t) (anchors_of t i) own → IsAtMost (Within (task_at t i).worst) (bound_by_kind t y i own kind)
  bound_by_kind-ge i own Preemptive some returns = priority_bound-ge i own (blocking_of t Preemptive i) returns
  bound_by_kind-ge i own RoundRobin some returns = round_robin_bound-low own (task_at t i).worst (slot_of (task_at t i).turn) (map (rival_of t y) (other_tasks t i)) (resource_of t i).limit
  bound_by_kind-ge i own (Tdma gap) some returns = tdma_bound-low own (task_at t i).worst (slot_of (task_at t i).turn) (cycle_of t (task_at t i).res.0) (resource_of t i).limit
  bound_by_kind-ge i own (Can bit) some returns =
      clocked_can_bound-low (task_at t i).worst (blocking_of t (Can bit) i) (map (clocked_rival_of t y) (higher_tasks t i)) (clock_cycle t) (length t.sources) (resource_of t i).limit own (anchors_of t i) bit some returns
  bound_by_kind-ge i own Fifo some returns = queue_bound-ge own (task_at t i).worst (map (rival_of t y) (other_tasks t i)) (resource_of t i).limit some
  bound_by_kind-ge i own Ceiling some returns = priority_bound-ge i own (blocking_of t Ceiling i) returns

  -- a bound of one of the first tasks of a system is at least the task's greatest execution, where sources and these start them
  pub response-ge_first : (i : ℕ) → i < n → IsAtMost (Within (task_at t i).worst) (response t y i)
  unfolding response
  response-ge_first i less = by (input t y i) refl
    where
      by : (o : Option Model) → input t y i ≡ o → IsAtMost (Within (task_at t i).worst) (bound_at_input t y i o)
      by None e = tt
      by (Some own) e = bound_by_kind-ge i own (resource_of t i).kind (input-some t n y whole i own less e) (input-returns t n y whole i own less e)

-- a bound is at least the task's greatest execution
pub response-ge : (s : SystemLists) (x : List Bound) → IsSystem s → (i : ℕ) → i < length s.tasks → IsAtMost (Within (task_at s i).worst) (response s x i)
response-ge s x rules = response-ge_first s (length s.tasks) x (system-whole s rules)

-- ---- within the limit

module _ (s : SystemLists) (x : List Bound) where
  priority_bound-limit : (i : ℕ) (own : Model) (blocking : ℕ) → RespectsLimit (resource_of s i).limit (priority_bound s x i own blocking)
  priority_bound-limit i own blocking =
      clocked_preemptive_bound-limit (task_at s i).worst blocking (map (clocked_rival_of s x) (higher_tasks s i)) (clock_cycle s) (length s.sources) (resource_of s i).limit own (anchors_of s i)

  bound_by_kind-limit : (i : ℕ) (own : Model) (kind : Kind) → RespectsLimit (resource_of s i).limit (bound_by_kind s x i own kind)
  bound_by_kind-limit i own Preemptive = priority_bound-limit i own (blocking_of s Preemptive i)
  bound_by_kind-limit i own RoundRobin = round_robin_bound-high own (task_at s i).worst (slot_of (task_at s i).turn) (map (rival_of s x) (other_tasks s i)) (resource_of s i).limit
  bound_by_kind-limit i own (Tdma gap) = tdma_bound-high own (task_at s i).worst (slot_of (task_at s i).turn) (cycle_of s (task_at s i).res.0) (resource_of s i).limit
  bound_by_kind-limit i own (Can bit) =
      clocked_can_bound-limit (task_at s i).worst (blocking_of s (Can bit) i) (map (clocked_rival_of s x) (higher_tasks s i)) (clock_cycle s) (length s.sources) (resource_of s i).limit own (anchors_of s i) bit
  bound_by_kind-limit i own Fifo = fifo_bound-limit own (task_at s i).worst (map (rival_of s x) (other_tasks s i)) (resource_of s i).limit
  bound_by_kind-limit i own Ceiling = priority_bound-limit i own (blocking_of s Ceiling i)

  bound_at_input-limit : (i : ℕ) (m : Option Model) → RespectsLimit (resource_of s i).limit (bound_at_input s x i m)
  bound_at_input-limit i (Some own) = bound_by_kind-limit i own (resource_of s i).kind
  bound_at_input-limit i None = tt

  -- a bound is within the resource's limit
  pub response-limit : (i : ℕ) → RespectsLimit (resource_of s i).limit (response s x i)
  unfolding response
  response-limit i = bound_at_input-limit i (input s x i)

-- ---- growing with the vector

module _ (s : SystemLists) (x y : List Bound) (below : IsNowhereAbove x y) where
  -- inputs come in wider intervals
  pub input-wide : (i : ℕ) → IsInputWider (anchors_of s i) (anchors_of s i) (input s x i) (input s y i)
  input-wide i =
      input-wider s s x y (λ j. Unit {0}) (λ k j known e. tt) (λ k known. each-itself (IsDenserActivator s s) (denser-itself s) (task_at s k).after)
      (λ j known. record { best = omega arith; bound = below j; order = inl refl }) i tt

  pub input-mono : (i : ℕ) → IsInputNoDenser (input s x i) (input s y i)
  input-mono i = input_wider-denser (anchors_of s i) (anchors_of s i) (input s x i) (input s y i) (input-wide i)

  clocked_rivals-wider : (js : List ℕ) → AreRivalsWider (map (clocked_rival_of s x) js) (map (clocked_rival_of s y) js)
  clocked_rivals-wider [] = tt
  clocked_rivals-wider (j ∷ js) = (record { input = input-wide j; worst = omega arith }, clocked_rivals-wider js)

  rivals-mono : (js : List ℕ) → AreNoHeavier (map (rival_of s x) js) (map (rival_of s y) js)
  rivals-mono [] = tt
  rivals-mono (j ∷ js) =
      (record { model = input-mono j; worst = omega arith; slot = refl; bound = below j }, rivals-mono js)

  priority_bound-mono : (i : ℕ) (m n : Model) (blocking : ℕ) → AreWider (anchors_of s i) (anchors_of s i) 0 m n → IsAtMost (priority_bound s x i m blocking) (priority_bound s y i n blocking)
  priority_bound-mono i m n blocking d =
      clocked_preemptive_bound-grows (task_at s i).worst (task_at s i).worst blocking blocking (map (clocked_rival_of s x) (higher_tasks s i)) (map (clocked_rival_of s y) (higher_tasks s i)) (clock_cycle s) (length s.sources) (resource_of s i).limit (omega arith) (omega arith)
      (clocked_rivals-wider (higher_tasks s i)) m n (anchors_of s i) (anchors_of s i) d

  bound_by_kind-mono : (i : ℕ) (m n : Model) (kind : Kind) → AreWider (anchors_of s i) (anchors_of s i) 0 m n → IsAtMost (bound_by_kind s x i m kind) (bound_by_kind s y i n kind)
  bound_by_kind-mono i m n Preemptive d = priority_bound-mono i m n (blocking_of s Preemptive i) d
  bound_by_kind-mono i m n RoundRobin d =
      round_robin_bound-mono m n (task_at s i).worst (task_at s i).worst (slot_of (task_at s i).turn) _ _ (resource_of s i).limit (wide-denser (anchors_of s i) (anchors_of s i) 0 m n d) (omega arith) (rivals-mono (other_tasks s i))
  bound_by_kind-mono i m n (Tdma gap) d =
      let cycle = cycle_of s (task_at s i).res.0 in
      tdma_bound-mono m n (task_at s i).worst (task_at s i).worst (slot_of (task_at s i).turn) cycle cycle (resource_of s i).limit (wide-denser (anchors_of s i) (anchors_of s i) 0 m n d) (omega arith) (omega arith)
  bound_by_kind-mono i m n (Can bit) d =
      clocked_can_bound-grows (task_at s i).worst (task_at s i).worst (blocking_of s (Can bit) i) (blocking_of s (Can bit) i) (map (clocked_rival_of s x) (higher_tasks s i)) (map (clocked_rival_of s y) (higher_tasks s i)) (clock_cycle s) (length s.sources) (resource_of s i).limit (omega arith) (omega arith)
      (clocked_rivals-wider (higher_tasks s i)) m n (anchors_of s i) (anchors_of s i) bit d
  bound_by_kind-mono i m n Fifo d =
      fifo_bound-mono m n (task_at s i).worst (task_at s i).worst _ _ (resource_of s i).limit (wide-denser (anchors_of s i) (anchors_of s i) 0 m n d) (omega arith) (rivals-mono (other_tasks s i))
  bound_by_kind-mono i m n Ceiling d = priority_bound-mono i m n (blocking_of s Ceiling i) d

  bound_at_input-mono : (i : ℕ) (m n : Option Model) → IsInputWider (anchors_of s i) (anchors_of s i) m n → IsAtMost (bound_at_input s x i m) (bound_at_input s y i n)
  bound_at_input-mono i m None d = tt
  bound_at_input-mono i None (Some n) d = absurd d
  bound_at_input-mono i (Some m) (Some n) d = bound_by_kind-mono i m n (resource_of s i).kind d

  -- a bound grows with the vector
  pub response-mono : (i : ℕ) → IsAtMost (response s x i) (response s y i)
  unfolding response
  response-mono i = bound_at_input-mono i (input s x i) (input s y i) (input-wide i)

-- ---- what stands in F

pub bound_of-responses : (s : SystemLists) (x : List Bound) (i : ℕ) → i < length s.tasks → bound_of (responses s x) i ≡ response s x i
bound_of-responses s x i h = get_or-map-range_with_len (response s x) 0 (length s.tasks) i i (Within 0) h (omega arith)

pub length-responses : (s : SystemLists) (x : List Bound) → length (responses s x) ≡ length s.tasks
length-responses s x = length-map-range_with_len (response s x) 0 (length s.tasks)

pub bound_of-responses_past : (s : SystemLists) (x : List Bound) (i : ℕ) → length s.tasks ≤ i → bound_of (responses s x) i ≡ Within 0
bound_of-responses_past s x i h = get_or_past (responses s x) i (Within 0) (omega (arith, length-responses s x))

-- F is monotone
pub responses-mono : (s : SystemLists) (x y : List Bound) → IsNowhereAbove x y → IsNowhereAbove (responses s x) (responses s y)
responses-mono s x y below i =
    elim (cases_lt i (length s.tasks)) [
      | inl in_range ↦ rw (bound_of-responses s x i in_range, bound_of-responses s y i in_range) (response-mono s x y below i)
      | inr past ↦ rw (bound_of-responses_past s x i past, bound_of-responses_past s y i past) (omega arith)
    ]
