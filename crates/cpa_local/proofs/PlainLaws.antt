-- Where no source is on a clock, no stream of a task is, and each bound is that without clocks.
use Rattle.std.proofs.Common.{◌≡◌, ℕ, zero, suc, List, [], ◌∷◌, ◌++◌, All, length, map, false, Option, Some, None, refl, ap}
use Rattle.std.specs.List.{flat_map, AllByRecursion}
use Rattle.std.proofs.lemmas.List.Elements.{All-nil, All-cons}
use Rattle.cpa_units.specs.declared.bound.Bound.{Bound}
use Rattle.cpa_units.specs.declared.limits.TheConstants.{MAX_CHAIN}
use Rattle.cpa_events.specs.Events.{Model}
use Rattle.cpa_clock.specs.declared.anchor.Anchor.{Anchor}
use Rattle.cpa_clock.specs.Gathered.{anchors_at}
use Rattle.cpa_clock.specs.Rivals.{ClockedRival}
use Rattle.cpa_clock.specs.Wider.{AreSameRivals, AreOffClocks}
use Rattle.cpa_clock.specs.Laws.{PlainBoundsAreTheSame}
use Rattle.cpa_clock.proofs.OffLaws.{preemptive-off, can-off}
use Rattle.cpa_model.specs.declared.entries.Kind.{Kind}
use Rattle.cpa_model.specs.declared.entries.Kind.TheVariants.{Preemptive, RoundRobin, Tdma, Can, Fifo, Ceiling}
use Rattle.cpa_model.specs.declared.entries.Activator.{Activator}
use Rattle.cpa_model.specs.declared.entries.Activator.TheVariants.{Source as FromSource, Task as FromTask}
use Rattle.cpa_model.specs.Clocks.{has_clocks, clock_cycle}
use Rattle.cpa_model.specs.SystemLists.{SystemLists, task_at, resource_of, higher_tasks}
use Rattle.cpa_model.proofs.ClockLaws.{no_clocks}
use Rattle.cpa_local.specs.Blocking.{blocking_of}
use Rattle.cpa_local.specs.Inputs.{input}
use Rattle.cpa_local.specs.Local.{rival_of, priority_bound, bound_by_kind, bound_at_input, response}
use Rattle.cpa_local.specs.OnClocks.{source_anchor, later_anchor, anchors_step, anchors_within, anchor_list, anchors_of, clocked_rival_of}
use Rattle.cpa_local.specs.Plain.{plain_priority_bound, plain_by_kind, plain_at_input, plain_response}

-- ---- no stream is on a clock

abbrev pub AreNone : List (Option Anchor) → Type 0
AreNone anchors = AllByRecursion (λ o. o ≡ None) anchors

none-append : (es fs : List (Option Anchor)) → AreNone es → AreNone fs → AreNone (es ++ fs)
none-append [] fs h k = k
none-append (o ∷ es) fs h k = (h.0, none-append es fs h.1 k)

none-later : (best : ℕ) (es : List (Option Anchor)) → AreNone es → AreNone (map (later_anchor best) es)
none-later best [] h = tt
none-later best (o ∷ es) h = (ap (later_anchor best) h.0, none-later best es h.1)

pub none-at : (es : List (Option Anchor)) → AreNone es → AreOffClocks (anchors_at es)
none-at [] h q = refl
none-at (o ∷ es) h zero = h.0
none-at (o ∷ es) h (suc q) = none-at es h.1 q

module _ (s : SystemLists) (none : has_clocks s ≡ false) where
  source-none : (k : ℕ) → source_anchor s k ≡ None
  source-none k = rw (no_clocks s none k) refl

  step-none : (f : ℕ → List (Option Anchor)) → ((j : ℕ) → AreNone (f j)) → (a : Activator) → AreNone (anchors_step s f a)
  step-none f each (FromSource k) = (source-none k.0, tt)
  step-none f each (FromTask j) = none-later (task_at s j.0).best (f j.0) (each j.0)

  steps-none : (f : ℕ → List (Option Anchor)) → ((j : ℕ) → AreNone (f j)) → (after : List Activator) → AreNone (flat_map (anchors_step s f) after)
  steps-none f each [] = tt
  steps-none f each (a ∷ others) = none-append (anchors_step s f a) (flat_map (anchors_step s f) others) (step-none f each a) (steps-none f each others)

  within-none : (chain i : ℕ) → AreNone (anchors_within s chain i)
  unfolding anchors_within
  within-none zero i = tt
  within-none (suc chain) i = steps-none (anchors_within s chain) (within-none chain) (task_at s i).after

  pub anchors-none : (i : ℕ) → AreOffClocks (anchors_of s i)
  anchors-none i = none-at (anchor_list s i) (within-none MAX_CHAIN i)

-- ---- so each bound is that without clocks

pub plain-bounds : PlainBoundsAreTheSame
plain-bounds own anchors worst blocking rivals plain cycle count limit own_off off same = (
  preemptive-off own anchors worst blocking rivals plain cycle count limit own_off off same,
  can-off own anchors worst blocking rivals plain cycle count limit own_off off same,
)

rivals-off : (s : SystemLists) (x : List Bound) (js : List ℕ) → AllByRecursion (λ j. AreOffClocks (anchors_of s j)) js → All (λ (r : ClockedRival). AreOffClocks r.anchors) (map (clocked_rival_of s x) js)
rivals-off s x [] h = All-nil (λ (r : ClockedRival). AreOffClocks r.anchors)
rivals-off s x (j ∷ js) h = All-cons (λ (r : ClockedRival). AreOffClocks r.anchors) (clocked_rival_of s x j) (map (clocked_rival_of s x) js) h.0 (rivals-off s x js h.1)

pub rivals-same : (s : SystemLists) (x : List Bound) (js : List ℕ) → AreSameRivals (map (clocked_rival_of s x) js) (map (rival_of s x) js)
rivals-same s x [] = tt
rivals-same s x (j ∷ js) = (record { model = refl; worst = refl }, rivals-same s x js)

module _ (same : PlainBoundsAreTheSame) (s : SystemLists) (x : List Bound) (i : ℕ) (own_off : AreOffClocks (anchors_of s i)) (higher_off : AllByRecursion (λ j. AreOffClocks (anchors_of s j)) (higher_tasks s i)) where
  preemptive-plain : (own : Model) (blocking : ℕ) → priority_bound s x i own blocking ≡ plain_priority_bound s x i own blocking
  preemptive-plain own blocking =
      (same own (anchors_of s i) (task_at s i).worst blocking (map (clocked_rival_of s x) (higher_tasks s i)) (map (rival_of s x) (higher_tasks s i)) (clock_cycle s) (length s.sources) (resource_of s i).limit
      own_off (rivals-off s x (higher_tasks s i) higher_off) (rivals-same s x (higher_tasks s i))).0

  can-plain : (own : Model) (bit : ℕ) → bound_by_kind s x i own (Can bit) ≡ plain_by_kind s x i own (Can bit)
  can-plain own bit =
      (same own (anchors_of s i) (task_at s i).worst (blocking_of s (Can bit) i) (map (clocked_rival_of s x) (higher_tasks s i)) (map (rival_of s x) (higher_tasks s i)) (clock_cycle s) (length s.sources) (resource_of s i).limit
      own_off (rivals-off s x (higher_tasks s i) higher_off) (rivals-same s x (higher_tasks s i))).1 bit

  -- where the streams of the task and of those above it are on no clock
  pub by_kind-plain : (own : Model) (kind : Kind) → bound_by_kind s x i own kind ≡ plain_by_kind s x i own kind
  by_kind-plain own Preemptive = preemptive-plain own (blocking_of s Preemptive i)
  by_kind-plain own RoundRobin = refl
  by_kind-plain own (Tdma gap) = refl
  by_kind-plain own (Can bit) = can-plain own bit
  by_kind-plain own Fifo = refl
  by_kind-plain own Ceiling = preemptive-plain own (blocking_of s Ceiling i)

  pub response-off : response s x i ≡ plain_response s x i
  unfolding response plain_response
  response-off = by (input s x i)
    where
      by : (o : Option Model) → bound_at_input s x i o ≡ plain_at_input s x i o
      by None = refl
      by (Some own) = by_kind-plain own (resource_of s i).kind

all-off : (s : SystemLists) → has_clocks s ≡ false → (js : List ℕ) → AllByRecursion (λ j. AreOffClocks (anchors_of s j)) js
all-off s none [] = tt
all-off s none (j ∷ js) = (anchors-none s none j, all-off s none js)

pub response-plain : PlainBoundsAreTheSame → (s : SystemLists) (x : List Bound) (i : ℕ) → has_clocks s ≡ false → response s x i ≡ plain_response s x i
response-plain same s x i none = response-off same s x i (anchors-none s none i) (all-off s none (higher_tasks s i))
