-- Inputs of tasks have a stream at least, and those of their streams that are on a clock come again in each cycle of it.
use Rattle.std.proofs.Common.{◌≡◌, ℕ, zero, suc, ◌+◌, ◌%◌, ◌<◌, ◌≤◌, length, List, [], ◌∷◌, ◌++◌, All, map, Option, Some, None, refl, sym, ap, ◌∙◌, inl, inr, subst, arith}
use Rattle.std.specs.List.{flat_map, list_any, AllZip, AllByRecursion}
use Rattle.std.proofs.lemmas.Bool.{cases_lt, or_left, or_right}
use Rattle.std.proofs.lemmas.List.{length-append, length-map}
use Rattle.std.proofs.lemmas.List.Elements.{All-head, All-tail}
use Rattle.std.proofs.Math.Nat.{mod-eq_of_lt}
use Rattle.cpa_units.specs.declared.bound.Bound.{Bound}
use Rattle.cpa_units.specs.declared.bound.Bound.TheVariants.{Within, Overload}
use Rattle.cpa_units.specs.declared.limits.TheConstants.{MAX_CHAIN}
use Rattle.cpa_units.specs.Bounds.{bound_of}
use Rattle.cpa_events.specs.declared.stream.Stream.{Stream}
use Rattle.cpa_events.specs.Streams.{IsStream, stream_after_response}
use Rattle.cpa_events.specs.Events.{Model, after_response}
use Rattle.cpa_clock.specs.declared.anchor.Anchor.{Anchor}
use Rattle.cpa_clock.specs.Anchors.{Anchors}
use Rattle.cpa_clock.specs.Gathered.{anchors_at}
use Rattle.cpa_clock.specs.Wider.{IsWiderOn}
use Rattle.cpa_clock.proofs.RangeLaws.{ReturnsOn, OnlyReturns}
use Rattle.cpa_model.specs.declared.entries.Activator.{Activator}
use Rattle.cpa_model.specs.declared.entries.Activator.TheVariants.{Source as FromSource, Task as FromTask}
use Rattle.cpa_model.specs.Clocks.{clock_of, clock_cycle}
use Rattle.cpa_model.specs.SystemLists.{SystemLists, task_at, source_at, no_source, no_task}
use Rattle.cpa_model.specs.Rules.{IsSystem, IsSource, IsTask, IsActivator}
use Rattle.cpa_model.specs.Streams.{source_stream}
use Rattle.cpa_model.proofs.ClockLaws.{clock-whole, clock-some}
use Rattle.cpa_local.specs.Inputs.{output_of, sent_by, joined, sent_by_all, input_along, input}
use Rattle.cpa_local.specs.OnClocks.{source_anchor, later_anchor, anchors_step, anchors_within, anchor_list, anchors_of}
use Rattle.cpa_local.specs.Raising.{IsDenserActivator, IsRaising}

-- ---- inputs

-- each stream of an input comes again in each cycle of its clock; nothing is said of an unbounded one
abbrev EachReturns : (ℕ → ℕ) → List (Option Anchor) → Option Model → Type 0
EachReturns cycle anchors None = Unit {0}
EachReturns cycle anchors (Some m) = AllZip (ReturnsOn cycle) anchors m

-- it has a stream
abbrev HasSome : Option Model → Type 0
HasSome None = Unit {0}
HasSome (Some m) = 0 < length m

returns-append : (cycle : ℕ → ℕ) (es fs : List (Option Anchor)) (m n : Model) → AllZip (ReturnsOn cycle) es m → AllZip (ReturnsOn cycle) fs n → AllZip (ReturnsOn cycle) (es ++ fs) (m ++ n)
returns-append cycle [] fs [] n h k = k
returns-append cycle [] fs (t ∷ m) n h k = absurd h
returns-append cycle (a ∷ es) fs [] n h k = absurd h
returns-append cycle (a ∷ es) fs (t ∷ m) n h k = (h.0, returns-append cycle es fs m n h.1 k)

joined-returns : (cycle : ℕ → ℕ) (es fs : List (Option Anchor)) (o p : Option Model) → EachReturns cycle es o → EachReturns cycle fs p → EachReturns cycle (es ++ fs) (joined o p)
joined-returns cycle es fs None p h k = tt
joined-returns cycle es fs (Some m) None h k = tt
joined-returns cycle es fs (Some m) (Some n) h k = returns-append cycle es fs m n h k

joined-some : (o p : Option Model) → HasSome o → HasSome (joined o p)
joined-some None p h = tt
joined-some (Some m) None h = tt
joined-some (Some m) (Some n) h = omega (arith, length-append m n, h)

returns-later : (cycle : ℕ → ℕ) (best bound : ℕ) (es : List (Option Anchor)) (m : Model) → AllZip (ReturnsOn cycle) es m → AllZip (ReturnsOn cycle) (map (later_anchor best) es) (after_response m best bound)
returns-later cycle best bound [] [] h = tt
returns-later cycle best bound [] (t ∷ m) h = absurd h
returns-later cycle best bound (a ∷ es) [] h = absurd h
returns-later cycle best bound (a ∷ es) (t ∷ m) h = (one a h.0, returns-later cycle best bound es m h.1)
  where
    one : (o : Option Anchor) → ReturnsOn cycle o t → ReturnsOn cycle (later_anchor best o) (stream_after_response best bound t)
    one None k = tt
    one (Some b) k = k

output-returns : (cycle : ℕ → ℕ) (best : ℕ) (bound : Bound) (es : List (Option Anchor)) (o : Option Model) → EachReturns cycle es o → EachReturns cycle (map (later_anchor best) es) (output_of best bound o)
output-returns cycle best (Within bound) es (Some m) h = returns-later cycle best bound es m h
output-returns cycle best (Within bound) es None h = tt
output-returns cycle best Overload es o h = tt

output-some : (best : ℕ) (bound : Bound) (o : Option Model) → HasSome o → HasSome (output_of best bound o)
output-some best (Within bound) (Some m) h = omega (arith, length-map m (stream_after_response best bound), h)
output-some best (Within bound) None h = tt
output-some best Overload o h = tt

-- the only stream of an input
only-returns : (cycle : ℕ → ℕ) (es : List (Option Anchor)) (m : Model) → AllZip (ReturnsOn cycle) es m → OnlyReturns cycle (anchors_at es) m
only-returns cycle es [] h = tt
only-returns cycle [] (t ∷ []) h = absurd h
only-returns cycle (a ∷ es) (t ∷ []) h = h.0
only-returns cycle es (t ∷ u ∷ m) h = tt

-- ---- of tasks that only sources start, which come again on their clocks, and each other

-- an activator of the first n tasks
abbrev pub IsWholeActivator : SystemLists → ℕ → Activator → Type 0
IsWholeActivator t n (FromSource k) = ReturnsOn (clock_cycle t) (source_anchor t k.0) (source_stream t k.0)
IsWholeActivator t n (FromTask j) = j.0 < n

-- the first n tasks of a system are such
pub record AreWhole (t : SystemLists) (n : ℕ) : Type 0 where
  pub some : (i : ℕ) → i < n → 0 < length (task_at t i).after
  pub each : (i : ℕ) → i < n → AllByRecursion (IsWholeActivator t n) (task_at t i).after

module _ (t : SystemLists) (n : ℕ) (y : List Bound) (whole : AreWhole t n) where
  sent-returns : (f : ℕ → List (Option Anchor)) (g : ℕ → Option Model) (a : Activator) → IsWholeActivator t n a → ((j : ℕ) → j < n → EachReturns (clock_cycle t) (f j) (g j)) → EachReturns (clock_cycle t) (anchors_step t f a) (sent_by t y g a)
  sent-returns f g (FromSource k) h each = (h, tt)
  sent-returns f g (FromTask j) h each = output-returns (clock_cycle t) (task_at t j.0).best (bound_of y j.0) (f j.0) (g j.0) (each j.0 h)

  sent_all-returns : (f : ℕ → List (Option Anchor)) (g : ℕ → Option Model) (after : List Activator) → AllByRecursion (IsWholeActivator t n) after → ((j : ℕ) → j < n → EachReturns (clock_cycle t) (f j) (g j)) → EachReturns (clock_cycle t) (flat_map (anchors_step t f) after) (sent_by_all t y g after)
  sent_all-returns f g [] h each = tt
  sent_all-returns f g (a ∷ others) h each =
      joined-returns (clock_cycle t) (anchors_step t f a) (flat_map (anchors_step t f) others) (sent_by t y g a) (sent_by_all t y g others) (sent-returns f g a h.0 each) (sent_all-returns f g others h.1 each)

  along-returns : (chain i : ℕ) → i < n → EachReturns (clock_cycle t) (anchors_within t chain i) (input_along t y chain i)
  unfolding anchors_within
  along-returns zero i less = tt
  along-returns (suc chain) i less = sent_all-returns (anchors_within t chain) (input_along t y chain) (task_at t i).after (whole.each i less) (along-returns chain)

  sent-some : (g : ℕ → Option Model) (a : Activator) → IsWholeActivator t n a → ((j : ℕ) → j < n → HasSome (g j)) → HasSome (sent_by t y g a)
  sent-some g (FromSource k) h each = omega arith
  sent-some g (FromTask j) h each = output-some (task_at t j.0).best (bound_of y j.0) (g j.0) (each j.0 h)

  sent_all-some : (g : ℕ → Option Model) (after : List Activator) → 0 < length after → AllByRecursion (IsWholeActivator t n) after → ((j : ℕ) → j < n → HasSome (g j)) → HasSome (sent_by_all t y g after)
  sent_all-some g [] some h each = absurd (omega arith)
  sent_all-some g (a ∷ others) some h each = joined-some (sent_by t y g a) (sent_by_all t y g others) (sent-some g a h.0 each)

  along-some : (chain i : ℕ) → i < n → HasSome (input_along t y chain i)
  along-some zero i less = tt
  along-some (suc chain) i less = sent_all-some (input_along t y chain) (task_at t i).after (whole.some i less) (whole.each i less) (along-some chain)

  pub input-some : (i : ℕ) (m : Model) → i < n → input t y i ≡ Some m → 0 < length m
  unfolding input
  input-some i m less e = rw e at (along-some MAX_CHAIN i less)

  pub input-returns : (i : ℕ) (m : Model) → i < n → input t y i ≡ Some m → OnlyReturns (clock_cycle t) (anchors_of t i) m
  unfolding input
  input-returns i m less e = only-returns (clock_cycle t) (anchor_list t i) m (rw e at (along-returns MAX_CHAIN i less))

-- ---- so it is in a system

whole_cycle-long : (cycle period : ℕ) → 0 < cycle → cycle % period ≡ 0 → period ≤ cycle
whole_cycle-long cycle period some whole =
    elim (cases_lt cycle period) [
      | inl less ↦ absurd (let same : cycle % period ≡ cycle = mod-eq_of_lt less in omega (arith, same, whole, some))
      | inr more ↦ more
    ]

module _ (s : SystemLists) (rules : IsSystem s) where
  source-returns : (k : ℕ) → k < length s.sources → ReturnsOn (clock_cycle s) (source_anchor s k) (source_stream s k)
  source-returns k less = by (clock_of s k) refl
    where
      by : (o : Option ℕ) → clock_of s k ≡ o → ReturnsOn (clock_cycle s) (source_anchor s k) (source_stream s k)
      by None e = rw e tt
      by (Some c) e =
          let r : IsSource (source_at s k) = rules.sources k no_source less in
          rw e (r.some_period, whole_cycle-long (clock_cycle s c) (source_at s k).period (clock-some s c) (clock-whole s rules k c e))

  activator-whole : (a : Activator) → IsActivator s a → IsWholeActivator s (length s.tasks) a
  activator-whole (FromSource k) there = source-returns k.0 there
  activator-whole (FromTask j) there = there

  activators-whole : (after : List Activator) → All (IsActivator s) after → AllByRecursion (IsWholeActivator s (length s.tasks)) after
  activators-whole [] there = tt
  activators-whole (a ∷ others) there = (activator-whole a (All-head (IsActivator s) a others there), activators-whole others (All-tail (IsActivator s) a others there))

  pub system-whole : AreWhole s (length s.tasks)
  system-whole =
      record {
        some = λ i less. let t : IsTask s (task_at s i) = rules.tasks i no_task less in t.some;
        each = λ i less. let t : IsTask s (task_at s i) = rules.tasks i no_task less in activators-whole (task_at s i).after t.activated;
      }

-- ---- and in one that asks for more

module _ (s t : SystemLists) (rules : IsSystem s) (up : IsRaising s t) where
  returns-wider : (a b : Option Anchor) (m n : Stream) → IsWiderOn a b m n → ReturnsOn (clock_cycle s) a m → ReturnsOn (clock_cycle t) b n
  returns-wider None None m n h k = tt
  returns-wider None (Some b) m n h k = absurd h
  returns-wider (Some a) None m n h k = absurd h
  returns-wider (Some a) (Some b) m n h k =
      let same : clock_cycle t b.clock ≡ clock_cycle s a.clock = sym (up.cycles b.clock) ∙ ap (clock_cycle s) h.clock in
      (omega (arith, k.0, h.placed.period), omega (arith, same, k.1, h.placed.period))

  raised_activators-whole : (n : ℕ) (first second : List Activator) → AllZip (IsDenserActivator s t) first second → AllByRecursion (IsWholeActivator s n) first → (0 < length first → 0 < length second) × AllByRecursion (IsWholeActivator t n) second
  raised_activators-whole n [] [] h k = (λ some. some, tt)
  raised_activators-whole n [] (b ∷ second) h k = absurd h
  raised_activators-whole n (a ∷ first) [] h k = absurd h
  raised_activators-whole n (a ∷ first) (b ∷ second) h k = (λ some. omega arith, (one a b h.0 k.0, (raised_activators-whole n first second h.1 k.1).1))
    where
      one : (c d : Activator) → IsDenserActivator s t c d → IsWholeActivator s n c → IsWholeActivator t n d
      one (FromSource k) (FromSource m) d w = returns-wider (source_anchor s k.0) (source_anchor t m.0) (source_stream s k.0) (source_stream t m.0) d w
      one (FromSource k) (FromTask m) d w = absurd d
      one (FromTask j) (FromSource m) d w = absurd d
      one (FromTask j) (FromTask m) d w = omega (arith, d, w)

  pub raised-whole : AreWhole t (length s.tasks)
  raised-whole =
      let before = system-whole s rules in
      record {
        some = λ i less. (raised_activators-whole (length s.tasks) (task_at s i).after (task_at t i).after (up.tasks i less).after (before.each i less)).0 (before.some i less);
        each = λ i less. (raised_activators-whole (length s.tasks) (task_at s i).after (task_at t i).after (up.tasks i less).after (before.each i less)).1;
      }
