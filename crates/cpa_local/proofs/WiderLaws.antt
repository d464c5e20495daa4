-- Inputs by the clocks of their streams: where activators send in wider intervals, tasks receive in wider ones.
use Rattle.std.proofs.Common.{◌≡◌, ℕ, zero, suc, ◌+◌, ◌<◌, ◌≤◌, ◌⊎◌, length, true, List, [], ◌∷◌, ◌++◌, map, Option, Some, None, refl, sym, ap, ◌∙◌, inl, inr, get_or, arith}
use Rattle.std.specs.List.{flat_map, list_any, AllZip}
use Rattle.std.proofs.lemmas.Bool.{or_left, or_right}
use Rattle.std.proofs.lemmas.List.{length-map, length-append, get_or_append_left, get_or-append-add}
use Rattle.std.proofs.Math.ListN.{get_or-map}
use Rattle.cpa_units.specs.declared.bound.Bound.{Bound}
use Rattle.cpa_units.specs.declared.bound.Bound.TheVariants.{Within, Overload}
use Rattle.cpa_units.specs.declared.limits.TheConstants.{MAX_CHAIN}
use Rattle.cpa_units.specs.Bounds.{IsAtMost, bound_of}
use Rattle.cpa_events.specs.declared.stream.Stream.{Stream}
use Rattle.cpa_events.specs.Streams.{stream_after_response}
use Rattle.cpa_events.specs.Events.{Model, after_response}
use Rattle.cpa_events.proofs.StreamLaws.{IsStreamNoDenser_refl, stream_after_response-denser}
use Rattle.cpa_window.specs.Rivals.{IsInputNoDenser}
use Rattle.cpa_phase.proofs.SentLaws.{sent_on-wider, sent_on-later}
use Rattle.cpa_offset.proofs.BoundLaws.{no_denser_itself}
use Rattle.cpa_clock.specs.declared.anchor.Anchor.{Anchor}
use Rattle.cpa_clock.specs.Anchors.{Anchors, placed_at}
use Rattle.cpa_clock.specs.Gathered.{anchors_at}
use Rattle.cpa_clock.specs.Wider.{IsWider, IsWiderOn, AreWider, IsInputWider}
use Rattle.cpa_clock.proofs.WiderLaws.{wide-denser}
use Rattle.cpa_model.specs.declared.entries.Activator.{Activator}
use Rattle.cpa_model.specs.declared.entries.Activator.TheVariants.{Source as FromSource, Task as FromTask}
use Rattle.cpa_model.specs.SystemLists.{SystemLists, task_at, is_task}
use Rattle.cpa_model.specs.Streams.{source_stream}
use Rattle.cpa_local.specs.Inputs.{output_of, sent_by, joined, sent_by_all, input_along, input}
use Rattle.cpa_local.specs.OnClocks.{source_anchor, later_anchor, anchors_step, anchors_within, anchor_list, anchors_of}
use Rattle.cpa_local.specs.Raising.{IsDenserActivator}
use Rattle.cpa_local.proofs.SentLaws.{is_task-itself}

-- ---- as many anchors as streams

abbrev pub HasAsMany : List (Option Anchor) → Option Model → Type 0
HasAsMany anchors None = Unit {0}
HasAsMany anchors (Some m) = length anchors ≡ length m

joined-as_many : (es fs : List (Option Anchor)) (o p : Option Model) → HasAsMany es o → HasAsMany fs p → HasAsMany (es ++ fs) (joined o p)
joined-as_many es fs None p h k = tt
joined-as_many es fs (Some m) None h k = tt
joined-as_many es fs (Some m) (Some n) h k = omega (arith, length-append es fs, length-append m n, h, k)

output-as_many : (anchors : List (Option Anchor)) (best : ℕ) (bound : Bound) (o : Option Model) → HasAsMany anchors o → HasAsMany (map (later_anchor best) anchors) (output_of best bound o)
output-as_many anchors best (Within bound) (Some m) h = omega (arith, length-map anchors (later_anchor best), length-map m (stream_after_response best bound), h)
output-as_many anchors best (Within bound) None h = tt
output-as_many anchors best Overload (Some m) h = tt
output-as_many anchors best Overload None h = tt

module _ (s : SystemLists) (x : List Bound) where
  sent-as_many : (f : ℕ → List (Option Anchor)) (g : ℕ → Option Model) (a : Activator) → ((j : ℕ) → HasAsMany (f j) (g j)) → HasAsMany (anchors_step s f a) (sent_by s x g a)
  sent-as_many f g (FromSource k) each = refl
  sent-as_many f g (FromTask j) each = output-as_many (f j.0) (task_at s j.0).best (bound_of x j.0) (g j.0) (each j.0)

  sent_all-as_many : (f : ℕ → List (Option Anchor)) (g : ℕ → Option Model) (after : List Activator) → ((j : ℕ) → HasAsMany (f j) (g j)) → HasAsMany (flat_map (anchors_step s f) after) (sent_by_all s x g after)
  sent_all-as_many f g [] each = refl
  sent_all-as_many f g (a ∷ others) each =
      joined-as_many (anchors_step s f a) (flat_map (anchors_step s f) others) (sent_by s x g a) (sent_by_all s x g others) (sent-as_many f g a each) (sent_all-as_many f g others each)

  along-as_many : (chain i : ℕ) → HasAsMany (anchors_within s chain i) (input_along s x chain i)
  unfolding anchors_within
  along-as_many zero i = tt
  along-as_many (suc chain) i = sent_all-as_many (anchors_within s chain) (input_along s x chain) (task_at s i).after (along-as_many chain)

-- ---- streams one after the other

wide-long : (a b : Anchors) (first : ℕ) (m n : Model) → AreWider a b first m n → length m ≡ length n
wide-long a b first [] [] h = refl
wide-long a b first [] (n ∷ ns) h = absurd h
wide-long a b first (m ∷ ms) [] h = absurd h
wide-long a b first (m ∷ ms) (n ∷ ns) h = omega (arith, wide-long a b (first + 1) ms ns h.1)

-- the same anchors at other places
wide-moved : (a b c d : Anchors) (first second : ℕ) (m n : Model) → ((q : ℕ) → q < length m → (c (second + q) ≡ a (first + q)) × (d (second + q) ≡ b (first + q))) → AreWider a b first m n → AreWider c d second m n
wide-moved a b c d first second [] [] same h = tt
wide-moved a b c d first second [] (n ∷ ns) same h = absurd h
wide-moved a b c d first second (m ∷ ms) [] same h = absurd h
wide-moved a b c d first second (m ∷ ms) (n ∷ ns) same h =
    let here = same 0 (omega arith) in
    let one : first + 0 ≡ first = omega arith in
    let other : second + 0 ≡ second = omega arith in
    let here_a : c second ≡ a first = rw (one, other) at here.0 in
    let here_b : d second ≡ b first = rw (one, other) at here.1 in (
      rw (here_a, here_b) h.0,
      wide-moved a b c d (first + 1) (second + 1) ms ns
          (λ q less.
          let e : first + 1 + q ≡ first + suc q = omega arith in
          let f : second + 1 + q ≡ second + suc q = omega arith in
          rw (e, f) (same (suc q) (omega arith)))
          h.1,
    )

wide-both : (a b : Anchors) (first : ℕ) (m n m' n' : Model) → AreWider a b first m n → AreWider a b (first + length m) m' n' → AreWider a b first (m ++ m') (n ++ n')
wide-both a b first [] [] m' n' h k = let e : first + 0 ≡ first = omega arith in rw e at k
wide-both a b first [] (n ∷ ns) m' n' h k = absurd h
wide-both a b first (m ∷ ms) [] m' n' h k = absurd h
wide-both a b first (m ∷ ms) (n ∷ ns) m' n' h k =
    let e : first + suc (length ms) ≡ first + 1 + length ms = omega arith in
    (h.0, wide-both a b (first + 1) ms ns m' n' h.1 (rw e at k))

append-wider : (es fs gs hs : List (Option Anchor)) (m n m' n' : Model) → length es ≡ length m → length fs ≡ length n → AreWider (anchors_at es) (anchors_at fs) 0 m n
    → AreWider (anchors_at gs) (anchors_at hs) 0 m' n' → AreWider (anchors_at (es ++ gs)) (anchors_at (fs ++ hs)) 0 (m ++ m') (n ++ n')
append-wider es fs gs hs m n m' n' first second h k =
    let long = wide-long (anchors_at es) (anchors_at fs) 0 m n h in
    let left : AreWider (anchors_at (es ++ gs)) (anchors_at (fs ++ hs)) 0 m n =
    wide-moved (anchors_at es) (anchors_at fs) (anchors_at (es ++ gs)) (anchors_at (fs ++ hs)) 0 0 m n
    (λ q less. let z : 0 + q ≡ q = omega arith in rw z (get_or_append_left es gs None q (omega (arith, first)), get_or_append_left fs hs None q (omega (arith, second, long)))) h
    in
    let right : AreWider (anchors_at (es ++ gs)) (anchors_at (fs ++ hs)) (length m) m' n' =
    wide-moved (anchors_at gs) (anchors_at hs) (anchors_at (es ++ gs)) (anchors_at (fs ++ hs)) 0 (length m) m' n'
    (λ q less.
    let z : 0 + q ≡ q = omega arith in
    let e : length m + q ≡ length es + q = omega (arith, first) in
    let f : length m + q ≡ length fs + q = omega (arith, second, long) in
    rw z (ap (anchors_at (es ++ gs)) e ∙ get_or-append-add es gs q None, ap (anchors_at (fs ++ hs)) f ∙ get_or-append-add fs hs q None)) k
    in
    let z : 0 + length m ≡ length m = omega arith in
    wide-both (anchors_at (es ++ gs)) (anchors_at (fs ++ hs)) 0 m n m' n' left (rw z right)

joined-wider : (es fs gs hs : List (Option Anchor)) (o p o' p' : Option Model) → HasAsMany es o → HasAsMany fs p → IsInputWider (anchors_at es) (anchors_at fs) o p
    → IsInputWider (anchors_at gs) (anchors_at hs) o' p' → IsInputWider (anchors_at (es ++ gs)) (anchors_at (fs ++ hs)) (joined o o') (joined p p')
joined-wider es fs gs hs o None o' p' first second h k = tt
joined-wider es fs gs hs o (Some n) o' None first second h k = tt
joined-wider es fs gs hs None (Some n) o' (Some n') first second h k = absurd h
joined-wider es fs gs hs (Some m) (Some n) None (Some n') first second h k = absurd k
joined-wider es fs gs hs (Some m) (Some n) (Some m') (Some n') first second h k = append-wider es fs gs hs m n m' n' first second h k

-- ---- what tasks send on

-- a task sends on in wider intervals in the second system, where what it is sent comes in wider ones: it may answer sooner and
-- later. Where it may answer sooner, its bound isn't below its least execution.
pub record IsSentWider (s t : SystemLists) (x y : List Bound) (j : ℕ) : Type 0 where
  pub best : (task_at t j).best ≤ (task_at s j).best
  pub bound : IsAtMost (bound_of x j) (bound_of y j)
  pub order : ((task_at t j).best ≡ (task_at s j).best) ⊎ IsAtMost (Within (task_at s j).best) (bound_of x j)

module _ (best best' bound bound' : ℕ) (sooner : best' ≤ best) (later : bound ≤ bound') (order : (best' ≡ best) ⊎ (best ≤ bound)) where
  after-wider_on : (o p : Option Anchor) (m n : Stream) → IsWiderOn o p m n → IsWiderOn (later_anchor best o) (later_anchor best' p) (stream_after_response best bound m) (stream_after_response best' bound' n)
  after-wider_on None None m n h = stream_after_response-denser m n best best' bound bound' h sooner later
  after-wider_on None (Some b) m n h = absurd h
  after-wider_on (Some a) None m n h = absurd h
  after-wider_on (Some a) (Some b) m n h =
      elim order [
        | inl same ↦ rw same (record { clock = h.clock; placed = sent_on-later (placed_at m a 0) (placed_at n b 0) best bound bound' 0 h.placed later })
        | inr less ↦ record { clock = h.clock; placed = sent_on-wider (placed_at m a 0) (placed_at n b 0) best best' bound bound' 0 h.placed sooner later less }
      ]

  after-wider : (es fs : List (Option Anchor)) (first : ℕ) (m n : Model) → AreWider (anchors_at es) (anchors_at fs) first m n
      → AreWider (anchors_at (map (later_anchor best) es)) (anchors_at (map (later_anchor best') fs)) first (after_response m best bound) (after_response n best' bound')
  after-wider es fs first [] [] h = tt
  after-wider es fs first [] (n ∷ ns) h = absurd h
  after-wider es fs first (m ∷ ms) [] h = absurd h
  after-wider es fs first (m ∷ ms) (n ∷ ns) h =
      let e : anchors_at (map (later_anchor best) es) first ≡ later_anchor best (anchors_at es first) = get_or-map (later_anchor best) es first None in
      let f : anchors_at (map (later_anchor best') fs) first ≡ later_anchor best' (anchors_at fs first) = get_or-map (later_anchor best') fs first None in
      (rw (e, f) (after-wider_on (anchors_at es first) (anchors_at fs first) m n h.0), after-wider es fs (first + 1) ms ns h.1)

output-wider : (best best' : ℕ) (a b : Bound) (es fs : List (Option Anchor)) (o p : Option Model) → best' ≤ best → IsAtMost a b → (best' ≡ best) ⊎ IsAtMost (Within best) a → IsInputWider (anchors_at es) (anchors_at fs) o p
    → IsInputWider (anchors_at (map (later_anchor best) es)) (anchors_at (map (later_anchor best') fs)) (output_of best a o) (output_of best' b p)
output-wider best best' a Overload es fs o p sooner later order h = tt
output-wider best best' a (Within b) es fs o None sooner later order h = tt
output-wider best best' Overload (Within b) es fs o (Some n) sooner later order h = absurd later
output-wider best best' (Within a) (Within b) es fs None (Some n) sooner later order h = absurd h
output-wider best best' (Within a) (Within b) es fs (Some m) (Some n) sooner later order h = after-wider best best' a b sooner later order es fs 0 m n h

-- ---- each as wide as itself

pub wider_on-itself : (o : Option Anchor) (m : Stream) → IsWiderOn o o m m
wider_on-itself None m = IsStreamNoDenser_refl m
wider_on-itself (Some a) m = record { clock = refl; placed = no_denser_itself (placed_at m a 0) }

-- what holds of each and itself holds of a list and itself
pub each-itself : {X : Type 0} (R : X → X → Type 0) → ((a : X) → R a a) → (xs : List X) → AllZip R xs xs
each-itself R each [] = tt
each-itself R each (x ∷ xs) = (each x, each-itself R each xs)

pub denser-itself : (s : SystemLists) (a : Activator) → IsDenserActivator s s a a
denser-itself s (FromSource k) = wider_on-itself (source_anchor s k.0) (source_stream s k.0)
denser-itself s (FromTask j) = refl

-- ---- along chains, over the tasks of which all this is known

module _ (s t : SystemLists) (x y : List Bound) (IsKnown : ℕ → Type 0)
    (deeper : (i j : ℕ) → IsKnown i → list_any (is_task j) (task_at s i).after ≡ true → IsKnown j)
    (denser : (i : ℕ) → IsKnown i → AllZip (IsDenserActivator s t) (task_at s i).after (task_at t i).after)
    (sent : (j : ℕ) → IsKnown j → IsSentWider s t x y j) where
  abbrev IsWiderAlong : ℕ → ℕ → Type 0
  IsWiderAlong chain j = IsInputWider (anchors_at (anchors_within s chain j)) (anchors_at (anchors_within t chain j)) (input_along s x chain j) (input_along t y chain j)

  sent-wider : (chain : ℕ) (a b : Activator) → IsDenserActivator s t a b → ((j : ℕ) → is_task j a ≡ true → IsKnown j × IsWiderAlong chain j)
      → IsInputWider (anchors_at (anchors_step s (anchors_within s chain) a)) (anchors_at (anchors_step t (anchors_within t chain) b)) (sent_by s x (input_along s x chain) a) (sent_by t y (input_along t y chain) b)
  sent-wider chain (FromSource k) (FromSource m) h step = (h, tt)
  sent-wider chain (FromSource k) (FromTask m) h step = absurd h
  sent-wider chain (FromTask j) (FromSource m) h step = absurd h
  sent-wider chain (FromTask j) (FromTask m) h step =
      let it = step j.0 (is_task-itself j.0) in
      let here = sent j.0 it.0 in
      rw (← h)
      (output-wider (task_at s j.0).best (task_at t j.0).best (bound_of x j.0) (bound_of y j.0) (anchors_within s chain j.0) (anchors_within t chain j.0) (input_along s x chain j.0) (input_along t y chain j.0) here.best here.bound here.order it.1)

  sent_all-wider : (chain : ℕ) (first second : List Activator) → AllZip (IsDenserActivator s t) first second → ((j : ℕ) → list_any (is_task j) first ≡ true → IsKnown j × IsWiderAlong chain j)
      → IsInputWider (anchors_at (flat_map (anchors_step s (anchors_within s chain)) first)) (anchors_at (flat_map (anchors_step t (anchors_within t chain)) second)) (sent_by_all s x (input_along s x chain) first) (sent_by_all t y (input_along t y chain) second)
  sent_all-wider chain [] [] h step = tt
  sent_all-wider chain [] (b ∷ second) h step = absurd h
  sent_all-wider chain (a ∷ first) [] h step = absurd h
  sent_all-wider chain (a ∷ first) (b ∷ second) h step =
      joined-wider (anchors_step s (anchors_within s chain) a) (anchors_step t (anchors_within t chain) b) (flat_map (anchors_step s (anchors_within s chain)) first) (flat_map (anchors_step t (anchors_within t chain)) second)
      (sent_by s x (input_along s x chain) a) (sent_by t y (input_along t y chain) b) (sent_by_all s x (input_along s x chain) first) (sent_by_all t y (input_along t y chain) second)
      (sent-as_many s x (anchors_within s chain) (input_along s x chain) a (along-as_many s x chain)) (sent-as_many t y (anchors_within t chain) (input_along t y chain) b (along-as_many t y chain))
      (sent-wider chain a b h.0 (λ j e. step j (or_left _ _ e))) (sent_all-wider chain first second h.1 (λ j e. step j (or_right _ _ e)))

  along-wider : (chain i : ℕ) → IsKnown i → IsWiderAlong chain i
  unfolding anchors_within
  along-wider zero i known = tt
  along-wider (suc chain) i known =
      sent_all-wider chain (task_at s i).after (task_at t i).after (denser i known)
      (λ j e. let there = deeper i j known e in (there, along-wider chain j there))

  -- what a task receives comes in wider intervals
  pub input-wider : (i : ℕ) → IsKnown i → IsInputWider (anchors_of s i) (anchors_of t i) (input s x i) (input t y i)
  unfolding input
  input-wider i known = along-wider MAX_CHAIN i known

-- so that it comes no less densely
pub input_wider-denser : (a b : Anchors) (o p : Option Model) → IsInputWider a b o p → IsInputNoDenser o p
input_wider-denser a b o None h = tt
input_wider-denser a b None (Some n) h = absurd h
input_wider-denser a b (Some m) (Some n) h = wide-denser a b 0 m n h
