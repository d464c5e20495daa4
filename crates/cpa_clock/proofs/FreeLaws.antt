-- The streams of a rival that are on no clock, as one rival.
use Rattle.std.proofs.Common.{◌≡◌, ℕ, zero, suc, ◌+◌, ◌*◌, ◌<◌, ◌≤◌, ◌++◌, List, [], ◌∷◌, Option, Some, None, is_some, true, false, length, take, All, refl, sym, ◌∙◌, ap, subst, arith}
use Rattle.std.specs.Prelude.{slice_index_or}
use Rattle.std.specs.Option.{ForSome}
use Rattle.std.proofs.Math.Seq.{take-suc}
use Rattle.std.proofs.lemmas.List.{append-nil, length-take-le}
use Rattle.cpa_units.specs.declared.bound.Bound.{Bound}
use Rattle.cpa_units.specs.declared.bound.Bound.TheVariants.{Within, Overload}
use Rattle.cpa_units.specs.declared.limits.TheConstants.{MAX_EXECUTION}
use Rattle.cpa_units.specs.Bounds.{bound_plus, bound_times}
use Rattle.cpa_events.specs.declared.stream.Stream.{Stream}
use Rattle.cpa_events.specs.Streams.{IsStreamInRange}
use Rattle.cpa_events.specs.Events.{Model, eta_plus, IsModelInRange}
use Rattle.cpa_events.proofs.EventLaws.{eta_plus-of_one, eta_plus-cons}
use Rattle.cpa_window.specs.declared.rivals.Rival.{Rival}
use Rattle.cpa_window.specs.Rivals.{events_in, work_in, IsRival}
use Rattle.cpa_clock.specs.Anchors.{Anchors}
use Rattle.cpa_clock.specs.declared.anchor.Anchor.{Anchor}
use Rattle.cpa_clock.specs.Rivals.{ClockedRival, free_rival, with_free_stream, with_free_input, with_free_rival, free_of}
use Rattle.cpa_clock.specs.Gathered.{as_one, free_streams, or_on_clock, model_of, streams_so_far}

-- ---- sums of bounds

pub plus-assoc : (a b c : Bound) → bound_plus (bound_plus a b) c ≡ bound_plus a (bound_plus b c)
plus-assoc (Within a) (Within b) (Within c) = ap Within (omega arith)
plus-assoc (Within a) (Within b) Overload = refl
plus-assoc (Within a) Overload c = refl
plus-assoc Overload b c = refl

pub plus-zero : (a : Bound) → bound_plus a (Within 0) ≡ a
plus-zero (Within a) = ap Within (omega arith)
plus-zero Overload = refl

pub zero-plus : (a : Bound) → bound_plus (Within 0) a ≡ a
zero-plus (Within a) = ap Within (omega arith)
zero-plus Overload = refl

pub work_in-append : (rs ss : List Rival) (w : ℕ) → work_in (rs ++ ss) w ≡ bound_plus (work_in rs w) (work_in ss w)
work_in-append [] ss w = sym (zero-plus (work_in ss w))
work_in-append (r ∷ rs) ss w =
    ap (bound_plus (bound_times (events_in r.model w) r.worst)) (work_in-append rs ss w) ∙ sym (plus-assoc (bound_times (events_in r.model w) r.worst) (work_in rs w) (work_in ss w))

-- ---- as lists

with_free_stream-split : (worst : ℕ) (o : Option Anchor) (m : Stream) (xs ys : List Rival) → with_free_stream worst o m (xs ++ ys) ≡ with_free_stream worst o m xs ++ ys
with_free_stream-split worst None m xs ys = refl
with_free_stream-split worst (Some a) m xs ys = refl

with_free_input-split : (worst : ℕ) (anchors : Anchors) (first : ℕ) (ms : Model) (xs ys : List Rival) → with_free_input worst anchors first ms (xs ++ ys) ≡ with_free_input worst anchors first ms xs ++ ys
with_free_input-split worst anchors first [] xs ys = refl
with_free_input-split worst anchors first (m ∷ ms) xs ys =
    rw (with_free_input-split worst anchors (first + 1) ms xs ys) (with_free_stream-split worst (anchors first) m (with_free_input worst anchors (first + 1) ms xs) ys)

with_free_rival-split : (worst : ℕ) (anchors : Anchors) (o : Option Model) (xs ys : List Rival) → with_free_rival worst anchors o (xs ++ ys) ≡ with_free_rival worst anchors o xs ++ ys
with_free_rival-split worst anchors None xs ys = refl
with_free_rival-split worst anchors (Some m) xs ys = with_free_input-split worst anchors 0 m xs ys

free_of-append : (rs : List ClockedRival) (r : ClockedRival) → free_of (rs ++ r ∷ []) ≡ free_of rs ++ with_free_rival r.worst r.anchors r.model []
free_of-append [] r = refl
free_of-append (s ∷ rs) r = rw (free_of-append rs r) (with_free_rival-split s.worst s.anchors s.model (free_of rs) (with_free_rival r.worst r.anchors r.model []))

-- ---- as one

pub no_events : (w : ℕ) → eta_plus [] w ≡ 0
unfolding eta_plus
no_events w = refl

work_of_streams : (worst : ℕ) (ms : Model) (w : ℕ) → work_in (as_one worst (model_of ms)) w ≡ Within (eta_plus ms w * worst)
work_of_streams worst [] w = rw (no_events w) (ap Within (omega arith))
work_of_streams worst (m ∷ ms) w = plus-zero (Within (eta_plus (m ∷ ms) w * worst))

work_of_input : (worst : ℕ) (anchors : Anchors) (first : ℕ) (ms : Model) (w : ℕ) → work_in (with_free_input worst anchors first ms []) w ≡ Within (eta_plus (free_streams anchors first ms) w * worst)
work_of_input worst anchors first [] w = rw (no_events w) (ap Within (omega arith))
work_of_input worst anchors first (m ∷ ms) w = one (anchors first) (work_of_input worst anchors (first + 1) ms w)
  where
    one : (o : Option Anchor) → work_in (with_free_input worst anchors (first + 1) ms []) w ≡ Within (eta_plus (free_streams anchors (first + 1) ms) w * worst)
        → work_in (with_free_stream worst o m (with_free_input worst anchors (first + 1) ms [])) w ≡ Within (eta_plus (or_on_clock o m (free_streams anchors (first + 1) ms)) w * worst)
    one None h = rw (h, eta_plus-of_one m w, eta_plus-cons m (free_streams anchors (first + 1) ms) w) (ap Within (omega arith))
    one (Some a) h = h

-- what is added to the rivals on no clock asks for what the rival's streams on none do
pub free-added : (worst : ℕ) (anchors : Anchors) (ms : Model) (rs : List ClockedRival) (frees : List Rival) (w : ℕ) → work_in frees w ≡ work_in (free_of rs) w
    → work_in (frees ++ as_one worst (model_of (free_streams anchors 0 ms))) w ≡ work_in (free_of (rs ++ record { model = Some ms; anchors = anchors; worst = worst } ∷ [])) w
free-added worst anchors ms rs frees w h =
    rw (
      work_in-append frees (as_one worst (model_of (free_streams anchors 0 ms))) w,
      free_of-append rs (record { model = Some ms; anchors = anchors; worst = worst }),
      work_in-append (free_of rs) (with_free_input worst anchors 0 ms []) w,
      h,
      work_of_streams worst (free_streams anchors 0 ms) w,
      work_of_input worst anchors 0 ms w,
    ) refl

pub free-unbounded : (worst : ℕ) (anchors : Anchors) (rs : List ClockedRival) (frees : List Rival) (w : ℕ) → work_in frees w ≡ work_in (free_of rs) w
    → work_in (frees ++ free_rival worst None ∷ []) w ≡ work_in (free_of (rs ++ record { model = None; anchors = anchors; worst = worst } ∷ [])) w
free-unbounded worst anchors rs frees w h =
    rw (
      work_in-append frees (free_rival worst None ∷ []) w,
      free_of-append rs (record { model = None; anchors = anchors; worst = worst }),
      work_in-append (free_of rs) (free_rival worst None ∷ []) w,
      h,
    ) refl

-- ---- stream by stream

pub free_streams-snoc : (anchors : Anchors) (first : ℕ) (ms : Model) (m : Stream) → free_streams anchors first (ms ++ m ∷ []) ≡ free_streams anchors first ms ++ or_on_clock (anchors (first + length ms)) m []
free_streams-snoc anchors first [] m =
    let e : first + 0 ≡ first = omega arith in
    rw e refl
free_streams-snoc anchors first (n ∷ ms) m =
    let e : first + suc (length ms) ≡ first + 1 + length ms = omega arith in
    rw (e, free_streams-snoc anchors (first + 1) ms m) (step (anchors first))
  where
    step : (o : Option Anchor) → or_on_clock o n (free_streams anchors (first + 1) ms ++ or_on_clock (anchors (first + 1 + length ms)) m []) ≡ or_on_clock o n (free_streams anchors (first + 1) ms) ++ or_on_clock (anchors (first + 1 + length ms)) m []
    step None = refl
    step (Some a) = refl

pub free_streams-few : (anchors : Anchors) (first : ℕ) (ms : Model) → length (free_streams anchors first ms) ≤ length ms
free_streams-few anchors first [] = omega arith
free_streams-few anchors first (m ∷ ms) = step (anchors first) (free_streams-few anchors (first + 1) ms)
  where
    step : (o : Option Anchor) → length (free_streams anchors (first + 1) ms) ≤ length ms → length (or_on_clock o m (free_streams anchors (first + 1) ms)) ≤ suc (length ms)
    step None h = omega (arith, h)
    step (Some a) h = omega (arith, h)

pub free_streams-each : (P : Stream → Type 0) (anchors : Anchors) (first : ℕ) (ms : Model) → All P ms → All P (free_streams anchors first ms)
free_streams-each P anchors first [] all = all
free_streams-each P anchors first (m ∷ ms) all = step (anchors first) (free_streams-each P anchors (first + 1) ms (λ k d less. all (suc k) d (omega arith)))
  where
    cons : (xs : Model) → All P xs → All P (m ∷ xs)
    cons xs h zero d less = all 0 d (omega arith)
    cons xs h (suc k) d less = h k d (omega arith)

    step : (o : Option Anchor) → All P (free_streams anchors (first + 1) ms) → All P (or_on_clock o m (free_streams anchors (first + 1) ms))
    step None h = cons (free_streams anchors (first + 1) ms) h
    step (Some a) h = h

-- a model of some of a model's streams is in range
pub model_of-in_range : (ms : Model) → length ms ≤ 32 → All IsStreamInRange ms → ForSome (model_of ms) IsModelInRange
model_of-in_range [] few each x e = absurd cc
model_of-in_range (m ∷ ms) few each x e = let is : m ∷ ms ≡ x = cc in subst IsModelInRange is (record { some = omega arith; few = few; each = each })

pub free-in_range : (worst : ℕ) (m : Option Model) → worst ≤ MAX_EXECUTION → ForSome m IsModelInRange → IsRival (free_rival worst m)
free-in_range worst m small h = record { model = h; worst = small; slot = omega arith; bound = λ number e. absurd cc }

pub as_one-few : (worst : ℕ) (m : Option Model) → length (as_one worst m) ≤ 1
as_one-few worst None = omega arith
as_one-few worst (Some m) = omega arith

pub as_one-in_range : (worst : ℕ) (m : Option Model) → worst ≤ MAX_EXECUTION → ForSome m IsModelInRange → All IsRival (as_one worst m)
as_one-in_range worst None small h k d less = absurd (omega arith)
as_one-in_range worst (Some m) small h k d less =
    let first : k ≡ 0 = omega arith in
    rw first (free-in_range worst (Some m) small h)

pub model_of-is : (ms x : Model) → model_of ms ≡ Some x → x ≡ ms
model_of-is [] x e = absurd cc
model_of-is (m ∷ ms) x e = cc

so_far-is : (ms : Model) → streams_so_far (model_of ms) ≡ ms
so_far-is [] = refl
so_far-is (m ∷ ms) = refl

model_of-snoc : (ms : Model) (m : Stream) → model_of (ms ++ m ∷ []) ≡ Some (ms ++ m ∷ [])
model_of-snoc [] m = refl
model_of-snoc (n ∷ ms) m = refl

-- one stream more, on no clock or on one
module _ (anchors : Anchors) (model : Model) (k : ℕ) (free : Option Model) (there : k < length model) (h : free ≡ model_of (free_streams anchors 0 (take k model))) where
  taken : (d : Stream) → free_streams anchors 0 (take (k + 1) model) ≡ free_streams anchors 0 (take k model) ++ or_on_clock (anchors k) (slice_index_or model k d) []
  taken d =
      let next : take (k + 1) model ≡ take k model ++ slice_index_or model k d ∷ [] = (let e : k + 1 ≡ suc k = omega arith in rw e (take-suc model k d there)) in
      let at : 0 + length (take k model) ≡ k = omega (arith, length-take-le k model (omega arith)) in
      rw (next, free_streams-snoc anchors 0 (take k model) (slice_index_or model k d), at) refl

  pub free_part-next : (m : Stream) (more : Model) → m ≡ slice_index_or model k m → more ≡ streams_so_far free ++ m ∷ [] → anchors k ≡ None → Some more ≡ model_of (free_streams anchors 0 (take (k + 1) model))
  free_part-next m more is pushed off =
      let longer : more ≡ free_streams anchors 0 (take k model) ++ m ∷ [] = rw (pushed, h, so_far-is (free_streams anchors 0 (take k model))) refl in
      let all : free_streams anchors 0 (take (k + 1) model) ≡ free_streams anchors 0 (take k model) ++ m ∷ [] = (let t = rw (off, sym is) at (taken m) in t) in
      rw (longer, all) (sym (model_of-snoc (free_streams anchors 0 (take k model)) m))

  pub free_part-same : (d : Stream) (a : Anchor) → anchors k ≡ Some a → free ≡ model_of (free_streams anchors 0 (take (k + 1) model))
  free_part-same d a on =
      let all : free_streams anchors 0 (take (k + 1) model) ≡ free_streams anchors 0 (take k model) = (let t = rw on at (taken d) in t ∙ append-nil (free_streams anchors 0 (take k model))) in
      rw all h

-- what is read of an anchor
pub none-at : (o : Option Anchor) → is_some o ≡ false → o ≡ None
none-at None e = refl
none-at (Some a) e = absurd cc

pub some-at : (o : Option Anchor) → is_some o ≡ true → (a : Anchor) × (o ≡ Some a)
some-at None e = absurd cc
some-at (Some a) e = (a, refl)

pub none-from : (o : Option Anchor) → ((a : Anchor) → o ≡ Some a → ⊥) → o ≡ None
none-from None not = refl
none-from (Some a) not = absurd (not a refl)
