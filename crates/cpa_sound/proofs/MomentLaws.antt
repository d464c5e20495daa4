-- What is known of arrivals from the start of a busy window on, where streams are on clocks, and the local bounds that follow.
use Rattle.std.proofs.Common.{◌≡◌, ℕ, ◌+◌, ◌*◌, ◌<◌, ◌≤◌, List, [], ◌∷◌, length, map, Option, Some, None, refl, sym, ap, arith}
use Rattle.std.specs.List.{sum_by, AllByRecursion}
use Rattle.std.proofs.Math.Nat.{mul-le-mul_right}
use Rattle.cpa_units.specs.declared.bound.Bound.{Bound}
use Rattle.cpa_units.specs.declared.bound.Bound.TheVariants.{Within}
use Rattle.cpa_units.specs.Bounds.{IsAtMost}
use Rattle.cpa_events.specs.declared.stream.Stream.{Stream}
use Rattle.cpa_events.specs.Streams.{IsStream}
use Rattle.cpa_events.specs.Events.{Model, IsModel}
use Rattle.cpa_events.proofs.EventLaws.{eta_plus-reaches, first_of}
use Rattle.cpa_window.specs.declared.rivals.Rival.{Rival}
use Rattle.cpa_phase.specs.Phases.{phase_of}
use Rattle.cpa_phase.proofs.PhaseLaws.{arrivals-reach}
use Rattle.cpa_offset.specs.Offsets.{others}
use Rattle.cpa_clock.specs.declared.anchor.Anchor.{Anchor}
use Rattle.cpa_clock.specs.Anchors.{Anchors, Moment, arrivals_from}
use Rattle.cpa_clock.specs.Rivals.{ClockedRival, joint_of, rest_of}
use Rattle.cpa_clock.specs.Clocked.{only_anchor, clocked_preemptive_bound, clocked_can_bound}
use Rattle.cpa_clock.specs.Wider.{AreClocksBelow}
use Rattle.cpa_clock.specs.Laws.{IsAllowed, IsKnownRival}
use Rattle.cpa_clock.proofs.CoverLaws.{arrivals_from-mono, work-covers}
use Rattle.cpa_sound.specs.Course.{Course, Arrives}
use Rattle.cpa_sound.proofs.Serving.{IsStarted, IsInOrder, ComesWithin, AnyOf}
use Rattle.cpa_sound.proofs.CourseLaws.{arrived-mono, arrival_of, arrives-after}
use Rattle.cpa_sound.proofs.DistanceLaws.{apart_from_within}
use Rattle.cpa_sound.proofs.LevelLaws.{sum-le, all_map}
use Rattle.cpa_sound.proofs.BusyLaws.{InOrder, QuietAt, PendingAt, LosesAtMost, total, ComesAtMost, others_ask}
use Rattle.cpa_sound.proofs.Parts.{of_stream, EachStream, StreamsKeepApart}
use Rattle.cpa_sound.proofs.PriorityLaws.{FromHere, preemptive-local}
use Rattle.cpa_sound.proofs.CanLaws.{IsLower, can-local}
use Rattle.cpa_sound.proofs.SentLaws.{get-stream}
use Rattle.cpa_sound.proofs.Timed.{PartKeepsAnchor, IsMoment, StreamsComeFrom, ComesFrom, ComesLate}
use Rattle.cpa_sound.proofs.TimedLaws.{place-of, comes-from, from_streams, one-late}
use Rattle.cpa_sound.proofs.OwnWindows.{OwnWindow, off_clock, on_clock, own_window, preemptive-within, can-within}

-- the streams of a model keep to their clocks
abbrev pub StreamsKeepTime : (ℕ → ℕ) → (ℕ → ℕ) → Course → (ℕ → ℕ) → Anchors → Model → ℕ → Type 0
StreamsKeepTime lead cycle c stream anchors m t = EachStream (λ q st. PartKeepsAnchor lead cycle c (of_stream stream q) (anchors q) st t) 0 m

-- what is known before a time of the arrivals of a task with a bounded input: each belongs to one of its streams, and those keep apart and to
-- their clocks
pub record StreamsAreKnown (lead cycle : ℕ → ℕ) (c : Course) (stream : ℕ → ℕ) (anchors : Anchors) (m : Model) (t : ℕ) : Type 0 where
  pub regular : IsModel m
  pub belongs : (k : ℕ) → k < c.arrived t → stream k < length m
  pub apart : StreamsKeepApart c stream m t
  pub timed : StreamsKeepTime lead cycle c stream anchors m t

abbrev pub InputIsKnown : (ℕ → ℕ) → (ℕ → ℕ) → Course → (ℕ → ℕ) → Anchors → Option Model → ℕ → Type 0
InputIsKnown lead cycle c stream anchors (Some m) t = StreamsAreKnown lead cycle c stream anchors m t
InputIsKnown lead cycle c stream anchors None t = Unit {0}

-- ---- own jobs

module _ (lead cycle : ℕ → ℕ) (c : Course) (best worst : ℕ) (o : IsInOrder c best worst) (stream : ℕ → ℕ) (anchors : Anchors) (s t : ℕ) (moment : Moment) (is : IsMoment lead cycle s moment) where
  each-from : (m : Model) → StreamsAreKnown lead cycle c stream anchors m t → StreamsComeFrom c stream moment anchors m s t
  each-from m known q st there =
      comes-from c best worst o lead cycle moment (of_stream stream (0 + q)) (anchors (0 + q)) st s t (get-stream m q st known.regular.each there) is (known.apart q st there) (known.timed q st there)

  pub comes_at : (m : Model) → StreamsAreKnown lead cycle c stream anchors m t → ComesFrom c (arrivals_from moment anchors 0 m) s t
  comes_at m known = from_streams stream c best worst o moment anchors s t m known.regular known.belongs (each-from m known)

  -- how own jobs come from time s on, as the bound counts them
  pub record OwnFrom (own : OwnWindow) : Type 0 where
    pub x : ℕ
    pub some : 0 < x
    pub within : x ≤ own.cycle
    pub late : ComesLate c (own.earliest x) s t
    pub few : ComesFrom c (own.events x) s t
    pub reach : (q w : ℕ) → 0 < q → own.earliest x q < w → q ≤ own.events x w
    pub is_known : (clock : ℕ) → own.known ≡ Some clock → moment clock ≡ x

  own-off : (m : Model) → IsModel m → ComesWithin c (Some m) t → OwnFrom (off_clock m)
  own-off m regular comes =
      record {
        x = 1;
        some = omega arith;
        within = omega arith;
        late = λ q b arrival before.
            let first = arrival_of c best worst o (c.arrived s) (b + 1) (omega (arith, arrival.1)) in
            let after = arrives-after c best worst o s (c.arrived s) first.0 (omega arith) first.2 in
            let far = apart_from_within c best worst o m t comes (c.arrived s) q first.0 b first.2 arrival before in
            omega (arith, far, after);
        few = λ v h. comes s v h;
        reach = λ q w one near. eta_plus-reaches m q w regular near;
        is_known = λ clock e. absurd cc;
      }

  own-on : (st : Stream) (a : Anchor) → anchors 0 ≡ Some a → StreamsAreKnown lead cycle c stream anchors (st ∷ []) t → OwnFrom (on_clock cycle st a)
  own-on st a e known =
      let regular : IsStream st = first_of IsStream st [] known.regular.each in
      let here = each-from (st ∷ []) known 0 st refl in
      let z : 0 + 0 ≡ 0 = omega arith in
      let here' = rw (z, e) at here in
      let at = is a.clock in
      let few = comes_at (st ∷ []) known in
      let few' = rw e at few in
      record {
        x = moment a.clock;
        some = at.some;
        within = at.within;
        late = one-late stream c best worst o (phase_of st a.offset (moment a.clock)) st s t known.belongs here';
        few = λ v h. omega (arith, few' v h);
        reach = λ q w one near. arrivals-reach st (phase_of st a.offset (moment a.clock)) q w regular near;
        is_known = λ clock k. ap moment (some-is clock a.clock (sym k));
      }
    where
      some-is : (a b : ℕ) → Some a ≡ Some b → a ≡ b
      some-is a b h = cc

  own-by : (st : Stream) (anchor : Option Anchor) → anchors 0 ≡ anchor → StreamsAreKnown lead cycle c stream anchors (st ∷ []) t → ComesWithin c (Some (st ∷ [])) t → OwnFrom (own_window cycle anchor (st ∷ []))
  own-by st (Some a) e known comes = own-on st a e known
  own-by st None e known comes = own-off (st ∷ []) known.regular comes

  pub own-from : (m : Model) → StreamsAreKnown lead cycle c stream anchors m t → ComesWithin c (Some m) t → OwnFrom (own_window cycle (only_anchor m anchors) m)
  own-from [] known comes = own-off [] known.regular comes
  own-from (st ∷ []) known comes = own-by st (anchors 0) refl known comes
  own-from (st ∷ n ∷ ms) known comes = own-off (st ∷ n ∷ ms) known.regular comes

-- ---- a task and others

module _ (course : ℕ → Course) (best : ℕ → ℕ) (rival : ℕ → Rival) (stream : ℕ → ℕ → ℕ) (anchors : ℕ → Anchors) (lead cycle : ℕ → ℕ) (count : ℕ) (some : (c : ℕ) → 0 < cycle c) where
  -- a rival with its clocks
  abbrev pub clocked : ℕ → ClockedRival
  clocked j = record { model = (rival j).model; anchors = anchors j; worst = (rival j).worst }

  -- what is known of another task before a time
  pub record IsTimed (t j : ℕ) : Type 0 where
    pub order : InOrder course best rival j
    pub input : InputIsKnown lead cycle (course j) (stream j) (anchors j) (rival j).model t
    pub clocks_known : AreClocksBelow count (anchors j)

  -- where a time is on each clock
  moment_at : ℕ → Moment
  moment_at s c = (place-of (lead c) (cycle c) s (some c)).0

  is-moment : (s : ℕ) → IsMoment lead cycle s (moment_at s)
  unfolding moment_at
  is-moment s c = (place-of (lead c) (cycle c) s (some c)).1

  -- no more of its jobs come from a time on, also where its input is unbounded
  most_of : ℕ → Course → Anchors → Option Model → ℕ → ℕ
  most_of s c anchor (Some m) v = arrivals_from (moment_at s) anchor 0 m v
  most_of s c anchor None v = c.arrived (s + v)

  most_at : ℕ → ℕ → ℕ → ℕ
  most_at s j v = most_of s (course j) (anchors j) (rival j).model v

  most-comes : (s t j : ℕ) (model : Option Model) → InOrder course best rival j → InputIsKnown lead cycle (course j) (stream j) (anchors j) model t → ComesFrom (course j) (most_of s (course j) (anchors j) model) s t
  unfolding most_of
  most-comes s t j (Some m) o known = comes_at lead cycle (course j) (best j) (rival j).worst o (stream j) (anchors j) s t (moment_at s) (is-moment s) m known
  most-comes s t j None o known = λ v h. omega arith

  most-longer : (s t j : ℕ) (model : Option Model) → InOrder course best rival j → (v w : ℕ) → v ≤ w → most_of s (course j) (anchors j) model v ≤ most_of s (course j) (anchors j) model w
  unfolding most_of
  most-longer s t j (Some m) o v w h = arrivals_from-mono (moment_at s) (anchors j) 0 m v w h
  most-longer s t j None o v w h = arrived-mono (course j) (best j) (rival j).worst o (s + v) (s + w) (omega arith)

  most-allowed : (s j w : ℕ) (model : Option Model) → IsAllowed (moment_at s) w model (anchors j) (most_of s (course j) (anchors j) model w)
  unfolding most_of
  most-allowed s j w (Some m) = omega arith
  most-allowed s j w None = tt

  froms : (s t : ℕ) (hs : List ℕ) → AllByRecursion (IsTimed t) hs → AllByRecursion (QuietAt course best rival s) hs → AllByRecursion (ComesAtMost course best rival (most_at s) s t) hs
  unfolding most_at
  froms s t [] all quiet = tt
  froms s t (j ∷ hs) all quiet = (record { order = all.0.order; quiet = quiet.0; comes = most-comes s t j (rival j).model all.0.order all.0.input }, froms s t hs all.1 quiet.1)

  module _ (i : ℕ) (hs : List ℕ) (own : Model) (k a r limit : ℕ) (arrival : Arrives (course i) k a) (soon : 0 < r) (order : InOrder course best rival i) (comes : ComesWithin (course i) (Some own) (a + r)) (known : StreamsAreKnown lead cycle (course i) (stream i) (anchors i) own (a + r)) (timed : AllByRecursion (IsTimed (a + r)) hs) where
    abbrev window : OwnWindow
    window = own_window cycle (only_anchor own (anchors i)) own

    -- what others ask for from where a time is on the task's clock
    abbrev asked_for : ℕ → ℕ → Bound
    asked_for x w = others (joint_of (own_window cycle (only_anchor own (anchors i)) own).known (map clocked hs)) (rest_of (own_window cycle (only_anchor own (anchors i)) own).known (map clocked hs) cycle count) x w

    orders : AllByRecursion (InOrder course best rival) (i ∷ hs)
    orders = (order, all_map (IsTimed (a + r)) (InOrder course best rival) (λ j one. one.order) hs timed)

    here : (s : ℕ) → s ≤ a → AllByRecursion (QuietAt course best rival s) (i ∷ hs) → FromHere course best rival i hs window.cycle asked_for window.earliest window.events s (a + r)
    unfolding most_at
    here s early quiet =
        let t : ℕ = a + r in
        let moment = moment_at s in
        let from = own-from lead cycle (course i) (best i) (rival i).worst order (stream i) (anchors i) s t moment (is-moment s) own known comes in
        record {
          x = from.x;
          some = from.some;
          within = from.within;
          late = from.late;
          few = from.few;
          reach = from.reach;
          more = λ u. sum_by (λ j. most_of s (course j) (anchors j) (rival j).model u * (rival j).worst) hs;
          longer = λ v w h.
              sum-le (λ j. most_of s (course j) (anchors j) (rival j).model v * (rival j).worst) (λ j. most_of s (course j) (anchors j) (rival j).model w * (rival j).worst) hs
              (all_map (IsTimed t) (λ j. most_of s (course j) (anchors j) (rival j).model v * (rival j).worst ≤ most_of s (course j) (anchors j) (rival j).model w * (rival j).worst)
              (λ j one. mul-le-mul_right (rival j).worst (most-longer s t j (rival j).model one.order v w h)) hs timed);
          covers = λ w d one fits.
              work-covers moment count w one clocked (λ j. most_of s (course j) (anchors j) (rival j).model w) cycle from.x (λ c below. ((is-moment s c).some, (is-moment s c).within)) hs window.known d from.is_known
              (all_map (IsTimed t) (λ j. IsKnownRival (clocked j) moment count w (most_of s (course j) (anchors j) (rival j).model w))
              (λ j k. record { clocks_known = k.clocks_known; allowed = most-allowed s j w (rival j).model }) hs timed)
              fits;
          asks = λ u h. others_ask course best rival (most_at s) s t hs u (froms s t hs timed quiet.1) h;
        }

    -- a job of a task under preemptive priority ends within its bound by clocks, from what was known before
    pub preemptive-clocked : (blocking : ℕ) (loses : (s : ℕ) → LosesAtMost course best rival (i ∷ hs) blocking s)
        → IsAtMost (clocked_preemptive_bound own (anchors i) (rival i).worst blocking (map clocked hs) cycle count limit) (Within r) → k < (course i).ended (a + r)
    preemptive-clocked blocking loses bounded =
        preemptive-local course best rival i hs k a r limit orders arrival soon window.cycle asked_for window.earliest window.events here blocking loses
        (preemptive-within (rival i).worst blocking (map clocked hs) cycle count limit r (only_anchor own (anchors i)) own bounded)

    -- and a frame on a CAN bus
    pub can-clocked : (ls : List ℕ) (blocking bit : ℕ) (bit_some : 0 < bit) (lower : AllByRecursion (IsLower course best rival (i ∷ hs) blocking) ls) (goes_on : (u : ℕ) → IsStarted (course i) u → (course i).received u < (course i).received (u + 1))
        (serves : (u : ℕ) → AllByRecursion (λ j. ¬ IsStarted (course j) u) ls → AnyOf (PendingAt course best rival u) (i ∷ hs) → total course best rival (i ∷ hs) u < total course best rival (i ∷ hs) (u + 1))
        → IsAtMost (clocked_can_bound own (anchors i) (rival i).worst blocking (map clocked hs) cycle count bit limit) (Within r) → k < (course i).ended (a + r)
    can-clocked ls blocking bit bit_some lower goes_on serves bounded =
        can-local course best rival i hs k a r limit orders arrival soon window.cycle asked_for window.earliest window.events here ls blocking bit bit_some lower goes_on serves
        (can-within (rival i).worst blocking (map clocked hs) cycle count limit r bit (only_anchor own (anchors i)) own bounded)
