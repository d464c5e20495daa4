-- Bounds by clocks are the same by any other cycle of a clock: what counts is that each stream on it comes again in each.
use Rattle.std.proofs.Common.{◌≡◌, ℕ, zero, suc, ◌+◌, ◌-◌, ◌*◌, ◌/◌, ◌%◌, ◌<◌, ◌≤◌, ◌==◌, if◌then◌else◌, All, List, [], ◌∷◌, map, Option, Some, None, refl, sym, ap, ◌∙◌, inl, inr, subst, arith}
use Rattle.std.specs.List.{range_with_len, sum_by}
use Rattle.std.specs.Option.{ForSome}
use Rattle.std.proofs.lemmas.Bool.{cases_Bool, eqb-true}
use Rattle.std.proofs.lemmas.Nat.{mod_below, div-add-mod'}
use Rattle.std.proofs.lemmas.List.Elements.{All-cons, All-nil, All-head, All-tail}
use Rattle.cpa_units.specs.declared.bound.Bound.{Bound}
use Rattle.cpa_units.specs.declared.bound.Bound.TheVariants.{Within}
use Rattle.cpa_units.specs.Bounds.{IsAtMost, bound_plus, greatest_of}
use Rattle.cpa_units.proofs.BoundLaws.{IsAtMost_antisymm, greatest_of-le, le-greatest_of}
use Rattle.cpa_events.specs.declared.stream.Stream.{Stream}
use Rattle.cpa_events.specs.Streams.{IsStream}
use Rattle.cpa_events.specs.Events.{Model}
use Rattle.cpa_window.specs.Rivals.{work_in}
use Rattle.cpa_phase.specs.declared.placed.Placed.{Placed}
use Rattle.cpa_phase.specs.declared.phased.Phased.{Phased}
use Rattle.cpa_phase.specs.Phases.{phase_of, arrivals, earliest_arrival}
use Rattle.cpa_phase.specs.Streams.{phase_at, phased_from, phased_work, work_from}
use Rattle.cpa_phase.specs.Clocks.{most_of, clock_work}
use Rattle.cpa_phase.proofs.UpToLaws.{up_to-same}
use Rattle.cpa_phase.proofs.WorkLaws.{le-most_of, most_of-le}
use Rattle.cpa_offset.specs.Offsets.{demand, window_bound, bound_from, offset_bound, apart_bound}
use Rattle.cpa_offset_can.specs.CanOffsets.{frames_bound, can_bound_from, can_offset_bound, can_apart_bound}
use Rattle.cpa_clock.specs.declared.anchor.Anchor.{Anchor}
use Rattle.cpa_clock.specs.Anchors.{Anchors, placed_at}
use Rattle.cpa_clock.specs.Rivals.{ClockedRival, free_of, with_stream, with_input, with_rival, streams_on, unless_known, other_clocks_work, rest_of}
use Rattle.cpa_clock.specs.Clocked.{only_anchor, preemptive_at, can_at, clocked_preemptive_bound, clocked_can_bound}

-- ---- a moment of the first cycle that is x but for whole cycles

abbrev wrapped : ℕ → ℕ → ℕ
wrapped cycle x = (x + (cycle - 1)) % cycle + 1

wrapped-le : (cycle x : ℕ) → 0 < cycle → wrapped cycle x ≤ cycle
wrapped-le cycle x some = let less = mod_below (x + (cycle - 1)) cycle some in omega arith

wrapped-meets : (cycle x : ℕ) → 0 < cycle → wrapped cycle x + (x + (cycle - 1)) / cycle * cycle ≡ x + 1 * cycle
wrapped-meets cycle x some = let split = div-add-mod' (x + (cycle - 1)) cycle in omega (arith, split)

in_periods : (y x q c period cycle : ℕ) → cycle ≡ c * period → y + q * cycle ≡ x + 1 * cycle → y + q * c * period ≡ x + c * period
in_periods y x q c period cycle e h = let same = rw e at h in omega arith

phase-wrapped : (m : Stream) (offset cycle x : ℕ) → IsStream m → 0 < cycle → cycle % m.period ≡ 0 → phase_of m offset (wrapped cycle x) ≡ phase_of m offset x
phase-wrapped m offset cycle x regular some whole =
    let split = div-add-mod' cycle m.period in
    let times : cycle ≡ cycle / m.period * m.period = omega (arith, whole, split) in
    up_to-same m.period regular (offset + m.jitter) (wrapped cycle x) x ((x + (cycle - 1)) / cycle * (cycle / m.period)) (cycle / m.period)
    (in_periods (wrapped cycle x) x ((x + (cycle - 1)) / cycle) (cycle / m.period) m.period cycle times (wrapped-meets cycle x some))

-- ---- the greatest over two cycles of what comes again in both

most-le : (f : ℕ → ℕ) (a b : ℕ) → 0 < b → ((x : ℕ) → f (wrapped b x) ≡ f x) → most_of f a ≤ most_of f b
most-le f a b some again =
    most_of-le f a (most_of f b)
    (λ x one le. let here = le-most_of f b (wrapped b x) (omega arith) (wrapped-le b x some) in omega (arith, here, again x))

most-same : (f : ℕ → ℕ) (a b : ℕ) → 0 < a → 0 < b → ((x : ℕ) → f (wrapped a x) ≡ f x) → ((x : ℕ) → f (wrapped b x) ≡ f x) → most_of f a ≡ most_of f b
most-same f a b some other first second = omega (arith, most-le f a b other second, most-le f b a some first)

greatest-at_most : (f : ℕ → Bound) (a b : ℕ) → 0 < b → ((x : ℕ) → f (wrapped b x) ≡ f x) → IsAtMost (greatest_of f a) (greatest_of f b)
greatest-at_most f a b some again =
    greatest_of-le f a (greatest_of f b)
    (λ x one le. subst (λ v. IsAtMost v (greatest_of f b)) (again x) (le-greatest_of f b (wrapped b x) (omega arith) (wrapped-le b x some)))

greatest-same : (f : ℕ → Bound) (a b : ℕ) → 0 < a → 0 < b → ((x : ℕ) → f (wrapped a x) ≡ f x) → ((x : ℕ) → f (wrapped b x) ≡ f x) → greatest_of f a ≡ greatest_of f b
greatest-same f a b some other first second = IsAtMost_antisymm (greatest_of f a) (greatest_of f b) (greatest-at_most f a b other second) (greatest-at_most f b a some first)

-- ---- streams on one clock

-- a stream comes again in both cycles
pub record IsWholeIn (a b : ℕ) (m : Stream) : Type 0 where
  pub regular : IsStream m
  pub first : a % m.period ≡ 0
  pub second : b % m.period ≡ 0

-- they are seen from a moment as from that of the first cycle
seen-again : (cycle x : ℕ) (ps : List Placed) → 0 < cycle → All (λ (p : Placed). IsStream p.stream × (cycle % p.stream.period ≡ 0)) ps → map (phased_from (wrapped cycle x)) ps ≡ map (phased_from x) ps
seen-again cycle x [] some each = refl
seen-again cycle x (p ∷ ps) some each =
    let here = All-head (λ (q : Placed). IsStream q.stream × (cycle % q.stream.period ≡ 0)) p ps each in
    ap (λ ph. record { stream = p.stream; phase = ph; worst = p.worst } ∷ map (phased_from (wrapped cycle x)) ps) (phase-wrapped p.stream p.offset cycle x here.0 some here.1)
    ∙ ap (λ ss. phased_from x p ∷ ss) (seen-again cycle x ps some (All-tail (λ (q : Placed). IsStream q.stream × (cycle % q.stream.period ≡ 0)) p ps each))

abbrev pub AreWholeIn : ℕ → ℕ → List Placed → Type 0
AreWholeIn a b ps = All (λ (p : Placed). IsWholeIn a b p.stream) ps

module _ (a b : ℕ) (some : 0 < a) (other : 0 < b) where
  in-first : (ps : List Placed) → AreWholeIn a b ps → (x : ℕ) → map (phased_from (wrapped a x)) ps ≡ map (phased_from x) ps
  in-first ps each x = seen-again a x ps some (λ k d less. let w = each k d less in (w.regular, w.first))

  in-second : (ps : List Placed) → AreWholeIn a b ps → (x : ℕ) → map (phased_from (wrapped b x)) ps ≡ map (phased_from x) ps
  in-second ps each x = seen-again b x ps other (λ k d less. let w = each k d less in (w.regular, w.second))

  clock_work-same : (ps : List Placed) (w : ℕ) → AreWholeIn a b ps → clock_work ps a w ≡ clock_work ps b w
  clock_work-same ps w each =
      most-same (λ x. work_from ps x w) a b some other (λ x. ap (λ ss. phased_work ss w) (in-first ps each x)) (λ x. ap (λ ss. phased_work ss w) (in-second ps each x))

  module _ (own : Placed) (blocking : ℕ) (joint : List Placed) (rest : ℕ → Bound) (limit : ℕ) (own_whole : IsWholeIn a b own.stream) (whole : AreWholeIn a b joint) where
    abbrev seen_bound : List Phased → ℕ → Bound
    seen_bound ss phase = window_bound (demand own.worst blocking (λ w. bound_plus (Within (phased_work ss w)) (rest w))) (earliest_arrival own.stream phase) limit

    offset_bound-same : offset_bound own blocking joint rest limit a ≡ offset_bound own blocking joint rest limit b
    unfolding offset_bound
    offset_bound-same =
        greatest-same (bound_from own blocking joint rest limit) a b some other
        (λ x. ap (λ ss. seen_bound ss (phase_at own (wrapped a x))) (in-first joint whole x) ∙ ap (seen_bound (map (phased_from x) joint)) (phase-wrapped own.stream own.offset a x own_whole.regular some own_whole.first))
        (λ x. ap (λ ss. seen_bound ss (phase_at own (wrapped b x))) (in-second joint whole x) ∙ ap (seen_bound (map (phased_from x) joint)) (phase-wrapped own.stream own.offset b x own_whole.regular other own_whole.second))

    module _ (bit : ℕ) where
      abbrev seen_frames : List Phased → ℕ → Bound
      seen_frames ss phase = frames_bound own.worst blocking (λ w. bound_plus (Within (phased_work ss w)) (rest w)) (arrivals own.stream phase) (earliest_arrival own.stream phase) bit limit

      can_offset_bound-same : can_offset_bound own blocking joint rest bit limit a ≡ can_offset_bound own blocking joint rest bit limit b
      unfolding can_offset_bound
      can_offset_bound-same =
          greatest-same (can_bound_from own blocking joint rest bit limit) a b some other
          (λ x. ap (λ ss. seen_frames ss (phase_at own (wrapped a x))) (in-first joint whole x) ∙ ap (seen_frames (map (phased_from x) joint)) (phase-wrapped own.stream own.offset a x own_whole.regular some own_whole.first))
          (λ x. ap (λ ss. seen_frames ss (phase_at own (wrapped b x))) (in-second joint whole x) ∙ ap (seen_frames (map (phased_from x) joint)) (phase-wrapped own.stream own.offset b x own_whole.regular other own_whole.second))

-- ---- inputs and rivals

-- a stream that may be on a clock comes again in both of its cycles
abbrev pub IsWholeOn : (ℕ → ℕ) → (ℕ → ℕ) → Option Anchor → Stream → Type 0
IsWholeOn f g anchor m = ForSome anchor (λ a. IsWholeIn (f a.clock) (g a.clock) m)

-- so does each stream of an input, whose places go on from `first`
abbrev pub AreWholeFrom : (ℕ → ℕ) → (ℕ → ℕ) → Anchors → ℕ → Model → Type 0
AreWholeFrom f g anchors first [] = Unit {0}
AreWholeFrom f g anchors first (m ∷ ms) = IsWholeOn f g (anchors first) m × AreWholeFrom f g anchors (first + 1) ms

abbrev pub IsWholeInput : (ℕ → ℕ) → (ℕ → ℕ) → Anchors → Option Model → Type 0
IsWholeInput f g anchors None = Unit {0}
IsWholeInput f g anchors (Some m) = AreWholeFrom f g anchors 0 m

abbrev pub AreWholeRivals : (ℕ → ℕ) → (ℕ → ℕ) → List ClockedRival → Type 0
AreWholeRivals f g [] = Unit {0}
AreWholeRivals f g (r ∷ rs) = IsWholeInput f g r.anchors r.model × AreWholeRivals f g rs

module _ (f g : ℕ → ℕ) (some : (c : ℕ) → 0 < f c) (other : (c : ℕ) → 0 < g c) where
  whole-stream : (c worst : ℕ) (o : Option Anchor) (m : Stream) (others : List Placed) → IsWholeOn f g o m → AreWholeIn (f c) (g c) others → AreWholeIn (f c) (g c) (with_stream c worst o m others)
  whole-stream c worst None m others h each = each
  whole-stream c worst (Some a) m others h each =
      elim (cases_Bool (a.clock == c)) [
        | inl here ↦
            rw here
            (All-cons (λ (p : Placed). IsWholeIn (f c) (g c) p.stream) (placed_at m a worst) others (subst (λ k. IsWholeIn (f k) (g k) m) (eqb-true a.clock c here) (h a refl)) each)
        | inr apart ↦ rw apart each
      ]

  whole-input : (c worst : ℕ) (anchors : Anchors) (first : ℕ) (m : Model) (others : List Placed) → AreWholeFrom f g anchors first m → AreWholeIn (f c) (g c) others → AreWholeIn (f c) (g c) (with_input c worst anchors first m others)
  whole-input c worst anchors first [] others h each = each
  whole-input c worst anchors first (m ∷ ms) others h each =
      whole-stream c worst (anchors first) m (with_input c worst anchors (first + 1) ms others) h.0 (whole-input c worst anchors (first + 1) ms others h.1 each)

  whole-rival : (c worst : ℕ) (anchors : Anchors) (o : Option Model) (others : List Placed) → IsWholeInput f g anchors o → AreWholeIn (f c) (g c) others → AreWholeIn (f c) (g c) (with_rival c worst anchors o others)
  whole-rival c worst anchors None others h each = each
  whole-rival c worst anchors (Some m) others h each = whole-input c worst anchors 0 m others h each

  whole-streams : (c : ℕ) (rivals : List ClockedRival) → AreWholeRivals f g rivals → AreWholeIn (f c) (g c) (streams_on c rivals)
  whole-streams c [] h = All-nil (λ (p : Placed). IsWholeIn (f c) (g c) p.stream)
  whole-streams c (r ∷ rs) h = whole-rival c r.worst r.anchors r.model (streams_on c rs) h.0 (whole-streams c rs h.1)

  module _ (rivals : List ClockedRival) (h : AreWholeRivals f g rivals) (count : ℕ) where
    work-same : (w c : ℕ) → clock_work (streams_on c rivals) (f c) w ≡ clock_work (streams_on c rivals) (g c) w
    work-same w c = clock_work-same (f c) (g c) (some c) (other c) (streams_on c rivals) w (whole-streams c rivals h)

    others-same : (known : Option ℕ) (w : ℕ) → other_clocks_work known rivals f count w ≡ other_clocks_work known rivals g count w
    others-same known w = λ i. sum_by (λ c. unless_known known c (work-same w c i)) (range_with_len 0 count)

    rest-same : (known : Option ℕ) → rest_of known rivals f count ≡ rest_of known rivals g count
    rest-same known = λ i w. bound_plus (Within (others-same known w i)) (work_in (free_of rivals) w)

    -- what is known of the one stream of the task
    abbrev IsWholeFirst : Option Anchor → Model → Type 0
    IsWholeFirst None own = Unit {0}
    IsWholeFirst (Some a) [] = Unit {0}
    IsWholeFirst (Some a) (m ∷ ms) = IsWholeIn (f a.clock) (g a.clock) m

    first-one : (o : Option Anchor) (m : Stream) → IsWholeOn f g o m → IsWholeFirst o (m ∷ [])
    first-one None m k = tt
    first-one (Some a) m k = k a refl

    first-whole : (own : Model) (anchors : Anchors) → AreWholeFrom f g anchors 0 own → IsWholeFirst (only_anchor own anchors) own
    first-whole [] anchors k = tt
    first-whole (m ∷ []) anchors k = first-one (anchors 0) m k.0
    first-whole (m ∷ n ∷ ms) anchors k = tt

    preemptive-at : (o : Option Anchor) (own : Model) (worst blocking limit : ℕ) → IsWholeFirst o own → preemptive_at o own worst blocking rivals f count limit ≡ preemptive_at o own worst blocking rivals g count limit
    preemptive-at None own worst blocking limit k = ap (λ rest. apart_bound own worst blocking rest limit) (rest-same None)
    preemptive-at (Some a) [] worst blocking limit k = ap (λ rest. apart_bound [] worst blocking rest limit) (rest-same None)
    preemptive-at (Some a) (m ∷ ms) worst blocking limit k =
        ap (λ rest. offset_bound (placed_at m a worst) blocking (streams_on a.clock rivals) rest limit (f a.clock)) (rest-same (Some a.clock))
        ∙ offset_bound-same (f a.clock) (g a.clock) (some a.clock) (other a.clock) (placed_at m a worst) blocking (streams_on a.clock rivals) (rest_of (Some a.clock) rivals g count) limit k (whole-streams a.clock rivals h)

    can-at : (o : Option Anchor) (own : Model) (worst blocking bit limit : ℕ) → IsWholeFirst o own → can_at o own worst blocking rivals f count bit limit ≡ can_at o own worst blocking rivals g count bit limit
    can-at None own worst blocking bit limit k = ap (λ rest. can_apart_bound own worst blocking rest bit limit) (rest-same None)
    can-at (Some a) [] worst blocking bit limit k = ap (λ rest. can_apart_bound [] worst blocking rest bit limit) (rest-same None)
    can-at (Some a) (m ∷ ms) worst blocking bit limit k =
        ap (λ rest. can_offset_bound (placed_at m a worst) blocking (streams_on a.clock rivals) rest bit limit (f a.clock)) (rest-same (Some a.clock))
        ∙ can_offset_bound-same (f a.clock) (g a.clock) (some a.clock) (other a.clock) (placed_at m a worst) blocking (streams_on a.clock rivals) (rest_of (Some a.clock) rivals g count) limit k (whole-streams a.clock rivals h) bit

    pub clocked_preemptive-same : (own : Model) (anchors : Anchors) (worst blocking limit : ℕ) → AreWholeFrom f g anchors 0 own → clocked_preemptive_bound own anchors worst blocking rivals f count limit ≡ clocked_preemptive_bound own anchors worst blocking rivals g count limit
    clocked_preemptive-same own anchors worst blocking limit k = preemptive-at (only_anchor own anchors) own worst blocking limit (first-whole own anchors k)

    pub clocked_can-same : (own : Model) (anchors : Anchors) (worst blocking bit limit : ℕ) → AreWholeFrom f g anchors 0 own → clocked_can_bound own anchors worst blocking rivals f count bit limit ≡ clocked_can_bound own anchors worst blocking rivals g count bit limit
    clocked_can-same own anchors worst blocking bit limit k = can-at (only_anchor own anchors) own worst blocking bit limit (first-whole own anchors k)
