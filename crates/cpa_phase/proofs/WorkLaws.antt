-- The work of the streams of clocks: it grows with the window and with wider intervals, and some candidate has most.
use Rattle.std.proofs.Common.{◌≡◌, ℕ, zero, suc, ◌<◌, ◌≤◌, max, List, [], ◌∷◌, map, length, All, slice_index_or, refl, inl, inr, arith, ◌*◌, ◌+◌}
use Rattle.std.proofs.lemmas.Bool.{cases_lt}
use Rattle.std.proofs.lemmas.List.Sums.{sum_by-cons, sum_by-le-sum_by}
use Rattle.std.proofs.Math.Nat.{le_trans, le-max_left, le-max_right, max-le, mul-le-mul, mul-le-mul_right}
use Rattle.cpa_events.specs.Streams.{stream_eta_plus, IsStream}
use Rattle.cpa_phase.specs.declared.placed.Placed.{Placed}
use Rattle.cpa_phase.specs.declared.phased.Phased.{Phased}
use Rattle.cpa_phase.specs.declared.clock.Clock.{Clock}
use Rattle.cpa_phase.specs.Phases.{earliest_arrival, arrivals}
use Rattle.cpa_phase.specs.Streams.{phase_at, phased_from, phased_work, work_from, IsCandidate, IsPlacedOn}
use Rattle.cpa_phase.specs.Clocks.{most_of, clock_work, clocks_work}
use Rattle.cpa_phase.specs.Growth.{IsPlacedNoDenser, ArePlacedNoDenser, AreClocksNoDenser, plain_work, plain_clocks_work, IsSingle}
use Rattle.cpa_phase.proofs.UpToLaws.{up_to-less}
use Rattle.cpa_phase.proofs.PhaseLaws.{earliest_arrival-wider, arrivals-wider, arrivals-mono, arrivals-plain, arrivals-le_plain}
use Rattle.cpa_phase.proofs.MomentLaws.{phase-wider}
use Rattle.cpa_phase.proofs.CandidateLaws.{cover, first_candidate}

-- ---- the greatest of some numbers

pub most_of-zero : (f : ℕ → ℕ) → most_of f 0 ≡ 0
unfolding most_of
most_of-zero f = refl

pub most_of-suc : (f : ℕ → ℕ) (last : ℕ) → most_of f (suc last) ≡ max (most_of f last) (f (suc last))
unfolding most_of
most_of-suc f last = refl

-- each is at most that
pub le-most_of : (f : ℕ → ℕ) (last x : ℕ) → 0 < x → x ≤ last → f x ≤ most_of f last
le-most_of f zero x some le = absurd (omega arith)
le-most_of f (suc last) x some le =
    elim (cases_lt last x) [
      | inl top ↦ let same : x ≡ suc last = omega arith in rw (same, most_of-suc) (le-max_right _ _)
      | inr below ↦ rw most_of-suc (le_trans (le-most_of f last x some below) (le-max_left _ _))
    ]

-- and that is at most whatever each is at most
pub most_of-le : (f : ℕ → ℕ) (last b : ℕ) → ((x : ℕ) → 0 < x → x ≤ last → f x ≤ b) → most_of f last ≤ b
most_of-le f zero b h = rw most_of-zero (omega arith)
most_of-le f (suc last) b h =
    rw most_of-suc (max-le (most_of-le f last b (λ x some le. h x some (omega arith))) (h (suc last) (omega arith) (omega arith)))

pub most_of-mono : (f g : ℕ → ℕ) (last : ℕ) → ((x : ℕ) → f x ≤ g x) → most_of f last ≤ most_of g last
most_of-mono f g last h = most_of-le f last (most_of g last) (λ x some le. le_trans (h x) (le-most_of g last x some le))

-- ---- streams that ask for no more

-- the second stream's events may come at least as densely and as soon as the first's, and take as long
pub record IsNoFuller (s t : Phased) : Type 0 where
  pub period : t.stream.period ≤ s.stream.period
  pub jitter : s.stream.jitter ≤ t.stream.jitter
  pub distance : t.stream.distance ≤ s.stream.distance
  pub phase : t.phase + s.stream.jitter ≤ s.phase + t.stream.jitter
  pub worst : s.worst ≤ t.worst

pub earliest_arrival-fuller : (s t : Phased) (n : ℕ) → IsNoFuller s t → earliest_arrival t.stream t.phase n ≤ earliest_arrival s.stream s.phase n
earliest_arrival-fuller s t n h = earliest_arrival-wider s.stream t.stream s.phase t.phase n h.period h.distance h.phase

pub arrivals-fuller : (s t : Phased) (window : ℕ) → IsNoFuller s t → arrivals s.stream s.phase window ≤ arrivals t.stream t.phase window
arrivals-fuller s t window h = arrivals-wider s.stream t.stream s.phase t.phase window h.jitter h.period h.distance h.phase

-- list by list; the second may have more at its end
abbrev pub AreNoFuller : List Phased → List Phased → Type 0
AreNoFuller [] ts = Unit {0}
AreNoFuller (s ∷ ss) [] = ⊥
AreNoFuller (s ∷ ss) (t ∷ ts) = IsNoFuller s t × AreNoFuller ss ts

pub phased_work-fuller : (ss ts : List Phased) (window : ℕ) → AreNoFuller ss ts → phased_work ss window ≤ phased_work ts window
phased_work-fuller [] ts window h = omega arith
phased_work-fuller (s ∷ ss) [] window h = absurd h
phased_work-fuller (s ∷ ss) (t ∷ ts) window h =
    let one : arrivals s.stream s.phase window * s.worst ≤ arrivals t.stream t.phase window * t.worst = mul-le-mul (arrivals-fuller s t window h.0) h.0.worst in
    omega (
      arith,
      one,
      phased_work-fuller ss ts window h.1,
      sum_by-cons (λ (u : Phased). arrivals u.stream u.phase window * u.worst) s ss,
      sum_by-cons (λ (u : Phased). arrivals u.stream u.phase window * u.worst) t ts,
    )

-- a longer window has no less
pub phased_work-mono : (ss : List Phased) (v w : ℕ) → v ≤ w → phased_work ss v ≤ phased_work ss w
phased_work-mono ss v w h =
    sum_by-le-sum_by (λ (s : Phased). arrivals s.stream s.phase v * s.worst) (λ (s : Phased). arrivals s.stream s.phase w * s.worst) ss (λ s. mul-le-mul_right s.worst (arrivals-mono s.stream s.phase v w h))

-- ---- streams from two moments

pub nearer_is_fuller : (p : Placed) (x y : ℕ) → phase_at p y ≤ phase_at p x → IsNoFuller (phased_from x p) (phased_from y p)
nearer_is_fuller p x y h = record { period = omega arith; jitter = omega arith; distance = omega arith; phase = omega arith; worst = omega arith }

pub nearer_are_fuller : (d : Placed) (ps : List Placed) (x y : ℕ) → ((j : ℕ) → j < length ps → phase_at (slice_index_or ps j d) y ≤ phase_at (slice_index_or ps j d) x) → AreNoFuller (map (phased_from x) ps) (map (phased_from y) ps)
nearer_are_fuller d [] x y h = tt
nearer_are_fuller d (p ∷ ps) x y h = (nearer_is_fuller p x y (h 0 (omega arith)), nearer_are_fuller d ps x y (λ j less. h (suc j) (omega arith)))

pub work_from-nearer : (d : Placed) (ps : List Placed) (x y w : ℕ) → ((j : ℕ) → j < length ps → phase_at (slice_index_or ps j d) y ≤ phase_at (slice_index_or ps j d) x) → work_from ps x w ≤ work_from ps y w
work_from-nearer d ps x y w h = phased_work-fuller (map (phased_from x) ps) (map (phased_from y) ps) w (nearer_are_fuller d ps x y h)

-- ---- streams of wider intervals

pub denser_is_fuller : (p q : Placed) (x : ℕ) → IsPlacedNoDenser p q → IsNoFuller (phased_from x p) (phased_from x q)
denser_is_fuller p q x h =
    record {
      period = omega (arith, h.period);
      jitter = omega (arith, h.sooner, h.later);
      distance = h.distance;
      phase = phase-wider p.stream q.stream p.offset q.offset x h.period h.sooner h.later;
      worst = h.worst;
    }

denser_are_fuller : (ps qs : List Placed) (x : ℕ) → ArePlacedNoDenser ps qs → AreNoFuller (map (phased_from x) ps) (map (phased_from x) qs)
denser_are_fuller [] qs x h = tt
denser_are_fuller (p ∷ ps) [] x h = absurd h
denser_are_fuller (p ∷ ps) (q ∷ qs) x h = (denser_is_fuller p q x h.0, denser_are_fuller ps qs x h.1)

pub work_from-denser : (ps qs : List Placed) (x w : ℕ) → ArePlacedNoDenser ps qs → work_from ps x w ≤ work_from qs x w
work_from-denser ps qs x w h = phased_work-fuller (map (phased_from x) ps) (map (phased_from x) qs) w (denser_are_fuller ps qs x h)

-- ---- the work of clocks

pub work_from-mono : (ps : List Placed) (x v w : ℕ) → v ≤ w → work_from ps x v ≤ work_from ps x w
work_from-mono ps x v w h = phased_work-mono (map (phased_from x) ps) v w h

pub clock_work-mono : (ps : List Placed) (cycle v w : ℕ) → v ≤ w → clock_work ps cycle v ≤ clock_work ps cycle w
clock_work-mono ps cycle v w h = most_of-mono (λ x. work_from ps x v) (λ x. work_from ps x w) cycle (λ x. work_from-mono ps x v w h)

pub clocks_work-mono : (cs : List Clock) (v w : ℕ) → v ≤ w → clocks_work cs v ≤ clocks_work cs w
clocks_work-mono cs v w h = sum_by-le-sum_by (λ (c : Clock). clock_work c.streams.items c.cycle v) (λ (c : Clock). clock_work c.streams.items c.cycle w) cs (λ c. clock_work-mono c.streams.items c.cycle v w h)

pub clock_work-denser : (ps qs : List Placed) (cycle w : ℕ) → ArePlacedNoDenser ps qs → clock_work ps cycle w ≤ clock_work qs cycle w
clock_work-denser ps qs cycle w h = most_of-mono (λ x. work_from ps x w) (λ x. work_from qs x w) cycle (λ x. work_from-denser ps qs x w h)

pub clocks_work-denser : (cs ds : List Clock) (w : ℕ) → AreClocksNoDenser cs ds → clocks_work cs w ≤ clocks_work ds w
clocks_work-denser [] ds w h = omega arith
clocks_work-denser (c ∷ cs) [] w h = absurd h
clocks_work-denser (c ∷ cs) (d ∷ ds) w h =
    let one : clock_work c.streams.items c.cycle w ≤ clock_work d.streams.items d.cycle w = rw h.0.cycle (clock_work-denser c.streams.items d.streams.items c.cycle w h.0.streams) in
    omega (
      arith,
      one,
      sum_by-cons (λ (c : Clock). clock_work c.streams.items c.cycle w) c cs,
      sum_by-cons (λ (c : Clock). clock_work c.streams.items c.cycle w) d ds,
      clocks_work-denser cs ds w h.1,
    )

-- where no candidate of a stream has more, no moment has
pub clock_work-le : (d : Placed) (ps : List Placed) (cycle w most : ℕ) → 0 < cycle → All (IsPlacedOn cycle) ps → ((k x : ℕ) → k < length ps → 0 < x → x ≤ cycle → IsCandidate (slice_index_or ps k d) x → work_from ps x w ≤ most) → clock_work ps cycle w ≤ most
clock_work-le d [] cycle w most some on h = most_of-le (λ x. work_from [] x w) cycle most (λ x one le. omega arith)
clock_work-le d (p ∷ ps) cycle w most some on h =
    most_of-le (λ x. work_from (p ∷ ps) x w) cycle most
    (λ x one le.
    let there = cover d p ps cycle x some on in
    le_trans (work_from-nearer d (p ∷ ps) x there.1 w there.6) (h there.0 there.1 there.2 there.3 there.4 there.5))

-- ---- without offsets

pub work_from-le_plain : (ps : List Placed) (x w : ℕ) → work_from ps x w ≤ plain_work ps w
work_from-le_plain [] x w = omega arith
work_from-le_plain (p ∷ ps) x w =
    let one : arrivals p.stream (phase_at p x) w * p.worst ≤ stream_eta_plus p.stream w * p.worst = mul-le-mul_right p.worst (arrivals-le_plain p.stream (phase_at p x) w) in
    omega (
      arith,
      one,
      work_from-le_plain ps x w,
      sum_by-cons (λ (s : Phased). arrivals s.stream s.phase w * s.worst) (phased_from x p) (map (phased_from x) ps),
      sum_by-cons (λ (q : Placed). stream_eta_plus q.stream w * q.worst) p ps,
    )

pub clock_work-le_plain : (ps : List Placed) (cycle w : ℕ) → clock_work ps cycle w ≤ plain_work ps w
clock_work-le_plain ps cycle w = most_of-le (λ x. work_from ps x w) cycle (plain_work ps w) (λ x some le. work_from-le_plain ps x w)

pub clocks_work-le_plain : (cs : List Clock) (w : ℕ) → clocks_work cs w ≤ plain_clocks_work cs w
clocks_work-le_plain cs w = sum_by-le-sum_by (λ (c : Clock). clock_work c.streams.items c.cycle w) (λ (c : Clock). plain_work c.streams.items w) cs (λ c. clock_work-le_plain c.streams.items c.cycle w)

-- a clock with one stream brings what is known of it without its offset
pub clock_work-one : (p : Placed) (cycle w : ℕ) → IsStream p.stream → p.stream.period ≤ cycle → clock_work (p ∷ []) cycle w ≡ stream_eta_plus p.stream w * p.worst
clock_work-one p cycle w regular long =
    let start : phase_at p (1 + phase_at p 1) ≡ 0 = first_candidate p regular in
    let near = up_to-less p.stream.period regular (p.offset + p.stream.jitter) 1 in
    let here : work_from (p ∷ []) (1 + phase_at p 1) w ≡ stream_eta_plus p.stream w * p.worst = rw start (let e = arrivals-plain p.stream w in rw e (omega arith)) in
    let reached = le-most_of (λ x. work_from (p ∷ []) x w) cycle (1 + phase_at p 1) (omega arith) (omega (arith, near)) in
    let most = clock_work-le_plain (p ∷ []) cycle w in
    omega (arith, here, reached, most, sum_by-cons (λ (q : Placed). stream_eta_plus q.stream w * q.worst) p [])

single_work : (c : Clock) (w : ℕ) → IsSingle c → clock_work c.streams.items c.cycle w ≡ plain_work c.streams.items w
single_work c w one = rw one.only (omega (arith, clock_work-one one.stream c.cycle w one.regular one.long))

pub singles_work : (cs : List Clock) (w : ℕ) → All IsSingle cs → clocks_work cs w ≡ plain_clocks_work cs w
singles_work [] w h = refl
singles_work (c ∷ cs) w h =
    omega (
      arith,
      single_work c w (h 0 c (omega arith)),
      sum_by-cons (λ (d : Clock). clock_work d.streams.items d.cycle w) c cs,
      sum_by-cons (λ (d : Clock). plain_work d.streams.items w) c cs,
      singles_work cs w (λ k e less. h (suc k) e (omega arith)),
    )
