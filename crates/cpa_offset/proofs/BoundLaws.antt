-- The bound: it is that of some candidate, it grows, and it is never above the one without offsets.
use Rattle.std.proofs.Common.{◌≡◌, ℕ, suc, ◌+◌, ◌*◌, ◌<◌, ◌≤◌, true, false, List, [], ◌∷◌, map, length, All, slice_index_or, refl, sym, ◌∙◌, ap, subst, arith}
use Rattle.std.proofs.Math.Nat.{mul-le-mul_left}
use Rattle.cpa_units.specs.declared.bound.Bound.{Bound}
use Rattle.cpa_units.specs.declared.bound.Bound.TheVariants.{Within, Overload}
use Rattle.cpa_units.specs.Bounds.{IsAtMost, RespectsLimit, bound_plus}
use Rattle.cpa_units.proofs.BoundLaws.{IsAtMost_refl, IsAtMost_trans, IsAtMost_antisymm, zero_at_most, bound_plus-mono, greatest_of-le, le-greatest_of, greatest_of-mono, greatest_of-limit}
use Rattle.cpa_events.specs.Streams.{IsStream}
use Rattle.cpa_events.specs.Events.{delta_minus}
use Rattle.cpa_events.proofs.StreamLaws.{stream_delta_minus-one}
use Rattle.cpa_events.proofs.EventLaws.{delta_minus-of_one}
use Rattle.cpa_window.specs.declared.rivals.Rival.{Rival}
use Rattle.cpa_window.specs.Rivals.{work_in, some_unbounded}
use Rattle.cpa_window.specs.BusyWindow.{busy_window_bound, windows_of}
use Rattle.cpa_window.proofs.BusyWindowLaws.{busy_window_bound-grows}
use Rattle.cpa_spp.specs.Preemptive.{preemptive_demand, preemptive_bound}
use Rattle.cpa_spp.proofs.PreemptiveLaws.{preemptive_bound-low, unbounded-overload}
use Rattle.cpa_phase.specs.declared.placed.Placed.{Placed}
use Rattle.cpa_phase.specs.declared.clock.Clock.{Clock}
use Rattle.cpa_phase.specs.Phases.{earliest_arrival}
use Rattle.cpa_phase.specs.Streams.{phase_at, phased_from, work_from, IsCandidate, IsPlacedOn}
use Rattle.cpa_phase.specs.Clocks.{clocks_work}
use Rattle.cpa_phase.specs.Growth.{plain_work, IsPlacedNoDenser, ArePlacedNoDenser}
use Rattle.cpa_phase.proofs.UpToLaws.{up_to-less}
use Rattle.cpa_phase.proofs.PhaseLaws.{earliest_arrival-ge, earliest_arrival-plain}
use Rattle.cpa_phase.proofs.CandidateLaws.{first_candidate}
use Rattle.cpa_phase.proofs.WorkLaws.{earliest_arrival-fuller, work_from-nearer, work_from-denser, work_from-le_plain, nearer_is_fuller, denser_is_fuller}
use Rattle.cpa_offset.specs.Offsets.{demand, elsewhere, others, bound_from, offset_bound}
use Rattle.cpa_offset.specs.Candidates.{GrowsNearer}
use Rattle.cpa_offset.specs.Jobs.{others_work, jobs_work}
use Rattle.cpa_window.proofs.RivalLaws.{work_in-bounded}
use Rattle.cpa_offset.proofs.WindowBoundLaws.{late-le_busy, late-grows, late-at_once, late-limit}
use Rattle.cpa_offset.proofs.CandidateLaws.{candidate_is_enough}

-- ---- which moments count

-- what others ask for is no less from where no phase is longer
pub others-nearer : (d : Placed) (joint : List Placed) (rest : ℕ → Bound) (x y w : ℕ) → ((j : ℕ) → j < length joint → phase_at (slice_index_or joint j d) y ≤ phase_at (slice_index_or joint j d) x) → IsAtMost (others joint rest x w) (others joint rest y w)
others-nearer d joint rest x y w h =
    bound_plus-mono (Within (work_from joint x w)) (Within (work_from joint y w)) (rest w) (rest w) (work_from-nearer d joint x y w h) (IsAtMost_refl (rest w))

pub bound_from-nearer : (own : Placed) (blocking : ℕ) (joint : List Placed) (rest : ℕ → Bound) (limit : ℕ) → GrowsNearer own (own ∷ joint) (bound_from own blocking joint rest limit)
bound_from-nearer own blocking joint rest limit x y h =
    late-grows (demand own.worst blocking (others joint rest x)) (demand own.worst blocking (others joint rest y)) (earliest_arrival own.stream (phase_at own x)) (earliest_arrival own.stream (phase_at own y)) limit
    (λ q w.
    bound_plus-mono (Within (blocking + q * own.worst)) (Within (blocking + q * own.worst)) (others joint rest x w) (others joint rest y w) (omega arith)
    (others-nearer own joint rest x y w (λ j less. h (suc j) (omega arith))))
    (λ q. earliest_arrival-fuller (phased_from x own) (phased_from y own) q (nearer_is_fuller own x y (h 0 (omega arith))))

pub start_is_enough : (own : Placed) (blocking : ℕ) (joint : List Placed) (rest : ℕ → Bound) (limit cycle x : ℕ) → 0 < cycle → All (IsPlacedOn cycle) (own ∷ joint) → (k y : ℕ) × (k < length (own ∷ joint)) × (0 < y) × (y ≤ cycle) × IsCandidate (slice_index_or (own ∷ joint) k own) y × IsAtMost (bound_from own blocking joint rest limit x) (bound_from own blocking joint rest limit y)
start_is_enough own blocking joint rest limit cycle x some on =
    candidate_is_enough (bound_from own blocking joint rest limit) own joint cycle x (bound_from-nearer own blocking joint rest limit) some on

pub le-offset_bound : (own : Placed) (blocking : ℕ) (joint : List Placed) (rest : ℕ → Bound) (limit cycle x : ℕ) → 0 < x → x ≤ cycle → IsAtMost (bound_from own blocking joint rest limit x) (offset_bound own blocking joint rest limit cycle)
unfolding offset_bound
le-offset_bound own blocking joint rest limit cycle x some le = le-greatest_of (bound_from own blocking joint rest limit) cycle x some le

pub offset_bound-limit : (own : Placed) (blocking : ℕ) (joint : List Placed) (rest : ℕ → Bound) (limit cycle : ℕ) → RespectsLimit limit (offset_bound own blocking joint rest limit cycle)
unfolding offset_bound
offset_bound-limit own blocking joint rest limit cycle =
    greatest_of-limit limit (bound_from own blocking joint rest limit) cycle
    (λ x. late-limit (demand own.worst blocking (others joint rest x)) (earliest_arrival own.stream (phase_at own x)) limit)

-- ---- never above the bound without offsets

-- what others ask for is no more than what is known of them without
pub others-le_plain : (joint : List Placed) (rest : ℕ → Bound) (x w : ℕ) → IsAtMost (others joint rest x w) (bound_plus (Within (plain_work joint w)) (rest w))
others-le_plain joint rest x w =
    bound_plus-mono (Within (work_from joint x w)) (Within (plain_work joint w)) (rest w) (rest w) (work_from-le_plain joint x w) (IsAtMost_refl (rest w))

pub offset_bound-le_plain : (own : Placed) (blocking : ℕ) (joint : List Placed) (rest : ℕ → Bound) (rivals : List Rival) (limit cycle : ℕ) → IsStream own.stream → ((x w : ℕ) → IsAtMost (others joint rest x w) (work_in rivals w)) → IsAtMost (offset_bound own blocking joint rest limit cycle) (preemptive_bound (own.stream ∷ []) own.worst blocking rivals limit)
unfolding offset_bound
offset_bound-le_plain own blocking joint rest rivals limit cycle regular covers =
    greatest_of-le (bound_from own blocking joint rest limit) cycle (preemptive_bound (own.stream ∷ []) own.worst blocking rivals limit)
    (λ x some le.
    let d : ℕ → ℕ → Bound = demand own.worst blocking (others joint rest x) in
    let early : ℕ → ℕ = earliest_arrival own.stream (phase_at own x) in
    IsAtMost_trans (bound_from own blocking joint rest limit x) (busy_window_bound (windows_of d limit) early limit) (preemptive_bound (own.stream ∷ []) own.worst blocking rivals limit)
    (late-le_busy d early limit)
    (busy_window_bound-grows d (preemptive_demand own.worst blocking rivals) early (delta_minus (own.stream ∷ [])) limit
    (λ q w.
    bound_plus-mono (Within (blocking + q * own.worst)) (Within (blocking + q * own.worst)) (others joint rest x w) (work_in rivals w) (omega arith) (covers x w))
    (λ q. let plain = earliest_arrival-ge own.stream (phase_at own x) q in omega (arith, plain, delta_minus-of_one own.stream q regular))))

-- ---- and where the task has no higher one on its clock, equal to it

pub zero_plus : (b : Bound) → bound_plus (Within 0) b ≡ b
zero_plus (Within b) = ap Within (omega arith)
zero_plus Overload = refl

-- alone on its clock, what others ask for is the rest
pub others-alone : (rest : ℕ → Bound) (x w : ℕ) → others [] rest x w ≡ rest w
others-alone rest x w = zero_plus (rest w)

alone_from_candidate : (own : Placed) (blocking : ℕ) (rest : ℕ → Bound) (rivals : List Rival) (limit x : ℕ) → IsStream own.stream → IsCandidate own x → ((w : ℕ) → rest w ≡ work_in rivals w) → bound_from own blocking [] rest limit x ≡ preemptive_bound (own.stream ∷ []) own.worst blocking rivals limit
alone_from_candidate own blocking rest rivals limit x regular start same =
    let d : ℕ → ℕ → Bound = demand own.worst blocking (others [] rest x) in
    let early : ℕ → ℕ = earliest_arrival own.stream (phase_at own x) in
    let plain : (q : ℕ) → early q ≡ delta_minus (own.stream ∷ []) q = λ q. rw start (earliest_arrival-plain own.stream q) ∙ sym (delta_minus-of_one own.stream q regular) in
    let first : early 1 ≡ 0 = rw start (earliest_arrival-plain own.stream 1) ∙ stream_delta_minus-one own.stream in
    let asks : d ≡ preemptive_demand own.worst blocking rivals = λ i q w. bound_plus (Within (blocking + q * own.worst)) ((others-alone rest x w ∙ same w) i) in
    let comes : early ≡ delta_minus (own.stream ∷ []) = λ i q. plain q i in
    late-at_once d early limit first
    ∙ ap (λ e. busy_window_bound (windows_of e limit) early limit) asks
    ∙ ap (λ e. busy_window_bound (windows_of (preemptive_demand own.worst blocking rivals) limit) e limit) comes

pub offset_bound-alone : (own : Placed) (blocking : ℕ) (rest : ℕ → Bound) (rivals : List Rival) (limit cycle : ℕ) → IsStream own.stream → own.stream.period ≤ cycle → ((w : ℕ) → rest w ≡ work_in rivals w) → offset_bound own blocking [] rest limit cycle ≡ preemptive_bound (own.stream ∷ []) own.worst blocking rivals limit
offset_bound-alone own blocking rest rivals limit cycle regular long same =
    let plain : Bound = preemptive_bound (own.stream ∷ []) own.worst blocking rivals limit in
    let near = up_to-less own.stream.period regular (own.offset + own.stream.jitter) 1 in
    let here = alone_from_candidate own blocking rest rivals limit (1 + phase_at own 1) regular (first_candidate own regular) same in
    let above : IsAtMost plain (offset_bound own blocking [] rest limit cycle) =
    subst (λ (b : Bound). IsAtMost b (offset_bound own blocking [] rest limit cycle)) here (le-offset_bound own blocking [] rest limit cycle (1 + phase_at own 1) (omega arith) (omega (arith, near)))
    in
    let below : IsAtMost (offset_bound own blocking [] rest limit cycle) plain =
    offset_bound-le_plain own blocking [] rest rivals limit cycle regular (λ x w. subst (λ (b : Bound). IsAtMost b (work_in rivals w)) (sym (others-alone rest x w ∙ same w)) (IsAtMost_refl (work_in rivals w)))
    in
    IsAtMost_antisymm (offset_bound own blocking [] rest limit cycle) plain below above

-- ---- it grows

-- others of wider intervals ask for no less
pub others-grow : (joint joint' : List Placed) (rest rest' : ℕ → Bound) (x w : ℕ) → ArePlacedNoDenser joint joint' → IsAtMost (rest w) (rest' w) → IsAtMost (others joint rest x w) (others joint' rest' x w)
others-grow joint joint' rest rest' x w j r =
    bound_plus-mono (Within (work_from joint x w)) (Within (work_from joint' x w)) (rest w) (rest' w) (work_from-denser joint joint' x w j) r

pub offset_bound-grows : (own own' : Placed) (blocking blocking' : ℕ) (joint joint' : List Placed) (rest rest' : ℕ → Bound) (limit cycle : ℕ) → IsPlacedNoDenser own own' → blocking ≤ blocking' → ((x w : ℕ) → IsAtMost (others joint rest x w) (others joint' rest' x w)) → IsAtMost (offset_bound own blocking joint rest limit cycle) (offset_bound own' blocking' joint' rest' limit cycle)
unfolding offset_bound
offset_bound-grows own own' blocking blocking' joint joint' rest rest' limit cycle o b more =
    greatest_of-mono (bound_from own blocking joint rest limit) (bound_from own' blocking' joint' rest' limit) cycle cycle (omega arith)
    (λ x some le.
    late-grows (demand own.worst blocking (others joint rest x)) (demand own'.worst blocking' (others joint' rest' x)) (earliest_arrival own.stream (phase_at own x)) (earliest_arrival own'.stream (phase_at own' x)) limit
    (λ q w.
    let jobs : q * own.worst ≤ q * own'.worst = mul-le-mul_left q o.worst in
    bound_plus-mono (Within (blocking + q * own.worst)) (Within (blocking' + q * own'.worst)) (others joint rest x w) (others joint' rest' x w) (omega (arith, b, jobs))
    (more x w))
    (λ q. earliest_arrival-fuller (phased_from x own) (phased_from x own') q (denser_is_fuller own own' x o)))

pub no_denser_itself : (p : Placed) → IsPlacedNoDenser p p
no_denser_itself p = record { period = refl; sooner = omega arith; later = omega arith; distance = omega arith; worst = omega arith }

-- the execution is a bound from below
pub offset_bound-low : (own : Placed) (blocking : ℕ) (joint : List Placed) (rest : ℕ → Bound) (limit cycle : ℕ) → IsStream own.stream → own.stream.period ≤ cycle → IsAtMost (Within own.worst) (offset_bound own blocking joint rest limit cycle)
offset_bound-low own blocking joint rest limit cycle one long =
    let nobody : ℕ → Bound = λ w. Within 0 in
    let alone : offset_bound own blocking [] nobody limit cycle ≡ preemptive_bound (own.stream ∷ []) own.worst blocking [] limit = offset_bound-alone own blocking nobody [] limit cycle one long (λ w. refl) in
    let low : IsAtMost (Within own.worst) (offset_bound own blocking [] nobody limit cycle) = rw alone (preemptive_bound-low (own.stream ∷ []) own.worst blocking [] limit) in
    IsAtMost_trans (Within own.worst) (offset_bound own blocking [] nobody limit cycle) (offset_bound own blocking joint rest limit cycle) low
    (offset_bound-grows own own blocking blocking [] joint nobody rest limit cycle (no_denser_itself own) (omega arith) (λ x w. others-grow [] joint nobody rest x w tt (zero_at_most (rest w))))

-- what is without a clock is a part of what others ask for elsewhere
pub work_in-le_elsewhere : (clocks : List Clock) (free : List Rival) (w : ℕ) → IsAtMost (work_in free w) (elsewhere clocks free w)
work_in-le_elsewhere clocks free w =
    subst (λ (b : Bound). IsAtMost b (elsewhere clocks free w)) (zero_plus (work_in free w)) (bound_plus-mono (Within 0) (Within (clocks_work clocks w)) (work_in free w) (work_in free w) (omega arith) (IsAtMost_refl (work_in free w)))

-- an input without a bound leaves none
pub offset_bound-unbounded : (own : Placed) (blocking : ℕ) (joint : List Placed) (clocks : List Clock) (free : List Rival) (limit cycle : ℕ) → IsStream own.stream → own.stream.period ≤ cycle → 0 < own.worst → some_unbounded free ≡ true → offset_bound own blocking joint (elsewhere clocks free) limit cycle ≡ Overload
offset_bound-unbounded own blocking joint clocks free limit cycle one long some h =
    let alone : offset_bound own blocking [] (work_in free) limit cycle ≡ Overload = offset_bound-alone own blocking (work_in free) free limit cycle one long (λ w. refl) ∙ unbounded-overload (own.stream ∷ []) own.worst blocking free limit some h in
    let more : IsAtMost (offset_bound own blocking [] (work_in free) limit cycle) (offset_bound own blocking joint (elsewhere clocks free) limit cycle) =
    offset_bound-grows own own blocking blocking [] joint (work_in free) (elsewhere clocks free) limit cycle (no_denser_itself own) (omega arith) (λ x w. others-grow [] joint (work_in free) (elsewhere clocks free) x w tt (work_in-le_elsewhere clocks free w))
    in
    IsAtMost_antisymm (offset_bound own blocking joint (elsewhere clocks free) limit cycle) Overload tt (subst (λ (b : Bound). IsAtMost b (offset_bound own blocking joint (elsewhere clocks free) limit cycle)) alone more)

-- ---- in numbers

-- where all inputs are bounded, what others ask for is a number
pub others-bounded : (joint : List Placed) (clocks : List Clock) (free : List Rival) (x w : ℕ) → some_unbounded free ≡ false → Within (others_work (map (phased_from x) joint) clocks free w) ≡ others joint (elsewhere clocks free) x w
others-bounded joint clocks free x w h = rw (work_in-bounded free w h) refl

pub demand-bounded : (worst blocking : ℕ) (joint : List Placed) (clocks : List Clock) (free : List Rival) (x q w : ℕ) → some_unbounded free ≡ false → Within (jobs_work worst blocking (map (phased_from x) joint) clocks free q w) ≡ demand worst blocking (others joint (elsewhere clocks free) x) q w
demand-bounded worst blocking joint clocks free x q w h = ap (bound_plus (Within (blocking + q * worst))) (others-bounded joint clocks free x w h)

pub elsewhere-bounded : (clocks : List Clock) (free : List Rival) (w : ℕ) → some_unbounded free ≡ false → Within (others_work [] clocks free w) ≡ elsewhere clocks free w
elsewhere-bounded clocks free w h = others-bounded [] clocks free 0 w h ∙ zero_plus (elsewhere clocks free w)

pub apart-bounded : (worst blocking : ℕ) (clocks : List Clock) (free : List Rival) (q w : ℕ) → some_unbounded free ≡ false → Within (jobs_work worst blocking [] clocks free q w) ≡ demand worst blocking (elsewhere clocks free) q w
apart-bounded worst blocking clocks free q w h = ap (bound_plus (Within (blocking + q * worst))) (elsewhere-bounded clocks free w h)
