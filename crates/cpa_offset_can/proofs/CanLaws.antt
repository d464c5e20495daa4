-- The bound on a CAN bus where streams share clocks.
use Rattle.std.proofs.Common.{◌≡◌, ℕ, zero, suc, ◌+◌, ◌-◌, ◌*◌, ◌<◌, ◌≤◌, true, false, List, [], ◌∷◌, length, map, All, slice_index_or, refl, sym, ◌∙◌, ap, subst, arith}
use Rattle.std.proofs.Math.Nat.{mul-le-mul, le_trans}
use Rattle.cpa_units.specs.declared.bound.Bound.{Bound}
use Rattle.cpa_units.specs.declared.bound.Bound.TheVariants.{Within, Overload}
use Rattle.cpa_units.specs.Bounds.{IsAtMost, RespectsLimit, bound_plus, capped}
use Rattle.cpa_units.proofs.BoundLaws.{IsAtMost_refl, IsAtMost_trans, IsAtMost_antisymm, zero_at_most, bound_plus-mono, bound_minus-mono, bound_minus-limit, capped-mono, capped-limit, greatest_of-mono, greatest_of-le, greatest_of-limit, le-greatest_of}
use Rattle.cpa_events.specs.Streams.{IsStream}
use Rattle.cpa_events.specs.Events.{Model, IsNoDenser, eta_plus, delta_minus}
use Rattle.cpa_events.proofs.EventLaws.{one-is_model, eta_plus-of_one, delta_minus-of_one, eta_plus-mono, eta_plus-denser, delta_minus-denser}
use Rattle.cpa_window.specs.declared.rivals.Rival.{Rival}
use Rattle.cpa_window.specs.Rivals.{work_in, some_unbounded}
use Rattle.cpa_window.specs.Windows.{window}
use Rattle.cpa_window.proofs.WindowLaws.{window-mono, window-overload}
use Rattle.cpa_window.proofs.RivalLaws.{work_in-unbounded}
use Rattle.cpa_can.specs.Can.{greatest_in_busy_window, can_bound}
use Rattle.cpa_can.proofs.CanLaws.{can_bound-ge}
use Rattle.cpa_can.proofs.FrameLaws.{unbounded-overload}
use Rattle.cpa_phase.specs.declared.placed.Placed.{Placed}
use Rattle.cpa_phase.specs.declared.clock.Clock.{Clock}
use Rattle.cpa_phase.specs.Phases.{earliest_arrival, arrivals}
use Rattle.cpa_phase.specs.Streams.{phase_at, phased_from, IsCandidate, IsPlacedOn}
use Rattle.cpa_phase.specs.Growth.{IsPlacedNoDenser}
use Rattle.cpa_phase.proofs.UpToLaws.{up_to-less}
use Rattle.cpa_phase.proofs.PhaseLaws.{earliest_arrival-ge, earliest_arrival-plain, arrivals-le_plain, arrivals-plain, arrivals-mono}
use Rattle.cpa_phase.proofs.CandidateLaws.{first_candidate}
use Rattle.cpa_phase.proofs.WorkLaws.{earliest_arrival-fuller, arrivals-fuller, nearer_is_fuller, denser_is_fuller}
use Rattle.cpa_offset.specs.Offsets.{elsewhere, others}
use Rattle.cpa_offset.specs.Candidates.{GrowsNearer}
use Rattle.cpa_offset.specs.Jobs.{others_work}
use Rattle.cpa_offset.proofs.CandidateLaws.{candidate_is_enough}
use Rattle.cpa_offset.proofs.BoundLaws.{work_in-le_elsewhere, others-nearer, others-alone, others-grow, others-bounded, elsewhere-bounded, no_denser_itself}
use Rattle.cpa_offset_can.specs.CanOffsets.{busy_demand, start_demand, frame_response, frames_bound, can_bound_from, can_offset_bound, can_apart_bound}

-- ---- the frames of one busy window

greatest-grows : (f g : ℕ → Bound) (m n : ℕ → ℕ) (a b : Bound) → ((q : ℕ) → IsAtMost (f q) (g q)) → ((v w : ℕ) → v ≤ w → m v ≤ n w) → IsAtMost a b → IsAtMost (greatest_in_busy_window f m a) (greatest_in_busy_window g n b)
greatest-grows f g m n a Overload h k l = tt
greatest-grows f g m n Overload (Within b) h k l = absurd l
greatest-grows f g m n (Within a) (Within b) h k l = greatest_of-mono f g (m a) (n b) (k a b l) (λ q one le. h q)

-- where more is asked for, and more frames come and sooner, the bound is no less
module _ (worst worst' blocking blocking' : ℕ) (asked asked' : ℕ → Bound) (frames frames' earliest earliest' : ℕ → ℕ) (bit limit : ℕ) (h : worst ≤ worst') (b : blocking ≤ blocking') (more : (w : ℕ) → IsAtMost (asked w) (asked' w)) (come : (v w : ℕ) → v ≤ w → frames v ≤ frames' w) (sooner : (q : ℕ) → earliest' q ≤ earliest q) where
  starts-grow : (q w : ℕ) → IsAtMost (start_demand worst blocking asked bit q w) (start_demand worst' blocking' asked' bit q w)
  starts-grow q w =
      let jobs : (q - 1) * worst ≤ (q - 1) * worst' = mul-le-mul (omega arith) h in
      bound_plus-mono (Within (blocking + (q - 1) * worst)) (Within (blocking' + (q - 1) * worst')) (asked (w + bit)) (asked' (w + bit)) (omega (arith, b, jobs)) (more (w + bit))

  busy-grows : (w : ℕ) → IsAtMost (busy_demand worst blocking frames asked w) (busy_demand worst' blocking' frames' asked' w)
  busy-grows w =
      let own : frames w * worst ≤ frames' w * worst' = mul-le-mul (come w w (omega arith)) h in
      bound_plus-mono (Within (blocking + frames w * worst)) (Within (blocking' + frames' w * worst')) (asked w) (asked' w) (omega (arith, b, own)) (more w)

  pub frames_bound-grows : IsAtMost (frames_bound worst blocking asked frames earliest bit limit) (frames_bound worst' blocking' asked' frames' earliest' bit limit)
  frames_bound-grows =
      greatest-grows (frame_response worst blocking asked earliest bit limit) (frame_response worst' blocking' asked' earliest' bit limit) frames frames'
      (window (busy_demand worst blocking frames asked) 1 limit) (window (busy_demand worst' blocking' frames' asked') 1 limit)
      (λ q. bound_minus-mono _ _ (earliest q) (earliest' q)
      (capped-mono limit _ _
      (bound_plus-mono (window (start_demand worst blocking asked bit q) 0 limit) (window (start_demand worst' blocking' asked' bit q) 0 limit) (Within worst) (Within worst')
      (window-mono (start_demand worst blocking asked bit q) (start_demand worst' blocking' asked' bit q) 0 limit (starts-grow q)) h))
      (sooner q))
      come (window-mono (busy_demand worst blocking frames asked) (busy_demand worst' blocking' frames' asked') 1 limit busy-grows)

-- it goes by what is asked for, and by how frames come, alone
pub frames_bound-same : (worst blocking : ℕ) (asked asked' : ℕ → Bound) (frames frames' earliest earliest' : ℕ → ℕ) (bit limit : ℕ) → ((w : ℕ) → asked w ≡ asked' w) → ((w : ℕ) → frames w ≡ frames' w) → ((q : ℕ) → earliest q ≡ earliest' q) → frames_bound worst blocking asked frames earliest bit limit ≡ frames_bound worst blocking asked' frames' earliest' bit limit
frames_bound-same worst blocking asked asked' frames frames' earliest earliest' bit limit a f e =
    let a_same : asked ≡ asked' = λ i w. a w i in
    let f_same : frames ≡ frames' = λ i w. f w i in
    let e_same : earliest ≡ earliest' = λ i q. e q i in
    ap (λ g. frames_bound worst blocking g frames earliest bit limit) a_same
    ∙ ap (λ g. frames_bound worst blocking asked' g earliest bit limit) f_same
    ∙ ap (λ g. frames_bound worst blocking asked' frames' g bit limit) e_same

greatest-limit : (limit : ℕ) (f : ℕ → Bound) (m : ℕ → ℕ) (a : Bound) → ((q : ℕ) → RespectsLimit limit (f q)) → RespectsLimit limit (greatest_in_busy_window f m a)
greatest-limit limit f m (Within a) h = greatest_of-limit limit f (m a) h
greatest-limit limit f m Overload h = tt

pub frames_bound-limit : (worst blocking : ℕ) (asked : ℕ → Bound) (frames earliest : ℕ → ℕ) (bit limit : ℕ) → RespectsLimit limit (frames_bound worst blocking asked frames earliest bit limit)
frames_bound-limit worst blocking asked frames earliest bit limit =
    greatest-limit limit (frame_response worst blocking asked earliest bit limit) frames (window (busy_demand worst blocking frames asked) 1 limit)
    (λ q. bound_minus-limit limit (earliest q) (capped limit (bound_plus (window (start_demand worst blocking asked bit q) 0 limit) (Within worst))) (capped-limit limit (bound_plus (window (start_demand worst blocking asked bit q) 0 limit) (Within worst))))

-- ---- which moments count

pub can_bound_from-nearer : (own : Placed) (blocking : ℕ) (joint : List Placed) (rest : ℕ → Bound) (bit limit : ℕ) → GrowsNearer own (own ∷ joint) (can_bound_from own blocking joint rest bit limit)
can_bound_from-nearer own blocking joint rest bit limit x y h =
    let nearer = nearer_is_fuller own x y (h 0 (omega arith)) in
    frames_bound-grows own.worst own.worst blocking blocking (others joint rest x) (others joint rest y) (arrivals own.stream (phase_at own x)) (arrivals own.stream (phase_at own y))
    (earliest_arrival own.stream (phase_at own x)) (earliest_arrival own.stream (phase_at own y)) bit limit (omega arith) (omega arith)
    (λ w. others-nearer own joint rest x y w (λ j less. h (suc j) (omega arith)))
    (λ v w le. le_trans (arrivals-fuller (phased_from x own) (phased_from y own) v nearer) (arrivals-mono own.stream (phase_at own y) v w le))
    (λ q. earliest_arrival-fuller (phased_from x own) (phased_from y own) q nearer)

pub can_start_is_enough : (own : Placed) (blocking : ℕ) (joint : List Placed) (rest : ℕ → Bound) (bit limit cycle x : ℕ) → 0 < cycle → All (IsPlacedOn cycle) (own ∷ joint) → (k y : ℕ) × (k < length (own ∷ joint)) × (0 < y) × (y ≤ cycle) × IsCandidate (slice_index_or (own ∷ joint) k own) y × IsAtMost (can_bound_from own blocking joint rest bit limit x) (can_bound_from own blocking joint rest bit limit y)
can_start_is_enough own blocking joint rest bit limit cycle x some on =
    candidate_is_enough (can_bound_from own blocking joint rest bit limit) own joint cycle x (can_bound_from-nearer own blocking joint rest bit limit) some on

-- ---- it grows

pub can_offset_bound-grows : (own own' : Placed) (blocking blocking' : ℕ) (joint joint' : List Placed) (rest rest' : ℕ → Bound) (bit limit cycle : ℕ) → IsPlacedNoDenser own own' → blocking ≤ blocking' → ((x w : ℕ) → IsAtMost (others joint rest x w) (others joint' rest' x w)) → IsAtMost (can_offset_bound own blocking joint rest bit limit cycle) (can_offset_bound own' blocking' joint' rest' bit limit cycle)
unfolding can_offset_bound
can_offset_bound-grows own own' blocking blocking' joint joint' rest rest' bit limit cycle o b more =
    greatest_of-mono (can_bound_from own blocking joint rest bit limit) (can_bound_from own' blocking' joint' rest' bit limit) cycle cycle (omega arith)
    (λ x some le.
    let fuller = denser_is_fuller own own' x o in
    frames_bound-grows own.worst own'.worst blocking blocking' (others joint rest x) (others joint' rest' x) (arrivals own.stream (phase_at own x)) (arrivals own'.stream (phase_at own' x))
    (earliest_arrival own.stream (phase_at own x)) (earliest_arrival own'.stream (phase_at own' x)) bit limit o.worst b
    (λ w. more x w)
    (λ v w longer. le_trans (arrivals-fuller (phased_from x own) (phased_from x own') v fuller) (arrivals-mono own'.stream (phase_at own' x) v w longer))
    (λ q. earliest_arrival-fuller (phased_from x own) (phased_from x own') q fuller))

pub can_offset_bound-limit : (own : Placed) (blocking : ℕ) (joint : List Placed) (rest : ℕ → Bound) (bit limit cycle : ℕ) → RespectsLimit limit (can_offset_bound own blocking joint rest bit limit cycle)
unfolding can_offset_bound
can_offset_bound-limit own blocking joint rest bit limit cycle =
    greatest_of-limit limit (can_bound_from own blocking joint rest bit limit) cycle
    (λ x. frames_bound-limit own.worst blocking (others joint rest x) (arrivals own.stream (phase_at own x)) (earliest_arrival own.stream (phase_at own x)) bit limit)

pub le-can_offset_bound : (own : Placed) (blocking : ℕ) (joint : List Placed) (rest : ℕ → Bound) (bit limit cycle x : ℕ) → 0 < x → x ≤ cycle → IsAtMost (can_bound_from own blocking joint rest bit limit x) (can_offset_bound own blocking joint rest bit limit cycle)
unfolding can_offset_bound
le-can_offset_bound own blocking joint rest bit limit cycle x some le = le-greatest_of (can_bound_from own blocking joint rest bit limit) cycle x some le

-- ---- never above the bound without offsets

pub can_offset_bound-le_plain : (own : Placed) (blocking : ℕ) (joint : List Placed) (rest : ℕ → Bound) (rivals : List Rival) (bit limit cycle : ℕ) → IsStream own.stream → ((x w : ℕ) → IsAtMost (others joint rest x w) (work_in rivals w)) → IsAtMost (can_offset_bound own blocking joint rest bit limit cycle) (can_bound (own.stream ∷ []) own.worst blocking rivals bit limit)
unfolding can_offset_bound
can_offset_bound-le_plain own blocking joint rest rivals bit limit cycle regular covers =
    greatest_of-le (can_bound_from own blocking joint rest bit limit) cycle (can_bound (own.stream ∷ []) own.worst blocking rivals bit limit)
    (λ x some le.
    frames_bound-grows own.worst own.worst blocking blocking (others joint rest x) (work_in rivals) (arrivals own.stream (phase_at own x)) (eta_plus (own.stream ∷ []))
    (earliest_arrival own.stream (phase_at own x)) (delta_minus (own.stream ∷ [])) bit limit (omega arith) (omega arith)
    (λ w. covers x w)
    (λ v w longer. le_trans (arrivals-mono own.stream (phase_at own x) v w longer) (omega (arith, arrivals-le_plain own.stream (phase_at own x) w, eta_plus-of_one own.stream w)))
    (λ q. omega (arith, earliest_arrival-ge own.stream (phase_at own x) q, delta_minus-of_one own.stream q regular)))

-- ---- and where the frame has no higher one on its clock, equal to it

alone_from_candidate : (own : Placed) (blocking : ℕ) (rest : ℕ → Bound) (rivals : List Rival) (bit limit x : ℕ) → IsStream own.stream → IsCandidate own x → ((w : ℕ) → rest w ≡ work_in rivals w) → can_bound_from own blocking [] rest bit limit x ≡ can_bound (own.stream ∷ []) own.worst blocking rivals bit limit
alone_from_candidate own blocking rest rivals bit limit x regular start same =
    frames_bound-same own.worst blocking (others [] rest x) (work_in rivals) (arrivals own.stream (phase_at own x)) (eta_plus (own.stream ∷ [])) (earliest_arrival own.stream (phase_at own x)) (delta_minus (own.stream ∷ [])) bit limit
    (λ w. others-alone rest x w ∙ same w)
    (λ w. rw start (arrivals-plain own.stream w) ∙ sym (eta_plus-of_one own.stream w))
    (λ q. rw start (earliest_arrival-plain own.stream q) ∙ sym (delta_minus-of_one own.stream q regular))

pub can_offset_bound-alone : (own : Placed) (blocking : ℕ) (rest : ℕ → Bound) (rivals : List Rival) (bit limit cycle : ℕ) → IsStream own.stream → own.stream.period ≤ cycle → ((w : ℕ) → rest w ≡ work_in rivals w) → can_offset_bound own blocking [] rest bit limit cycle ≡ can_bound (own.stream ∷ []) own.worst blocking rivals bit limit
can_offset_bound-alone own blocking rest rivals bit limit cycle regular long same =
    let plain : Bound = can_bound (own.stream ∷ []) own.worst blocking rivals bit limit in
    let near = up_to-less own.stream.period regular (own.offset + own.stream.jitter) 1 in
    let here = alone_from_candidate own blocking rest rivals bit limit (1 + phase_at own 1) regular (first_candidate own regular) same in
    let above : IsAtMost plain (can_offset_bound own blocking [] rest bit limit cycle) =
    subst (λ (b : Bound). IsAtMost b (can_offset_bound own blocking [] rest bit limit cycle)) here (le-can_offset_bound own blocking [] rest bit limit cycle (1 + phase_at own 1) (omega arith) (omega (arith, near)))
    in
    let below : IsAtMost (can_offset_bound own blocking [] rest bit limit cycle) plain =
    can_offset_bound-le_plain own blocking [] rest rivals bit limit cycle regular (λ x w. subst (λ (b : Bound). IsAtMost b (work_in rivals w)) (sym (others-alone rest x w ∙ same w)) (IsAtMost_refl (work_in rivals w)))
    in
    IsAtMost_antisymm (can_offset_bound own blocking [] rest bit limit cycle) plain below above

-- the length of the frame is a bound from below
pub can_offset_bound-low : (own : Placed) (blocking : ℕ) (joint : List Placed) (rest : ℕ → Bound) (bit limit cycle : ℕ) → IsStream own.stream → own.stream.period ≤ cycle → IsAtMost (Within own.worst) (can_offset_bound own blocking joint rest bit limit cycle)
can_offset_bound-low own blocking joint rest bit limit cycle one long =
    let nobody : ℕ → Bound = λ w. Within 0 in
    let alone : can_offset_bound own blocking [] nobody bit limit cycle ≡ can_bound (own.stream ∷ []) own.worst blocking [] bit limit = can_offset_bound-alone own blocking nobody [] bit limit cycle one long (λ w. refl) in
    let low : IsAtMost (Within own.worst) (can_offset_bound own blocking [] nobody bit limit cycle) = rw alone (can_bound-ge (own.stream ∷ []) own.worst blocking [] bit limit (one-is_model own.stream one)) in
    IsAtMost_trans (Within own.worst) (can_offset_bound own blocking [] nobody bit limit cycle) (can_offset_bound own blocking joint rest bit limit cycle) low
    (can_offset_bound-grows own own blocking blocking [] joint nobody rest bit limit cycle (no_denser_itself own) (omega arith) (λ x w. others-grow [] joint nobody rest x w tt (zero_at_most (rest w))))

-- an input without a bound leaves none
pub can_offset_bound-unbounded : (own : Placed) (blocking : ℕ) (joint : List Placed) (clocks : List Clock) (free : List Rival) (bit limit cycle : ℕ) → IsStream own.stream → own.stream.period ≤ cycle → some_unbounded free ≡ true → can_offset_bound own blocking joint (elsewhere clocks free) bit limit cycle ≡ Overload
can_offset_bound-unbounded own blocking joint clocks free bit limit cycle one long h =
    let alone : can_offset_bound own blocking [] (work_in free) bit limit cycle ≡ Overload = can_offset_bound-alone own blocking (work_in free) free bit limit cycle one long (λ w. refl) ∙ unbounded-overload (own.stream ∷ []) own.worst blocking free bit limit h in
    let more : IsAtMost (can_offset_bound own blocking [] (work_in free) bit limit cycle) (can_offset_bound own blocking joint (elsewhere clocks free) bit limit cycle) =
    can_offset_bound-grows own own blocking blocking [] joint (work_in free) (elsewhere clocks free) bit limit cycle (no_denser_itself own) (omega arith) (λ x w. others-grow [] joint (work_in free) (elsewhere clocks free) x w tt (work_in-le_elsewhere clocks free w))
    in
    IsAtMost_antisymm (can_offset_bound own blocking joint (elsewhere clocks free) bit limit cycle) Overload tt (subst (λ (b : Bound). IsAtMost b (can_offset_bound own blocking joint (elsewhere clocks free) bit limit cycle)) alone more)

-- ---- frames that aren't on one clock

pub can_apart_bound-grows : (own own' : Model) (worst worst' blocking blocking' : ℕ) (rest rest' : ℕ → Bound) (bit limit : ℕ) → IsNoDenser own own' → worst ≤ worst' → blocking ≤ blocking' → ((w : ℕ) → IsAtMost (rest w) (rest' w)) → IsAtMost (can_apart_bound own worst blocking rest bit limit) (can_apart_bound own' worst' blocking' rest' bit limit)
can_apart_bound-grows own own' worst worst' blocking blocking' rest rest' bit limit o h b r =
    frames_bound-grows worst worst' blocking blocking' rest rest' (eta_plus own) (eta_plus own') (delta_minus own) (delta_minus own') bit limit h b r
    (λ v w le. le_trans (eta_plus-mono own v w le) (eta_plus-denser own own' w o))
    (λ q. delta_minus-denser own own' q o)

pub can_apart_bound-plain : (own : Model) (worst blocking : ℕ) (rest : ℕ → Bound) (rivals : List Rival) (bit limit : ℕ) → ((w : ℕ) → rest w ≡ work_in rivals w) → can_apart_bound own worst blocking rest bit limit ≡ can_bound own worst blocking rivals bit limit
can_apart_bound-plain own worst blocking rest rivals bit limit same =
    frames_bound-same worst blocking rest (work_in rivals) (eta_plus own) (eta_plus own) (delta_minus own) (delta_minus own) bit limit same (λ w. refl) (λ q. refl)

no_room : (worst blocking : ℕ) (frames : ℕ → ℕ) (clocks : List Clock) (free : List Rival) (v : ℕ) → 1 ≤ v → some_unbounded free ≡ true → ¬ IsAtMost (busy_demand worst blocking frames (elsewhere clocks free) v) (Within v)
no_room worst blocking frames clocks free zero one h k = absurd (omega arith)
no_room worst blocking frames clocks free (suc v) one h k = rw (work_in-unbounded free v h) at k

pub can_apart_bound-unbounded : (own : Model) (worst blocking : ℕ) (clocks : List Clock) (free : List Rival) (bit limit : ℕ) → some_unbounded free ≡ true → can_apart_bound own worst blocking (elsewhere clocks free) bit limit ≡ Overload
can_apart_bound-unbounded own worst blocking clocks free bit limit h =
    ap (greatest_in_busy_window (frame_response worst blocking (elsewhere clocks free) (delta_minus own) bit limit) (eta_plus own))
    (window-overload (busy_demand worst blocking (eta_plus own) (elsewhere clocks free)) 1 limit (λ v first le. no_room worst blocking (eta_plus own) clocks free v first h))

-- ---- in numbers

pub can_bound_from-bounded : (own : Placed) (blocking : ℕ) (joint : List Placed) (clocks : List Clock) (free : List Rival) (bit limit x : ℕ) → some_unbounded free ≡ false → frames_bound own.worst blocking (λ w. Within (others_work (map (phased_from x) joint) clocks free w)) (arrivals own.stream (phase_at own x)) (earliest_arrival own.stream (phase_at own x)) bit limit ≡ can_bound_from own blocking joint (elsewhere clocks free) bit limit x
can_bound_from-bounded own blocking joint clocks free bit limit x h =
    frames_bound-same own.worst blocking (λ w. Within (others_work (map (phased_from x) joint) clocks free w)) (others joint (elsewhere clocks free) x) (arrivals own.stream (phase_at own x)) (arrivals own.stream (phase_at own x)) (earliest_arrival own.stream (phase_at own x)) (earliest_arrival own.stream (phase_at own x)) bit limit
    (λ w. others-bounded joint clocks free x w h) (λ w. refl) (λ q. refl)

pub can_apart_bound-bounded : (own : Model) (worst blocking : ℕ) (clocks : List Clock) (free : List Rival) (bit limit : ℕ) → some_unbounded free ≡ false → frames_bound worst blocking (λ w. Within (others_work [] clocks free w)) (eta_plus own) (delta_minus own) bit limit ≡ can_apart_bound own worst blocking (elsewhere clocks free) bit limit
can_apart_bound-bounded own worst blocking clocks free bit limit h =
    frames_bound-same worst blocking (λ w. Within (others_work [] clocks free w)) (elsewhere clocks free) (eta_plus own) (eta_plus own) (delta_minus own) (delta_minus own) bit limit
    (λ w. elsewhere-bounded clocks free w h) (λ w. refl) (λ q. refl)
