-- The laws of streams on clocks, as the public functions of the crate state them.
use Rattle.std.specs.Prelude.{ℕ, ◌≡◌, ◌+◌, ◌-◌, ◌*◌, ◌%◌, ◌<◌, ◌≤◌, ◌↔◌, max, List, ◌∷◌, All, length, slice_index_or}
use Rattle.cpa_events.specs.declared.stream.Stream.{Stream}
use Rattle.cpa_events.specs.Streams.{stream_delta_minus, stream_eta_plus, IsStream}
use Rattle.cpa_phase.specs.declared.placed.Placed.{Placed}
use Rattle.cpa_phase.specs.declared.clock.Clock.{Clock}
use Rattle.cpa_phase.specs.Phases.{phase_of, earliest_arrival, arrivals}
use Rattle.cpa_phase.specs.Streams.{phase_at, work_from, sent_on, IsCandidate, IsPlacedOn}
use Rattle.cpa_phase.specs.Clocks.{clocks_work}
use Rattle.cpa_phase.specs.Growth.{IsPlacedNoDenser, ArePlacedNoDenser, AreClocksNoDenser, plain_work, plain_clocks_work, IsSingle}

-- n events fit into a window exactly where it is longer than the earliest arrival of the last of them
abbrev pub ArrivalsFit : Type 0
ArrivalsFit = (m : Stream) (phase n window : ℕ) → IsStream m → 0 < n → (n ≤ arrivals m phase window) ↔ (earliest_arrival m phase n < window)

-- at phase 0 they are the curves of the stream, and no phase makes a window denser
abbrev pub PhasesThin : Type 0
PhasesThin =
    (m : Stream) → ((n : ℕ) → earliest_arrival m 0 n ≡ stream_delta_minus m n) × ((w : ℕ) → arrivals m 0 w ≡ stream_eta_plus m w)
    × ((phase n : ℕ) → stream_delta_minus m n ≤ earliest_arrival m phase n) × ((phase w : ℕ) → arrivals m phase w ≤ stream_eta_plus m w)

-- From a moment x on, the latest moments are that at the phase after it, and whole periods later. Each that is x or later is one
-- of them; and the one at the phase is some event's, if x is past the first event's.
abbrev pub PhaseIsFirst : Type 0
PhaseIsFirst =
    (p : Placed) (x : ℕ) → IsStream p.stream →
    ((m : ℕ) → x ≤ p.offset + p.stream.jitter + m * p.stream.period →
    (k : ℕ) × (p.offset + p.stream.jitter + m * p.stream.period ≡ x + phase_at p x + k * p.stream.period)) ×
    (p.offset + p.stream.jitter ≤ x → (m : ℕ) × (p.offset + p.stream.jitter + m * p.stream.period ≡ x + phase_at p x))

-- The same of a moment s and a clock that started at `start`: s is at x of the clock where it is as far from its start as x, up to
-- whole cycles, which are whole periods of the stream. No event that may still come at s has its latest moment before the
-- phase is over.
abbrev pub PhaseIsLeast : Type 0
PhaseIsLeast =
    (m : Stream) (offset x start s u v n cycle : ℕ) → IsStream m → cycle % m.period ≡ 0 → s + u * cycle ≡ start + x + v * cycle
    → s ≤ start + offset + n * m.period + m.jitter → s + phase_of m offset x ≤ start + offset + n * m.period + m.jitter

-- where event m can still come at x or later, the n-th from it on comes no sooner after x than is said; and if it can come in a
-- window from x, so many events are counted there at least
abbrev pub ArrivalsComeLater : Type 0
ArrivalsComeLater =
    (p : Placed) (x m gaps : ℕ) → IsStream p.stream → x ≤ p.offset + p.stream.jitter + m * p.stream.period →
    (earliest_arrival p.stream (phase_at p x) (gaps + 1) ≤ max (gaps * p.stream.distance) (p.offset + (m + gaps) * p.stream.period - x)) ×
    ((window : ℕ) → gaps * p.stream.distance < window → p.offset + (m + gaps) * p.stream.period < x + window → gaps + 1 ≤ arrivals p.stream (phase_at p x) window)

-- for each moment there is a candidate of some stream in the first cycle from which no stream's phase is longer
abbrev pub CandidatesAreEnough : Type 0
CandidatesAreEnough =
    (d p : Placed) (ps : List Placed) (cycle x : ℕ) → 0 < cycle → All (IsPlacedOn cycle) (p ∷ ps) →
    (k y : ℕ) × (k < length (p ∷ ps)) × (0 < y) × (y ≤ cycle) × IsCandidate (slice_index_or (p ∷ ps) k d) y ×
    ((j : ℕ) → j < length (p ∷ ps) → phase_at (slice_index_or (p ∷ ps) j d) y ≤ phase_at (slice_index_or (p ∷ ps) j d) x)

-- where the interval of each event grows at both ends, no event comes later from a moment on, no window from there has fewer, and
-- no clock brings less
abbrev pub WiderIntervalsHaveMore : Type 0
WiderIntervalsHaveMore =
    ((p q : Placed) (x : ℕ) → IsPlacedNoDenser p q →
    ((n : ℕ) → earliest_arrival q.stream (phase_at q x) n ≤ earliest_arrival p.stream (phase_at p x) n) ×
    ((w : ℕ) → arrivals p.stream (phase_at p x) w ≤ arrivals q.stream (phase_at q x) w)) ×
    ((ps qs : List Placed) (x w : ℕ) → ArePlacedNoDenser ps qs → work_from ps x w ≤ work_from qs x w) ×
    ((cs ds : List Clock) (w : ℕ) → AreClocksNoDenser cs ds → clocks_work cs w ≤ clocks_work ds w)

-- clocks bring no more than what is known of their streams without offsets, and as much where each has one stream
abbrev pub OffsetsOnlyHelp : Type 0
OffsetsOnlyHelp =
    ((ps : List Placed) (x w : ℕ) → work_from ps x w ≤ plain_work ps w) ×
    ((cs : List Clock) (w : ℕ) → clocks_work cs w ≤ plain_clocks_work cs w) ×
    ((cs : List Clock) (w : ℕ) → All IsSingle cs → clocks_work cs w ≡ plain_clocks_work cs w)

-- a job that came in the interval of event m, and took from the least to the greatest response, is done in the interval of event m
-- of what is sent on
abbrev pub CompletionsKeepIntervals : Type 0
CompletionsKeepIntervals =
    (p : Placed) (best bound worst m arrival response : ℕ) → p.offset + m * p.stream.period ≤ arrival → arrival ≤ p.offset + m * p.stream.period + p.stream.jitter →
    best ≤ response → response ≤ bound → let sent = sent_on best bound worst p in
    (sent.offset + m * sent.stream.period ≤ arrival + response) × (arrival + response ≤ sent.offset + m * sent.stream.period + sent.stream.jitter)

-- what a task sends on comes in wider intervals where what it is sent does, and where it may answer sooner or later; with the same
-- least execution also where the bound is below that
abbrev pub CompletionsGrow : Type 0
CompletionsGrow =
    (p q : Placed) (best best' bound bound' worst : ℕ) → IsPlacedNoDenser p q → best' ≤ best → bound ≤ bound' →
    (best ≤ bound → IsPlacedNoDenser (sent_on best bound worst p) (sent_on best' bound' worst q)) ×
    IsPlacedNoDenser (sent_on best bound worst p) (sent_on best bound' worst q)
