-- Where the streams of inputs are on clocks.
use Rattle.std.specs.Prelude.{ℕ, ◌+◌, Option, Some, None, [], ◌∷◌}
use Rattle.cpa_events.specs.declared.stream.Stream.{Stream}
use Rattle.cpa_events.specs.Events.{Model}
use Rattle.cpa_phase.specs.declared.placed.Placed.{Placed}
use Rattle.cpa_clock.specs.declared.anchor.Anchor.{Anchor}
use Rattle.cpa_phase.specs.Phases.{phase_of, arrivals}

-- of each stream of an input, by its place, where it is on a clock, if it is on one
abbrev pub Anchors : Type 0
Anchors = ℕ → Option Anchor

-- a stream on a clock, and how long the task that it starts takes
abbrev pub placed_at : Stream → Anchor → ℕ → Placed
placed_at m a worst = record { stream = m; offset = a.offset; worst = worst }

-- a moment by where it is on each clock
abbrev pub Moment : Type 0
Moment = ℕ → ℕ

-- the phase of a stream at a moment; none where it is on no clock
abbrev pub phase_on : Moment → Option Anchor → Stream → ℕ
phase_on moment None m = 0
phase_on moment (Some a) m = phase_of m a.offset (moment a.clock)

-- the most events of an input, whose streams' places go on from `first`, in a window that starts at a moment
abbrev pub arrivals_from : Moment → Anchors → ℕ → Model → ℕ → ℕ
arrivals_from moment anchors first [] w = 0
arrivals_from moment anchors first (m ∷ ms) w = arrivals m (phase_on moment (anchors first) m) w + arrivals_from moment anchors (first + 1) ms w
