-- One stream on a clock, as a window sees it that starts at some moment of the clock. Event number m comes from
-- offset + m * period after the clock's start to that and the jitter: static offsets of Tindell (1994), and of Palencia and
-- González Harbour (1998), whose phases these are, with the jitter in them.
use Rattle.std.specs.Prelude.{ℕ, zero, suc, ◌+◌, ◌-◌, ◌*◌, ◌%◌, max, nat_lt}
use Rattle.std.specs.Int.{div_ceil}
use Rattle.cpa_units.specs.Search.{greatest_to}
use Rattle.cpa_events.specs.declared.stream.Stream.{Stream}

-- the phase at the moment x: how long after it the next moment is at which an event comes as late as it can
abbrev pub phase_of : Stream → ℕ → ℕ → ℕ
phase_of m offset x = (offset + m.jitter + (m.period - x % m.period)) % m.period

-- how long after the start of a window n events can have come at the earliest; at phase 0 it is `stream_delta_minus`
unfoldable pub earliest_arrival : Stream → ℕ → ℕ → ℕ
earliest_arrival m phase zero = 0
earliest_arrival m phase (suc gaps) = max (gaps * m.distance) (phase + gaps * m.period - m.jitter)

-- the most events in a window of this length, whose end does not count: the greatest n with `earliest_arrival m phase n` below
-- it; at phase 0 it is `stream_eta_plus`
unfoldable pub arrivals : Stream → ℕ → ℕ → ℕ
arrivals m phase window = greatest_to (λ n. nat_lt (earliest_arrival m phase n) window) (window + m.jitter)

-- the same by a quotient rounded up, where nothing is known of the distance
abbrev pub by_period : Stream → ℕ → ℕ → ℕ
by_period m phase window = div_ceil (window + m.jitter - phase) m.period
