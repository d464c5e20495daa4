-- Streams of events: how close together those of one stream may come, and how many a window may have. Streams and their
-- curves are the standard event models of Richter's thesis ("Compositional Scheduling Analysis Using Standard Event
-- Models", 2005), in pyCPA's form.
use Rattle.std.specs.Prelude.{ℕ, zero, suc, ◌+◌, ◌-◌, ◌*◌, ◌<◌, ◌≤◌, max, min, nat_lt}
use Rattle.std.specs.Int.{div_ceil}
use Rattle.cpa_units.specs.declared.limits.TheConstants.{MAX_PERIOD}
use Rattle.cpa_units.specs.Search.{greatest_to}
use Rattle.cpa_events.specs.declared.stream.Stream.{Stream}
use Rattle.cpa_events.specs.declared.stream.TheConstants.{MAX_MODEL_JITTER}

-- the least time from the first to the last of n events (Richter and pyCPA)
unfoldable pub stream_delta_minus : Stream → ℕ → ℕ
stream_delta_minus m zero = 0
stream_delta_minus m (suc gaps) = max (gaps * m.distance) (gaps * m.period - m.jitter)

-- the greatest time from the first to the last of n events (Richter and pyCPA)
unfoldable pub stream_delta_plus : Stream → ℕ → ℕ
stream_delta_plus m zero = 0
stream_delta_plus m (suc zero) = 0
stream_delta_plus m (suc gaps) = gaps * m.period + m.jitter

-- the most events in a window of this length, whose end does not count (Richter and pyCPA): the greatest n with
-- `stream_delta_minus m n` below it
unfoldable pub stream_eta_plus : Stream → ℕ → ℕ
stream_eta_plus m window = greatest_to (λ n. nat_lt (stream_delta_minus m n) window) (window + m.jitter)

-- the stream of a task's completions, of which none comes sooner than its least execution and none later than its bound:
-- the jitter grows by the difference (Richter); that the distance shrinks by it, and not below the least execution, is
-- this project's own
abbrev pub stream_after_response : ℕ → ℕ → Stream → Stream
stream_after_response best bound m =
    record {
      period = m.period;
      jitter = m.jitter + (bound - best);
      distance = max (m.distance - (bound - best)) best;
    }

-- the stream of the completions of the last of several tasks in a row, whose responses vary by `late` in all: the jitter
-- grows by that, and the distance shrinks by it, but not below `least`
abbrev pub stream_later : ℕ → ℕ → Stream → Stream
stream_later late least m =
    record {
      period = m.period;
      jitter = m.jitter + late;
      distance = max (m.distance - late) least;
    }

-- what each stream keeps, and the laws need
abbrev pub IsStream : Stream → Type 0
IsStream m = 0 < m.period

-- a stream whose numbers the analyses can compute with
pub record IsStreamInRange (m : Stream) : Type 0 where
  pub regular : IsStream m
  pub period : m.period ≤ MAX_PERIOD
  pub jitter : m.jitter ≤ MAX_MODEL_JITTER
  pub distance : m.distance ≤ MAX_PERIOD

-- events of the second stream may come at least as densely as those of the first
pub record IsStreamNoDenser (m n : Stream) : Type 0 where
  pub period : n.period ≤ m.period
  pub jitter : m.jitter ≤ n.jitter
  pub distance : n.distance ≤ m.distance

-- the most events by two quotients rounded up, as pyCPA has it
abbrev pub eta_by_quotients : Stream → ℕ → ℕ
eta_by_quotients m zero = 0
eta_by_quotients m (suc w) =
    elim (m.distance) [
      | zero ↦ div_ceil (suc w + m.jitter) m.period
      | suc d ↦ min (div_ceil (suc w + m.jitter) m.period) (div_ceil (suc w) (suc d))
    ]
