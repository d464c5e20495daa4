-- How the events of sources come.
use Rattle.std.specs.Prelude.{ℕ, [], ◌∷◌}
use Rattle.cpa_events.specs.declared.stream.Stream.{Stream}
use Rattle.cpa_events.specs.Events.{Model}
use Rattle.cpa_model.specs.declared.entries.Source.{Source}
use Rattle.cpa_model.specs.SystemLists.{SystemLists, source_at}

-- the stream of a source's events (Richter)
abbrev pub stream_of : Source → Stream
stream_of r = record { period = r.period; jitter = r.jitter; distance = r.distance }

-- the event model of a source: its one stream
abbrev pub model_of : Source → Model
model_of r = stream_of r ∷ []

-- the stream and the event model of the source at a place
abbrev pub source_stream : SystemLists → ℕ → Stream
source_stream s k = stream_of (source_at s k)

abbrev pub source_model : SystemLists → ℕ → Model
source_model s k = model_of (source_at s k)
