-- The main laws of event models, as the public functions of the crate state them.
use Rattle.std.specs.Prelude.{ℕ, ◌≡◌, ◌+◌, ◌<◌, ◌≤◌, ◌↔◌, [], ◌∷◌}
use Rattle.cpa_events.specs.declared.stream.Stream.{Stream}
use Rattle.cpa_events.specs.Streams.{stream_delta_minus, stream_eta_plus, eta_by_quotients, IsStream}
use Rattle.cpa_events.specs.Events.{Model, delta_minus, eta_plus, after_response, IsModel, IsNoDenser}

-- n events fit into a window exactly where it is longer than the least time that they take
abbrev pub EventsFit : Type 0
EventsFit = (m : Model) (n window : ℕ) → IsModel m → 0 < n → (n ≤ eta_plus m window) ↔ (delta_minus m n < window)

-- the least time of n events is the least length with room for n in the window that is a tick longer
abbrev pub LeastTimeHasRoom : Type 0
LeastTimeHasRoom = (m : Model) (n : ℕ) → IsModel m → (n ≤ eta_plus m (delta_minus m n + 1)) × ((w : ℕ) → n ≤ eta_plus m (w + 1) → delta_minus m n ≤ w)

-- the curves of one stream are the stream's
abbrev pub OneStreamIsAModel : Type 0
OneStreamIsAModel =
    (s : Stream) → IsStream s → ((window : ℕ) → eta_plus (s ∷ []) window ≡ stream_eta_plus s window) × ((n : ℕ) → delta_minus (s ∷ []) n ≡ stream_delta_minus s n)

-- the two quotients give the most events of a stream
abbrev pub EventsByQuotients : Type 0
EventsByQuotients = (s : Stream) (window : ℕ) → IsStream s → stream_eta_plus s window ≡ eta_by_quotients s window

-- a longer window has no fewer events
abbrev pub LongerWindowsHaveMore : Type 0
LongerWindowsHaveMore = (m : Model) (v w : ℕ) → v ≤ w → eta_plus m v ≤ eta_plus m w

-- a denser model has no fewer events in a window, and they come no later
abbrev pub DenserModelsHaveMore : Type 0
DenserModelsHaveMore =
    (m m' : Model) → IsNoDenser m m' → ((window : ℕ) → eta_plus m window ≤ eta_plus m' window) × ((n : ℕ) → delta_minus m' n ≤ delta_minus m n)

-- what a task sends on is denser where what it is sent is, and where it may answer sooner or later than before
abbrev pub LaterResponsesSendDenser : Type 0
LaterResponsesSendDenser =
    (m m' : Model) (best best' bound bound' : ℕ) → IsNoDenser m m' → best' ≤ best → bound ≤ bound' →
    IsNoDenser (after_response m best bound) (after_response m' best' bound')
