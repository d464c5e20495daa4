-- Event models: how close together the events of several streams may come, all taken together, and how many a window may
-- have. A model is a list of streams that come side by side.
use Rattle.std.specs.Prelude.{ℕ, ◌<◌, ◌≤◌, nat_lt, List, [], ◌∷◌, length, map, All, sum_by}
use Rattle.cpa_units.specs.Search.{greatest_to}
use Rattle.cpa_events.specs.declared.stream.Stream.{Stream}
use Rattle.cpa_events.specs.declared.TheConstants.{MAX_STREAMS}
use Rattle.cpa_events.specs.Streams.{stream_delta_minus, stream_delta_plus, stream_eta_plus, stream_after_response, stream_later, IsStream, IsStreamInRange, IsStreamNoDenser}

-- streams that come side by side
abbrev pub Model : Type 0
Model = List Stream

-- the most events in a window of this length, whose end does not count: those of all streams
unfoldable pub eta_plus : Model → ℕ → ℕ
eta_plus m window = sum_by (λ s. stream_eta_plus s window) m

-- a time in which n events can come: that of the first stream alone
abbrev pub first_delta_minus : Model → ℕ → ℕ
first_delta_minus [] n = 0
first_delta_minus (s ∷ m) n = stream_delta_minus s n

-- the least time from the first to the last of n events: the greatest length of a window that has no room for n. It is the
-- least one with room for n in the window that is a tick longer (`LeastTimeHasRoom`)
unfoldable pub delta_minus : Model → ℕ → ℕ
delta_minus m n = greatest_to (λ w. nat_lt (eta_plus m w) n) (first_delta_minus m n)

-- the greatest time from the first to the last of n events, where there is one stream
abbrev pub delta_plus : Model → ℕ → ℕ
delta_plus [] n = 0
delta_plus (s ∷ m) n = stream_delta_plus s n

-- the model of a task's completions: of each stream those of its jobs
abbrev pub after_response : Model → ℕ → ℕ → Model
after_response m best bound = map (stream_after_response best bound) m

-- the model of the completions of the last of several tasks in a row, whose responses vary by `late` in all
abbrev pub later : Model → ℕ → ℕ → Model
later m late least = map (stream_later late least) m

-- what each model keeps, and the laws need
pub record IsModel (m : Model) : Type 0 where
  pub some : 0 < length m
  pub each : All IsStream m

-- a model whose numbers the analyses can compute with
pub record IsModelInRange (m : Model) : Type 0 where
  pub some : 0 < length m
  pub few : length m ≤ MAX_STREAMS
  pub each : All IsStreamInRange m

-- the jitter of each stream is at most so much
abbrev pub HasJitterUpTo : Model → ℕ → Type 0
HasJitterUpTo m most = All (λ s. s.jitter ≤ most) m

-- events of the second model may come at least as densely as those of the first: stream by stream
abbrev pub IsNoDenser : Model → Model → Type 0
IsNoDenser [] [] = Unit {0}
IsNoDenser [] (t ∷ n) = ⊥
IsNoDenser (s ∷ m) [] = ⊥
IsNoDenser (s ∷ m) (t ∷ n) = IsStreamNoDenser s t × IsNoDenser m n
