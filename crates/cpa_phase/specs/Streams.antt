-- The streams of one clock, and the work that they bring.
use Rattle.std.specs.Prelude.{ℕ, ◌≡◌, ◌+◌, ◌*◌, ◌%◌, ◌<◌, ◌≤◌, List, map, length, All, sum_by}
use Rattle.cpa_units.specs.declared.limits.TheConstants.{MAX_EXECUTION}
use Rattle.cpa_events.specs.Streams.{stream_after_response, IsStreamInRange}
use Rattle.cpa_phase.specs.declared.placed.TheConstants.{MAX_OFFSET, MAX_PLACED}
use Rattle.cpa_phase.specs.declared.placed.Placed.{Placed}
use Rattle.cpa_phase.specs.declared.phased.Phased.{Phased}
use Rattle.cpa_phase.specs.Phases.{phase_of, arrivals}

-- the phase of a stream at the moment x
abbrev pub phase_at : Placed → ℕ → ℕ
phase_at p x = phase_of p.stream p.offset x

-- a stream as a window sees it that starts at x
abbrev pub phased_from : ℕ → Placed → Phased
phased_from x p = record { stream = p.stream; phase = phase_at p x; worst = p.worst }

-- the work of streams in a window: of each its events, and the execution of the task that it starts for each
abbrev pub phased_work : List Phased → ℕ → ℕ
phased_work ss window = sum_by (λ s. arrivals s.stream s.phase window * s.worst) ss

-- the work of the streams of one clock in a window that starts at x (Palencia and González Harbour)
abbrev pub work_from : List Placed → ℕ → ℕ → ℕ
work_from ps x window = phased_work (map (phased_from x) ps) window

-- a candidate of the critical instant: an event of the stream comes as late as it can at x (Tindell)
abbrev pub IsCandidate : Placed → ℕ → Type 0
IsCandidate p x = phase_at p x ≡ 0

-- the stream of a task's completions, where its jobs come by this one, each is done after `best` to `bound` ticks, and the task
-- that they start takes so long
abbrev pub sent_on : ℕ → ℕ → ℕ → Placed → Placed
sent_on best bound worst p = record { stream = stream_after_response best bound p.stream; offset = p.offset + best; worst = worst }

-- streams whose numbers the analysis can compute with
pub record IsPlaced (p : Placed) : Type 0 where
  pub stream : IsStreamInRange p.stream
  pub offset : p.offset ≤ MAX_OFFSET
  pub worst : p.worst ≤ MAX_EXECUTION

pub record IsPhased (s : Phased) : Type 0 where
  pub stream : IsStreamInRange s.stream
  pub phase : s.phase < s.stream.period
  pub worst : s.worst ≤ MAX_EXECUTION

-- streams of one clock, of tasks of one resource
pub record ArePlaced (ps : List Placed) : Type 0 where
  pub few : length ps ≤ MAX_PLACED
  pub each : All IsPlaced ps

-- the stream comes the same way in each cycle of its clock
pub record IsPlacedOn (cycle : ℕ) (p : Placed) : Type 0 where
  pub placed : IsPlaced p
  pub whole : cycle % p.stream.period ≡ 0

-- streams from the start of a window on, of tasks of one resource
pub record ArePhased (ss : List Phased) : Type 0 where
  pub few : length ss ≤ MAX_PLACED
  pub each : All IsPhased ss
