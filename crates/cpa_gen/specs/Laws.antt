-- What holds of all generated systems and generated traces.
use Rattle.std.specs.Prelude.{◌≡◌, ℕ, ◌↔◌, ◌<◌, ◌≤◌, ◌+◌, ◌*◌}
use Rattle.cpa_units.specs.declared.limits.TheConstants.{MAX_SIZE, MAX_TRACE_TIME, MAX_TRACE_JOBS}
use Rattle.cpa_units.specs.declared.limits.Size.TheVariants.{Small}
use Rattle.cpa_model.specs.declared.entries.Source.{Source}
use Rattle.cpa_model.specs.Rules.{IsSource, IsSystem}
use Rattle.cpa_model.specs.SystemLists.{SystemLists}
use Rattle.cpa_trace.specs.Trace.{Obeys}
use Rattle.cpa_sim.specs.Outcome.{CanReplay}
use Rattle.cpa_gen.specs.MadeSystems.{made_system}
use Rattle.cpa_gen.specs.MadeTraces.{begin_made, events_made, most_made, streams_in, made_trace}
use Rattle.cpa_gen.specs.declared.traces.TheConstants.{MADE_EVENTS}

-- a generated system is a system
abbrev pub MadeSystemsKeepRules : Type 0
MadeSystemsKeepRules = (number size : ℕ) → size ≤ MAX_SIZE → IsSystem (made_system number size)

-- a source has event m exactly where m is below the most events and its period's begin, with the jitter, isn't past the last time of a trace
abbrev pub EventsAreInTime : Type 0
EventsAreInTime = (most : ℕ) (r : Source) → IsSource r → (m : ℕ) → (m < events_made most r) ↔ ((m < most) × (begin_made r m + r.jitter ≤ MAX_TRACE_TIME))

-- the most events of a source are a hundred in each small system, and so many that the jobs of all streams are no more than a trace may have
abbrev pub EventsAreAHundred : Type 0
EventsAreAHundred = (s : SystemLists) → IsSystem s → s.size ≡ Small → most_made s ≡ MADE_EVENTS

abbrev pub EventsAreFew : Type 0
EventsAreFew = (s : SystemLists) → (most_made s ≤ MADE_EVENTS) × (most_made s * streams_in s ≤ MAX_TRACE_JOBS)

-- a generated trace obeys its system
abbrev pub MadeTracesObey : Type 0
MadeTracesObey = (s : SystemLists) (number k : ℕ) → IsSystem s → Obeys s (made_trace s number k)

-- and can be replayed
abbrev pub MadeTracesReplay : Type 0
MadeTracesReplay = (s : SystemLists) (number k : ℕ) → IsSystem s → CanReplay s (made_trace s number k)
