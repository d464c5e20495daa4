-- On a queue a bound is at least the task's greatest execution, wherever its input has a stream, of whatever period.
use Rattle.std.proofs.Common.{ℕ, ◌+◌, ◌<◌, ◌≤◌, length, List, [], ◌∷◌, All, map, Option, Some, None, refl, arith}
use Rattle.std.proofs.lemmas.List.{length-map}
use Rattle.std.proofs.lemmas.List.Elements.{All-nil, All-cons}
use Rattle.cpa_units.specs.declared.bound.Bound.TheVariants.{Within}
use Rattle.cpa_units.specs.Bounds.{IsAtMost}
use Rattle.cpa_units.proofs.BoundLaws.{IsAtMost_refl, IsAtMost_trans}
use Rattle.cpa_events.specs.declared.stream.Stream.{Stream}
use Rattle.cpa_events.specs.Streams.{IsStream}
use Rattle.cpa_events.specs.Events.{Model, IsModel, IsNoDenser}
use Rattle.cpa_events.proofs.EventLaws.{IsNoDenser_refl}
use Rattle.cpa_window.specs.declared.rivals.Rival.{Rival}
use Rattle.cpa_window.specs.Rivals.{IsInputNoDenser, AreNoHeavier}
use Rattle.cpa_fifo.specs.Fifo.{fifo_bound}
use Rattle.cpa_fifo.proofs.FifoBoundLaws.{fifo_bound-mono, fifo_bound-ge}

-- a stream whose events come a tick further apart
abbrev slower : Stream → Stream
slower m = record { period = m.period + 1; jitter = m.jitter; distance = m.distance }

slower-no_denser : (m : Model) → IsNoDenser (map slower m) m
slower-no_denser [] = tt
slower-no_denser (t ∷ m) = (record { period = omega arith; jitter = omega arith; distance = omega arith }, slower-no_denser m)

slower-streams : (m : Model) → All IsStream (map slower m)
slower-streams [] = All-nil IsStream
slower-streams (t ∷ m) = All-cons IsStream (slower t) (map slower m) (omega arith) (slower-streams m)

input-itself : (o : Option Model) → IsInputNoDenser o o
input-itself None = tt
input-itself (Some m) = IsNoDenser_refl m

heavier-itself : (rivals : List Rival) → AreNoHeavier rivals rivals
heavier-itself [] = tt
heavier-itself (r ∷ rivals) =
    (record { model = input-itself r.model; worst = omega arith; slot = refl; bound = IsAtMost_refl r.bound }, heavier-itself rivals)

pub queue_bound-ge : (own : Model) (worst : ℕ) (rivals : List Rival) (limit : ℕ) → 0 < length own → IsAtMost (Within worst) (fifo_bound own worst rivals limit)
queue_bound-ge own worst rivals limit some =
    let regular : IsModel (map slower own) = record { some = omega (arith, some, length-map own slower); each = slower-streams own } in
    IsAtMost_trans (Within worst) (fifo_bound (map slower own) worst rivals limit) (fifo_bound own worst rivals limit)
    (fifo_bound-ge (map slower own) worst rivals limit regular)
    (fifo_bound-mono (map slower own) own worst worst rivals rivals limit (slower-no_denser own) (omega arith) (heavier-itself rivals))
