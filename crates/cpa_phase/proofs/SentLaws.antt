-- What a task sends on.
use Rattle.std.proofs.Common.{ℕ, ◌≤◌, arith}
use Rattle.cpa_events.specs.Streams.{IsStreamNoDenser}
use Rattle.cpa_events.proofs.StreamLaws.{stream_after_response-denser}
use Rattle.cpa_phase.specs.declared.placed.Placed.{Placed}
use Rattle.cpa_phase.specs.Streams.{sent_on}
use Rattle.cpa_phase.specs.Growth.{IsPlacedNoDenser}

streams_too : (p q : Placed) → IsPlacedNoDenser p q → IsStreamNoDenser p.stream q.stream
streams_too p q h = record { period = omega (arith, h.period); jitter = omega (arith, h.sooner, h.later); distance = h.distance }

pub sent_on-wider : (p q : Placed) (best best' bound bound' worst : ℕ) → IsPlacedNoDenser p q → best' ≤ best → bound ≤ bound' → best ≤ bound → IsPlacedNoDenser (sent_on best bound worst p) (sent_on best' bound' worst q)
sent_on-wider p q best best' bound bound' worst h b k order =
    record {
      period = h.period;
      sooner = omega (arith, h.sooner);
      later = omega (arith, h.later);
      distance = (stream_after_response-denser p.stream q.stream best best' bound bound' (streams_too p q h) b k).distance;
      worst = omega arith;
    }

pub sent_on-later : (p q : Placed) (best bound bound' worst : ℕ) → IsPlacedNoDenser p q → bound ≤ bound' → IsPlacedNoDenser (sent_on best bound worst p) (sent_on best bound' worst q)
sent_on-later p q best bound bound' worst h k =
    record {
      period = h.period;
      sooner = omega (arith, h.sooner);
      later = omega (arith, h.later);
      distance = (stream_after_response-denser p.stream q.stream best best bound bound' (streams_too p q h) (omega arith) k).distance;
      worst = omega arith;
    }
