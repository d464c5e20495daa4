use Rattle.std.proofs.Common.{ℕ, ◌≡◌, ◌≤◌, take}
use Rattle.cpa_events.specs.Events.{eta_plus}
use Rattle.cpa_events.proofs.model.steady.Given as goal

abbrev pub invariant-loop-stream : goal.invariant-loop-stream
invariant-loop-stream l = (w : ℕ) → l.delta ≤ w → w ≤ l.until → eta_plus (take l.stream-index l.streams) w ≡ eta_plus (take l.stream-index l.streams) l.delta
