-- The bound under TDMA grows.
use Rattle.std.proofs.Common.{ℕ, ◌*◌, ◌<◌, ◌≤◌, arith}
use Rattle.std.proofs.Math.Nat.{mul-le-mul_left}
use Rattle.cpa_units.specs.declared.bound.Bound.TheVariants.{Within}
use Rattle.cpa_units.specs.Bounds.{IsAtMost, RespectsLimit}
use Rattle.cpa_events.specs.Events.{Model}
use Rattle.cpa_events.specs.Events.{delta_minus, IsNoDenser}
use Rattle.cpa_events.proofs.EventLaws.{delta_minus-denser}
use Rattle.cpa_window.proofs.BusyWindowLaws.{busy_window_bound-grows, busy_window_bound-low, busy_window_bound-high}
use Rattle.cpa_tdma.specs.Tdma.{tdma_demand, tdma_bound}
use Rattle.cpa_tdma.specs.TdmaWork.{tdma_work-grows}

pub tdma_bound-mono : (own own' : Model) (worst worst' slot cycle cycle' limit : ℕ) → IsNoDenser own own' → worst ≤ worst' → cycle ≤ cycle' → IsAtMost (tdma_bound own worst slot cycle limit) (tdma_bound own' worst' slot cycle' limit)
tdma_bound-mono own own' worst worst' slot cycle cycle' limit d h k =
    busy_window_bound-grows (tdma_demand worst slot cycle) (tdma_demand worst' slot cycle') (delta_minus own) (delta_minus own') limit
    (λ q w. tdma_work-grows worst worst' slot cycle cycle' q q (mul-le-mul_left q h) k) (λ q. delta_minus-denser own own' q d)

pub tdma_bound-low : (own : Model) (worst slot cycle limit : ℕ) → IsAtMost (Within worst) (tdma_bound own worst slot cycle limit)
tdma_bound-low own worst slot cycle limit = busy_window_bound-low (tdma_demand worst slot cycle) own limit worst (λ w. omega arith)

pub tdma_bound-high : (own : Model) (worst slot cycle limit : ℕ) → RespectsLimit limit (tdma_bound own worst slot cycle limit)
tdma_bound-high own worst slot cycle limit = busy_window_bound-high (tdma_demand worst slot cycle) (delta_minus own) limit

-- each job asks for a tick, so a busy window has a last job
pub tdma_demand-ge : (worst slot cycle q w : ℕ) → 0 < worst → IsAtMost (Within q) (tdma_demand worst slot cycle q w)
tdma_demand-ge worst slot cycle q w some =
    let own : q * 1 ≤ q * worst = mul-le-mul_left q some in
    omega arith
