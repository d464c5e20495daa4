-- What the tasks of a queue ask for in numbers.
use Rattle.std.proofs.Common.{◌≡◌, ℕ, ◌+◌, ◌*◌, ◌<◌, ◌≤◌, List, arith}
use Rattle.std.proofs.Math.Nat.{mul-le-mul_right}
use Rattle.cpa_events.specs.Events.{Model}
use Rattle.cpa_events.specs.Events.{eta_plus}
use Rattle.cpa_events.proofs.EventLaws.{eta_plus-mono}
use Rattle.cpa_window.specs.declared.rivals.Rival.{Rival}
use Rattle.cpa_window.specs.Rivals.{bounded_work}
use Rattle.cpa_window.proofs.RivalLaws.{bounded_work-mono}

-- what all tasks of the resource ask for
abbrev pub queue_work : Model → ℕ → List Rival → ℕ → ℕ
queue_work own worst rivals w = eta_plus own w * worst + bounded_work rivals w

-- a longer window asks for no less
pub queue_work-mono : (own : Model) (worst : ℕ) (rivals : List Rival) (v w : ℕ) → v ≤ w → queue_work own worst rivals v ≤ queue_work own worst rivals w
queue_work-mono own worst rivals v w shorter =
    let jobs : eta_plus own v * worst ≤ eta_plus own w * worst = mul-le-mul_right worst (eta_plus-mono own v w shorter) in
    omega (arith, jobs, bounded_work-mono rivals v w shorter)

-- windows from one length on have the same work up to a length
pub record IsConstantFrom (work : ℕ → ℕ) (window from : ℕ) : Type 0 where
  pub some : 0 < from
  pub low : from ≤ window
  pub same : (v : ℕ) → from ≤ v → v ≤ window → work v ≡ work window
