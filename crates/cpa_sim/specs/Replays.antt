-- A run that is followed from one moment to the next.
use Rattle.std.specs.Prelude.{ℕ, ◌≡◌, ◌<◌, ◌≤◌, false, length}
use Rattle.cpa_model.specs.SystemLists.{SystemLists}
use Rattle.cpa_trace.specs.Trace.{TraceLists}
use Rattle.cpa_sim.specs.Served.{served_at}
use Rattle.cpa_sim.specs.LastServed.{ran_by}
use Rattle.cpa_sim.specs.Simulators.{SimulatorLists, IsSimulator}

-- a run of a system under a trace, up to which time it was followed, and the moment before that
pub record FollowedRun : Type 0 where
  pub system : SystemLists
  pub trace : TraceLists
  pub since : ℕ
  pub time : ℕ

-- what the simulator keeps stands for the run, whose end isn't passed, and says who got the ticks since the moment before
pub record IsReplay (s : SystemLists) (tr : TraceLists) (since : ℕ) (p : SimulatorLists) : Type 0 where
  pub simulator : IsSimulator s tr p
  pub keeps : p.keeps ≡ false
  pub ran : (r u : ℕ) → r < length s.resources → since ≤ u → u < p.time → served_at s tr u r ≡ ran_by p.queues p.dispatches r
