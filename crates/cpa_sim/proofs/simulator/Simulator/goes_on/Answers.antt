use Rattle.std.proofs.Common.{◌∙◌, ◌&&◌, ◌||◌, nat_lt, sym, ap, subst}
use Rattle.std.specs.List.{list_any}
use Rattle.cpa_units.specs.declared.limits.TheConstants.{HORIZON}
use Rattle.cpa_sim.specs.JobQueues.{has_pending}
use Rattle.cpa_sim.specs.Outcome.{end_of}
use Rattle.cpa_sim.specs.Simulators.{SimulatorLists, IsSimulator}
use Rattle.cpa_sim.proofs.SimulatorLaws.{on-is}
use Rattle.cpa_sim.proofs.simulator.Simulator.goes_on.Goals as goal

pub returns : goal.returns
returns c = λ s tr is.
    let is' = subst (IsSimulator s tr) (sym c.self.view_is) is in
    let time = c.self.inside.sim.time in
    c.goes_on.ensures
    ∙ (ap (λ v. nat_lt time HORIZON && (nat_lt time c.self.inside.quiet || list_any has_pending v)) c.as_slice.ensures.value
    ∙ (on-is s tr _ is' ∙ ap (λ (p : SimulatorLists). nat_lt p.time (end_of s tr)) c.self.view_is))
