use Rattle.std.proofs.Common.{◌<◌, option_map, length, ◌∙◌, sym, ap, subst, arith}
use Rattle.std.proofs.lemmas.List.{get_or_read}
use Rattle.cpa_model.specs.SystemLists.{place_of}
use Rattle.cpa_sim.specs.declared.dispatches.Dispatch.{Dispatch}
use Rattle.cpa_sim.specs.Simulation.{no_dispatch}
use Rattle.cpa_sim.specs.LastServed.{RanWithin}
use Rattle.cpa_sim.specs.Simulators.{SimulatorLists}
use Rattle.cpa_sim.proofs.simulator.Simulator.ran.Goals as goal

pub index-requires : goal.index-requires
index-requires c =
    let dispatches = c.self.inside.sim.dispatches.items in
    let r = c.args.res.0 in
    let within = subst (λ (p : SimulatorLists). RanWithin p.queues p.dispatches) (sym c.self.view_is) c.requires.within in
    let there : r < length dispatches = subst (λ (p : SimulatorLists). r < length p.dispatches) (sym c.self.view_is) c.requires.there in
    let here = sym (get_or_read dispatches r c.index-dispatch.result.now there c.index-dispatch.ensures no_dispatch) in
    let h : c.in_ok-task.task.0 < length c.self.inside.sim.queues.items = within r c.in_ok-task.task.0 there (ap (λ (d : Dispatch). option_map place_of d.running) here ∙ ap (option_map place_of) c.in_ok-task.was) in
    omega (arith, h)
