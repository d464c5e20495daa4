use Rattle.std.proofs.Common.{◌<◌, sym, subst, arith, inl, inr}
use Rattle.std.proofs.lemmas.Bool.{cases_lt}
use Rattle.cpa_sim.specs.Outcome.{end_of}
use Rattle.cpa_sim.specs.Simulators.{SimulatorLists, IsSimulator}
use Rattle.cpa_sim.proofs.SimulatorLaws.{before-horizon, before-next, not-past}
use Rattle.cpa_sim.proofs.simulator.Simulator.step.Goals as goal

pub most_ticks-most-requires : goal.most_ticks-most-requires
most_ticks-most-requires c =
    let s = c.args.system.now in
    let tr = c.args.trace.now in
    let is = subst (IsSimulator s tr) (sym c.self.view_is) c.requires.run in
    before-horizon s tr _ is (subst (λ (p : SimulatorLists). p.time < end_of s tr) (sym c.self.view_is) c.requires.more)

pub returns-clause-run : goal.returns-clause-run
returns-clause-run c =
    let s = c.args.system.now in
    let tr = c.args.trace.now in
    let is = subst (IsSimulator s tr) (sym c.self.view_is) c.requires.run in
    let more = subst (λ (p : SimulatorLists). p.time < end_of s tr) (sym c.self.view_is) c.requires.more in
    let time = c.self.inside.sim.time in
    let quiet = c.self.inside.quiet in
    record {
      rules = is.rules;
      can = is.can;
      successors = is.successors;
      orders = is.orders;
      places = is.places;
      reached = c.in_ok-advance.ensures.reached;
      single = is.single;
      at = c.in_ok-advance.ensures.at;
      coming = c.in_ok-advance.ensures.next_event;
      ran = c.in_ok-advance.ensures.within;
      events = is.events;
      last = is.last;
      before = before-next s tr _ is c.advance.new.sim.time c.most_ticks-most.result more c.most_ticks-most.ensures.quiet c.in_ok-advance.ensures.most c.in_ok-advance.ensures.between;
      within = elim (cases_lt time quiet) [
        | inl early ↦ omega (arith, c.in_ok-advance.ensures.most, c.most_ticks-most.ensures.quiet early, is.last)
        | inr late ↦ omega (arith, c.in_ok-advance.ensures.most, c.most_ticks-most.ensures.horizon late, is.within)
      ];
    }

pub returns-clause-within : goal.returns-clause-within
returns-clause-within c =
    let s = c.args.system.now in
    let tr = c.args.trace.now in
    let next = returns-clause-run c in
    not-past s tr c.advance.new.sim.time next.within next.before
