use Rattle.std.proofs.Common.{◌≡◌, map}
use Rattle.std.specs.List.{range_with_len}
use Rattle.rand_pcg.specs.Lcg.{Lcg}
use Rattle.cpa_gen.specs.Draws.{after_draws}
use Rattle.cpa_gen.specs.MadeTraces.{before_resource, phase_drawn}
use Rattle.cpa_gen.proofs.traces.draw_all_phases.Given as goal

abbrev pub invariant-loop-r : goal.invariant-loop-r
invariant-loop-r l = (g : Lcg) → l.fn.rng ≡ after_draws g (before_resource l.system 0) → (l.rng ≡ after_draws g (before_resource l.system l.r))
    × (l.phases.items ≡ map (phase_drawn l.system g) (range_with_len 0 l.r))
