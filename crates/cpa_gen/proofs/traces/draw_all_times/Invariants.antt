use Rattle.std.proofs.Common.{◌≡◌, map}
use Rattle.std.specs.List.{range_with_len}
use Rattle.cpa_model.specs.SystemLists.{source_at}
use Rattle.cpa_gen.specs.Draws.{after_draws}
use Rattle.cpa_gen.specs.MadeTraces.{before_source, late_drawn, times_made, most_made}
use Rattle.cpa_gen.proofs.traces.draw_all_times.Given as goal

abbrev pub invariant-loop-j : goal.invariant-loop-j
invariant-loop-j l = (l.rng ≡ after_draws l.fn.rng (before_source l.system l.j))
    × (map (λ w. w.items) l.times.items ≡ map (λ j. times_made (most_made l.system) (source_at l.system j) (late_drawn l.fn.rng (before_source l.system j) (source_at l.system j))) (range_with_len 0 l.j))
