use Rattle.std.proofs.Common.{◌≡◌, map}
use Rattle.std.specs.List.{range_with_len}
use Rattle.cpa_model.specs.SystemLists.{task_at}
use Rattle.rand_pcg.specs.Lcg.{Lcg}
use Rattle.cpa_gen.specs.Draws.{after_draws}
use Rattle.cpa_gen.specs.MadeTraces.{before_task, executions_drawn, jobs_made}
use Rattle.cpa_gen.proofs.traces.draw_all_executions.Given as goal

abbrev pub invariant-loop-i : goal.invariant-loop-i
invariant-loop-i l = (g : Lcg) → l.fn.rng ≡ after_draws g (before_task l.system 0) → (l.rng ≡ after_draws g (before_task l.system l.i))
    × (map (λ w. w.items) l.executions.items ≡ map (λ i. executions_drawn g (before_task l.system i) (task_at l.system i) (jobs_made l.system i)) (range_with_len 0 l.i))
