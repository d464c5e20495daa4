use Rattle.std.proofs.Common.{◌≡◌, [], map, replicate}
use Rattle.cpa_gen.proofs.traces.no_executions.Given as goal

abbrev pub invariant-loop : goal.invariant-loop
invariant-loop l = map (λ w. w.items) l.executions.items ≡ replicate l.counter []
