use Rattle.cpa_fix.proofs.SolveLaws.{none-beyond, all-closed}
use Rattle.cpa_fix.proofs.solving.solve.Goals as goal

pub solve_within-requires-clause-beyond : goal.solve_within-requires-clause-beyond
solve_within-requires-clause-beyond g c κs within =
    none-beyond c.args.system.now c.args.kept c.args.start c.first-all.result (λ r. rw (← c.resources.ensures.count) (c.first-all.ensures r))

pub solve_within-requires-clause-closed : goal.solve_within-requires-clause-closed
solve_within-requires-clause-closed g c κs within =
    all-closed c.args.system.now c.first-all.result c.resources.ensures.rules (λ r. rw (← c.resources.ensures.count) (c.first-all.ensures r))
