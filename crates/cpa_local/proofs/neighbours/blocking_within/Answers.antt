use Rattle.std.proofs.Common.{length, sym, arith}
use Rattle.std.proofs.lemmas.Bool.{eqb-true}
use Rattle.cpa_model.specs.SystemLists.{is_higher}
use Rattle.cpa_local.specs.Blocking.{blocking_between}
use Rattle.cpa_local.proofs.BlockingLaws.{greatest-none}
use Rattle.cpa_local.proofs.RivalLaws.{lower-on}
use Rattle.cpa_local.proofs.neighbours.blocking_within.Goals as goal

pub returns-then-longest-eq0-clause-value : goal.returns-then-longest-eq0-clause-value
returns-then-longest-eq0-clause-value c =
    let s = c.args.system.now in
    let i = c.args.task.0 in
    sym (greatest-none (blocking_between s c.args.kind i) (λ j. is_higher s j i) (length s.tasks) (λ j less lower.
    let on = eqb-true _ _ (lower-on s i j lower) in
    omega (arith, c.requires.longest i j less on, c.if-longest-eq0.true)))
