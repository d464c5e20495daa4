use Rattle.std.proofs.Common.{subst, Bool}
use Rattle.std.specs.Bool.{OnFalse}
use Rattle.cpa_local.specs.Rising.{HasInputsApart}
use Rattle.cpa_local.proofs.RisingLaws.{risen-set, prepared-raised}
use Rattle.cpa_local.proofs.rising.raise_task.Goals as goal

pub follow-requires-clause-vector : goal.follow-requires-clause-vector
follow-requires-clause-vector c =
    rw (c.set.ensures, c.max-raised.ensures, c.get-before.ensures, c.in_ok-bound.ensures.value)
    (risen-set c.args.system.now c.args.x.now c.args.task.0 c.has_rules.ensures c.requires.there c.requires.start.vector c.requires.start.below).vector

pub returns-else-back-clause-prepared : goal.returns-else-back-clause-prepared
returns-else-back-clause-prepared c =
    rw (c.set.ensures, c.in_ok-bound.ensures.same)
    (prepared-raised c.args.system.now c.args.res.0 c.args.task.0 c.args.x.now c.max-raised.result c.args.work.now
    (subst (λ (b : Bool). OnFalse b (HasInputsApart c.args.system.now c.args.res.0)) c.if-back.false c.requires.apart) c.requires.on c.requires.prepared)
