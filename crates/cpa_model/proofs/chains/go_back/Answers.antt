use Rattle.std.proofs.Common.{◌-◌, ◌+◌, ◌∙◌, refl, arith}
use Rattle.cpa_model.specs.Chains.{activators}
use Rattle.cpa_model.proofs.ChainLaws.{streams-only}
use Rattle.cpa_model.proofs.chains.go_back.Goals as goal

pub loop-passed-preserved : goal.loop-passed-preserved
loop-passed-preserved c =
    c.loop-passed.invariant
    ∙ streams-only (activators c.args.tasks.now) (c.args.most - c.loop-passed.passed) (c.args.most - (c.loop-passed.passed + 1)) c.loop-passed.at c.in-Some.next (omega arith) (c.in-Some.ensures.alone c.in-Some.next refl)
