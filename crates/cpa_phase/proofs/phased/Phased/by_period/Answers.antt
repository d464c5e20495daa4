use Rattle.std.proofs.Common.{sym}
use Rattle.cpa_phase.proofs.PhaseLaws.{by_period-none}
use Rattle.cpa_phase.proofs.phased.Phased.by_period.Goals as goal

pub returns-then-reach-self-clause-value : goal.returns-then-reach-self-clause-value
returns-then-reach-self-clause-value c = sym (by_period-none c.args.self.now.stream c.args.self.now.phase c.args.window c.requires.phased.stream.regular c.if-reach-self.true)
