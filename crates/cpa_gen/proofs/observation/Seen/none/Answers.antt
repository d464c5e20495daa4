use Rattle.std.proofs.Common.{refl, rules}
use Rattle.cpa_gen.specs.Seen.{no_tally}
use Rattle.cpa_gen.proofs.ListLaws.{table_more}
use Rattle.cpa_gen.proofs.observation.Seen.none.Goals as goal

pub loop-preserved : goal.loop-preserved
loop-preserved c = table_more (λ i. no_tally) c.loop.counter c.loop.tallies.items c.push.new.self.items no_tally c.loop.invariant refl (search rules)
