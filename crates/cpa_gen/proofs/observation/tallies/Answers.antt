use Rattle.std.proofs.Common.{refl, rules}
use Rattle.cpa_gen.specs.Adding.{tally_of}
use Rattle.cpa_gen.proofs.ListLaws.{table_more}
use Rattle.cpa_gen.proofs.observation.tallies.Goals as goal

pub loop-i-preserved : goal.loop-i-preserved
loop-i-preserved c = table_more (tally_of c.args.outcome.now) c.loop-i.i c.loop-i.tallies.items c.push.new.self.items (tally_of c.args.outcome.now c.loop-i.i) c.loop-i.invariant refl (search rules)
