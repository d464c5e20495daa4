use Rattle.std.proofs.Common.{rules}
use Rattle.cpa_gen.specs.Adding.{tally_plus}
use Rattle.cpa_gen.specs.Seen.{tally_at}
use Rattle.cpa_gen.proofs.ListLaws.{table_more}
use Rattle.cpa_gen.proofs.observation.tallies_plus.Goals as goal

pub loop-i-preserved : goal.loop-i-preserved
loop-i-preserved c = table_more (λ i. tally_plus (tally_at c.args.a.now i) (tally_at c.args.b.now i)) c.loop-i.i c.loop-i.tallies.items _ c.tally_plus.result c.loop-i.invariant (search rules) (search rules)
