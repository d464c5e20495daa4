use Rattle.std.proofs.Common.{rules}
use Rattle.cpa_gen.specs.Chains.{chain_at}
use Rattle.cpa_gen.specs.MadeSystems.{made_path}
use Rattle.cpa_gen.proofs.ListLaws.{table_more}
use Rattle.cpa_gen.proofs.systems.make_paths.Goals as goal

pub loop-k-preserved : goal.loop-k-preserved
loop-k-preserved c = table_more (λ k. made_path k (chain_at c.args.chains.now k)) c.loop-k.k c.loop-k.paths.items _ c.in_ok-make_path.field-0 c.loop-k.invariant (search rules) (search rules)
