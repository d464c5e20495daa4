use Rattle.std.proofs.Common.{◌%◌, ◌/◌, length, rules}
use Rattle.cpa_gen.specs.Chains.{chain_at}
use Rattle.cpa_gen.specs.MadeSystems.{task_of_chain}
use Rattle.cpa_gen.proofs.ListLaws.{table_more}
use Rattle.cpa_gen.proofs.systems.make_tasks.Goals as goal

pub loop-place-preserved : goal.loop-place-preserved
loop-place-preserved c = table_more (λ i. task_of_chain (i % 3) (length c.args.chains.now) (i / 3) (chain_at c.args.chains.now (i / 3))) c.loop-place.place c.loop-place.tasks.items _ c.in_ok-make_task.field-0 c.loop-place.invariant (search rules) (search rules)
