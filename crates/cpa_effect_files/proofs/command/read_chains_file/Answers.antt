use Rattle.cpa_effect_files.proofs.ReadingLaws.{accepted-in}
use Rattle.cpa_effect_files.proofs.command.read_chains_file.Goals as goal

pub returns-in-Ok-clause-chains : goal.returns-in-Ok-clause-chains
returns-in-Ok-clause-chains c = accepted-in c.args.system.now c.args.bytes.now c.in-Ok.chains.items c.in-Ok.ensures.ok
