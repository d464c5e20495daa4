use Rattle.std.proofs.Common.{refl}
use Rattle.cpa_effect_files.proofs.commands.command_of.Goals as goal

pub returns-in-chain : goal.returns-in-chain
returns-in-chain c = rw (c.in-chain.is) refl

pub returns-in-chains : goal.returns-in-chains
returns-in-chains c = rw (c.in-chains.is) refl
