use Rattle.std.proofs.Common.{arith}
use Rattle.cpa_model.proofs.build.build_activators.Goals as goal

pub build_activator-requires-in-loop-k-clause-place : goal.build_activator-requires-in-loop-k-clause-place
build_activator-requires-in-loop-k-clause-place c = rw (c.bytes-in-loop-k.ensures, c.index-names-k.is) (c.requires.places c.loop-k.k c.index-names-k.result (omega arith))
