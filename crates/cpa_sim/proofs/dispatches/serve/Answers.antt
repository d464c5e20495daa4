use Rattle.std.proofs.Common.{option_map, ap, arith}
use Rattle.cpa_model.specs.SystemLists.{place_of}
use Rattle.cpa_sim.proofs.dispatches.serve.Goals as goal

pub index_mut-queue-requires : goal.index_mut-queue-requires
index_mut-queue-requires c =
    let waits = c.requires.waits c.in-Some.task.0 (ap (option_map place_of) c.in-Some.is) in
    omega (arith, waits.on.task, c.requires.queues)
