use Rattle.std.proofs.Common.{◌≡◌, false, take}
use Rattle.std.specs.List.{list_any}
use Rattle.cpa_model.specs.SystemLists.{places_of}
use Rattle.cpa_sim.specs.Simulation.{waiting}
use Rattle.cpa_sim.proofs.dispatches.is_busy.Given as goal

abbrev pub invariant-loop-task : goal.invariant-loop-task
invariant-loop-task l = list_any (waiting l.queues) (places_of (take l.task-index l.tasks)) ≡ false
