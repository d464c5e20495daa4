use Rattle.std.proofs.Common.{◌≡◌, true, filter, take, option_map}
use Rattle.std.specs.Option.{ForSome}
use Rattle.cpa_units.specs.declared.places.TaskId.{TaskId}
use Rattle.cpa_model.specs.SystemLists.{place_of, places_of}
use Rattle.cpa_sched.specs.Least.{least_by}
use Rattle.cpa_sched.proofs.fifo.earliest.Given as goal

abbrev pub invariant-loop-task : goal.invariant-loop-task
invariant-loop-task g l = record {
  found : option_map place_of l.first ≡ least_by (g.Q.Queue.ready l.queue).arrival (filter (g.Q.Queue.ready l.queue).waits (places_of (take l.task-index l.tasks)));
  waits : ForSome l.first (λ (t : TaskId). (g.Q.Queue.ready l.queue).waits t.0 ≡ true);
}
