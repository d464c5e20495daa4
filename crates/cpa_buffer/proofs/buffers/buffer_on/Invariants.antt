use Rattle.std.proofs.Common.{◌≡◌, ◌*◌, take}
use Rattle.cpa_units.specs.Bounds.{RespectsLimit, sum_bounds}
use Rattle.cpa_model.specs.SystemLists.{places_of}
use Rattle.cpa_buffer.specs.Buffers.{buffer_of}
use Rattle.cpa_buffer.proofs.buffers.buffer_on.Given as goal

abbrev pub invariant-loop-task : goal.invariant-loop-task
invariant-loop-task l = record {
  sum : l.sum ≡ sum_bounds (buffer_of l.system l.x) (take l.task-index (places_of l.task-items));
  few : RespectsLimit (l.task-index * 274877906944) l.sum;
}
