use Rattle.std.proofs.Common.{◌≡◌, take}
use Rattle.cpa_model.specs.SystemLists.{places_of}
use Rattle.cpa_buffer.specs.Work.{greatest_bound}
use Rattle.cpa_buffer.proofs.buffers.most_work_on.Given as goal

abbrev pub invariant-loop-task : goal.invariant-loop-task
invariant-loop-task l = l.most ≡ greatest_bound l.x (take l.task-index (places_of l.task-items))
