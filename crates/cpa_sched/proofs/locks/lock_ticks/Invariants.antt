use Rattle.std.proofs.Common.{◌≡◌, ◌≤◌, take, map}
use Rattle.cpa_model.specs.Locks.{section_of}
use Rattle.cpa_model.specs.SystemLists.{task_at}
use Rattle.cpa_sched.specs.Locks.{ticks_to_release}
use Rattle.cpa_sched.proofs.locks.lock_ticks.Given as goal

abbrev pub invariant-loop-section : goal.invariant-loop-section
invariant-loop-section l = record {
  least : l.least ≡ ticks_to_release l.most (map (section_of l.system (task_at l.system l.fn.task.0).res.0) (take l.section-index l.section-items)) l.received;
  some : 1 ≤ l.least;
  most : l.least ≤ l.most;
}
