use Rattle.std.proofs.Common.{◌≡◌, ◌<◌, ◌^◌, take, map}
use Rattle.cpa_model.specs.Locks.{section_of}
use Rattle.cpa_model.specs.SystemLists.{task_at, priority_of}
use Rattle.cpa_sched.specs.Locks.{active_priority, holds_lock}
use Rattle.cpa_sched.proofs.locks.lock_urgency.Given as goal

abbrev pub invariant-loop-section : goal.invariant-loop-section
invariant-loop-section l = record {
  active : l.active ≡ active_priority (priority_of (task_at l.system l.fn.task.0).turn) (map (section_of l.system (task_at l.system l.fn.task.0).res.0) (take l.section-index l.section-items)) l.received;
  holds : l.holds ≡ holds_lock (map (section_of l.system (task_at l.system l.fn.task.0).res.0) (take l.section-index l.section-items)) l.received;
  small : l.active < 2 ^ 32;
}
