use Rattle.std.proofs.Common.{◌≡◌, length}
use Rattle.cpa_local.specs.Worked.{IsPrepared}
use Rattle.cpa_local.proofs.RisingLaws.{IsRaisedTo}
use Rattle.cpa_local.proofs.rising.raise_all.Given as goal

abbrev pub invariant-loop-task : goal.invariant-loop-task
invariant-loop-task l = record {
  raised : IsRaisedTo l.system l.fn.res.0 l.task-items l.fn.x l.x l.task-index;
  prepared : IsPrepared l.system l.fn.res.0 l.x l.work;
  room : length l.work.inputs ≡ length l.fn.work.inputs;
}
