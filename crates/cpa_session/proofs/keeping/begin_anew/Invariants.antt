use Rattle.cpa_session.proofs.AnewLaws.{IsBegunTo}
use Rattle.cpa_session.proofs.keeping.begin_anew.Given as goal

abbrev pub invariant-loop-task : goal.invariant-loop-task
invariant-loop-task l = IsBegunTo l.system l.fn.res.0 l.task-items l.initial.y l.y l.task-index
