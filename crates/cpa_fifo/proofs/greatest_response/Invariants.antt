use Rattle.cpa_fifo.specs.FifoWork.{queue_work}
use Rattle.cpa_fifo.proofs.QueueWalk.{IsGreatestFrom}
use Rattle.cpa_fifo.proofs.greatest_response.Given as goal

abbrev pub invariant-loop-window : goal.invariant-loop-window
invariant-loop-window l = IsGreatestFrom (queue_work l.queue.own.now l.queue.worst l.queue.rivals.now) l.busy l.window l.greatest

abbrev pub decreases-loop-window : goal.decreases-loop-window
decreases-loop-window l = l.window
