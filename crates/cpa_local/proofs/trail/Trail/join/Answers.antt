use Rattle.std.proofs.Common.{ℕ, subst, arith}
use Rattle.cpa_local.specs.Trails.{Marks, IsMarked, IsKept}
use Rattle.cpa_local.proofs.TrailLaws.{marked-in_range}
use Rattle.cpa_local.specs.contracts.trail.Trail.{the_view}
use Rattle.cpa_local.proofs.trail.Trail.join.Goals as goal

pub returns-clause-kept : goal.returns-clause-kept
returns-clause-kept c =
    subst (λ (old : Marks). IsKept old (the_view c.loop-task.self-inside)) c.self.view_is
    record { marks = c.loop-task.invariant.marks.kept; room = rw c.loop-task.invariant.work (omega arith) }

pub returns-clause-marked : goal.returns-clause-marked
returns-clause-marked c =
    subst (λ (more : Marks). (i : ℕ) → IsMarked more i → IsMarked (the_view c.loop-task.self-inside) i) c.other.view_is
    (λ i m. c.loop-task.invariant.marks.marked i (let less = marked-in_range c.other.inside.marks i m in let long = c.other.invariant in omega arith) m)
