-- An edit between two systems, as a session goes over from the one to the other.
use Rattle.std.specs.Prelude.{ℕ, ◌≡◌, Ok}
use Rattle.cpa_units.specs.Sets.{holds, Members}
use Rattle.cpa_local.specs.Rising.{TasksOn}
use Rattle.cpa_depend.specs.Cone.{AreReads}
use Rattle.cpa_fix.specs.Readings.{IsSolved}
use Rattle.cpa_edit.specs.Edited.{edited, touches}
use Rattle.cpa_session.specs.declared.session.Transition.{Transition}
use Rattle.cpa_session.specs.Carried.{IsReached, IsUnion}

-- the edit makes the next system of the old one, and each of the other parts is what its name says of these
pub record IsTransition (t : Transition) : Type 0 where
  pub made : edited t.old.now t.edit.now ≡ Ok t.next.now
  pub solved : IsSolved t.old.now t.solution.now.bounds t.solution.now.readings
  pub reads : AreReads t.next.now t.next_reads.now
  pub touches_are : (r : ℕ) → holds t.touched r ≡ touches t.old.now t.edit.now r
  pub union : IsUnion t.old.now t.next.now t.touched t.reached

-- the tasks of the next system on resources that the edit reaches
abbrev pub ReachedBy : Transition → ℕ → Type 0
ReachedBy t = TasksOn t.next.now (IsReached t.old.now t.next.now (Members t.touched))
