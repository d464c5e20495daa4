use Rattle.std.proofs.Common.{◌≡◌, ◌∙◌, ◌&&◌, ◌||◌, Bool, List, true, false, nat_le, refl, sym, ap, subst, arith}
use Rattle.std.specs.List.{list_any}
use Rattle.std.proofs.Math.Bool.{or-true}
use Rattle.std.proofs.lemmas.Bool.{le-leb, lt-leb}
use Rattle.std.proofs.lemmas.List.{take_all}
use Rattle.cpa_units.specs.declared.limits.TheConstants.{MAX_PRIORITY}
use Rattle.cpa_units.specs.declared.places.TaskId.{TaskId}
use Rattle.cpa_model.specs.declared.entries.Task.{Task}
use Rattle.cpa_model.specs.Locks.{uses_lock}
use Rattle.cpa_model.specs.SystemLists.{priority_of, places_of, tasks_on}
use Rattle.cpa_model.proofs.SystemLaws.{no_id}
use Rattle.cpa_local.proofs.CeilingLaws.{is_user, ceiling-users, any-at}
use Rattle.cpa_local.proofs.ceilings.reaches.Goals as goal

pub returns-then-from-ge-MAX_PRIORITY : goal.returns-then-from-ge-MAX_PRIORITY
returns-then-from-ge-MAX_PRIORITY c =
    let p = c.args.priority in
    let big : nat_le MAX_PRIORITY p ≡ true = le-leb MAX_PRIORITY p (omega (arith, c.if-from-ge-MAX_PRIORITY.true, c.from.ensures)) in
    sym (ceiling-users c.args.system.now c.args.res.0 c.args.lock.now p ∙ (rw big refl))

pub returns-then-is_user : goal.returns-then-is_user
returns-then-is_user c =
    let s = c.args.system.now in
    let p = c.args.priority in
    let lock = c.args.lock.now in
    let ids = c.tasks_on-task-items.result.now in
    let passes = subst (λ (t : Task). (nat_le (priority_of t.turn) p && uses_lock lock t) ≡ true) c.task.ensures.value (sym c.is_user.ensures ∙ c.if-is_user.true) in
    let some : list_any (is_user s p lock) (tasks_on s c.args.res.0) ≡ true =
    ap (list_any (is_user s p lock)) (sym c.tasks_on-task-items.ensures.places) ∙ any-at (is_user s p lock) ids c.loop-task.task-index no_id c.loop-task-test.true passes in
    sym (ceiling-users s c.args.res.0 lock p ∙ ap (λ (b : Bool). nat_le MAX_PRIORITY p || b) some ∙ or-true (nat_le MAX_PRIORITY p))

pub returns : goal.returns
returns c =
    let s = c.args.system.now in
    let p = c.args.priority in
    let lock = c.args.lock.now in
    let ids = c.tasks_on-task-items.result.now in
    let small : nat_le MAX_PRIORITY p ≡ false = lt-leb MAX_PRIORITY p (omega (arith, c.if-from-ge-MAX_PRIORITY.false, c.from.ensures)) in
    let none : list_any (is_user s p lock) (tasks_on s c.args.res.0) ≡ false =
    ap (list_any (is_user s p lock)) (sym c.tasks_on-task-items.ensures.places) ∙ ap (λ (ts : List TaskId). list_any (is_user s p lock) (places_of ts)) (sym (take_all c.loop-task.task-index ids c.loop-task-test.false))
    ∙ c.loop-task.invariant in
    sym (ceiling-users s c.args.res.0 lock p ∙ (rw (small, none) refl))
