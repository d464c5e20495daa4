use Rattle.std.proofs.Common.{◌≡◌, length, sym, arith}
use Rattle.cpa_draft.proofs.LockLaws.{unlocked}
use Rattle.cpa_draft.proofs.locks.is_mislocked.Goals as goal

pub returns-then-locks-eq0 : goal.returns-then-locks-eq0
returns-then-locks-eq0 c =
    let none : length c.sections-locks.result.now ≡ 0 = omega arith in
    sym (unlocked c.args.earlier.now c.args.task.now (rw (← c.sections-locks.ensures) none))
