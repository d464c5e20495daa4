use Rattle.cpa_sound.proofs.Exclusion.{a_lock_has_one_holder, other_users_wait}
use Rattle.cpa_sound.proofs.laws.locks_exclude.Goals as goal

pub returns-clause-holder : goal.returns-clause-holder
returns-clause-holder c = a_lock_has_one_holder

pub returns-clause-alone : goal.returns-clause-alone
returns-clause-alone c = other_users_wait
