use Rattle.std.proofs.Common.{refl}
use Rattle.cpa_draft.proofs.entry_checks.first_refused.Goals as goal

pub refuse-requires : goal.refuse-requires
refuse-requires c = c.requires.resource _ c.in-Some-default-default-default.is-0

pub returns-in-Some-default-default-default : goal.returns-in-Some-default-default-default
returns-in-Some-default-default-default c = rw (c.in-Some-default-default-default.is-0) c.refuse.ensures

pub refuse-requires-in-None-Some-default-default : goal.refuse-requires-in-None-Some-default-default
refuse-requires-in-None-Some-default-default c = c.requires.source _ c.in-None-Some-default-default.is-1

pub returns-in-None-Some-default-default : goal.returns-in-None-Some-default-default
returns-in-None-Some-default-default c = rw (c.in-None-Some-default-default.is-0, c.in-None-Some-default-default.is-1) c.refuse-in-None-Some-default-default.ensures

pub refuse-requires-in-None-None-Some-default : goal.refuse-requires-in-None-None-Some-default
refuse-requires-in-None-None-Some-default c = c.requires.task _ c.in-None-None-Some-default.is-2

pub returns-in-None-None-Some-default : goal.returns-in-None-None-Some-default
returns-in-None-None-Some-default c = rw (c.in-None-None-Some-default.is-0, c.in-None-None-Some-default.is-1, c.in-None-None-Some-default.is-2) c.refuse-in-None-None-Some-default.ensures

pub refuse-requires-in-None-None-None-Some : goal.refuse-requires-in-None-None-None-Some
refuse-requires-in-None-None-None-Some c = c.requires.path _ c.in-None-None-None-Some.is-3

pub returns-in-None-None-None-Some : goal.returns-in-None-None-None-Some
returns-in-None-None-None-Some c = rw (c.in-None-None-None-Some.is-0, c.in-None-None-None-Some.is-1, c.in-None-None-None-Some.is-2, c.in-None-None-None-Some.is-3) c.refuse-in-None-None-None-Some.ensures

pub returns-in-None-None-None-None : goal.returns-in-None-None-None-None
returns-in-None-None-None-None c = rw (c.in-None-None-None-None.is-0, c.in-None-None-None-None.is-1, c.in-None-None-None-None.is-2, c.in-None-None-None-None.is-3) refl
