use Rattle.std.proofs.Common.{refl}
use Rattle.cpa_file.specs.Fields.{required}
use Rattle.cpa_file.proofs.fields.required_integer.Goals as goal

pub returns-in-None : goal.returns-in-None
unfolding required
returns-in-None c = rw (← c.in-None.ensures) refl

pub returns-in-None-as_integer : goal.returns-in-None-as_integer
unfolding required
returns-in-None-as_integer c = rw (← c.in-Some.ensures, ← c.in-None-as_integer.ensures) refl
