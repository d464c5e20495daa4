use Rattle.std.proofs.Common.{◌≡◌, true, false, refl, sym, ◌∙◌, ap, take, arith, get_or, length}
use Rattle.std.specs.List.{list_any}
use Rattle.cpa_effects.proofs.bounds.may_fall_silent.Goals as goal

pub loop-k-init : goal.loop-k-init
loop-k-init c = refl
