use Rattle.std.proofs.Common.{◌≡◌, false}
use Rattle.std.specs.Prelude.{filter}
use Rattle.std.specs.List.{list_any, range_with_len}
use Rattle.cpa_units.specs.Sets.{holds}
use Rattle.cpa_model.specs.SystemLists.{is_on}
use Rattle.cpa_assign.specs.Placing.{is_reaching, without}
use Rattle.cpa_assign.proofs.below.reaches.Given as goal

abbrev pub invariant-loop-k : goal.invariant-loop-k
invariant-loop-k l = list_any (is_reaching l.system (without (holds l.free) l.fn.task.0) l.fn.task.0 l.lock) (filter (is_on l.system l.fn.res.0) (range_with_len 0 l.k)) ≡ false
