use Rattle.std.proofs.Common.{◌≡◌, map}
use Rattle.std.specs.List.{range_with_len}
use Rattle.cpa_model.specs.SystemLists.{is_on}
use Rattle.cpa_assign.proofs.order.marks_of.Given as goal

abbrev pub invariant-loop-k : goal.invariant-loop-k
invariant-loop-k l = l.marks.items ≡ map (is_on l.system l.fn.res.0) (range_with_len 0 l.k)
