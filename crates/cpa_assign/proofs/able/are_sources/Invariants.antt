use Rattle.std.proofs.Common.{◌≡◌, true, take}
use Rattle.std.specs.List.{list_all}
use Rattle.cpa_assign.specs.Orders.{is_some_source}
use Rattle.cpa_assign.proofs.able.are_sources.Given as goal

abbrev pub invariant-loop-one : goal.invariant-loop-one
invariant-loop-one l = list_all is_some_source (take l.one-index l.one-items) ≡ true
