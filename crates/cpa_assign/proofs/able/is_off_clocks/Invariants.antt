use Rattle.std.proofs.Common.{◌≡◌, ◌<◌, ℕ, true, false}
use Rattle.cpa_model.specs.SystemLists.{is_on}
use Rattle.cpa_assign.specs.Orders.{is_clocked_task}
use Rattle.cpa_assign.proofs.able.is_off_clocks.Given as goal

abbrev pub invariant-loop-k : goal.invariant-loop-k
invariant-loop-k l = (j : ℕ) → j < l.k → is_on l.system l.fn.res.0 j ≡ true → is_clocked_task l.system j ≡ false
