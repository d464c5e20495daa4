use Rattle.std.proofs.Common.{◌≡◌, ◌<◌, ℕ, true}
use Rattle.cpa_model.specs.SystemLists.{task_at, is_on}
use Rattle.cpa_assign.specs.Orders.{is_without_sections}
use Rattle.cpa_assign.proofs.able.is_unblocked.Given as goal

abbrev pub invariant-loop-k : goal.invariant-loop-k
invariant-loop-k l = (j : ℕ) → j < l.k → is_on l.system l.fn.res.0 j ≡ true → is_without_sections (task_at l.system j) ≡ true
