use Rattle.std.proofs.Common.{arith}
use Rattle.cpa_audit.proofs.auditing.found.Goals as goal

pub overflow_cast-result : goal.overflow_cast-result
overflow_cast-result c = let h = c.requires c.in-Some.first c.in-Some.is in omega (arith, h, c.len.ensures.few)

pub overflow_add-result : goal.overflow_add-result
overflow_add-result c = let h = c.requires c.in-Some.first c.in-Some.is in omega (arith, h, c.len.ensures.few)
