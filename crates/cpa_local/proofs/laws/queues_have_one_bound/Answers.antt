use Rattle.std.proofs.Common.{refl, sym}
use Rattle.cpa_model.specs.SystemLists.{task_at}
use Rattle.cpa_local.proofs.OneQueue.{one_bound}
use Rattle.cpa_local.proofs.laws.queues_have_one_bound.Goals as goal

pub returns : goal.returns
returns c s x i j i_less j_less same queue = one_bound s x (task_at s i).res.0 i j queue i_less refl j_less (sym same)
