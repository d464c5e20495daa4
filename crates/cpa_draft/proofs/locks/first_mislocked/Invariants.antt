use Rattle.std.proofs.Common.{◌≡◌, take, drop}
use Rattle.cpa_draft.specs.Refusals.{mislocked_after}
use Rattle.cpa_draft.proofs.FirstLemmas.{first_from}
use Rattle.cpa_draft.proofs.locks.first_mislocked.Given as goal

abbrev pub invariant-loop-k : goal.invariant-loop-k
invariant-loop-k l = first_from (λ k t. mislocked_after (take k l.tasks) t) 0 l.tasks ≡ first_from (λ k t. mislocked_after (take k l.tasks) t) l.k (drop l.k l.tasks)
