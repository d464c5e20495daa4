use Rattle.std.proofs.Common.{◌≡◌, take, drop}
use Rattle.std.specs.List.{filter_map}
use Rattle.cpa_draft.specs.Refusals.{rank_of, is_taken}
use Rattle.cpa_draft.proofs.FirstLemmas.{first_from}
use Rattle.cpa_draft.proofs.ranks.first_known_rank.Given as goal

abbrev pub invariant-loop-k : goal.invariant-loop-k
invariant-loop-k l = record {
  ranks : l.ranks ≡ filter_map (rank_of l.draft) (take l.k l.tasks);
  rest : first_from (λ k t. is_taken (rank_of l.draft t) (filter_map (rank_of l.draft) (take k l.tasks))) 0 l.tasks
      ≡ first_from (λ k t. is_taken (rank_of l.draft t) (filter_map (rank_of l.draft) (take k l.tasks))) l.k (drop l.k l.tasks);
}
