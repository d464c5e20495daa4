use Rattle.std.proofs.Common.{◌≡◌, ◌<◌, ℕ, length, drop, slice_index_or, is_none}
use Rattle.cpa_draft.specs.declared.chains.Mark.TheVariants.{New}
use Rattle.cpa_draft.specs.Chains.{chain_within}
use Rattle.cpa_draft.specs.Search.{KnowsChains, NoneOpen, IsKnown}
use Rattle.cpa_draft.proofs.FirstLemmas.{first_from}
use Rattle.cpa_draft.proofs.chains.measure_chains.Given as goal

abbrev pub invariant-loop-task : goal.invariant-loop-task
invariant-loop-task l = record {
  rest : first_from (λ i _. is_none (chain_within l.links (length l.links) i)) 0 l.links
      ≡ first_from (λ i _. is_none (chain_within l.links (length l.links) i)) l.task (drop l.task l.links);
  known : KnowsChains l.links l.marks;
  none_open : NoneOpen l.marks;
  noted : (i : ℕ) → i < l.task → IsKnown (slice_index_or l.marks i New);
  count : length l.marks ≡ length l.links;
}
