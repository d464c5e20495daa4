use Rattle.std.proofs.Common.{◌≡◌, ◌+◌, take, drop}
use Rattle.cpa_draft.specs.Clocks.{is_overlong, AreMeasured}
use Rattle.cpa_draft.proofs.FirstLemmas.{first_from}
use Rattle.cpa_draft.proofs.clocks.first_overlong.Given as goal

abbrev pub invariant-loop-k : goal.invariant-loop-k
invariant-loop-k l = record {
  measured : AreMeasured (take l.k l.sources) l.clocks;
  rest : first_from (λ k r. is_overlong r.clock (take (k + 1) l.sources)) 0 l.sources
      ≡ first_from (λ k r. is_overlong r.clock (take (k + 1) l.sources)) l.k (drop l.k l.sources);
}
