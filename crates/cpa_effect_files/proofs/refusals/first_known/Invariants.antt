use Rattle.std.proofs.Common.{◌≡◌, [], ◌++◌, map, take, drop}
use Rattle.std.specs.List.{list_any}
use Rattle.std.specs.Str.{bytes_eq}
use Rattle.cpa_draft.proofs.FirstLemmas.{first_from}
use Rattle.cpa_effect_files.specs.Keys.{names_of}
use Rattle.cpa_effect_files.specs.declared.draft.DraftChain.{DraftChain}
use Rattle.cpa_effect_files.proofs.refusals.first_known.Given as goal

abbrev pub invariant-loop-k : goal.invariant-loop-k
invariant-loop-k l = record {
  added : names_of l.names.keys ≡ [] ++ take l.k (map (λ (c : DraftChain). c.name) l.chains);
  rest : first_from (λ k (c : DraftChain). list_any (bytes_eq c.name) ([] ++ take k (map (λ (c : DraftChain). c.name) l.chains))) 0 l.chains
      ≡ first_from (λ k (c : DraftChain). list_any (bytes_eq c.name) ([] ++ take k (map (λ (c : DraftChain). c.name) l.chains))) l.k (drop l.k l.chains);
}
