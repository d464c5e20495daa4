use Rattle.std.proofs.Common.{◌≡◌, ◌++◌, map, take, drop}
use Rattle.std.specs.List.{list_any}
use Rattle.std.specs.Str.{bytes_eq}
use Rattle.cpa_draft.proofs.FirstLemmas.{first_from}
use Rattle.cpa_draft.proofs.names.add_names.Given as goal

abbrev pub invariant-loop-k : goal.invariant-loop-k
invariant-loop-k g l = record {
  added : l.names ≡ l.initial.names ++ take l.k (map g.E.Named.named l.entries);
  rest : first_from (λ k e. list_any (bytes_eq (g.E.Named.named e)) (l.initial.names ++ take k (map g.E.Named.named l.entries))) 0 l.entries
      ≡ first_from (λ k e. list_any (bytes_eq (g.E.Named.named e)) (l.initial.names ++ take k (map g.E.Named.named l.entries))) l.k (drop l.k l.entries);
}
