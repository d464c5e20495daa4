use Rattle.std.proofs.Common.{◌≡◌, ◌∙◌, [], ◌++◌, true, false, not, map, take, sym, arith}
use Rattle.std.specs.List.{list_any}
use Rattle.std.specs.Str.{bytes_eq}
use Rattle.cpa_draft.specs.First.{first_known}
use Rattle.cpa_draft.proofs.FirstLemmas.{stops_at, goes_past, finds_none, names_more}
use Rattle.cpa_draft.proofs.ListLaws.{not-true, not-false}
use Rattle.cpa_effect_files.specs.declared.draft.DraftChain.{DraftChain}
use Rattle.cpa_effect_files.specs.Keys.{names_of}
use Rattle.cpa_effect_files.proofs.refusals.first_known.Goals as goal

pub returns-then-not-branch-clause-place : goal.returns-then-not-branch-clause-place
unfolding first_known
returns-then-not-branch-clause-place c =
    let name = λ (d : DraftChain). d.name in
    let known : false ≡ not (list_any (bytes_eq c.index-chains-k.result.name) (names_of c.loop-k.names.keys)) = rw (← c.bytes.ensures) (cc c.in_ok-add_name.ensures.new) in
    let marked : list_any (bytes_eq c.index-chains-k.result.name) ([] ++ take c.loop-k.k (map name c.args.chains.now)) ≡ true =
    rw (← c.loop-k.invariant.added) (not-false _ (sym known)) in
    stops_at _ c.args.chains.now c.loop-k.k c.loop-k.invariant.rest c.index-chains-k.result (omega arith) c.index-chains-k.is marked

pub loop-k-preserved : goal.loop-k-preserved
loop-k-preserved c =
    let name = λ (d : DraftChain). d.name in
    let new : true ≡ not (list_any (bytes_eq c.index-chains-k.result.name) (names_of c.loop-k.names.keys)) = rw (← c.bytes.ensures) (cc c.in_ok-add_name.ensures.new) in
    let marked : list_any (bytes_eq c.index-chains-k.result.name) ([] ++ take c.loop-k.k (map name c.args.chains.now)) ≡ false =
    rw (← c.loop-k.invariant.added) (not-true _ (sym new)) in
    let more = names_more name [] c.args.chains.now c.loop-k.k c.index-chains-k.result (omega arith) c.index-chains-k.is in
    record {
      added = c.in_ok-add_name.ensures.added (cc) ∙ rw (c.loop-k.invariant.added, c.bytes.ensures) more;
      rest = goes_past _ c.args.chains.now c.loop-k.k c.loop-k.invariant.rest c.index-chains-k.result (omega arith) c.index-chains-k.is marked;
    }

pub returns-clause-place : goal.returns-clause-place
unfolding first_known
returns-clause-place c = finds_none _ c.args.chains.now c.loop-k.k c.loop-k.invariant.rest (omega arith)
