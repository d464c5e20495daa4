use Rattle.std.proofs.Common.{◌≡◌, ◌++◌, true, false, map, take, arith}
use Rattle.std.specs.List.{list_any}
use Rattle.std.specs.Str.{bytes_eq}
use Rattle.cpa_draft.specs.First.{first_known}
use Rattle.cpa_draft.proofs.FirstLemmas.{stops_at, goes_past, finds_none, names_more}
use Rattle.cpa_draft.proofs.names.add_names.Goals as goal

pub returns-then-not-branch-clause-place : goal.returns-then-not-branch-clause-place
unfolding first_known
returns-then-not-branch-clause-place g c =
    let marked : list_any (bytes_eq (g.E.Named.named c.index-entries-k.result)) (c.args.names.now ++ take c.loop-k.k (map g.E.Named.named c.args.entries.now)) ≡ true =
    rw (← c.loop-k.invariant.added, ← c.name.ensures) (c.in_ok-add.ensures.known cc) in
    stops_at _ c.args.entries.now c.loop-k.k c.loop-k.invariant.rest c.index-entries-k.result (omega arith) c.index-entries-k.is marked

pub loop-k-preserved : goal.loop-k-preserved
loop-k-preserved g c =
    let marked : list_any (bytes_eq (g.E.Named.named c.index-entries-k.result)) (c.args.names.now ++ take c.loop-k.k (map g.E.Named.named c.args.entries.now)) ≡ false =
    rw (← c.loop-k.invariant.added, ← c.name.ensures) (c.in_ok-add.ensures.new cc) in
    let more = names_more g.E.Named.named c.args.names.now c.args.entries.now c.loop-k.k c.index-entries-k.result (omega arith) c.index-entries-k.is in
    record {
      added = rw (c.loop-k.invariant.added, c.name.ensures, more) at (c.in_ok-add.ensures.added cc);
      rest = goes_past _ c.args.entries.now c.loop-k.k c.loop-k.invariant.rest c.index-entries-k.result (omega arith) c.index-entries-k.is marked;
    }

pub returns-clause-place : goal.returns-clause-place
unfolding first_known
returns-clause-place g c = finds_none _ c.args.entries.now c.loop-k.k c.loop-k.invariant.rest (omega arith)
