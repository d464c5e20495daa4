use Rattle.std.proofs.Common.{◌≡◌, ◌+◌, ◌++◌, ◌∷◌, [], take, true, false, not, ◌∙◌, sym, ap, refl, arith}
use Rattle.std.proofs.lemmas.List.{take_more}
use Rattle.cpa_draft.specs.Clocks.{is_overlong, AreMeasured}
use Rattle.cpa_draft.proofs.ListLaws.{not-true, not-false}
use Rattle.cpa_draft.proofs.FirstLemmas.{stops_at, goes_past, finds_none}
use Rattle.cpa_draft.proofs.ClockSources.{measured-none}
use Rattle.cpa_draft.proofs.clocks.first_overlong.Goals as goal

pub loop-k-init : goal.loop-k-init
loop-k-init c = record { measured = rw (c.new-clocks.ensures) measured-none; rest = refl }

pub returns-then-not-branch-clause-place : goal.returns-then-not-branch-clause-place
returns-then-not-branch-clause-place c =
    let r = c.index-sources-k.result in
    let more : take (c.loop-k.k + 1) c.args.sources.now ≡ take c.loop-k.k c.args.sources.now ++ r ∷ [] =
    take_more c.args.sources.now c.loop-k.k r (omega arith) ∙ ap (λ x. take c.loop-k.k c.args.sources.now ++ x ∷ []) (sym c.index-sources-k.is) in
    let told : c.in_ok-add.field-0 ≡ not (is_overlong r.clock (take c.loop-k.k c.args.sources.now ++ r ∷ [])) =
    c.in_ok-add.ensures.told (take c.loop-k.k c.args.sources.now) c.loop-k.invariant.measured in
    let marked : is_overlong r.clock (take (c.loop-k.k + 1) c.args.sources.now) ≡ true =
    rw more (not-false _ (sym told ∙ c.if-not-branch.true)) in
    stops_at _ c.args.sources.now c.loop-k.k c.loop-k.invariant.rest r (omega arith) c.index-sources-k.is marked

pub loop-k-preserved : goal.loop-k-preserved
loop-k-preserved c =
    let r = c.index-sources-k.result in
    let more : take (c.loop-k.k + 1) c.args.sources.now ≡ take c.loop-k.k c.args.sources.now ++ r ∷ [] =
    take_more c.args.sources.now c.loop-k.k r (omega arith) ∙ ap (λ x. take c.loop-k.k c.args.sources.now ++ x ∷ []) (sym c.index-sources-k.is) in
    let told : c.in_ok-add.field-0 ≡ not (is_overlong r.clock (take c.loop-k.k c.args.sources.now ++ r ∷ [])) =
    c.in_ok-add.ensures.told (take c.loop-k.k c.args.sources.now) c.loop-k.invariant.measured in
    let added : AreMeasured (take c.loop-k.k c.args.sources.now ++ r ∷ []) c.add.new.self =
    c.in_ok-add.ensures.added (take c.loop-k.k c.args.sources.now) c.loop-k.invariant.measured cc in
    let unmarked : is_overlong r.clock (take (c.loop-k.k + 1) c.args.sources.now) ≡ false =
    rw more (not-true _ (sym told ∙ c.if-not-branch.false)) in
    record {
      measured = rw more added;
      rest = goes_past _ c.args.sources.now c.loop-k.k c.loop-k.invariant.rest r (omega arith) c.index-sources-k.is unmarked;
    }

pub returns-clause-place : goal.returns-clause-place
returns-clause-place c = finds_none _ c.args.sources.now c.loop-k.k c.loop-k.invariant.rest (omega arith)
