use Rattle.std.proofs.Common.{◌≤◌, ◌∙◌, arith, map, length}
use Rattle.std.proofs.lemmas.List.{length-map, take_all}
use Rattle.cpa_model.specs.SystemLists.{no_source}
use Rattle.cpa_model.specs.declared.entries.Source.{Source}
use Rattle.cpa_trace.proofs.NameLaws.{differ-left, is-new, next-name}
use Rattle.cpa_trace.proofs.index.source_names.Goals as goal

pub add-requires : goal.add-requires
add-requires c =
    rw (c.loop-k.invariant, c.bytes.ensures.value, c.source.ensures.value)
    (is-new (λ (r : Source). r.name) c.args.system.now.sources c.loop-k.k no_source (differ-left _ _ c.sources-k-end.ensures.rules.activity_names) (omega arith))

pub loop-k-preserved : goal.loop-k-preserved
loop-k-preserved c =
    c.in_ok-add.ensures
    ∙ rw (c.loop-k.invariant, c.bytes.ensures.value, c.source.ensures.value) (next-name (λ (r : Source). r.name) c.args.system.now.sources c.loop-k.k no_source (omega arith))

pub loop-k-init : goal.loop-k-init
loop-k-init c = c.new-names.ensures

pub returns : goal.returns
returns c =
    let all : length (map (λ (r : Source). r.name) c.args.system.now.sources) ≤ c.loop-k.k = rw (length-map) (omega (arith, c.sources-k-end.ensures.count, c.loop-k-test.false)) in
    c.loop-k.invariant ∙ take_all c.loop-k.k _ all
