use Rattle.std.proofs.Common.{◌≤◌, ◌∙◌, arith, map, length}
use Rattle.std.proofs.lemmas.List.{length-map, take_all}
use Rattle.cpa_model.specs.SystemLists.{no_resource}
use Rattle.cpa_model.specs.declared.entries.Resource.{Resource}
use Rattle.cpa_trace.proofs.NameLaws.{is-new, next-name}
use Rattle.cpa_trace.proofs.index.resource_names.Goals as goal

pub add-requires : goal.add-requires
add-requires c =
    rw (c.loop-k.invariant, c.bytes.ensures.value, c.resource.ensures.value)
    (is-new (λ (r : Resource). r.name) c.args.system.now.resources c.loop-k.k no_resource (c.resources-k-end.ensures.rules.resource_names) (omega arith))

pub loop-k-preserved : goal.loop-k-preserved
loop-k-preserved c =
    c.in_ok-add.ensures
    ∙ rw (c.loop-k.invariant, c.bytes.ensures.value, c.resource.ensures.value) (next-name (λ (r : Resource). r.name) c.args.system.now.resources c.loop-k.k no_resource (omega arith))

pub loop-k-init : goal.loop-k-init
loop-k-init c = c.new-names.ensures

pub returns : goal.returns
returns c =
    let all : length (map (λ (r : Resource). r.name) c.args.system.now.resources) ≤ c.loop-k.k = rw (length-map) (omega (arith, c.resources-k-end.ensures.count, c.loop-k-test.false)) in
    c.loop-k.invariant ∙ take_all c.loop-k.k _ all
