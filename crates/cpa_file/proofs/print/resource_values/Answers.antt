use Rattle.std.proofs.Common.{◌≡◌, ◌∙◌, ap, map, length, arith}
use Rattle.std.specs.List.{range_with_len}
use Rattle.toml.specs.View.{view}
use Rattle.cpa_units.proofs.PlaceLaws.{map-all_places}
use Rattle.cpa_model.specs.SystemLists.{resource_at, no_resource}
use Rattle.cpa_file.specs.Printed.{resource_data}
use Rattle.cpa_file.proofs.StepLaws.{push-placed}
use Rattle.cpa_file.proofs.print.resource_values.Goals as goal

pub loop-k-preserved : goal.loop-k-preserved
loop-k-preserved c =
    push-placed view (λ i. resource_data (resource_at c.args.system.now i)) c.loop-k.values.items c.push.new.self.items c.in_ok-resource_value.field-0 c.loop-k.k
    c.in_ok-push.ensures.items (c.in_ok-resource_value.ensures ∙ ap resource_data c.resource.ensures.value) c.loop-k.invariant

pub returns-clause-value : goal.returns-clause-value
returns-clause-value c =
    let end : c.loop-k.k ≡ length c.args.system.now.resources = omega arith in
    c.loop-k.invariant ∙ ap (λ n. map (λ i. resource_data (resource_at c.args.system.now i)) (range_with_len 0 n)) end ∙ map-all_places resource_data c.args.system.now.resources no_resource
