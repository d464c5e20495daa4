use Rattle.std.proofs.Common.{◌≡◌, ◌∙◌, ap, map, length, arith}
use Rattle.std.specs.List.{range_with_len}
use Rattle.toml.specs.View.{view}
use Rattle.cpa_units.proofs.PlaceLaws.{map-all_places}
use Rattle.cpa_model.specs.SystemLists.{source_at, no_source}
use Rattle.cpa_file.specs.Printed.{source_data}
use Rattle.cpa_file.proofs.StepLaws.{push-placed}
use Rattle.cpa_file.proofs.print.source_values.Goals as goal

pub loop-k-preserved : goal.loop-k-preserved
loop-k-preserved c =
    push-placed view (λ i. source_data (source_at c.args.system.now i)) c.loop-k.values.items c.push.new.self.items c.in_ok-source_value.field-0 c.loop-k.k
    c.in_ok-push.ensures.items (c.in_ok-source_value.ensures ∙ ap source_data c.source.ensures.value) c.loop-k.invariant

pub returns : goal.returns
returns c =
    let end : c.loop-k.k ≡ length c.args.system.now.sources = omega arith in
    c.loop-k.invariant ∙ ap (λ n. map (λ i. source_data (source_at c.args.system.now i)) (range_with_len 0 n)) end ∙ map-all_places source_data c.args.system.now.sources no_source
