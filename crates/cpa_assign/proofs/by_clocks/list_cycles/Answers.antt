use Rattle.std.proofs.Common.{◌∙◌, ◌++◌, ◌∷◌, [], map, ap}
use Rattle.std.specs.List.{range_with_len}
use Rattle.cpa_model.specs.Clocks.{clock_cycle}
use Rattle.cpa_local.proofs.ClockedInputs.{cycles-more}
use Rattle.cpa_assign.proofs.by_clocks.list_cycles.Goals as goal

pub loop-place-preserved : goal.loop-place-preserved
loop-place-preserved c =
    let s = c.args.system.now in
    let k = c.loop-place.place in
    c.in_ok-push.ensures.items
    ∙ (ap (λ cs. cs ++ c.cycle_of.result ∷ []) c.loop-place.invariant ∙ (ap (λ n. map (clock_cycle s) (range_with_len 0 k) ++ n ∷ []) c.cycle_of.ensures ∙ cycles-more s k))
