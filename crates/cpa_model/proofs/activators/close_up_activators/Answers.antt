use Rattle.std.proofs.Common.{◌<◌, length, get_or, arith}
use Rattle.std.proofs.lemmas.List.{get_or_default}
use Rattle.std.proofs.lemmas.List.Edits.{map_over_more}
use Rattle.cpa_model.specs.Changes.{activator_without}
use Rattle.cpa_model.specs.declared.entries.Activator.TheVariants.{Source}
use Rattle.cpa_model.proofs.activators.close_up_activators.Goals as goal

pub loop-after-preserved : goal.loop-after-preserved
loop-after-preserved c =
    let within : c.loop-after.after-index < length c.loop-after.list = omega arith in
    let x = get_or c.loop-after.list c.loop-after.after-index (Source (record { 0 = 0 })) in
    rw (c.activator_without.ensures)
    (map_over_more (activator_without c.args.removed.0) c.args.list.now c.loop-after.list c.loop-after.after-index x (omega arith) c.loop-after.invariant
    (get_or_default c.loop-after.list c.loop-after.after-index (Source (record { 0 = 0 })) x within))
