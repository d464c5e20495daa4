use Rattle.std.proofs.Common.{◌<◌, None, length, get_or, arith}
use Rattle.std.proofs.lemmas.List.{get_or_default}
use Rattle.std.proofs.lemmas.List.Edits.{map_over_more}
use Rattle.cpa_model.specs.Clocks.{renewed}
use Rattle.cpa_model.proofs.clocks.renew.Goals as goal

pub loop-entry-preserved : goal.loop-entry-preserved
loop-entry-preserved c =
    let within : c.loop-entry.entry-index < length c.loop-entry.kept = omega arith in
    let x = get_or c.loop-entry.kept c.loop-entry.entry-index None in
    rw (c.renewed.ensures)
    (map_over_more (renewed c.args.clock.0 c.args.cycle) c.args.kept.now c.loop-entry.kept c.loop-entry.entry-index x (omega arith) c.loop-entry.invariant
    (get_or_default c.loop-entry.kept c.loop-entry.entry-index None x within))
