use Rattle.std.proofs.Common.{sym}
use Rattle.cpa_units.proofs.PlaceLaws.{map-places_more}
use Rattle.cpa_model.specs.SystemLists.{is_on}
use Rattle.cpa_assign.proofs.order.marks_of.Goals as goal

pub loop-k-preserved : goal.loop-k-preserved
loop-k-preserved c =
    rw (c.in_ok-push.ensures.items, c.loop-k.invariant, c.task.ensures.value) (sym (map-places_more (is_on c.args.system.now c.args.res.0) c.loop-k.k))
