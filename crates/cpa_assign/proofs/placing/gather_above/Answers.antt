use Rattle.std.proofs.Common.{◌≡◌, ◌∙◌, true, false, sym}
use Rattle.std.proofs.lemmas.List.Elements.{All-push}
use Rattle.cpa_units.proofs.PlaceLaws.{passing-places_more, failing-places_more}
use Rattle.cpa_window.specs.Rivals.{IsRival}
use Rattle.cpa_units.specs.Sets.{holds}
use Rattle.cpa_assign.specs.Placing.{rival_at, without}
use Rattle.cpa_assign.proofs.PlacingLaws.{without-other}
use Rattle.cpa_assign.proofs.CountLaws.{few-found, few-left}
use Rattle.cpa_assign.proofs.placing.gather_above.Goals as goal
use Rattle.cpa_assign.proofs.placing.gather_above.Goals.{then-stands_above, else-stands_above}

pub loop-k-preserved : goal.loop-k-preserved
loop-k-preserved c =
    elim c.if-stands_above.branch [
      | then-stands_above w ↦
          let chosen : without (holds c.args.free.now) c.args.task.0 c.loop-k.k ≡ true = sym c.stands_above.ensures ∙ w.if-stands_above.true in
          record {
            found = rw (w.rivals-is, w.push_reserved.ensures.items, c.loop-k.invariant.found, w.rival.ensures.value)
                (sym (passing-places_more (rival_at c.args.system.now) (without (holds c.args.free.now) c.args.task.0) c.loop-k.k chosen));
            few = rw (w.rivals-is, w.push_reserved.ensures.len) (few-found _ c.args.task.0 c.loop-k.k (without-other (holds c.args.free.now) c.args.task.0 c.loop-k.k chosen) c.loop-k.invariant.few);
            each = rw (w.rivals-is, w.push_reserved.ensures.items) (All-push IsRival c.loop-k.rivals.items w.rival.result c.loop-k.invariant.each w.rival.ensures.in_range);
            room = rw (w.rivals-is, w.push_reserved.ensures.capacity) c.loop-k.invariant.room;
          }
      | else-stands_above w ↦
          let left : without (holds c.args.free.now) c.args.task.0 c.loop-k.k ≡ false = sym c.stands_above.ensures ∙ w.if-stands_above.false in
          record {
            found = rw (w.rivals-is, c.loop-k.invariant.found)
                (sym (failing-places_more (rival_at c.args.system.now) (without (holds c.args.free.now) c.args.task.0) c.loop-k.k left));
            few = rw w.rivals-is (few-left _ c.args.task.0 c.loop-k.k c.loop-k.invariant.few);
            each = rw w.rivals-is c.loop-k.invariant.each;
            room = rw w.rivals-is c.loop-k.invariant.room;
          }
    ]
