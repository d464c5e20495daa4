use Rattle.std.proofs.Common.{◌≡◌, ◌∙◌, [], ◌∷◌, map, true, false, sym, arith}
use Rattle.std.specs.Prelude.{filter}
use Rattle.std.proofs.lemmas.List.{length-append}
use Rattle.cpa_units.specs.Sets.{holds}
use Rattle.cpa_units.proofs.PlaceLaws.{places, passing-places_more, failing-places_more}
use Rattle.cpa_assign.specs.Placing.{clocked_rival_at, without}
use Rattle.cpa_assign.proofs.PlacingLaws.{without-other}
use Rattle.cpa_assign.proofs.CountLaws.{few-found, few-left, few-begin}
use Rattle.cpa_assign.proofs.by_clocks.gather_by_clocks.Goals as goal
use Rattle.cpa_assign.proofs.by_clocks.gather_by_clocks.Goals.{then-stands_above+in_ok-add_rival, else-stands_above}

pub loop-k-init : goal.loop-k-init
loop-k-init c =
    let begun = c.begin.ensures c.args.cycles.now in
    record { found = begun; few = few-begin c.begin.new.self.added c.args.task.0 begun.count }

pub loop-k-preserved : goal.loop-k-preserved
loop-k-preserved c =
    let s = c.args.system.now in
    let test = without (holds c.args.free.now) c.args.task.0 in
    let rivals = map (clocked_rival_at s) (filter test (places c.loop-k.k)) in
    elim c.if-stands_above.branch [
      | then-stands_above+in_ok-add_rival w ↦
          let chosen : test c.loop-k.k ≡ true = sym c.stands_above.ensures ∙ w.if-stands_above.true in
          let added = w.in_ok-add_rival.ensures c.args.own rivals c.loop-k.invariant.found in
          let before = c.loop-k.invariant.found.count in
          let long = length-append rivals (clocked_rival_at s c.loop-k.k ∷ []) in
          let few = few-found c.loop-k.gathered.added c.args.task.0 c.loop-k.k (without-other (holds c.args.free.now) c.args.task.0 c.loop-k.k chosen) c.loop-k.invariant.few in
          record {
            found = rw (w.gathered-is, passing-places_more (clocked_rival_at s) test c.loop-k.k chosen) added;
            few = rw w.gathered-is (omega (arith, added.count, before, long, few));
          }
      | else-stands_above w ↦
          let left : test c.loop-k.k ≡ false = sym c.stands_above.ensures ∙ w.if-stands_above.false in
          record {
            found = rw (w.gathered-is, failing-places_more (clocked_rival_at s) test c.loop-k.k left) c.loop-k.invariant.found;
            few = rw w.gathered-is (few-left _ c.args.task.0 c.loop-k.k c.loop-k.invariant.few);
          }
    ]
