use Rattle.std.proofs.Common.{◌≡◌, ◌∙◌, ℕ, Bool, true, false, refl, sym}
use Rattle.std.specs.Prelude.{filter}
use Rattle.cpa_units.specs.Sets.{holds}
use Rattle.cpa_units.proofs.PlaceLaws.{places}
use Rattle.cpa_local.proofs.BlockingLaws.{greatest-push}
use Rattle.cpa_assign.proofs.CountLaws.{passing-more, failing-more}
use Rattle.cpa_assign.specs.Placing.{is_below, placed_between, without}
use Rattle.cpa_assign.proofs.below.blocking.Goals as goal
use Rattle.cpa_assign.proofs.below.blocking.Goals.{then-stands_below, else-stands_below}

pub loop-k-preserved : goal.loop-k-preserved
loop-k-preserved c =
    let above : ℕ → Bool = without (holds c.args.free.now) c.args.task.0 in
    let test : ℕ → Bool = is_below c.args.system.now c.args.res.0 above c.args.task.0 in
    let held : ℕ → ℕ = placed_between c.args.system.now c.args.res.0 above c.args.task.0 c.args.kind in
    elim c.if-stands_below.branch [
      | then-stands_below w ↦
          let lower : test c.loop-k.k ≡ true = sym c.stands_below.ensures ∙ w.if-stands_below.true in
          record {
            found = rw (w.most-is, w.most_with_task-most.ensures.value, c.loop-k.invariant.found, passing-more test c.loop-k.k lower) (sym (greatest-push held (filter test (places c.loop-k.k)) c.loop-k.k));
            small = rw w.most-is w.most_with_task-most.ensures.in_range;
          }
      | else-stands_below w ↦
          let higher : test c.loop-k.k ≡ false = sym c.stands_below.ensures ∙ w.if-stands_below.false in
          record {
            found = rw (w.most-is, c.loop-k.invariant.found, failing-more test c.loop-k.k higher) refl;
            small = rw w.most-is c.loop-k.invariant.small;
          }
    ]
