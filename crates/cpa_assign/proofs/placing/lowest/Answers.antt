use Rattle.std.proofs.Common.{◌∙◌, sym}
use Rattle.std.proofs.lemmas.Bool.{false≢true}
use Rattle.cpa_units.specs.Sets.{holds}
use Rattle.cpa_assign.proofs.PlacingLaws.{none-more}
use Rattle.cpa_assign.proofs.placing.lowest.Goals as goal
use Rattle.cpa_assign.proofs.placing.lowest.Goals.{else-free-k-via-then-free-k+in_ok-is_lowest_in_time+else-branch, else-free-k-via-else-free-k}

pub loop-k-preserved : goal.loop-k-preserved
loop-k-preserved c =
    let more = none-more c.args.system.now c.args.res.0 (holds c.args.free.now) c.loop-k.k c.loop-k.invariant.none in
    elim c.else-free-k.branch [
      | else-free-k-via-then-free-k+in_ok-is_lowest_in_time+else-branch w ↦
          record { none = more (λ is_free fits. false≢true (sym w.if-branch.false ∙ w.in_ok-is_lowest_in_time.ensures.value.1 fits)); room = rw w.room-is w.in_ok-is_lowest_in_time.ensures.room }
      | else-free-k-via-else-free-k w ↦
          record { none = more (λ is_free. absurd (false≢true (sym w.if-free-k.false ∙ is_free))); room = rw w.room-is c.loop-k.invariant.room }
    ]
