use Rattle.std.proofs.Common.{◌≤◌, arith}
use Rattle.std.proofs.Math.Nat.{le_trans}
use Rattle.cpa_phase.specs.declared.placed.Placed.{Placed}
use Rattle.cpa_phase.specs.Clocks.{clock_work, IsMostFromCandidates}
use Rattle.cpa_phase.proofs.CandidateLaws.{each_more}
use Rattle.cpa_phase.proofs.WorkLaws.{clock_work-le}
use Rattle.cpa_phase.proofs.clock.clock_work.Goals as goal

pub loop-stream-preserved : goal.loop-stream-preserved
loop-stream-preserved c =
    let l = c.loop-stream in
    let e = c.deref-stream-items.ensures.value in
    let here = rw e at c.most_from_candidates-most.ensures.candidates in
    record {
      looked_at = each_more (λ p. IsMostFromCandidates c.args.clock.now c.args.window p c.most_from_candidates-most.result) c.args.clock.now.streams.items l.stream-index _ (rw (← e) c.loop-stream-test.true)
          (λ k d less x some le start. le_trans (l.invariant.looked_at k d less x some le start) c.most_from_candidates-most.ensures.more) here;
      most = c.most_from_candidates-most.ensures.most;
      small = c.most_from_candidates-most.ensures.small;
    }

pub returns-clause-value : goal.returns-clause-value
returns-clause-value c =
    let l = c.loop-stream in
    let d : Placed = record { stream = record { period = 0; jitter = 0; distance = 0 }; offset = 0; worst = 0 } in
    let most : clock_work c.args.clock.now.streams.items c.args.clock.now.cycle c.args.window ≤ l.most =
    clock_work-le d c.args.clock.now.streams.items c.args.clock.now.cycle c.args.window l.most c.requires.clock.some c.requires.clock.whole
    (λ k x less some le start. l.invariant.looked_at k d (omega (arith, c.loop-stream-test.false, less, rw c.deref-stream-items.ensures.value at c.loop-stream-test.false)) x some le start)
    in
    omega (arith, most, l.invariant.most)
