use Rattle.std.proofs.Common.{arith}
use Rattle.cpa_units.proofs.BoundLaws.{IsAtMost_trans, IsAtMost_antisymm}
use Rattle.cpa_units.specs.Bounds.{IsAtMost, greatest_of}
use Rattle.cpa_phase.proofs.CandidateLaws.{each_more}
use Rattle.cpa_phase.proofs.RangeLaws.{on_all, first_or_rest}
use Rattle.cpa_offset.specs.Candidates.{IsGreatestFromCandidates}
use Rattle.cpa_offset.proofs.CandidateLaws.{greatest_from_candidates-le}
use Rattle.cpa_offset.proofs.candidates.greatest_from_candidates.Goals as goal

pub greatest_from-requires-clause-known : goal.greatest_from-requires-clause-known
greatest_from-requires-clause-known g c = c.new-known.ensures (g.B.FromMoment.clocks c.args.bounds.now)

pub loop-stream-preserved : goal.loop-stream-preserved
loop-stream-preserved g c =
    let l = c.loop-stream in
    let bound = g.B.FromMoment.bound c.args.bounds.now in
    let now = c.in_ok-greatest-2.greatest in
    let grown : IsAtMost l.greatest now = c.in_ok-greatest-2.ensures.more in
    record {
      own = λ x some le start. IsAtMost_trans (bound x) l.greatest now (l.invariant.own x some le start) grown;
      looked_at = each_more (λ p. IsGreatestFromCandidates bound c.args.cycle p now) c.args.joint.now l.stream-index _ c.loop-stream-test.true
          (λ k d less x some le start. IsAtMost_trans (bound x) l.greatest now (l.invariant.looked_at k d less x some le start) grown) c.in_ok-greatest-2.ensures.candidates;
      known = c.in_ok-greatest-2.ensures.known;
      most = c.in_ok-greatest-2.ensures.most;
    }

pub returns : goal.returns
returns g c =
    let l = c.loop-stream in
    let bound = g.B.FromMoment.bound c.args.bounds.now in
    IsAtMost_antisymm l.greatest (greatest_of bound c.args.cycle) l.invariant.most
    (greatest_from_candidates-le bound c.args.own.now c.args.joint.now c.args.cycle l.greatest c.requires.nearer c.requires.some (on_all c.args.own.now c.args.joint.now c.args.cycle c.requires.own c.requires.joint)
    (λ k y less some le start.
    first_or_rest (λ p. IsGreatestFromCandidates bound c.args.cycle p l.greatest) c.args.own.now c.args.own.now c.args.joint.now l.invariant.own
    (λ j there. l.invariant.looked_at j c.args.own.now (omega (arith, there, c.loop-stream-test.false))) k less y some le start))
