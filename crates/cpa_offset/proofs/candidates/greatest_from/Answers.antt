use Rattle.std.proofs.Common.{◌≡◌, inl, inr, arith}
use Rattle.std.proofs.lemmas.Bool.{cases_lt}
use Rattle.cpa_units.specs.Bounds.{IsAtMost, bound_max, greatest_of}
use Rattle.cpa_units.proofs.BoundLaws.{IsAtMost_refl, IsAtMost_trans, le-bound_max_left, le-bound_max_right, bound_max-le, le-greatest_of}
use Rattle.cpa_phase.proofs.CandidateLaws.{first_candidate, next_candidate, none_between, none_before}
use Rattle.cpa_offset.proofs.candidates.greatest_from.Goals as goal

pub loop-x-init : goal.loop-x-init
loop-x-init g c =
    let regular = c.requires.stream.placed.stream.regular in
    record {
      start = rw c.phase-x.ensures.value (first_candidate c.args.stream.now regular);
      some = omega arith;
      near = omega (arith, c.phase-x.ensures.less, c.requires.some);
      more = IsAtMost_refl c.args.before;
      looked_at = λ y some before le there. absurd (none_before c.args.stream.now y regular some (omega (arith, before, c.phase-x.ensures.value)) there);
      known = c.requires.known;
      most = c.requires.before;
    }

pub loop-x-preserved : goal.loop-x-preserved
loop-x-preserved g c =
    let l = c.loop-x in
    let bound = g.B.FromMoment.bound c.args.bounds.now in
    let regular = c.requires.stream.placed.stream.regular in
    let here : c.in_ok-here.here ≡ bound l.x = c.in_ok-here.ensures.value in
    let whole : c.max-greatest.result ≡ bound_max l.greatest c.in_ok-here.here = c.max-greatest.ensures in
    let grown : IsAtMost l.greatest c.max-greatest.result = rw whole (le-bound_max_left l.greatest c.in_ok-here.here) in
    let reached : IsAtMost (bound l.x) c.max-greatest.result = rw (whole, ← here) (le-bound_max_right l.greatest c.in_ok-here.here) in
    record {
      start = next_candidate c.args.stream.now l.x regular l.invariant.start;
      some = omega (arith, l.invariant.some);
      near = omega (arith, c.loop-x-test.true);
      more = IsAtMost_trans c.args.before l.greatest c.max-greatest.result l.invariant.more grown;
      looked_at = λ y some before le there. elim (cases_lt y l.x) [
        | inl earlier ↦ IsAtMost_trans (bound y) l.greatest c.max-greatest.result (l.invariant.looked_at y some earlier le there) grown
        | inr late ↦ elim (cases_lt l.x y) [
          | inl between ↦ absurd (none_between c.args.stream.now l.x y regular l.invariant.start between before there)
          | inr now ↦ let same : y ≡ l.x = omega arith in rw same reached
        ]
      ];
      known = c.in_ok-here.ensures.known;
      most = rw whole (bound_max-le l.greatest c.in_ok-here.here (greatest_of bound c.args.cycle) l.invariant.most
          (rw here (le-greatest_of bound c.args.cycle l.x l.invariant.some (omega (arith, c.loop-x-test.true)))));
    }
