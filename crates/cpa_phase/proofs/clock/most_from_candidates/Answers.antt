use Rattle.std.proofs.Common.{◌≡◌, ◌≤◌, refl, ◌∙◌, inl, inr, arith}
use Rattle.std.proofs.lemmas.Bool.{cases_lt}
use Rattle.cpa_phase.specs.Streams.{work_from}
use Rattle.cpa_phase.specs.Clocks.{clock_work}
use Rattle.cpa_phase.proofs.CandidateLaws.{first_candidate, next_candidate, none_between, none_before}
use Rattle.cpa_phase.proofs.WorkLaws.{le-most_of}
use Rattle.cpa_phase.proofs.clock.most_from_candidates.Goals as goal

pub loop-x-init : goal.loop-x-init
loop-x-init c =
    let regular = c.requires.stream.placed.stream.regular in
    record {
      start = rw c.phase-x.ensures.value (first_candidate c.args.stream.now regular);
      some = omega arith;
      near = omega (arith, c.phase-x.ensures.less, c.requires.clock.some);
      more = omega arith;
      looked_at = λ y some before le there. absurd (none_before c.args.stream.now y regular some (omega (arith, before, c.phase-x.ensures.value)) there);
      most = c.requires.before;
      small = c.requires.small;
    }

pub loop-x-preserved : goal.loop-x-preserved
loop-x-preserved c =
    let l = c.loop-x in
    let regular = c.requires.stream.placed.stream.regular in
    let here : c.work_from.result ≡ work_from c.args.clock.now.streams.items l.x c.args.window = c.work_from.ensures.value ∙ rw c.deref.ensures.value refl in
    let below : c.work_from.result ≤ clock_work c.args.clock.now.streams.items c.args.clock.now.cycle c.args.window =
    rw here (le-most_of (λ x. work_from c.args.clock.now.streams.items x c.args.window) c.args.clock.now.cycle l.x l.invariant.some (omega (arith, c.loop-x-test.true)))
    in
    record {
      start = next_candidate c.args.stream.now l.x regular l.invariant.start;
      some = omega (arith, l.invariant.some);
      near = omega (arith, c.loop-x-test.true);
      more = omega (arith, c.max-most.ensures, l.invariant.more);
      looked_at = λ y some before le there. elim (cases_lt y l.x) [
        | inl earlier ↦ let old = l.invariant.looked_at y some earlier le there in omega (arith, c.max-most.ensures, old)
        | inr late ↦ elim (cases_lt l.x y) [
          | inl between ↦ absurd (none_between c.args.stream.now l.x y regular l.invariant.start between before there)
          | inr now ↦
              let same : y ≡ l.x = omega arith in
              rw same (omega (arith, c.max-most.ensures, here))
        ]
      ];
      most = omega (arith, c.max-most.ensures, below, l.invariant.most);
      small = omega (arith, c.max-most.ensures, c.work_from.ensures.small, l.invariant.small);
    }
