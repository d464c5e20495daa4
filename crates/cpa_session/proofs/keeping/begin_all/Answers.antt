use Rattle.std.proofs.Common.{arith}
use Rattle.cpa_session.proofs.AnewLaws.{anew-jump, anew-more, anew-past, anew-end}
use Rattle.cpa_session.proofs.keeping.begin_all.Goals as goal
use Rattle.cpa_session.proofs.keeping.begin_all.Goals.{then-res-count, else-res-count}

pub members-preserved : goal.members-preserved
members-preserved c =
    let s = c.args.system.now in
    let next = c.in-Some.ensures in
    let place = c.in-Some.res.0 in
    let here = anew-jump s c.args.reset c.args.y.now c.members.y c.members.from place next.past next.first c.members.invariant.anew in
    record {
      small = omega (arith, next.small);
      anew = elim c.if-res-count.branch [
        | then-res-count w ↦ rw w.y-is (anew-more s c.args.reset c.args.y.now c.members.y w.begin_anew.new.y place next.member w.begin_anew.ensures here)
        | else-res-count w ↦ rw w.y-is (anew-past s c.args.reset c.args.y.now c.members.y place c.resources-count.ensures.rules (omega (arith, w.if-res-count.false, c.resources-count.ensures.count)) here)
      ];
    }

pub returns : goal.returns
returns c =
    anew-end c.args.system.now c.args.reset c.args.y.now c.members.y c.members.from c.resources-count.ensures.rules c.requires c.in_default.ensures c.members.invariant.anew
