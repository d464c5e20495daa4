use Rattle.std.proofs.Common.{◌∙◌, ◌+◌, ap, refl, arith}
use Rattle.cpa_audit.specs.Segments.{segments}
use Rattle.cpa_audit.specs.Auditing.{open_at}
use Rattle.cpa_audit.proofs.RunLaws.{closing-none, closing-more, closing-all, count-none}
use Rattle.cpa_audit.proofs.auditing.close_all.Goals as goal

pub loop-k-init : goal.loop-k-init
loop-k-init c = record { count = refl; closing = closing-none c.args.system.now c.args.trace.now c.args.schedule.now c.args.end c.args.so_far.now.opens.items c.args.so_far.now.count c.args.so_far.now.first c.requires.end c.requires.followed }

pub follow-requires-clause-there : goal.follow-requires-clause-there
follow-requires-clause-there c = omega (arith, c.loop-k.invariant.closing.long, c.loop-k-test.true, c.resources-k-end.ensures.count)

pub follow-requires-clause-few : goal.follow-requires-clause-few
follow-requires-clause-few c = omega (arith, c.loop-k.invariant.count, c.requires.few)

pub loop-k-preserved : goal.loop-k-preserved
loop-k-preserved c =
    record {
      count = c.follow.ensures.count ∙ (ap (λ n. c.loop-k.so_far.count + n) (count-none (open_at c.loop-k.so_far.opens.items c.loop-k.k)) ∙ omega (arith, c.loop-k.invariant.count));
      closing = closing-more c.args.system.now c.args.trace.now c.args.schedule.now (segments c.args.system.now c.args.trace.now) c.loop-k.k c.args.end c.loop-k.so_far.count c.loop-k.so_far.opens.items c.follow.new.so_far.opens.items
          c.loop-k.so_far.first c.follow.new.so_far.first c.requires.end c.loop-k.invariant.closing c.follow.ensures.long c.follow.ensures.opens c.follow.ensures.first;
    }

pub returns-clause-first : goal.returns-clause-first
returns-clause-first c =
    closing-all c.args.system.now c.args.trace.now c.args.schedule.now (segments c.args.system.now c.args.trace.now) c.loop-k.k c.args.end c.loop-k.so_far.opens.items c.loop-k.so_far.first
    (omega (arith, c.loop-k-test.false, c.resources-k-end.ensures.count)) c.loop-k.invariant.closing
