use Rattle.std.proofs.Common.{◌≡◌, ◌∙◌, ◌<◌, ◌≤◌, ℕ, Some, length, sym, subst, refl, inl, inr, arith}
use Rattle.std.proofs.lemmas.Bool.{cases_lt}
use Rattle.std.proofs.lemmas.List.{length-set}
use Rattle.std.proofs.lemmas.Option.{slice_get_read}
use Rattle.cpa_model.specs.SystemLists.{SystemLists}
use Rattle.cpa_sim.specs.Served.{served_at}
use Rattle.cpa_audit.specs.declared.schedule.Segment.{Segment}
use Rattle.cpa_audit.specs.Segments.{segment_at, starting}
use Rattle.cpa_call.proofs.SendLaws.{on-err-any}
use Rattle.cpa_segments.specs.Rows.{schedule_text}
use Rattle.cpa_segments.specs.Written.{IsWritten}
use Rattle.cpa_segments.proofs.WrittenLaws.{written-none, written-more, part-written}
use Rattle.cpa_segments.proofs.RowLaws.{rows_below, below-none, below-more, below-all, below-part, started-next}
use Rattle.cpa_segments.proofs.TrackingLaws.{all-first, all-at, all-more, all-all, tracking-there, tracking-back, starts-here}
use Rattle.cpa_segments.proofs.writing.Writing.write_moment.Goals as goal

pub loop-k-init : goal.loop-k-init
loop-k-init g c =
    let s = c.args.system.now in
    let tr = c.args.replay.now.trace in
    record {
      long = c.requires.long;
      tracking = all-first s tr c.args.time c.args.replay.now.time c.args.self.now.trackers.items c.requires.tracking;
      same = λ r u below low high. absurd (omega (arith, below));
      written = rw (below-none s tr c.args.time) (written-none (g.K.Sink.sent c.args.sink.now) c.args.self.now.unsent.items);
      rises = omega arith;
    }

pub follow-segment-requires-clause-tracking : goal.follow-segment-requires-clause-tracking
follow-segment-requires-clause-tracking g c =
    let s = c.args.system.now in
    let tr = c.args.replay.now.trace in
    let fs = c.loop-k.self.trackers.items in
    let f = c.index_mut.result.now in
    let at = slice_get_read fs (length fs) c.loop-k.k f refl (omega (arith, c.loop-k.invariant.long, c.loop-k-test.true, c.resources-k-end.ensures.count)) c.index_mut.ensures.value in
    tracking-there s tr c.loop-k.k c.args.time f (all-at s tr c.loop-k.k c.args.time c.args.replay.now.time fs f c.loop-k.invariant.tracking at)

pub put_segment-requires : goal.put_segment-requires
put_segment-requires g c =
    let s = c.args.system.now in
    let tr = c.args.replay.now.trace in
    let fs = c.loop-k.self.trackers.items in
    let f = c.index_mut.result.now in
    let at = slice_get_read fs (length fs) c.loop-k.k f refl (omega (arith, c.loop-k.invariant.long, c.loop-k-test.true, c.resources-k-end.ensures.count)) c.index_mut.ensures.value in
    let h = all-at s tr c.loop-k.k c.args.time c.args.replay.now.time fs f c.loop-k.invariant.tracking at in
    subst (λ (x : SystemLists). (seg : Segment) → c.follow-segment.result ≡ Some seg → seg.task.0 < length x.tasks) h.ahead.system c.follow-segment.ensures.task

pub returns-in_err-put_segment-clause-part : goal.returns-in_err-put_segment-clause-part
returns-in_err-put_segment-clause-part g c =
    let s = c.args.system.now in
    let tr = c.args.replay.now.trace in
    let t = c.args.time in
    let k = c.loop-k.k in
    let fs = c.loop-k.self.trackers.items in
    let f = c.index_mut.result.now in
    let there : c.loop-k.k < length c.args.system.now.resources = omega (arith, c.loop-k-test.true, c.resources-k-end.ensures.count) in
    let at = slice_get_read fs (length fs) k f refl (omega (arith, c.loop-k.invariant.long, there)) c.index_mut.ensures.value in
    let h = all-at s tr k t c.args.replay.now.time fs f c.loop-k.invariant.tracking at in
    let starts = starts-here s tr k t f c.follow-segment.result h c.follow-segment.ensures.starts in
    let part = below-part s tr t k there in
    on-err-any _ _
    (part-written (g.K.Sink.sent c.args.sink.now) (g.K.Sink.sent c.loop-k.sink) (g.K.Sink.sent c.put_segment.new.sink) c.args.self.now.unsent.items c.loop-k.self.unsent.items
    (rows_below s tr t k) (schedule_text s (segment_at s tr t k)) part.0 (schedule_text s (starting s tr t))
    c.loop-k.invariant.written (rw starts at c.in_err-put_segment.ensures.part) part.1)

pub loop-k-preserved : goal.loop-k-preserved
loop-k-preserved g c =
    let s = c.args.system.now in
    let tr = c.args.replay.now.trace in
    let t = c.args.time in
    let k = c.loop-k.k in
    let fs = c.loop-k.self.trackers.items in
    let f = c.index_mut.result.now in
    let ran = c.ran-ran.ensures in
    let there : c.loop-k.k < length c.args.system.now.resources = omega (arith, c.loop-k-test.true, c.resources-k-end.ensures.count) in
    let at = slice_get_read fs (length fs) k f refl (omega (arith, c.loop-k.invariant.long, there)) c.index_mut.ensures.value in
    let h = all-at s tr k t c.args.replay.now.time fs f c.loop-k.invariant.tracking at in
    let starts = starts-here s tr k t f c.follow-segment.result h c.follow-segment.ensures.starts in
    let follows = tracking-back s tr k t f c.follow-segment.new.tracker h c.follow-segment.ensures.tracking in
    let ran' = rw (c.requires.system, c.requires.since) at ran in
    let same : (u : ℕ) → c.args.time ≤ u → u < c.args.replay.now.time → served_at c.args.system.now c.args.replay.now.trace u c.loop-k.k ≡ served_at c.args.system.now c.args.replay.now.trace c.args.time c.loop-k.k =
    λ u low high. ran' u low high ∙ sym (ran' t (omega arith) c.requires.later) in
    record {
      long = length-set fs k c.follow-segment.new.tracker ∙ c.loop-k.invariant.long;
      tracking = all-more s tr k t c.args.replay.now.time fs _ c.follow-segment.new.tracker c.loop-k.invariant.tracking refl follows c.requires.later
          same;
      same = λ r u below low high. elim (cases_lt r k) [
        | inl less ↦ c.loop-k.invariant.same r u less low high
        | inr last ↦
            let e : c.loop-k.k ≡ r = omega (arith, below, last) in
            subst (λ r. served_at s tr u r ≡ served_at s tr t r) e (same u low high)
      ];
      written = rw (below-more s tr t k) (written-more (g.K.Sink.sent c.args.sink.now) (g.K.Sink.sent c.loop-k.sink) (g.K.Sink.sent c.put_segment.new.sink) c.args.self.now.unsent.items c.loop-k.self.unsent.items c.put_segment.new.unsent.items
          (rows_below s tr t k) (schedule_text s (segment_at s tr t k)) c.loop-k.invariant.written (rw starts at c.in_ok-put_segment.ensures.written));
      rises = omega (arith, c.loop-k.invariant.rises, c.put_segment.ensures.rises);
    }

pub returns-clause-tracking : goal.returns-clause-tracking
returns-clause-tracking g c =
    all-all c.args.system.now c.args.replay.now.trace c.loop-k.k c.args.time c.args.replay.now.time c.loop-k.self.trackers.items
    (omega (arith, c.loop-k.invariant.long, c.loop-k-test.false, c.resources-k-end.ensures.count)) c.loop-k.invariant.tracking

pub returns-clause-started : goal.returns-clause-started
returns-clause-started g c =
    let end : c.loop-k.k ≡ length c.args.system.now.resources = omega (arith, c.loop-k-test.false, c.loop-k.auto.k-end, c.resources-k-end.ensures.count) in
    started-next c.args.system.now c.args.replay.now.trace c.args.time c.args.replay.now.time c.requires.later (λ r u there low high. c.loop-k.invariant.same r u (omega (arith, there, end)) low high)

pub returns-clause-written : goal.returns-clause-written
returns-clause-written g c =
    let s = c.args.system.now in
    let tr = c.args.replay.now.trace in
    let end : c.loop-k.k ≡ length c.args.system.now.resources = omega (arith, c.loop-k-test.false, c.loop-k.auto.k-end, c.resources-k-end.ensures.count) in
    let h = subst (λ k. IsWritten (g.K.Sink.sent c.args.sink.now) (g.K.Sink.sent c.loop-k.sink) c.args.self.now.unsent.items c.loop-k.self.unsent.items (rows_below s tr c.args.time k)) end c.loop-k.invariant.written in
    rw (below-all s tr c.args.time) at h
