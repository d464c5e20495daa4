use Rattle.std.proofs.Common.{◌≡◌, ◌∙◌, ◌<◌, [], nat_lt, sym, ap, subst, arith}
use Rattle.cpa_sim.specs.Outcome.{end_of}
use Rattle.cpa_sim.specs.Replays.{FollowedRun}
use Rattle.cpa_sim.proofs.SimulatorLaws.{ended, end-within}
use Rattle.cpa_audit.specs.Segments.{starting, started, segments}
use Rattle.cpa_call.proofs.SendLaws.{on-err-any}
use Rattle.cpa_segments.specs.Tracking.{AreTracking}
use Rattle.cpa_segments.specs.Rows.{schedule_text}
use Rattle.cpa_segments.proofs.WrittenLaws.{written-kept, written-more, part-written, part-last, sent-written}
use Rattle.cpa_segments.proofs.RowLaws.{rows-zero, rows-next, rows-part, rows-all}
use Rattle.cpa_segments.proofs.writing.send_schedule.Goals as goal

pub moments-init : goal.moments-init
moments-init g c =
    let s = c.args.system.now in
    let tr = c.args.trace.now in
    let zero = ap (λ (p : FollowedRun). p.time) c.in_ok-replay.ensures in
    record {
      system = ap (λ (p : FollowedRun). p.system) c.in_ok-replay.ensures;
      trace = ap (λ (p : FollowedRun). p.trace) c.in_ok-replay.ensures;
      within = omega (arith, zero);
      long = c.in_ok-writing.ensures.long;
      tracking = subst (λ t. AreTracking s tr 0 t t c.in_ok-writing.writing.trackers.items) (sym zero) c.in_ok-writing.ensures.tracking;
      written = written-kept (g.K.Sink.sent c.args.sink.now) [] c.in_ok-writing.writing.unsent.items (schedule_text s (started s tr c.in_ok-replay.replay.time))
          (c.in_ok-writing.ensures.unsent ∙ sym (ap (λ t. schedule_text s (started s tr t)) zero ∙ rows-zero s tr));
      rises = omega arith;
    }

pub write_moment-requires-clause-within : goal.write_moment-requires-clause-within
write_moment-requires-clause-within g c =
    let run = c.advance.new.self in
    let same : end_of run.system run.trace ≡ end_of c.args.system.now run.trace = ap (λ x. end_of x run.trace) (c.advance.ensures.system ∙ c.moments.invariant.system) in
    omega (arith, same, c.advance.ensures.within)

pub write_moment-requires-clause-tracking : goal.write_moment-requires-clause-tracking
write_moment-requires-clause-tracking g c =
    let s = c.args.system.now in
    let inv = c.moments.invariant in
    let fs = c.moments.writing.trackers.items in
    subst (λ t. AreTracking s c.advance.new.self.trace 0 t t fs) (sym c.time-time.ensures)
    (subst (λ x. AreTracking s x 0 c.moments.replay.time c.moments.replay.time fs) (sym (c.advance.ensures.trace ∙ inv.trace)) inv.tracking)

pub moments-smaller : goal.moments-smaller
moments-smaller g c = omega (arith, end-within c.advance.new.self.system c.advance.new.self.trace, c.advance.ensures.later, c.advance.ensures.within)

pub moments-preserved : goal.moments-preserved
moments-preserved g c =
    let s = c.args.system.now in
    let tr = c.args.trace.now in
    let inv = c.moments.invariant in
    let run = c.advance.new.self in
    let t = c.moments.replay.time in
    let trace = c.advance.ensures.trace ∙ inv.trace in
    let same : end_of run.system run.trace ≡ end_of s tr = ap (λ x. end_of x run.trace) (c.advance.ensures.system ∙ inv.system) ∙ ap (λ x. end_of s x) trace in
    let next = rw (trace, c.time-time.ensures) at c.in_ok-write_moment.ensures.started in
    let more = rw (trace, c.time-time.ensures) at c.in_ok-write_moment.ensures.written in
    record {
      system = c.advance.ensures.system ∙ inv.system;
      trace = trace;
      within = omega (arith, same, c.advance.ensures.within);
      long = c.in_ok-write_moment.ensures.long;
      tracking = subst (λ x. AreTracking s x 0 run.time run.time c.write_moment.new.self.trackers.items) trace c.in_ok-write_moment.ensures.tracking;
      written = rw (rows-next s tr t run.time next) (written-more (g.K.Sink.sent c.args.sink.now) (g.K.Sink.sent c.moments.sink) (g.K.Sink.sent c.write_moment.new.sink) [] c.moments.writing.unsent.items c.write_moment.new.self.unsent.items
          (schedule_text s (started s tr t)) (schedule_text s (starting s tr t)) inv.written more);
      rises = omega (arith, inv.rises, c.write_moment.ensures.rises);
    }

pub returns-in_err-write_moment-clause-part : goal.returns-in_err-write_moment-clause-part
returns-in_err-write_moment-clause-part g c =
    let s = c.args.system.now in
    let tr = c.args.trace.now in
    let inv = c.moments.invariant in
    let run = c.advance.new.self in
    let t = c.moments.replay.time in
    let trace = c.advance.ensures.trace ∙ inv.trace in
    let same : end_of run.system run.trace ≡ end_of s tr = ap (λ x. end_of x run.trace) (c.advance.ensures.system ∙ inv.system) ∙ ap (λ x. end_of s x) trace in
    let less : c.moments.replay.time < end_of c.args.system.now c.args.trace.now = omega (arith, same, c.advance.ensures.later, c.advance.ensures.within) in
    let part = rows-part s tr t less in
    on-err-any _ _
    (part-written (g.K.Sink.sent c.args.sink.now) (g.K.Sink.sent c.moments.sink) (g.K.Sink.sent c.write_moment.new.sink) [] c.moments.writing.unsent.items
    (schedule_text s (started s tr t)) (schedule_text s (starting s tr t)) part.0 (schedule_text s (segments s tr)) inv.written (rw (trace, c.time-time.ensures) at c.in_err-write_moment.ensures.part) part.1)

pub returns-in_err-put_all-clause-part : goal.returns-in_err-put_all-clause-part
returns-in_err-put_all-clause-part g c =
    let s = c.args.system.now in
    let tr = c.args.trace.now in
    let inv = c.moments.invariant in
    let run = c.moments.replay in
    let same : end_of run.system run.trace ≡ end_of s tr = ap (λ x. end_of x run.trace) inv.system ∙ ap (λ x. end_of s x) inv.trace in
    let at = ended s tr run.time (ap (nat_lt run.time) (sym same) ∙ (sym c.goes_on.ensures ∙ c.moments-test.false)) inv.within in
    on-err-any _ _
    (part-last (g.K.Sink.sent c.args.sink.now) (g.K.Sink.sent c.moments.sink) (g.K.Sink.sent c.put_all.new.sink) c.moments.writing.unsent.items (schedule_text s (segments s tr))
    (rw (rows-all s tr run.time at) at inv.written) (rw c.as_slice.ensures.value at c.in_err-put_all.ensures.part))

pub returns-clause-sent : goal.returns-clause-sent
returns-clause-sent g c =
    let s = c.args.system.now in
    let tr = c.args.trace.now in
    let inv = c.moments.invariant in
    let run = c.moments.replay in
    let same : end_of run.system run.trace ≡ end_of s tr = ap (λ x. end_of x run.trace) inv.system ∙ ap (λ x. end_of s x) inv.trace in
    let at = ended s tr run.time (ap (nat_lt run.time) (sym same) ∙ (sym c.goes_on.ensures ∙ c.moments-test.false)) inv.within in
    sent-written (g.K.Sink.sent c.args.sink.now) (g.K.Sink.sent c.moments.sink) (g.K.Sink.sent c.put_all.new.sink) c.moments.writing.unsent.items (schedule_text s (segments s tr))
    (rw (rows-all s tr run.time at) at inv.written) (rw c.as_slice.ensures.value at c.in_ok-put_all.ensures.sent)
