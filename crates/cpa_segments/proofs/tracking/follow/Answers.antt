use Rattle.std.proofs.Common.{◌≡◌, ◌∙◌, sym}
use Rattle.cpa_segments.proofs.RowLaws.{starts-none, starts-kept, starts-one}
use Rattle.cpa_segments.proofs.TrackingLaws.{task-there}
use Rattle.cpa_segments.proofs.tracking.follow.Goals as goal

pub returns-in_err-job-clause-starts : goal.returns-in_err-job-clause-starts
returns-in_err-job-clause-starts c =
    let none = starts-none c.args.tracker.now.replay.system c.args.tracker.now.replay.trace c.args.time c.args.res.0 (c.requires.served ∙ c.in_err-job.was) in
    rw c.from_residual.ensures none

pub returns-then-is_job-clause-starts : goal.returns-then-is_job-clause-starts
returns-then-is_job-clause-starts c =
    starts-kept c.args.tracker.now.replay.system c.args.tracker.now.replay.trace c.args.time c.args.res.0 c.in_ok-job.job c.args.tracker.now.last (c.requires.served ∙ c.in_ok-job.was) c.requires.tracking.last
    (sym c.is_job.ensures ∙ c.if-is_job.true)

pub returns-clause-starts : goal.returns-clause-starts
returns-clause-starts c =
    starts-one c.args.tracker.now.replay.system c.args.tracker.now.replay.trace c.args.time c.args.res.0 c.in_ok-job.job c.args.tracker.now.last _ (c.requires.served ∙ c.in_ok-job.was) c.requires.tracking.last
    (sym c.is_job.ensures ∙ c.if-is_job.false) (λ i. record { task = c.in_ok-job.job.task; start = c.args.time; end = c.find_segment_end.ensures.stop i })

pub returns-clause-task : goal.returns-clause-task
returns-clause-task c = λ x is.
    let there = task-there c.args.tracker.now.replay.system c.args.tracker.now.replay.trace c.args.res.0 c.requires.tracking.ahead.rules c.requires.tracking.ahead.can c.args.time c.in_ok-job.job c.requires.there (c.requires.served ∙ c.in_ok-job.was) in
    let same : c.in_ok-job.job.task ≡ x.task = cc in
    rw (sym same) there
