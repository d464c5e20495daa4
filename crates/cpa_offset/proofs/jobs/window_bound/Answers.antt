use Rattle.std.proofs.Common.{sym, ◌∙◌, arith}
use Rattle.cpa_window.proofs.WalkLaws.{numbers}
use Rattle.cpa_phase.specs.Phases.{earliest_arrival}
use Rattle.cpa_offset.specs.Jobs.{jobs_work, jobs_work-more}
use Rattle.cpa_offset.proofs.WindowBoundLaws.{late-at_once}
use Rattle.cpa_offset.proofs.WalkLaws.{late-done, late-over, late-on, late-past, first_crowded}
use Rattle.cpa_offset.proofs.jobs.window_bound.Goals as goal

pub returns-then-first-eq0-clause-value : goal.returns-then-first-eq0-clause-value
returns-then-first-eq0-clause-value c = c.walk.ensures.value ∙ sym (late-at_once (numbers (jobs_work c.args.jobs.now.worst c.args.jobs.now.blocking c.args.jobs.now.phased.now c.args.jobs.now.clocks.now c.args.jobs.now.free.now)) (earliest_arrival c.args.own.now.stream c.args.own.now.phase) c.args.limit (sym c.earliest_arrival-first.ensures ∙ c.if-first-eq0.true))

pub walk-requires-else-end-first-clause-crowded : goal.walk-requires-else-end-first-clause-crowded
walk-requires-else-end-first-clause-crowded c = first_crowded (jobs_work c.args.jobs.now.worst c.args.jobs.now.blocking c.args.jobs.now.phased.now c.args.jobs.now.clocks.now c.args.jobs.now.free.now) (earliest_arrival c.args.own.now.stream c.args.own.now.phase) c.args.limit c.args.jobs.now.worst (jobs_work-more c.args.jobs.now.worst c.args.jobs.now.blocking c.args.jobs.now.phased.now c.args.jobs.now.clocks.now c.args.jobs.now.free.now) c.args.jobs.now.execution.some c.in-Some.end c.in-Some.ensures.found

pub returns-then-end-first-clause-value : goal.returns-then-end-first-clause-value
returns-then-end-first-clause-value c = sym (late-over (jobs_work c.args.jobs.now.worst c.args.jobs.now.blocking c.args.jobs.now.phased.now c.args.jobs.now.clocks.now c.args.jobs.now.free.now) (earliest_arrival c.args.own.now.stream c.args.own.now.phase) c.args.limit c.in-Some.end c.in-Some.ensures.found (omega (arith, c.earliest_arrival-first.ensures)))

pub returns-else-end-first-clause-value : goal.returns-else-end-first-clause-value
returns-else-end-first-clause-value c = c.walk-else-end-first.ensures.value ∙ sym (late-on (jobs_work c.args.jobs.now.worst c.args.jobs.now.blocking c.args.jobs.now.phased.now c.args.jobs.now.clocks.now c.args.jobs.now.free.now) (earliest_arrival c.args.own.now.stream c.args.own.now.phase) c.args.limit c.in-Some.end c.in-Some.ensures.found (omega (arith, c.earliest_arrival-first.ensures)))

pub returns-in-None-clause-value : goal.returns-in-None-clause-value
returns-in-None-clause-value c = sym (late-past (jobs_work c.args.jobs.now.worst c.args.jobs.now.blocking c.args.jobs.now.phased.now c.args.jobs.now.clocks.now c.args.jobs.now.free.now) (earliest_arrival c.args.own.now.stream c.args.own.now.phase) c.args.limit c.args.jobs.now.worst (jobs_work-more c.args.jobs.now.worst c.args.jobs.now.blocking c.args.jobs.now.phased.now c.args.jobs.now.clocks.now c.args.jobs.now.free.now) c.args.jobs.now.execution.some c.in-None.ensures.none)

pub returns-then-are_done_by-clause-value : goal.returns-then-are_done_by-clause-value
returns-then-are_done_by-clause-value c =
    let seen = c.are_done_by.ensures.done c.if-are_done_by.true in
    sym (late-done (jobs_work c.args.jobs.now.worst c.args.jobs.now.blocking c.args.jobs.now.phased.now c.args.jobs.now.clocks.now c.args.jobs.now.free.now) (earliest_arrival c.args.own.now.stream c.args.own.now.phase) c.args.limit c.earliest_arrival-first.result (omega arith) seen.0 seen.1 (omega (arith, c.earliest_arrival-first.ensures)))
