use Rattle.std.proofs.Common.{ℕ, sym, ◌∙◌, ap, arith}
use Rattle.cpa_units.specs.declared.bound.Bound.TheVariants.{Within, Overload}
use Rattle.cpa_window.proofs.WalkLaws.{window-goes_on, IsReady-next, demand-ge_jobs, past, last, next, all}
use Rattle.cpa_phase.specs.Phases.{earliest_arrival}
use Rattle.cpa_offset.specs.Jobs.{jobs_work, jobs_work-mono, jobs_work-more}
use Rattle.cpa_offset.proofs.WalkLaws.{start, nothing_steady}
use Rattle.cpa_offset.proofs.jobs.walk.Goals as goal

pub loop-count-init : goal.loop-count-init
loop-count-init c = record {
  on = rw c.earliest_arrival-arrival.ensures (start (jobs_work c.args.jobs.now.worst c.args.jobs.now.blocking c.args.jobs.now.phased.now c.args.jobs.now.clocks.now c.args.jobs.now.free.now) (earliest_arrival c.args.own.now.stream c.args.own.now.phase) c.args.limit c.args.jobs.now.worst c.args.from c.requires.crowded c.requires.pending);
  known = c.requires.known;
}

pub returns-in_default-clause-value : goal.returns-in_default-clause-value
returns-in_default-clause-value c =
    let l = c.loop-count in
    let asked : ℕ → ℕ → ℕ = jobs_work c.args.jobs.now.worst c.args.jobs.now.blocking c.args.jobs.now.phased.now c.args.jobs.now.clocks.now c.args.jobs.now.free.now in
    let none = window-goes_on (asked l.count) l.from c.args.limit Overload l.invariant.on.ready.crowded c.in_default.ensures.none in
    sym (past asked c.args.jobs.now.worst (earliest_arrival c.args.own.now.stream c.args.own.now.phase) c.args.limit l.count l.from 0 l.arrival l.greatest (omega arith) l.invariant.on (omega arith) none)

pub returns-then-end-next-clause-value : goal.returns-then-end-next-clause-value
returns-then-end-next-clause-value c =
    let l = c.loop-count in
    let asked : ℕ → ℕ → ℕ = jobs_work c.args.jobs.now.worst c.args.jobs.now.blocking c.args.jobs.now.phased.now c.args.jobs.now.clocks.now c.args.jobs.now.free.now in
    let found = window-goes_on (asked l.count) l.from c.args.limit (Within c.in-Some.end) l.invariant.on.ready.crowded c.in-Some.ensures.found in
    sym (last asked c.args.jobs.now.worst (earliest_arrival c.args.own.now.stream c.args.own.now.phase) c.args.limit l.count l.from 0 l.arrival l.greatest (omega arith) l.invariant.on c.in-Some.end found (omega arith) (omega arith)
    ∙ ap Within (omega arith))

pub loop-count-preserved : goal.loop-count-preserved
loop-count-preserved c =
    let l = c.loop-count in
    let asked : ℕ → ℕ → ℕ = jobs_work c.args.jobs.now.worst c.args.jobs.now.blocking c.args.jobs.now.phased.now c.args.jobs.now.clocks.now c.args.jobs.now.free.now in
    let mono = jobs_work-mono c.args.jobs.now.worst c.args.jobs.now.blocking c.args.jobs.now.phased.now c.args.jobs.now.clocks.now c.args.jobs.now.free.now in
    let more = jobs_work-more c.args.jobs.now.worst c.args.jobs.now.blocking c.args.jobs.now.phased.now c.args.jobs.now.clocks.now c.args.jobs.now.free.now in
    let found = window-goes_on (asked l.count) l.from c.args.limit (Within c.in-Some.end) l.invariant.on.ready.crowded c.in-Some.ensures.found in
    let ready = IsReady-next asked c.args.jobs.now.worst l.count c.args.limit c.in-Some.end 0 mono more c.args.jobs.now.execution.some found (nothing_steady asked c.args.jobs.now.worst l.count c.in-Some.end) in
    let onward = next asked c.args.jobs.now.worst (earliest_arrival c.args.own.now.stream c.args.own.now.phase) c.args.limit l.count l.from 0 l.arrival l.greatest (omega arith) l.invariant.on c.in-Some.end found 0 (omega arith) ready in
    record { on = rw (c.earliest_arrival-next.ensures, c.max-greatest.ensures) onward; known = c.in-Some.ensures.known }

pub returns-clause-value : goal.returns-clause-value
returns-clause-value c =
    let l = c.loop-count in
    let asked : ℕ → ℕ → ℕ = jobs_work c.args.jobs.now.worst c.args.jobs.now.blocking c.args.jobs.now.phased.now c.args.jobs.now.clocks.now c.args.jobs.now.free.now in
    sym (all asked c.args.jobs.now.worst (earliest_arrival c.args.own.now.stream c.args.own.now.phase) c.args.limit l.count l.from 0 l.arrival l.greatest (omega arith) l.invariant.on (omega arith)
    (demand-ge_jobs asked c.args.jobs.now.worst (jobs_work-more c.args.jobs.now.worst c.args.jobs.now.blocking c.args.jobs.now.phased.now c.args.jobs.now.clocks.now c.args.jobs.now.free.now) c.args.jobs.now.execution.some))
