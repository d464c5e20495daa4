use Rattle.std.proofs.Common.{sym, ◌∙◌, ap, arith}
use Rattle.cpa_units.specs.declared.bound.Bound.TheVariants.{Within}
use Rattle.cpa_events.specs.Events.{delta_minus}
use Rattle.cpa_events.proofs.EventLaws.{delta_minus-one}
use Rattle.cpa_window.proofs.WalkLaws.{IsReady-next, demand-ge_jobs, start, past, last, next, all}
use Rattle.cpa_window.proofs.busy.busy_window_bound.Goals as goal

pub loop-jobs-init : goal.loop-jobs-init
loop-jobs-init g c =
    rw c.each_job-each.ensures.value (start (g.B.BusyWindow.demand c.args.busy.now) (g.B.BusyWindow.each c.args.busy.now) (delta_minus c.args.own.now) c.args.limit (delta_minus-one c.args.own.now) (g.met.B.BusyWindow.more c.args.busy.now))

pub returns-in_default : goal.returns-in_default
returns-in_default g c =
    let l = c.loop-jobs in
    sym (past (g.B.BusyWindow.demand c.args.busy.now) (g.B.BusyWindow.each c.args.busy.now) (delta_minus c.args.own.now) c.args.limit l.jobs l.from l.steady l.arrival l.greatest (omega arith) l.invariant (omega arith) c.in_default.ensures.none)

pub returns-then-reached-next : goal.returns-then-reached-next
returns-then-reached-next g c =
    let l = c.loop-jobs in
    sym (last (g.B.BusyWindow.demand c.args.busy.now) (g.B.BusyWindow.each c.args.busy.now) (delta_minus c.args.own.now) c.args.limit l.jobs l.from l.steady l.arrival l.greatest (omega arith) l.invariant c.in-Some.reached.end c.in-Some.ensures.found (omega arith) (omega arith)
    ∙ ap Within (omega arith))

pub loop-jobs-preserved : goal.loop-jobs-preserved
loop-jobs-preserved g c =
    let l = c.loop-jobs in
    let ready = IsReady-next (g.B.BusyWindow.demand c.args.busy.now) (g.B.BusyWindow.each c.args.busy.now) l.jobs c.args.limit c.in-Some.reached.end c.look_ahead-steady.result (g.met.B.BusyWindow.monotone c.args.busy.now) (g.met.B.BusyWindow.more c.args.busy.now) (g.met.B.BusyWindow.some c.args.busy.now) c.in-Some.ensures.found c.look_ahead-steady.ensures in
    let onward = next (g.B.BusyWindow.demand c.args.busy.now) (g.B.BusyWindow.each c.args.busy.now) (delta_minus c.args.own.now) c.args.limit l.jobs l.from l.steady l.arrival l.greatest (omega arith) l.invariant c.in-Some.reached.end c.in-Some.ensures.found c.look_ahead-steady.result (omega arith) ready in
    rw (c.delta_minus-next.ensures, c.max-greatest.ensures, c.each_job-each.ensures.value) onward

pub returns : goal.returns
returns g c =
    let l = c.loop-jobs in
    sym (all (g.B.BusyWindow.demand c.args.busy.now) (g.B.BusyWindow.each c.args.busy.now) (delta_minus c.args.own.now) c.args.limit l.jobs l.from l.steady l.arrival l.greatest (omega arith) l.invariant (omega arith)
    (demand-ge_jobs (g.B.BusyWindow.demand c.args.busy.now) (g.B.BusyWindow.each c.args.busy.now) (g.met.B.BusyWindow.more c.args.busy.now) (g.met.B.BusyWindow.some c.args.busy.now)))
