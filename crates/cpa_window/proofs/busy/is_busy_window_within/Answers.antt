use Rattle.std.proofs.Common.{refl, arith}
use Rattle.std.proofs.lemmas.Bool.{false≢true}
use Rattle.cpa_events.specs.Events.{delta_minus}
use Rattle.cpa_events.proofs.EventLaws.{delta_minus-one}
use Rattle.cpa_window.proofs.WalkLaws.{IsReady-next, demand-ge_jobs, window-longer, at_most, not_at_most, start, late, last, next, all}
use Rattle.cpa_window.proofs.busy.is_busy_window_within.Goals as goal

pub loop-jobs-init : goal.loop-jobs-init
loop-jobs-init g c = record {
  walk = rw c.each_job-each.ensures.value (start (g.B.BusyWindow.demand c.args.busy.now) (g.B.BusyWindow.each c.args.busy.now) (delta_minus c.args.own.now) c.args.limit (delta_minus-one c.args.own.now) (g.met.B.BusyWindow.more c.args.busy.now));
  within = omega arith;
}

pub returns-in_default : goal.returns-in_default
returns-in_default g c =
    let l = c.loop-jobs in (
      λ no. absurd (false≢true no),
      λ h. absurd (late (g.B.BusyWindow.demand c.args.busy.now) (g.B.BusyWindow.each c.args.busy.now) (delta_minus c.args.own.now) c.args.limit l.jobs l.from l.steady l.arrival l.greatest (omega arith) l.invariant.walk
          c.min-latest.result c.args.most (omega arith) (λ v limited reached. omega (arith, limited, reached)) (demand-ge_jobs (g.B.BusyWindow.demand c.args.busy.now) (g.B.BusyWindow.each c.args.busy.now) (g.met.B.BusyWindow.more c.args.busy.now) (g.met.B.BusyWindow.some c.args.busy.now))
          c.in_default.ensures.none h),
    )

pub returns-then-reached-next : goal.returns-then-reached-next
returns-then-reached-next g c =
    let l = c.loop-jobs in
    let is = last (g.B.BusyWindow.demand c.args.busy.now) (g.B.BusyWindow.each c.args.busy.now) (delta_minus c.args.own.now) c.args.limit l.jobs l.from l.steady l.arrival l.greatest (omega arith) l.invariant.walk c.in-Some.reached.end (window-longer (g.B.BusyWindow.demand c.args.busy.now l.jobs) c.min-latest.result c.args.limit c.in-Some.reached.end (omega arith) c.in-Some.ensures.found) (omega arith) (omega arith) in
    (λ yes. at_most _ _ c.args.most is (omega (arith, l.invariant.within, c.in-Some.ensures.found.1)), λ h. refl)

pub loop-jobs-preserved : goal.loop-jobs-preserved
loop-jobs-preserved g c =
    let l = c.loop-jobs in
    let found = (window-longer (g.B.BusyWindow.demand c.args.busy.now l.jobs) c.min-latest.result c.args.limit c.in-Some.reached.end (omega arith) c.in-Some.ensures.found) in
    let ready = IsReady-next (g.B.BusyWindow.demand c.args.busy.now) (g.B.BusyWindow.each c.args.busy.now) l.jobs c.args.limit c.in-Some.reached.end c.look_ahead-steady.result (g.met.B.BusyWindow.monotone c.args.busy.now) (g.met.B.BusyWindow.more c.args.busy.now) (g.met.B.BusyWindow.some c.args.busy.now) found c.look_ahead-steady.ensures in
    let onward = next (g.B.BusyWindow.demand c.args.busy.now) (g.B.BusyWindow.each c.args.busy.now) (delta_minus c.args.own.now) c.args.limit l.jobs l.from l.steady l.arrival l.greatest (omega arith) l.invariant.walk c.in-Some.reached.end found c.look_ahead-steady.result (omega arith) ready in
    record {
      walk = rw (c.delta_minus-next.ensures, c.max-greatest.ensures, c.each_job-each.ensures.value) onward;
      within = omega (arith, l.invariant.within, c.in-Some.ensures.found.1);
    }

pub returns : goal.returns
returns g c =
    let l = c.loop-jobs in (
      λ no. absurd (false≢true no),
      λ h. absurd (not_at_most _ c.args.most (all (g.B.BusyWindow.demand c.args.busy.now) (g.B.BusyWindow.each c.args.busy.now) (delta_minus c.args.own.now) c.args.limit l.jobs l.from l.steady l.arrival l.greatest (omega arith) l.invariant.walk (omega arith) (demand-ge_jobs (g.B.BusyWindow.demand c.args.busy.now) (g.B.BusyWindow.each c.args.busy.now) (g.met.B.BusyWindow.more c.args.busy.now) (g.met.B.BusyWindow.some c.args.busy.now))) h),
    )
