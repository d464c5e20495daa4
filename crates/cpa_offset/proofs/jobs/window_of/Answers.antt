use Rattle.std.proofs.Common.{ℕ, arith}
use Rattle.cpa_offset.specs.Jobs.{jobs_work, jobs_work-mono}
use Rattle.cpa_offset.proofs.WalkLaws.{refused-next}
use Rattle.cpa_offset.proofs.jobs.window_of.Goals as goal

pub returns-then-need-from-2-clause-none : goal.returns-then-need-from-2-clause-none
returns-then-need-from-2-clause-none c v low high room =
    let l = c.loop-window in
    let asked : ℕ → ℕ = jobs_work c.args.jobs.now.worst c.args.jobs.now.blocking c.args.jobs.now.phased.now c.args.jobs.now.clocks.now c.args.jobs.now.free.now c.args.count in
    let full = refused-next asked (jobs_work-mono c.args.jobs.now.worst c.args.jobs.now.blocking c.args.jobs.now.phased.now c.args.jobs.now.clocks.now c.args.jobs.now.free.now c.args.count) c.args.from l.window l.invariant.refused v low (omega (arith, c.asked-need.ensures.value, c.from-in-loop-window.ensures, c.if-need-from-2.true)) in
    omega (arith, full, room)

pub loop-window-preserved : goal.loop-window-preserved
loop-window-preserved c =
    let l = c.loop-window in
    let asked : ℕ → ℕ = jobs_work c.args.jobs.now.worst c.args.jobs.now.blocking c.args.jobs.now.phased.now c.args.jobs.now.clocks.now c.args.jobs.now.free.now c.args.count in
    record {
      later = omega (arith, l.invariant.later, c.from.ensures, c.if-need-from.false);
      refused = λ v low less. refused-next asked (jobs_work-mono c.args.jobs.now.worst c.args.jobs.now.blocking c.args.jobs.now.phased.now c.args.jobs.now.clocks.now c.args.jobs.now.free.now c.args.count) c.args.from l.window l.invariant.refused v low (omega (arith, c.asked-need.ensures.value, less));
      known = c.asked-need.ensures.known;
    }
