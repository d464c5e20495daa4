use Rattle.std.proofs.Common.{ℕ, ◌+◌, length, ap, arith}
use Rattle.cpa_sim.specs.Outcome.{OutcomeLists, jobs_seen}
use Rattle.cpa_sound.proofs.BeyondLaws.{outcome-long}
use Rattle.cpa_sim.proofs.JobCount.{few_jobs}
use Rattle.cpa_gen.proofs.SeenLaws.{sum-next}
use Rattle.cpa_gen.proofs.observation.jobs_in.Goals as goal

pub count-jobs-requires : goal.count-jobs-requires
count-jobs-requires c =
    let same = ap (λ (o : OutcomeLists). length o.jobs) c.requires.run in
    omega (arith, same, outcome-long c.args.system.now c.args.trace.now, c.loop-k-test.true, c.tasks-k-end.ensures.count)

pub overflow_add-jobs : goal.overflow_add-jobs
overflow_add-jobs c =
    let f : OutcomeLists → ℕ → ℕ = λ o i. length (jobs_seen o i) in
    let few = few_jobs c.args.system.now c.args.trace.now c.tasks-k-end.ensures.rules (c.loop-k.k + 1) (omega (arith, c.loop-k-test.true, c.tasks-k-end.ensures.count)) in
    let more = sum-next (f c.args.outcome.now) c.loop-k.k c.loop-k.jobs c.count-jobs.result c.loop-k.invariant c.count-jobs.ensures in
    let here = rw c.requires.run at more in
    omega (arith, few, here, c.requires.replayed.few)

pub loop-k-preserved : goal.loop-k-preserved
loop-k-preserved c = sum-next (λ i. length (jobs_seen c.args.outcome.now i)) c.loop-k.k c.loop-k.jobs c.count-jobs.result c.loop-k.invariant c.count-jobs.ensures
