use Rattle.std.proofs.Common.{◌≡◌, ◌∙◌, ◌+◌, ◌++◌, ◌<◌, ◌∷◌, [], length, map, take, sym, ap, arith, add-one}
use Rattle.std.proofs.lemmas.List.{take_all, map-append}
use Rattle.std.proofs.Math.Seq.{take-suc}
use Rattle.cpa_sim.specs.Outcome.{no_job_seen, jobs_seen, job_at}
use Rattle.cpa_sim.specs.PassageEnds.{job_end}
use Rattle.cpa_sim.proofs.text.ends_at.Goals as goal

pub loop-k-preserved : goal.loop-k-preserved
loop-k-preserved c =
    let jobs = jobs_seen c.args.outcome.now c.args.task.0 in
    let k = c.loop-k.k in
    let job = job_at c.args.outcome.now c.args.task.0 k in
    let there : k < length jobs = omega (arith, c.loop-k-test.true, c.count-k-end.ensures) in
    let more : take (k + 1) jobs ≡ take k jobs ++ (job ∷ []) = rw add-one (take-suc jobs k no_job_seen there) in
    rw (c.in_ok-push.ensures.items, c.loop-k.invariant, c.job.ensures, more) (sym (map-append job_end (take k jobs) (job ∷ [])))

pub returns : goal.returns
returns c =
    let jobs = jobs_seen c.args.outcome.now c.args.task.0 in
    c.loop-k.invariant ∙ ap (map job_end) (take_all c.loop-k.k jobs (omega (arith, c.loop-k-test.false, c.count-k-end.ensures)))
