use Rattle.std.proofs.Common.{◌+◌, ◌∷◌, [], None, refl}
use Rattle.std.specs.List.{range_with_len}
use Rattle.std.proofs.lemmas.List.{append_assoc}
use Rattle.cpa_sim.specs.declared.jobs.Job.{Job}
use Rattle.cpa_sim.specs.Run.{causes_by}
use Rattle.cpa_sim.specs.JobQueues.{new_seen}
use Rattle.cpa_sim.proofs.CauseLists.{seen-more}
use Rattle.cpa_sim.proofs.job_queues.push_jobs.Goals as goal

pub loop-k-preserved : goal.loop-k-preserved
loop-k-preserved c =
    let causes = c.args.causes in
    let k = c.loop-k.k in
    let job : Job = record { arrival = c.args.now; end = None; cause = record { by = causes.by; number = causes.first + k } } in
    rw (c.in_ok-push.ensures.items, c.loop-k.invariant, c.new.ensures, seen-more c.args.now causes.by causes.first k (causes.first + k) refl)
    (append_assoc c.args.jobs.now.items (new_seen c.args.now (causes_by causes.by (range_with_len causes.first k))) (job ∷ []))
