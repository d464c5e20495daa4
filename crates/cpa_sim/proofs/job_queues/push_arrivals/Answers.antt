use Rattle.std.proofs.Common.{◌≡◌, ◌+◌, ◌++◌, ◌∷◌, ◌∙◌, [], None, length, refl, ap, arith, length-append}
use Rattle.std.specs.List.{range_with_len}
use Rattle.std.proofs.lemmas.List.{append_assoc, map-append}
use Rattle.cpa_sim.specs.declared.jobs.Job.{Job}
use Rattle.cpa_sim.specs.Run.{causes_by}
use Rattle.cpa_sim.specs.JobQueues.{arrivals_of, new_seen}
use Rattle.cpa_sim.proofs.CauseLists.{seen-more}
use Rattle.cpa_sim.proofs.job_queues.push_arrivals.Goals as goal

pub loop-preserved : goal.loop-preserved
loop-preserved c =
    let causes = c.args.causes in
    let now = c.args.now in
    let k = c.loop.counter in
    let new = new_seen now (causes_by causes.by (range_with_len causes.first k)) in
    let job : Job = record { arrival = now; end = None; cause = record { by = causes.by; number = causes.first + k } } in
    let more : arrivals_of (new_seen now (causes_by causes.by (range_with_len causes.first (k + 1)))) ≡ arrivals_of new ++ now ∷ [] =
    ap arrivals_of (seen-more now causes.by causes.first k (causes.first + k) refl) ∙ map-append (λ (job : Job). job.arrival) new (job ∷ []) in
    record {
      items = rw (c.push_reserved.ensures.items, c.loop.invariant.items, more) (append_assoc c.args.times.now.items (arrivals_of new) (now ∷ []));
      many = omega (arith, ap length c.push_reserved.ensures.items, length-append c.loop.times.items (now ∷ []), c.loop.invariant.many);
      capacity = c.push_reserved.ensures.capacity ∙ c.loop.invariant.capacity;
    }
