use Rattle.std.proofs.Common.{◌≡◌, ◌∙◌, ◌+◌, ◌-◌, ◌<◌, ℕ, Option, cond, length, sym, ap, arith}
use Rattle.cpa_sim.specs.declared.jobs.Job.{Job}
use Rattle.cpa_sim.specs.Outcome.{jobs_seen, job_at}
use Rattle.cpa_sim.specs.SimText.{is_started_by}
use Rattle.cpa_sim.specs.PassageEnds.{end_in}
use Rattle.cpa_sim.proofs.PassageLaws.{found_from, found-more}
use Rattle.cpa_sim.proofs.text.ends_before.Goals as goal

pub loop-k-preserved : goal.loop-k-preserved
loop-k-preserved c =
    let jobs = jobs_seen c.args.outcome.now c.args.next.0 in
    let task = c.args.task.0 in
    let ends = c.args.ends.now in
    let k = c.loop-k.k in
    let n = c.count-count.result - 1 - k in
    let inv = c.loop-k.invariant in
    let there : n < length jobs = omega (arith, c.loop-k-test.true, c.count-count.ensures) in
    let e : c.count-count.result - (k + 1) ≡ n = omega (arith, c.loop-k-test.true) in
    let f : c.count-count.result - k ≡ n + 1 = omega (arith, c.loop-k-test.true) in
    record {
      count = c.enter.ensures.count ∙ inv.count;
      ends = λ m less.
          c.enter.ensures.ends m (omega (arith, less, inv.count))
          ∙ (ap (λ (job : Job). cond (is_started_by task m job) (end_in ends n) (end_in c.loop-k.before.items m)) c.job.ensures
          ∙ (ap (λ (o : Option ℕ). cond (is_started_by task m (job_at c.args.outcome.now c.args.next.0 n)) (end_in ends n) o) (inv.ends m less ∙ ap (λ q. found_from jobs task ends q m) f)
          ∙ (found-more jobs task ends m n there ∙ ap (λ q. found_from jobs task ends q m) (sym e))));
    }
