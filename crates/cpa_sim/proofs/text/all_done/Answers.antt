use Rattle.std.proofs.Common.{List, [], length, arith}
use Rattle.std.specs.Prelude.{count_by}
use Rattle.std.proofs.lemmas.List.Sums.{sum_by_more_le_part, count_by-le-length}
use Rattle.cpa_sim.specs.declared.jobs.Job.{Job}
use Rattle.cpa_sim.specs.Outcome.{jobs_seen}
use Rattle.cpa_sim.specs.SimText.{is_done}
use Rattle.cpa_sim.proofs.text.all_done.Goals as goal

pub overflow_add-sum : goal.overflow_add-sum
overflow_add-sum c =
    let all = c.args.outcome.now.jobs in
    let k = c.loop-k.k in
    let within = sum_by_more_le_part (count_by is_done) (λ (js : List Job). length js) all k [] (omega (arith, c.loop-k-test.true, c.tasks-k-end.ensures.count, c.requires.tasks)) (λ js. count_by-le-length is_done js) in
    omega (arith, c.loop-k.invariant, c.done-sum.ensures, count_by-le-length is_done (jobs_seen c.args.outcome.now k), within, c.requires.few)
