use Rattle.std.proofs.Common.{◌≤◌, length, arith}
use Rattle.std.proofs.lemmas.List.Sums.{sum_by-take-le}
use Rattle.cpa_units.specs.declared.places.SourceId.{SourceId}
use Rattle.cpa_model.specs.SystemLists.{streams_of}
use Rattle.cpa_trace.specs.Trace.{times_of}
use Rattle.cpa_trace.specs.Reading.{task_jobs}
use Rattle.cpa_trace.proofs.JobLaws.{jobs-part}
use Rattle.cpa_trace.proofs.reading.task_jobs.Goals as goal

pub returns-clause-part : goal.returns-clause-part
returns-clause-part c =
    let events = sum_by-take-le (λ (k : SourceId). length (times_of c.args.trace.now k.0)) (streams_of c.args.system.now c.args.task.0) c.loop-k.k in
    let counted : c.loop-k.jobs ≤ task_jobs c.args.system.now c.args.trace.now c.args.task.0 = rw c.loop-k.invariant.sum events in
    omega (arith, counted, jobs-part c.args.system.now c.args.trace.now c.args.task.0 c.requires.there)
