use Rattle.cpa_window.proofs.WalkLaws.{IsUnderWay}
use Rattle.cpa_phase.specs.Phases.{earliest_arrival}
use Rattle.cpa_phase.specs.Known.{AreKnown}
use Rattle.cpa_offset.specs.Jobs.{jobs_work}
use Rattle.cpa_offset.proofs.jobs.walk.Given as goal

abbrev pub invariant-loop-count : goal.invariant-loop-count
invariant-loop-count l =
    record {
      on : IsUnderWay (jobs_work l.jobs.worst l.jobs.blocking l.jobs.phased.now l.jobs.clocks.now l.jobs.free.now) l.jobs.worst (earliest_arrival l.own.stream l.own.phase) l.limit l.count l.from 0 l.arrival l.greatest;
      known : AreKnown l.jobs.clocks.now l.known;
    }
