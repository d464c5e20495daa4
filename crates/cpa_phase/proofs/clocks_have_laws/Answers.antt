use Rattle.cpa_phase.specs.Streams.{phased_from}
use Rattle.cpa_phase.proofs.CandidateLaws.{cover}
use Rattle.cpa_phase.proofs.WorkLaws.{earliest_arrival-fuller, arrivals-fuller, denser_is_fuller, work_from-denser, clocks_work-denser, work_from-le_plain, clocks_work-le_plain, singles_work}
use Rattle.cpa_phase.proofs.clocks_have_laws.Goals as goal

pub returns-clause-candidates : goal.returns-clause-candidates
returns-clause-candidates c = cover

pub returns-clause-wider : goal.returns-clause-wider
returns-clause-wider c = (
  λ p q x h.
      let fuller = denser_is_fuller p q x h in
      (λ n. earliest_arrival-fuller (phased_from x p) (phased_from x q) n fuller, λ w. arrivals-fuller (phased_from x p) (phased_from x q) w fuller),
  work_from-denser,
  clocks_work-denser,
)

pub returns-clause-only_help : goal.returns-clause-only_help
returns-clause-only_help c = (work_from-le_plain, clocks_work-le_plain, singles_work)
