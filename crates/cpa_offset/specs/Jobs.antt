-- What jobs and others ask for in numbers.
use Rattle.std.proofs.Common.{ℕ, ◌+◌, ◌*◌, ◌≤◌, List, arith}
use Rattle.cpa_window.specs.declared.rivals.Rival.{Rival}
use Rattle.cpa_window.specs.Rivals.{bounded_work}
use Rattle.cpa_window.proofs.RivalLaws.{bounded_work-mono}
use Rattle.cpa_phase.specs.declared.phased.Phased.{Phased}
use Rattle.cpa_phase.specs.declared.clock.Clock.{Clock}
use Rattle.cpa_phase.specs.Streams.{phased_work}
use Rattle.cpa_phase.specs.Clocks.{clocks_work}
use Rattle.cpa_phase.proofs.WorkLaws.{phased_work-mono, clocks_work-mono}

-- that of all others in a window
abbrev pub others_work : List Phased → List Clock → List Rival → ℕ → ℕ
others_work phased clocks free w = phased_work phased w + (clocks_work clocks w + bounded_work free w)

-- and that of q jobs besides
abbrev pub jobs_work : ℕ → ℕ → List Phased → List Clock → List Rival → ℕ → ℕ → ℕ
jobs_work worst blocking phased clocks free q w = blocking + q * worst + others_work phased clocks free w

-- a longer window asks for no less
pub others_work-mono : (phased : List Phased) (clocks : List Clock) (free : List Rival) (v w : ℕ) → v ≤ w → others_work phased clocks free v ≤ others_work phased clocks free w
others_work-mono phased clocks free v w shorter =
    omega (arith, phased_work-mono phased v w shorter, clocks_work-mono clocks v w shorter, bounded_work-mono free v w shorter)

pub jobs_work-mono : (worst blocking : ℕ) (phased : List Phased) (clocks : List Clock) (free : List Rival) (q v w : ℕ) → v ≤ w → jobs_work worst blocking phased clocks free q v ≤ jobs_work worst blocking phased clocks free q w
jobs_work-mono worst blocking phased clocks free q v w shorter = omega (arith, others_work-mono phased clocks free v w shorter)

-- and a job more asks for its execution
pub jobs_work-more : (worst blocking : ℕ) (phased : List Phased) (clocks : List Clock) (free : List Rival) (q w : ℕ) → jobs_work worst blocking phased clocks free q w + worst ≤ jobs_work worst blocking phased clocks free (q + 1) w
jobs_work-more worst blocking phased clocks free q w = omega arith
