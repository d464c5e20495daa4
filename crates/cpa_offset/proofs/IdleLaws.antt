-- Others whose streams all come at once ask for the most.
use Rattle.std.proofs.Common.{ℕ, zero, suc, ◌<◌, ◌≤◌, List, [], ◌∷◌, map, All, arith}
use Rattle.std.proofs.lemmas.List.{length-map}
use Rattle.cpa_window.specs.declared.rivals.Rival.{Rival}
use Rattle.cpa_phase.specs.declared.placed.Placed.{Placed}
use Rattle.cpa_phase.specs.declared.clock.Clock.{Clock}
use Rattle.cpa_phase.specs.Streams.{phased_from, IsPlaced, IsPhased, ArePlaced, ArePhased}
use Rattle.cpa_phase.proofs.WorkLaws.{AreNoFuller, phased_work-fuller}
use Rattle.cpa_offset.specs.Idle.{at_once, IsIdleBy}
use Rattle.cpa_offset.specs.Jobs.{jobs_work}

at_once-fuller : (ps : List Placed) (x : ℕ) → AreNoFuller (map (phased_from x) ps) (map at_once ps)
at_once-fuller [] x = tt
at_once-fuller (p ∷ ps) x = (record { period = omega arith; jitter = omega arith; distance = omega arith; phase = omega arith; worst = omega arith }, at_once-fuller ps x)

at_once-each : (ps : List Placed) → All IsPlaced ps → All IsPhased (map at_once ps)
at_once-each [] h k d less = absurd (omega arith)
at_once-each (p ∷ ps) h zero d less =
    let here = h 0 p (omega arith) in
    record { stream = here.stream; phase = omega (arith, here.stream.regular); worst = here.worst }
at_once-each (p ∷ ps) h (suc k) d less = at_once-each ps (λ j e l. h (suc j) e (omega arith)) k d (omega arith)

pub at_once-in_range : (ps : List Placed) → ArePlaced ps → ArePhased (map at_once ps)
at_once-in_range ps h = record { few = rw (length-map ps at_once) h.few; each = at_once-each ps h.each }

-- so where they have room in a window, they have wherever it starts
pub idle-anywhere : (worst blocking : ℕ) (joint : List Placed) (clocks : List Clock) (free : List Rival) (limit end : ℕ) → 0 < end → end ≤ limit → jobs_work worst blocking (map at_once joint) clocks free 0 end ≤ end → IsIdleBy blocking joint clocks free limit end
idle-anywhere worst blocking joint clocks free limit end some within room =
    record { some = some; within = within; room = λ x. omega (arith, room, phased_work-fuller (map (phased_from x) joint) (map at_once joint) end (at_once-fuller joint x)) }
