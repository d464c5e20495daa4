-- What jobs and rivals ask for in numbers.
use Rattle.std.specs.Prelude.{min, sum_by}
use Rattle.std.proofs.Common.{ℕ, ◌+◌, ◌*◌, ◌<◌, ◌≤◌, List, Option, Some, None, arith}
use Rattle.std.proofs.Math.Nat.{mul-le-mul_right}
use Rattle.std.proofs.lemmas.List.Sums.{sum_by-le-sum_by}
use Rattle.std.specs.Int.{div_ceil}
use Rattle.cpa_units.specs.declared.bound.Bound.{Bound}
use Rattle.cpa_units.specs.declared.bound.Bound.TheVariants.{Within, Overload}
use Rattle.cpa_units.proofs.NumberLaws.{div_ceil-mono}
use Rattle.cpa_events.specs.Events.{Model}
use Rattle.cpa_events.specs.Events.{eta_plus}
use Rattle.cpa_events.proofs.EventLaws.{eta_plus-mono}
use Rattle.cpa_window.specs.declared.rivals.Rival.{Rival}

-- so many slots, but no more than the work that a rival can have
abbrev pub slots_or_work : ℕ → ℕ → Option Model → Bound → ℕ → ℕ
slots_or_work slots worst (Some m) (Within bound) window = min slots (eta_plus m (window + bound) * worst)
slots_or_work slots worst (Some m) Overload window = slots
slots_or_work slots worst None bound window = slots

-- what a rival does in so many rounds
abbrev pub share_of : Rival → ℕ → ℕ → ℕ
share_of r rounds window = slots_or_work (rounds * r.slot) r.worst r.model r.bound window

-- what the rivals do in so many rounds
abbrev pub shares_of : List Rival → ℕ → ℕ → ℕ
shares_of rivals rounds window = sum_by (λ r. share_of r rounds window) rivals

-- the work of q jobs, and of the rivals in the rounds that it takes
abbrev pub round_robin_work : ℕ → ℕ → List Rival → ℕ → ℕ → ℕ
round_robin_work worst slot rivals q w = q * worst + shares_of rivals (div_ceil (q * worst) slot) w

-- from one length to another, a longer window has no larger a share in any number of rounds, if there are so many already
pub record IsSettled (share : ℕ → ℕ → ℕ) (rounds from until : ℕ) : Type 0 where
  pub stays : (fewer more v w : ℕ) → rounds ≤ fewer → from ≤ v → v < w → w ≤ until → share more w ≤ share fewer v

slots_or_work-mono : (slots slots' worst : ℕ) (m : Option Model) (bound : Bound) (v w : ℕ) → slots ≤ slots' → v ≤ w → slots_or_work slots worst m bound v ≤ slots_or_work slots' worst m bound w
slots_or_work-mono slots slots' worst (Some m) (Within bound) v w h k =
    let work : eta_plus m (v + bound) * worst ≤ eta_plus m (w + bound) * worst = mul-le-mul_right worst (eta_plus-mono m (v + bound) (w + bound) (omega arith)) in
    omega arith
slots_or_work-mono slots slots' worst (Some m) Overload v w h k = h
slots_or_work-mono slots slots' worst None bound v w h k = h

-- more rounds and a longer window have no smaller a share
shares_of-mono : (rivals : List Rival) (rounds rounds' v w : ℕ) → rounds ≤ rounds' → v ≤ w → shares_of rivals rounds v ≤ shares_of rivals rounds' w
shares_of-mono rivals rounds rounds' v w fewer shorter =
    sum_by-le-sum_by (λ r. share_of r rounds v) (λ r. share_of r rounds' w) rivals (λ r. slots_or_work-mono _ _ r.worst r.model r.bound v w (mul-le-mul_right r.slot fewer) shorter)

-- a longer window asks for no less
pub round_robin_work-mono : (worst slot : ℕ) (rivals : List Rival) (q v w : ℕ) → v ≤ w → round_robin_work worst slot rivals q v ≤ round_robin_work worst slot rivals q w
round_robin_work-mono worst slot rivals q v w shorter =
    omega (arith, shares_of-mono rivals (div_ceil (q * worst) slot) (div_ceil (q * worst) slot) v w (omega arith) shorter)

-- and a job more asks for its execution
pub round_robin_work-more : (worst slot : ℕ) (rivals : List Rival) (q w : ℕ) → round_robin_work worst slot rivals q w + worst ≤ round_robin_work worst slot rivals (q + 1) w
round_robin_work-more worst slot rivals q w =
    let own : q * worst ≤ (q + 1) * worst = omega arith in
    let rounds : div_ceil (q * worst) slot ≤ div_ceil ((q + 1) * worst) slot = div_ceil-mono (q * worst) ((q + 1) * worst) slot own in
    omega (arith, shares_of-mono rivals (div_ceil (q * worst) slot) (div_ceil ((q + 1) * worst) slot) w w rounds (omega arith))
