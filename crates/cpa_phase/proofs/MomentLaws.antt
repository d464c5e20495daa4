-- What phases are, and how early events come from a moment on.
use Rattle.std.proofs.Common.{◌≡◌, ℕ, zero, suc, ◌+◌, ◌-◌, ◌*◌, ◌/◌, ◌%◌, ◌<◌, ◌≤◌, max, inl, inr, arith}
use Rattle.std.proofs.lemmas.Bool.{cases_lt}
use Rattle.std.proofs.lemmas.Nat.{div-add-mod', le-div, mod_below}
use Rattle.std.proofs.Math.Nat.{mul-le-mul_right, le_trans, le-max_left, le-max_right, max-le}
use Rattle.cpa_events.specs.declared.stream.Stream.{Stream}
use Rattle.cpa_events.specs.Streams.{IsStream}
use Rattle.cpa_phase.specs.declared.placed.Placed.{Placed}
use Rattle.cpa_phase.specs.Phases.{phase_of, earliest_arrival, arrivals}
use Rattle.cpa_phase.specs.Streams.{phase_at}
use Rattle.cpa_phase.proofs.UpToLaws.{up_to, up_to-later, up_to-meets}
use Rattle.cpa_phase.proofs.PhaseLaws.{earliest_arrival-by_gaps, arrivals-reach}

-- the moment at the phase is some event's
whole_periods : (period t x up q b : ℕ) → 0 < period → x + up + q * period ≡ t + b * period → t ≤ x → (m : ℕ) × (t + m * period ≡ x + up)
whole_periods period t x up q b regular meets later =
    elim (cases_lt b q) [
      | inl few ↦ absurd (let more : (b + 1) * period ≤ q * period = mul-le-mul_right period (omega arith) in omega arith)
      | inr many ↦
          let e : q + (b - q) ≡ b = omega arith in
          let split = rw (← e) at meets in
          (b - q, omega arith)
    ]

pub phase_is_some : (p : Placed) (x : ℕ) → IsStream p.stream → p.offset + p.stream.jitter ≤ x → (m : ℕ) × (p.offset + p.stream.jitter + m * p.stream.period ≡ x + phase_at p x)
phase_is_some p x regular later =
    let t : ℕ = p.offset + p.stream.jitter in
    whole_periods p.stream.period t x (up_to p.stream.period t x) ((t + (p.stream.period - x % p.stream.period)) / p.stream.period) (1 + x / p.stream.period) regular (up_to-meets p.stream.period regular t x) later

later_by : (period offset jitter x m gaps up k : ℕ) → offset + jitter + m * period ≡ x + up + k * period → up + gaps * period - jitter ≤ offset + (m + gaps) * period - x
later_by period offset jitter x m gaps up k e = omega arith

pub arrivals_come_later : (p : Placed) (x m gaps : ℕ) → IsStream p.stream → x ≤ p.offset + p.stream.jitter + m * p.stream.period → earliest_arrival p.stream (phase_at p x) (gaps + 1) ≤ max (gaps * p.stream.distance) (p.offset + (m + gaps) * p.stream.period - x)
arrivals_come_later p x m gaps regular still =
    let there = up_to-later p.stream.period regular (p.offset + p.stream.jitter) x m still in
    let late = later_by p.stream.period p.offset p.stream.jitter x m gaps (phase_at p x) there.0 there.1 in
    let by_gaps = earliest_arrival-by_gaps p.stream (phase_at p x) (gaps + 1) (omega arith) in
    let e : gaps + 1 - 1 ≡ gaps = omega arith in
    let same = rw e at by_gaps in
    rw same (max-le (le-max_left _ _) (le_trans late (le-max_right _ _)))

pub arrivals_are_counted : (p : Placed) (x m gaps window : ℕ) → IsStream p.stream → x ≤ p.offset + p.stream.jitter + m * p.stream.period → gaps * p.stream.distance < window → p.offset + (m + gaps) * p.stream.period < x + window → gaps + 1 ≤ arrivals p.stream (phase_at p x) window
arrivals_are_counted p x m gaps window regular still apart within =
    arrivals-reach p.stream (phase_at p x) (gaps + 1) window regular (let sooner = arrivals_come_later p x m gaps regular still in omega arith)

-- ---- from a clock that started at some time

-- two moments that differ by whole periods: what is left from the one is at most the other
least_at : (p a latest s start x u v n q up : ℕ) → x ≤ p → q * p + up ≡ a + p - x → up < p → s + u * p ≡ start + x + v * p → latest ≡ start + a + n * p → s ≤ latest → s + up ≤ latest
least_at p a latest s start x u v n q up within whole below phase is late =
    elim (cases_lt v (n + u + q)) [
      | inl more ↦
          let rows : (v + 1) * p ≤ (n + u + q) * p = mul-le-mul_right p (omega arith) in
          omega arith
      | inr less ↦
          let rows : (n + u + q) * p ≤ v * p = mul-le-mul_right p less in
          absurd (omega arith)
    ]

-- the same by whole cycles of k periods
least_by_cycles : (p a latest s start x u v n k cycle : ℕ) → 0 < p → cycle ≡ k * p → s + u * cycle ≡ start + x + v * cycle → latest ≡ start + a + n * p → s ≤ latest → s + (a + (p - x % p)) % p ≤ latest
least_by_cycles p a latest s start x u v n k cycle some whole phase is late =
    let within = mod_below x p some in
    let x_whole = div-add-mod' x p in
    let far = div-add-mod' (a + (p - x % p)) p in
    let e : a + (p - x % p) ≡ a + p - x % p = omega arith in
    let phase' = rw whole at phase in
    let u_rows : (u * k) * p ≡ u * (k * p) = omega arith in
    let v_rows : (x / p + v * k) * p ≡ x / p * p + v * (k * p) = omega arith in
    least_at p a latest s start (x % p) (u * k) (x / p + v * k) n ((a + (p - x % p)) / p) ((a + (p - x % p)) % p) (omega arith) (omega (arith, far, e)) (mod_below (a + (p - x % p)) p some) (omega (arith, phase', x_whole, u_rows, v_rows)) is late

pub phase-least : (m : Stream) (offset x start s u v n cycle : ℕ) → IsStream m → cycle % m.period ≡ 0 → s + u * cycle ≡ start + x + v * cycle → s ≤ start + offset + n * m.period + m.jitter → s + phase_of m offset x ≤ start + offset + n * m.period + m.jitter
phase-least m offset x start s u v n cycle p whole phase late =
    let rows = div-add-mod' cycle m.period in
    let e : cycle ≡ cycle / m.period * m.period = omega arith in
    least_by_cycles m.period (offset + m.jitter) (start + offset + n * m.period + m.jitter) s start x u v n (cycle / m.period) cycle p e phase (omega arith) late

-- ---- of wider intervals

-- the remainder of a greater number is greater by no more
mod-more : (a d p : ℕ) → (a + d) % p ≤ a % p + d
mod-more a d zero = omega (arith, div-add-mod' a 0, div-add-mod' (a + d) 0)
mod-more a d (suc p) =
    let whole = div-add-mod' a (suc p) in
    let whole' = div-add-mod' (a + d) (suc p) in
    let most : a / suc p * suc p ≤ a + d = omega arith in
    let rows : a / suc p ≤ (a + d) / suc p = le-div (a / suc p) (a + d) (suc p) (omega arith) most in
    let less : a / suc p * suc p ≤ (a + d) / suc p * suc p = mul-le-mul_right (suc p) rows in
    omega arith

-- a wider interval's phase is later by no more than its jitter is greater
pub phase-wider : (m n : Stream) (offset offset' x : ℕ) → n.period ≡ m.period → offset' ≤ offset → offset + m.jitter ≤ offset' + n.jitter → phase_of n offset' x + m.jitter ≤ phase_of m offset x + n.jitter
phase-wider m n offset offset' x period early late =
    let d : ℕ = offset' + n.jitter - (offset + m.jitter) in
    let more = mod-more (offset + m.jitter + (m.period - x % m.period)) d m.period in
    let e : offset' + n.jitter + (m.period - x % m.period) ≡ offset + m.jitter + (m.period - x % m.period) + d = omega arith in
    rw (period, e) (omega arith)
