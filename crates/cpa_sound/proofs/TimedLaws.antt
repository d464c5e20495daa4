-- Intervals: they hold on from task to task, and with them no window has more jobs than the phases allow at which it starts.
use Rattle.std.proofs.Common.{◌≡◌, ℕ, zero, suc, ◌+◌, ◌-◌, ◌*◌, ◌/◌, ◌%◌, ◌<◌, ◌≤◌, [], ◌∷◌, length, Bool, true, Option, Some, None, inl, inr, arith}
use Rattle.std.proofs.lemmas.Bool.{cases_lt, eq-eqb}
use Rattle.std.proofs.lemmas.Nat.{div-add-mod', mod_below}
use Rattle.std.specs.Prelude.{All}
use Rattle.cpa_units.specs.declared.bound.Bound.TheVariants.{Within}
use Rattle.cpa_events.specs.declared.stream.Stream.{Stream}
use Rattle.cpa_events.specs.Streams.{stream_delta_minus, stream_after_response, IsStream}
use Rattle.cpa_events.specs.Events.{Model, IsModel}
use Rattle.cpa_events.proofs.EventLaws.{first_of, rest_of}
use Rattle.cpa_phase.specs.Phases.{earliest_arrival, arrivals}
use Rattle.cpa_phase.proofs.PhaseLaws.{earliest_arrival-parts, earliest_arrival-distance, earliest_arrival-plain, arrivals-reach}
use Rattle.cpa_phase.proofs.MomentLaws.{phase-least}
use Rattle.cpa_clock.specs.declared.anchor.Anchor.{Anchor}
use Rattle.cpa_clock.specs.Anchors.{Anchors, Moment, phase_on, arrivals_from}
use Rattle.cpa_sound.specs.Course.{Course, Arrives, KeepsBound}
use Rattle.cpa_sound.proofs.Serving.{IsInOrder}
use Rattle.cpa_sound.proofs.CourseLaws.{arrived-mono, arrival_of, arrives-order, arrives-after, ended-le-arrived}
use Rattle.cpa_sound.proofs.Parts.{jobs_in, count_from, of_stream, PartKeepsApart, EachStream, IsFed}
use Rattle.cpa_sound.proofs.PartLaws.{jobs_in-zero, jobs_in-here, jobs_in-mono, job_of, job-order, from_end}
use Rattle.cpa_sound.proofs.OutputLaws.{not_before, ends_by}
use Rattle.cpa_sound.proofs.StreamLaws.{first-stream, other-streams, jobs_of_all, all-jobs}
use Rattle.cpa_sound.proofs.Timed.{PartKeepsTime, PartKeepsAnchor, IsAt, IsMoment, PartComesFrom, StreamsComeFrom, ComesFrom, ComesLate}

-- ---- each time is somewhere on each clock

pub place-of : (lead cycle s : ℕ) → 0 < cycle → (x : ℕ) × IsAt lead cycle s x
place-of lead cycle s some =
    let whole = div-add-mod' (s + lead) cycle in
    elim (cases_lt 0 ((s + lead) % cycle)) [
      | inl later ↦ ((s + lead) % cycle, record { ahead = 0; behind = (s + lead) / cycle; same = omega (arith, whole); some = later; within = omega (arith, mod_below (s + lead) cycle some) })
      | inr here ↦ (cycle, record { ahead = 1; behind = (s + lead) / cycle; same = omega (arith, whole, here); some = some; within = omega arith })
    ]

-- ---- from task to task

-- a job that is complete by its bound, and not before its least execution, starts the next within an interval that is later by the least
-- execution, and longer by what the bound is greater
module _ (c d : Course) (best worst best' worst' : ℕ) (o : IsInOrder d best worst) (o' : IsInOrder c best' worst') (part sent : ℕ → Bool) (until : ℕ) (fed : IsFed c d part sent until) where
  pub output-in_time : (st : Stream) (lead start bound t : ℕ) → t < until → PartKeepsTime d sent lead start st t → KeepsBound d (Within bound) t → PartKeepsTime c part lead (start + best) (stream_after_response best bound st) (t + 1)
  output-in_time st lead start bound t now timed kept k a own arrival before =
      let p = from_end c d best worst best' worst' o o' part sent until fed k a (omega arith) own arrival in
      let x = arrival_of-job p.job p.end p.ends.1 in
      let here = timed p.job x.0 p.belongs x.2 (omega (arith, x.1, p.arrives)) in
      let here' = rw p.number at here in
      let late = not_before d best worst o p.job x.0 (p.end + 1) x.2 p.ends.1 in
      let soon = ends_by d best worst o bound t p.job x.0 p.end kept x.2 p.ends (omega (arith, p.arrives)) in
      (omega (arith, here'.0, late, p.arrives), omega (arith, here'.1, soon, p.arrives, late))
    where
      arrival_of-job : (l u : ℕ) → l < d.ended (u + 1) → (x : ℕ) × (x < u + 1) × Arrives d l x
      arrival_of-job l u done = arrival_of d best worst o l (u + 1) (omega (arith, done, ended-le l u))
        where
          ended-le : (l u : ℕ) → d.ended (u + 1) ≤ d.arrived (u + 1)
          ended-le l u = ended-le-arrived d best worst o (u + 1)

-- ---- from a time on

by_distance : (st : Stream) (gaps : ℕ) → gaps * st.distance ≤ stream_delta_minus st (suc gaps)
by_distance st gaps = omega (arith, earliest_arrival-distance st 0 gaps, earliest_arrival-plain st (suc gaps))

-- a stream on a clock
pub comes-by_clock : (c : Course) (best worst : ℕ) (o : IsInOrder c best worst) (part : ℕ → Bool) (st : Stream) (lead start phase s t : ℕ)
    → ((n : ℕ) → s + lead ≤ start + n * st.period + st.jitter → s + lead + phase ≤ start + n * st.period + st.jitter)
    → PartKeepsApart c part st t → PartKeepsTime c part lead start st t → PartComesFrom c part phase st s t
comes-by_clock c best worst o part st lead start phase s t least apart timed k l a b are after before =
    let order = arrives-order c best worst o k l a b are.comes are.follows are.order in
    let first = timed k a are.first are.comes (omega arith) in
    let last = timed l b are.last are.follows before in
    let far = apart k l a b are before in
    let here = jobs_in-here part l are.last in
    let more = jobs_in-mono part k l are.order in
    let n : ℕ = jobs_in part k in
    let gaps : ℕ = jobs_in part l - jobs_in part k in
    let count : count_from part k l ≡ suc gaps = omega (arith, here, more) in
    let late = least n (omega (arith, first.1)) in
    let e : jobs_in part l ≡ n + gaps = omega (arith, more) in
    let last' = rw e at last in
    let far' = rw count at far in
    let e' : s + (b - s) ≡ b = omega (arith, order) in
    let d = earliest_arrival-parts st phase gaps (b - s) (omega (arith, by_distance st gaps, far', order)) (omega (arith, late, last'.0, order)) in
    rw count (omega (arith, d, order))

-- a stream on none
pub comes-off_clock : (c : Course) (part : ℕ → Bool) (st : Stream) (s t : ℕ) → PartKeepsApart c part st t → PartComesFrom c part 0 st s t
comes-off_clock c part st s t apart k l a b are after before =
    let far = apart k l a b are before in
    rw (earliest_arrival-plain st (count_from part k l)) (omega (arith, far, after))

-- any stream
pub comes-from : (c : Course) (best worst : ℕ) (o : IsInOrder c best worst) (lead cycle moment : ℕ → ℕ) (part : ℕ → Bool) (anchor : Option Anchor) (st : Stream) (s t : ℕ) → IsStream st
    → IsMoment lead cycle s moment → PartKeepsApart c part st t → PartKeepsAnchor lead cycle c part anchor st t → PartComesFrom c part (phase_on moment anchor st) st s t
comes-from c best worst o lead cycle moment part None st s t regular is apart timed = comes-off_clock c part st s t apart
comes-from c best worst o lead cycle moment part (Some a) st s t regular is apart timed =
    let at = is a.clock in
    let first : ℕ = timed.1.0 in
    comes-by_clock c best worst o part st (lead a.clock) (a.offset + first * st.period) (phase_on moment (Some a) st) s t
    (λ n late.
    let rows : (first + n) * st.period ≡ first * st.period + n * st.period = omega arith in
    let least = phase-least st a.offset (moment a.clock) 0 (s + lead a.clock) at.ahead at.behind (first + n) (cycle a.clock) regular timed.0 (omega (arith, at.same)) (omega (arith, late, rows)) in
    omega (arith, least, rows))
    apart timed.1.1

-- ---- how many come in a window from a time on

pub part-from : (part : ℕ → Bool) (c : Course) (best worst : ℕ) (o : IsInOrder c best worst) (phase : ℕ) (st : Stream) → IsStream st → (t s v : ℕ) → PartComesFrom c part phase st s t → s + v ≤ t → jobs_in part (c.arrived (s + v)) ≤ jobs_in part (c.arrived s) + arrivals st phase v
part-from part c best worst o phase st regular t s v comes h =
    let p : ℕ = c.arrived s in
    let q : ℕ = c.arrived (s + v) in
    elim (cases_lt (jobs_in part p) (jobs_in part q)) [
      | inr none ↦ omega arith
      | inl some ↦
          let first = job_of part (jobs_in part p) q some in
          let last = job_of part (jobs_in part q - 1) q (omega arith) in
          let from : p ≤ first.0 =
          elim (cases_lt first.0 p) [
            | inl less ↦ absurd (omega (arith, first.2, jobs_in-here part first.0 first.3, jobs_in-mono part (first.0 + 1) p (omega arith)))
            | inr more ↦ more
          ] in
          let order = job-order part first.0 last.0 first.3 last.3 (omega (arith, first.2, last.2)) in
          let a = arrival_of c best worst o first.0 (s + v) first.1 in
          let b = arrival_of c best worst o last.0 (s + v) last.1 in
          let after = arrives-after c best worst o s first.0 a.0 from a.2 in
          let far = comes first.0 last.0 a.0 b.0 (record { first = first.3; last = last.3; order = order; comes = a.2; follows = b.2 }) after (omega (arith, b.1)) in
          let count : count_from part first.0 last.0 ≡ jobs_in part q - jobs_in part p = omega (arith, first.2, last.2, jobs_in-here part last.0 last.3) in
          let far' = rw count at far in
          omega (arith, arrivals-reach st phase (jobs_in part q - jobs_in part p) v regular (omega (arith, far', b.1)))
    ]

module _ (stream : ℕ → ℕ) (c : Course) (best worst : ℕ) (o : IsInOrder c best worst) (moment : Moment) (anchors : Anchors) (s t : ℕ) where
  streams-from : (first : ℕ) (m : Model) → All IsStream m → EachStream (λ q st. PartComesFrom c (of_stream stream q) (phase_on moment (anchors q) st) st s t) first m → (v : ℕ) → s + v ≤ t → jobs_of_all stream first m (c.arrived (s + v)) ≤ jobs_of_all stream first m (c.arrived s) + arrivals_from moment anchors first m v
  unfolding jobs_of_all
  streams-from first [] regular each v h = omega arith
  streams-from first (st ∷ m) regular each v h =
      let P : ℕ → Stream → Type 0 = λ q u. PartComesFrom c (of_stream stream q) (phase_on moment (anchors q) u) u s t in
      omega (
        arith,
        part-from (of_stream stream first) c best worst o (phase_on moment (anchors first) st) st (first_of IsStream st m regular) t s v (first-stream P first st m each) h,
        streams-from (first + 1) m (rest_of IsStream st m regular) (other-streams P first st m each) v h,
      )

  -- all streams together have no more in a window from there than their moment allow
  pub from_streams : (m : Model) → IsModel m → ((k : ℕ) → k < c.arrived t → stream k < length m) → StreamsComeFrom c stream moment anchors m s t → ComesFrom c (arrivals_from moment anchors 0 m) s t
  from_streams m regular belongs each v h =
      let early = arrived-mono c best worst o s (s + v) (omega arith) in
      let late = arrived-mono c best worst o (s + v) t h in
      let all = streams-from 0 m regular.each each v h in
      omega (arith, all, all-jobs stream m (c.arrived (s + v)) (λ l less. belongs l (omega (arith, late))), all-jobs stream m (c.arrived s) (λ l less. belongs l (omega (arith, late, early))))

-- ---- where a task has one stream alone, how late its jobs come from a time on

jobs_in-first : (part : ℕ → Bool) (k : ℕ) → ((l : ℕ) → l < k → part l ≡ true) → jobs_in part k ≡ k
jobs_in-first part zero all = jobs_in-zero part
jobs_in-first part (suc k) all =
    let e : suc k ≡ k + 1 = omega arith in
    rw e (omega (arith, jobs_in-here part k (all k (omega arith)), jobs_in-first part k (λ l less. all l (omega arith))))

pub one-late : (stream : ℕ → ℕ) (c : Course) (best worst : ℕ) (o : IsInOrder c best worst) (phase : ℕ) (st : Stream) (s t : ℕ) → ((k : ℕ) → k < c.arrived t → stream k < 1) → PartComesFrom c (of_stream stream 0) phase st s t → ComesLate c (earliest_arrival st phase) s t
one-late stream c best worst o phase st s t belongs comes q b arrival before =
    let part : ℕ → Bool = of_stream stream 0 in
    let n : ℕ = c.arrived s in
    let within = arrived-mono c best worst o (b + 1) t (omega arith) in
    let own : (l : ℕ) → l < c.arrived t → part l ≡ true = λ l less. eq-eqb (stream l) 0 (omega (arith, belongs l less)) in
    let first = arrival_of c best worst o n (b + 1) (omega (arith, arrival.1)) in
    let after = arrives-after c best worst o s n first.0 (omega arith) first.2 in
    let low : jobs_in part n ≡ n = jobs_in-first part n (λ l less. own l (omega (arith, within, arrival.1))) in
    let high : jobs_in part (n + q + 1) ≡ n + q + 1 = jobs_in-first part (n + q + 1) (λ l less. own l (omega (arith, within, arrival.1))) in
    let count : count_from part n (n + q) ≡ q + 1 = omega (arith, low, high) in
    let far = comes n (n + q) first.0 b (record { first = own n (omega (arith, within, arrival.1)); last = own (n + q) (omega (arith, within, arrival.1)); order = omega arith; comes = first.2; follows = arrival }) after before in
    rw count at far
