-- What a job has had, from one tick to the next.
use Rattle.std.proofs.Common.{◌≡◌, ℕ, ◌+◌, ◌<◌, inl, inr, arith}
use Rattle.std.proofs.lemmas.Bool.{cases_lt}
use Rattle.cpa_sound.specs.Course.{Course}
use Rattle.cpa_sound.proofs.Serving.{IsPending, IsInOrder}
use Rattle.cpa_sound.proofs.CourseLaws.{work-mono, ended-mono}
use Rattle.cpa_sound.proofs.Sections.{had, Runs}

module _ (c : Course) (best worst : ℕ) (o : IsInOrder c best worst) where
  -- where a task doesn't run, its job is the same
  pub idle-ended : (t : ℕ) → ¬ Runs c t → c.ended (t + 1) ≡ c.ended t
  idle-ended t idle =
      let same : c.received (t + 1) ≡ c.received t = idle-received t idle in
      elim (cases_lt (c.ended t) (c.ended (t + 1))) [
        | inl more ↦ absurd (omega (arith, same, o.next_unpaid t, o.ended_paid (t + 1), work-mono c.needs (c.ended t + 1) (c.ended (t + 1)) (omega arith)))
        | inr other ↦ omega (arith, other, ended-mono c best worst o t (t + 1) (omega arith))
      ]
    where
      idle-received : (t : ℕ) → ¬ Runs c t → c.received (t + 1) ≡ c.received t
      idle-received t idle =
          elim (cases_lt (c.received t) (c.received (t + 1))) [
            | inl ran ↦ absurd (idle ran)
            | inr other ↦ omega (arith, other, o.more_received t)
          ]

  pub idle-had : (t : ℕ) → ¬ Runs c t → had c (t + 1) ≡ had c t
  idle-had t idle =
      let e = idle-ended t idle in
      elim (cases_lt (c.received t) (c.received (t + 1))) [
        | inl ran ↦ absurd (idle ran)
        | inr other ↦ rw e (omega (arith, other, o.more_received t))
      ]

  -- a job that has had a tick has arrived
  pub had-pending : (t : ℕ) → 0 < had c t → IsPending c t
  had-pending t some =
      elim (cases_lt (c.ended t) (c.arrived (t + 1))) [
        | inl waits ↦ waits
        | inr none ↦ absurd (omega (arith, some, o.for_arrived t, o.more_arrive t, work-mono c.needs (c.arrived t) (c.ended t) (omega (arith, none, o.more_arrive t))))
      ]

  -- after a tick it has had one more, or is complete
  pub ran-had : (t : ℕ) → Runs c t → 0 < had c (t + 1) → (c.ended (t + 1) ≡ c.ended t) × (had c (t + 1) ≡ had c t + 1)
  ran-had t ran some =
      elim (cases_lt (c.ended t) (c.ended (t + 1))) [
        | inl more ↦ absurd (omega (arith, some, o.one_tick t, o.next_unpaid t, work-mono c.needs (c.ended t + 1) (c.ended (t + 1)) (omega arith)))
        | inr other ↦
            let e : c.ended (t + 1) ≡ c.ended t = omega (arith, other, ended-mono c best worst o t (t + 1) (omega arith)) in
            (e, rw e (omega (arith, ran, o.one_tick t, o.ended_paid t)))
      ]
