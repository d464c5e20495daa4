-- Under ceilings a window in which always a task or a more urgent one has something to do loses no more ticks in all than the blocking.
use Rattle.std.proofs.Common.{◌≡◌, ℕ, zero, suc, ◌+◌, ◌*◌, ◌<◌, ◌≤◌, ◌⊎◌, List, ◌∷◌, sym, inl, inr, arith, subst}
use Rattle.std.specs.List.{AllByRecursion}
use Rattle.cpa_model.specs.Locks.{Section}
use Rattle.cpa_sound.specs.Course.{Course}
use Rattle.cpa_sound.proofs.Serving.{IsPending, AnyOf}
use Rattle.cpa_sound.proofs.KeepsLaws.{received_by}
use Rattle.cpa_sound.proofs.CourseLaws.{received-mono}
use Rattle.cpa_sound.proofs.LevelLaws.{sum-le, sum-lt, all_map, any_with}
use Rattle.cpa_sound.proofs.StepLaws.{IsIn, any_at}
use Rattle.cpa_sound.proofs.Sections.{had, Runs, urgency_at, KeepsCeilings}
use Rattle.cpa_sound.proofs.UrgencyLaws.{urgency-le, urgent-within}
use Rattle.cpa_sound.proofs.LostTicks.{IsKnown, lost-few}
use Rattle.cpa_sound.proofs.Holding.{runs-urgent, decide, above-kept, above-one}

module _ (course : ℕ → Course) (best worst priority : ℕ → ℕ) (sections : ℕ → List Section) (on : ℕ → Type 0) (rule : KeepsCeilings course best worst priority sections on)
    (i : ℕ) (hs : List ℕ) (p blocking : ℕ) (group : AllByRecursion (λ j. on j × (priority j ≤ p)) (i ∷ hs)) (split : (c : ℕ) → on c → IsIn c (i ∷ hs) ⊎ (p < priority c))
    (known : (j : ℕ) → on j → p < priority j → AllByRecursion (IsKnown (sections j) p (worst j) blocking) (sections j)) where
  abbrev pub Waits : ℕ → Type 0
  Waits t = AnyOf (λ j. IsPending (course j) t) (i ∷ hs)

  -- while one of the group waits, a lower task runs only within a section that blocks
  runs-above : (t : ℕ) → Waits t → (j : ℕ) → on j → p < priority j → Runs (course j) t → urgency_at course priority sections t j ≤ 2 * p
  runs-above t any j here low ran =
      let m = any_with (λ j. on j × (priority j ≤ p)) (λ j. IsPending (course j) t) (i ∷ hs) group any in
      let before = runs-urgent course best worst priority sections on rule t j m.0 here m.1.0 ran m.2 in
      let most = urgency-le (priority m.0) (had (course m.0) t) (sections m.0) in
      urgent-within (priority j) p (had (course j) t) (sections j) low (omega (arith, before, most, m.1.1))

  -- so a lower task that is above the level has been so since the window began
  above_since : (s v j : ℕ) → ((w : ℕ) → s ≤ w → w < s + v → Waits w) → on j → p < priority j → urgency_at course priority sections (s + v) j ≤ 2 * p → urgency_at course priority sections s j ≤ 2 * p
  above_since s zero j any here low h = let e : s + 0 ≡ s = omega arith in rw e at h
  above_since s (suc v) j any here low h =
      let e : s + suc v ≡ (s + v) + 1 = omega arith in
      let now : urgency_at course priority sections ((s + v) + 1) j ≤ 2 * p = rw e at h in
      let earlier = above_since s v j (λ w from to. any w from (omega (arith, to))) here low in
      elim (decide course best worst priority sections on rule (s + v) j) [
        | inl ran ↦ earlier (runs-above (s + v) (any (s + v) (omega arith) (omega arith)) j here low ran)
        | inr idle ↦ earlier (above-kept course best worst priority sections on rule p (s + v) j here idle now)
      ]

  -- ---- the ticks that the group receives, and those that it loses

  unfoldable pub together : ℕ → ℕ
  together t = received_by course (i ∷ hs) t

  each-mono : (t : ℕ) → AllByRecursion (λ j. (course j).received t ≤ (course j).received (t + 1)) (i ∷ hs)
  each-mono t =
      all_map (λ j. on j × (priority j ≤ p)) (λ j. (course j).received t ≤ (course j).received (t + 1)) (λ j g. (rule.order j g.0).more_received t) (i ∷ hs) group

  together-same : (t : ℕ) → together t ≤ together (t + 1)
  unfolding together
  together-same t = sum-le (λ j. (course j).received t) (λ j. (course j).received (t + 1)) (i ∷ hs) (each-mono t)

  together-up : (t : ℕ) → AnyOf (λ j. Runs (course j) t) (i ∷ hs) → together t < together (t + 1)
  unfolding together
  together-up t any = sum-lt (λ j. (course j).received t) (λ j. (course j).received (t + 1)) (i ∷ hs) (each-mono t) any

  -- all ticks of a window go to the group, or to it and one lower task that was above the level when it began
  record IsLostTo (s u j : ℕ) : Type 0 where
    here : on j
    low : p < priority j
    above : urgency_at course priority sections s j ≤ 2 * p
    all : together s + ((course j).received s + u) ≤ together (s + u) + (course j).received (s + u)

  abbrev Shares : ℕ → ℕ → Type 0
  Shares s u = (together s + u ≤ together (s + u)) ⊎ ((j : ℕ) × IsLostTo s u j)

  shares_later : (s u t : ℕ) → t ≡ s + u → AnyOf (λ j. Runs (course j) t) (i ∷ hs) → Shares s u → Shares s (u + 1)
  shares_later s u t is ran before =
      let e : s + (u + 1) ≡ t + 1 = omega (arith, is) in
      let up = together-up t ran in
      elim before [
        | inl all ↦ let all' = rw (sym is) at all in inl (rw e (omega (arith, up, all')))
        | inr lost ↦
            let j = lost.0 in
            let all' = rw (sym is) at (lost.1.all) in
            let more = (rule.order j lost.1.here).more_received t in
            inr (j, record { here = lost.1.here; low = lost.1.low; above = lost.1.above; all = rw e (omega (arith, up, all', more)) })
      ]

  lost_later : (s u c : ℕ) → on c → p < priority c → urgency_at course priority sections s c ≤ 2 * p → Runs (course c) (s + u) → Shares s u → Shares s (u + 1)
  lost_later s u c here low above ran before =
      let e : s + (u + 1) ≡ (s + u) + 1 = omega arith in
      let same = together-same (s + u) in
      elim before [
        | inl all ↦
            let more = received-mono (course c) (best c) (worst c) (rule.order c here) s (s + u) (omega arith) in
            inr (c, record { here = here; low = low; above = above; all = rw e (omega (arith, all, same, more, ran)) })
        | inr lost ↦
            let j = lost.0 in
            let one = above-one course best worst priority sections on rule p s c j (here, omega (arith, low)) (lost.1.here, omega (arith, lost.1.low)) above lost.1.above in
            let ran' = subst (λ l. Runs (course l) (s + u)) one ran in
            let all' = lost.1.all in
            inr (j, record { here = lost.1.here; low = lost.1.low; above = lost.1.above; all = rw e (omega (arith, all', same, ran')) })
      ]

  shares : (s u : ℕ) → ((w : ℕ) → s ≤ w → w < s + u → Waits w) → Shares s u
  shares s zero any = let e : s + 0 ≡ s = omega arith in inl (rw e (omega arith))
  shares s (suc u) any =
      let e : suc u ≡ u + 1 = omega arith in
      let before = shares s u (λ w from to. any w from (omega (arith, to))) in
      let now = any (s + u) (omega arith) (omega arith) in
      let m = any_with (λ j. on j × (priority j ≤ p)) (λ j. IsPending (course j) (s + u)) (i ∷ hs) group now in
      let c = rule.serves (s + u) m.0 m.1.0 m.2 in
      elim (split c.0 c.1) [
        | inl member ↦ rw e (shares_later s u (s + u) (omega arith) (any_at (λ j. Runs (course j) (s + u)) (i ∷ hs) c.0 member c.2.runs) before)
        | inr low ↦
            let above = runs-above (s + u) now c.0 c.1 low c.2.runs in
            rw e (lost_later s u c.0 c.1 low (above_since s u c.0 (λ w from to. any w from (omega (arith, to))) c.1 low above) c.2.runs before)
      ]

  loses_at : (s u : ℕ) → ((w : ℕ) → s ≤ w → w < s + u → Waits w) → together s + u ≤ together (s + u) + blocking
  loses_at s u any =
      elim (shares s u any) [
        | inl all ↦ omega (arith, all)
        | inr lost ↦
            let j = lost.0 in
            let o = rule.order j lost.1.here in
            let few = lost-few (course j) (best j) (worst j) o (priority j) p lost.1.low (sections j) blocking (known j lost.1.here lost.1.low) s u (λ w from to ran. runs-above w (any w from to) j lost.1.here lost.1.low ran) in
            let all = lost.1.all in
            omega (arith, all, few)
      ]

  -- in all it loses no more than the blocking
  pub loses : (s u : ℕ) → ((w : ℕ) → s ≤ w → w < s + u → AnyOf (λ j. IsPending (course j) w) (i ∷ hs)) → received_by course (i ∷ hs) s + u ≤ received_by course (i ∷ hs) (s + u) + blocking
  unfolding together
  loses s u any = loses_at s u any
