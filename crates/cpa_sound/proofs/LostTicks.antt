-- What a lower job within a critical section receives from a moment on, while a more urgent task waits: in all no more than what was left of the section.
use Rattle.std.proofs.Common.{◌≡◌, ℕ, zero, suc, ◌+◌, ◌-◌, ◌*◌, ◌<◌, ◌≤◌, min, List, [], ◌∷◌, inl, inr, arith}
use Rattle.std.specs.List.{AllByRecursion}
use Rattle.std.proofs.lemmas.Bool.{cases_lt}
use Rattle.cpa_model.specs.Locks.{Section}
use Rattle.cpa_sched.specs.Locks.{urgency}
use Rattle.cpa_sound.specs.Course.{Course}
use Rattle.cpa_sound.proofs.Serving.{work, IsInOrder}
use Rattle.cpa_sound.proofs.CourseLaws.{work-one}
use Rattle.cpa_sound.proofs.Sections.{HoldsWhole, had, Runs}
use Rattle.cpa_sound.proofs.UrgencyLaws.{urgent-under, urgent-some}
use Rattle.cpa_sound.proofs.HadLaws.{idle-ended, idle-had, ran-had}

-- a section that holds whole what begins in it, and blocks for no longer than this
pub record IsKnown (sections : List Section) (p worst blocking : ℕ) (x : Section) : Type 0 where
  pub whole : AllByRecursion (HoldsWhole x) sections
  pub short : x.ceiling ≤ p → min x.ticks worst - 1 ≤ blocking

all_and : (P Q : Section → Type 0) (xs : List Section) → AllByRecursion P xs → AllByRecursion Q xs → AllByRecursion (λ x. P x × Q x) xs
all_and P Q [] a b = tt
all_and P Q (x ∷ xs) a b = ((a.0, b.0), all_and P Q xs a.1 b.1)

module _ (c : Course) (best worst : ℕ) (o : IsInOrder c best worst) (base p : ℕ) (low : p < base) (sections : List Section) (blocking : ℕ) (known : AllByRecursion (IsKnown sections p worst blocking) sections) (s : ℕ) where
  abbrev IsHot : ℕ → Type 0
  IsHot t = urgency base sections (had c t) ≤ 2 * p

  -- a section that it was within at s and still is, with the same job
  record Stays (t : ℕ) : Type 0 where
    section : Section
    known_of : IsKnown sections p worst blocking section
    begun : section.start < had c s
    going : had c t < section.start + section.ticks
    ceiling : section.ceiling ≤ p
    same : c.ended t ≡ c.ended s

  record IsLost (t : ℕ) : Type 0 where
    few : c.received t ≤ c.received s + blocking
    stays : IsHot t → Stays t

  start : IsLost s
  start = record {
    few = omega arith;
    stays = λ hot.
        let u = urgent-under (IsKnown sections p worst blocking) base p (had c s) sections known low hot in
        record { section = u.section; known_of = u.known; begun = u.begun; going = u.going; ceiling = u.ceiling; same = omega arith };
  }

  -- a section that is entered within another, or at its end, can't last beyond it unless it holds it
  goes_on : (t : ℕ) → Stays t → Runs c t → IsHot (t + 1) → Stays (t + 1)
  goes_on t st ran hot =
      let x = st.section in
      let next = ran-had c best worst o t ran (urgent-some base p (had c (t + 1)) sections (omega (arith, low)) hot) in
      let same : c.ended (t + 1) ≡ c.ended s = omega (arith, next.0, st.same) in
      elim (cases_lt (had c (t + 1)) (x.start + x.ticks)) [
        | inl going ↦ record { section = x; known_of = st.known_of; begun = st.begun; going = going; ceiling = st.ceiling; same = same }
        | inr over ↦
            let u = urgent-under (λ y. HoldsWhole x y × IsKnown sections p worst blocking y) base p (had c (t + 1)) sections (all_and (HoldsWhole x) (IsKnown sections p worst blocking) sections st.known_of.whole known) low hot in
            let y = u.section in
            elim (cases_lt x.start y.start) [
              | inl within ↦ let ends = u.known.0 within (omega (arith, u.begun, next.1, st.going)) in absurd (omega (arith, ends, over, u.going))
              | inr around ↦ record { section = y; known_of = u.known.1; begun = omega (arith, around, st.begun); going = u.going; ceiling = u.ceiling; same = same }
            ]
      ]

  more : (t : ℕ) → Stays t → Runs c t → c.received (t + 1) ≤ c.received s + blocking
  more t st ran =
      let x = st.section in
      let short = st.known_of.short st.ceiling in
      let same = st.same in
      let unpaid = o.next_unpaid t in
      let paid_s = o.ended_paid s in
      let paid_t = o.ended_paid t in
      let each = work-one c.needs (c.ended t) in
      let most = o.greatest (c.ended t) in
      let w : work c.needs (c.ended t) ≡ work c.needs (c.ended s) = rw same (omega arith) in
      omega (arith, short, unpaid, paid_s, paid_t, each, most, w, o.one_tick t, st.begun, st.going)

  lost_by : (v : ℕ) → ((w : ℕ) → s ≤ w → w < s + v → Runs c w → IsHot w) → IsLost (s + v)
  lost_by zero hot = let e : s + 0 ≡ s = omega arith in rw e start
  lost_by (suc v) hot =
      let e : s + suc v ≡ (s + v) + 1 = omega arith in
      let t : ℕ = s + v in
      let before = lost_by v (λ w from to. hot w from (omega (arith, to))) in
      elim (cases_lt (c.received t) (c.received (t + 1))) [
        | inl ran ↦
            let st = before.stays (hot t (omega arith) (omega arith) ran) in
            rw e (record { few = more t st ran; stays = λ h. goes_on t st ran h })
        | inr idle ↦
            let none : ¬ Runs c t = λ ran. omega (arith, ran, idle) in
            let ended = idle-ended c best worst o t none in
            let same = idle-had c best worst o t none in
            rw e (record {
              few = omega (arith, idle, before.few);
              stays = λ h.
                  let st = before.stays (rw same at h) in
                  record { section = st.section; known_of = st.known_of; begun = st.begun; going = rw same (st.going); ceiling = st.ceiling; same = omega (arith, ended, st.same) };
            })
      ]

  -- where it runs only within sections that block, it receives no more than the blocking
  pub lost-few : (v : ℕ) → ((w : ℕ) → s ≤ w → w < s + v → Runs c w → urgency base sections (had c w) ≤ 2 * p) → c.received (s + v) ≤ c.received s + blocking
  lost-few v hot = (lost_by v hot).few
