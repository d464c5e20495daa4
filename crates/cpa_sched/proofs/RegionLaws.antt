-- Stretches of preemptive resources: a job goes on to the end of its region, and on where each tick is a region.
use Rattle.std.proofs.Common.{◌≡◌, ℕ, zero, suc, ◌+◌, ◌-◌, ◌<◌, ◌≤◌, min, eqb, Option, Some, None, refl, sym, ap, ◌∙◌, inl, inr, arith, subst}
use Rattle.std.specs.Prelude.{filter}
use Rattle.std.proofs.lemmas.Bool.{cases_Bool, cond-false, eqb-true, ne_eqb}
use Rattle.cpa_units.specs.declared.limits.TheConstants.{MAX_EXECUTION}
use Rattle.cpa_model.specs.declared.entries.Kind.{Kind}
use Rattle.cpa_model.specs.declared.entries.Kind.TheVariants.{Preemptive, RoundRobin, Tdma, Can, Fifo, Ceiling}
use Rattle.cpa_model.specs.Rules.{RegionFits}
use Rattle.cpa_model.specs.SystemLists.{SystemLists, tasks_on}
use Rattle.cpa_sched.specs.Steps.{ResourceState, ReadyQueue, Choice, most_urgent, region_of, within_region, preemptive_step, kind_of, step}
use Rattle.cpa_sched.specs.States.{HoldsRegion, KeepsTurn, Belongs}
use Rattle.cpa_sched.specs.Stretches.{got, held_later, state_later, IsStretch, ticks_of_region, length_of}
use Rattle.cpa_sched.proofs.OptionLaws.{some-injective}
use Rattle.cpa_sched.proofs.StretchLaws.{choice, stretch-by, stretch-still, stretch-then, step-by_kind, length-by_kind}

-- nobody holds the resource
abbrev pub free : ResourceState
free = record { holder = None; left = 0 }

-- a region has some ticks, and no more than an execution may have
pub region-some : (k : Kind) (ticks : ℕ) → RegionFits k ticks → 1 ≤ ticks
region-some Preemptive ticks fits = fits.0
region-some RoundRobin ticks fits = omega (arith, fits)
region-some (Tdma gap) ticks fits = omega (arith, fits)
region-some (Can bit) ticks fits = omega (arith, fits)
region-some Fifo ticks fits = omega (arith, fits)
region-some Ceiling ticks fits = fits.0

pub region-few : (k : Kind) (ticks : ℕ) → RegionFits k ticks → ticks ≤ MAX_EXECUTION
region-few Preemptive ticks fits = fits.1
region-few RoundRobin ticks fits = omega (arith, fits)
region-few (Tdma gap) ticks fits = omega (arith, fits)
region-few (Can bit) ticks fits = omega (arith, fits)
region-few Fifo ticks fits = omega (arith, fits)
region-few Ceiling ticks fits = fits.1

-- ---- states

pub within-left : (j n : ℕ) → (within_region j n).left ≡ n
within-left j zero = refl
within-left j (suc n) = refl

within-again : (j n : ℕ) → within_region j n ≡ within_region j (within_region j n).left
within-again j n = ap (within_region j) (sym (within-left j n))

region-later : (j left n : ℕ) → held_later Preemptive (within_region j left) (within_region j left).holder n ≡ within_region j (left - n)
region-later j zero n = let none : zero - n ≡ 0 = omega arith in sym (ap (within_region j) none)
region-later j (suc left) n = refl

-- some of a region that has begun is left, and not all
pub region-holds : (s : SystemLists) (r : ℕ) (st : ResourceState) (o : Option ℕ) → kind_of s r ≡ Preemptive → Belongs s r st → st.holder ≡ o → HoldsRegion s st.left o
region-holds s r st o kind belongs same = subst (HoldsRegion s st.left) same (subst (λ k. KeepsTurn s r k st) kind belongs.turn)

-- so the resource is free where no region has
pub free-state : (st : ResourceState) → st.holder ≡ None → st.left ≡ 0 → st ≡ free
free-state st holder left = ap (λ o. let made : ResourceState = record { holder = o; left = st.left } in made) holder ∙ ap (λ n. let made : ResourceState = record { holder = None; left = n } in made) left

-- ---- the length of a stretch

ticks-more : (s : SystemLists) (most j left : ℕ) → 2 ≤ region_of s j → ticks_of_region s most (Some j) left ≡ min most (left + 1)
ticks-more s most j left more = cond-false _ _ _ (ne_eqb (region_of s j) 1 (λ e. absurd (omega (arith, e, more))))

-- of a region that has begun there are more than one
pub ticks-within : (s : SystemLists) (r : ℕ) (st : ResourceState) (task : Option ℕ) (j most left : ℕ) → kind_of s r ≡ Preemptive → Belongs s r st → st.holder ≡ Some j → task ≡ Some j → ticks_of_region s most task left ≡ min most (left + 1)
ticks-within s r st task j most left kind belongs holds is =
    let held = region-holds s r st (Some j) kind belongs holds in
    ap (λ o. ticks_of_region s most o left) is ∙ ticks-more s most j left (omega (arith, held.0, held.1))

-- ---- single ticks

module _ (s : SystemLists) (st : ResourceState) where
  -- where nobody runs nothing changes
  rests : (o urgent : Option ℕ) → (preemptive_step s st o urgent).task ≡ None → (preemptive_step s st o urgent).state ≡ st
  rests (Some h) urgent e = cc
  rests None None e = refl
  rests None (Some j) e = cc

  -- whoever runs is within a region then, unless it ends
  is-within : (o urgent : Option ℕ) (j : ℕ) → (preemptive_step s st o urgent).task ≡ Some j → (preemptive_step s st o urgent).state ≡ within_region j (preemptive_step s st o urgent).state.left
  is-within (Some h) urgent j e = within-again h (st.left - 1) ∙ ap (λ k. within_region k (within_region h (st.left - 1)).left) (some-injective h j e)
  is-within None None j e = cc
  is-within None (Some k) j e = within-again k (region_of s k - 1) ∙ ap (λ l. within_region l (within_region k (region_of s k - 1)).left) (some-injective k j e)

  -- where each tick is a region nobody is preferred to the most urgent
  is-urgent : (o urgent : Option ℕ) (j : ℕ) → HoldsRegion s st.left o → region_of s j ≡ 1 → (preemptive_step s st o urgent).task ≡ Some j → urgent ≡ Some j
  is-urgent (Some h) urgent j held one e = let same : region_of s h ≡ region_of s j = ap (region_of s) (some-injective h j e) in absurd (omega (arith, held.0, held.1, same, one))
  is-urgent None None j held one e = cc
  is-urgent None (Some k) j held one e = e

  is-free : (o urgent : Option ℕ) (j : ℕ) → HoldsRegion s st.left o → region_of s j ≡ 1 → (preemptive_step s st o urgent).task ≡ Some j → (preemptive_step s st o urgent).state ≡ free
  is-free (Some h) urgent j held one e = let same : region_of s h ≡ region_of s j = ap (region_of s) (some-injective h j e) in absurd (omega (arith, held.0, held.1, same, one))
  is-free None None j held one e = cc
  is-free None (Some k) j held one e =
      let same : region_of s k ≡ region_of s j = ap (region_of s) (some-injective k j e) in
      let none : region_of s k - 1 ≡ 0 = omega (arith, same, one) in
      ap (within_region k) none

-- where each tick is a region the next one begins
again-one : (s : SystemLists) (j : ℕ) → region_of s j ≡ 1 → preemptive_step s free None (Some j) ≡ choice (Some j) free
again-one s j one = let none : region_of s j - 1 ≡ 0 = omega (arith, one) in ap (λ n. choice (Some j) (within_region j n)) none

-- within a region it goes on
again-within : (s : SystemLists) (j n : ℕ) (urgent : Option ℕ) → 0 < n → preemptive_step s (within_region j n) (within_region j n).holder urgent ≡ choice (Some j) (within_region j (n - 1))
again-within s j zero urgent some = absurd (omega (arith, some))
again-within s j (suc n) urgent some = refl

-- ---- stretches

module _ (s : SystemLists) (r : ℕ) (q : ReadyQueue) (kind : kind_of s r ≡ Preemptive) (st next : ResourceState) (tick phase : ℕ) where
  abbrev urgent : Option ℕ
  urgent = most_urgent s (filter q.waits (tasks_on s r))

  region-step : (x : ResourceState) (o : Option ℕ) (n t : ℕ) → step s r x (got q o n) t phase ≡ preemptive_step s x x.holder urgent
  region-step x o n t = step-by_kind s r x (got q o n) t phase Preemptive kind

  module _ (task : Option ℕ) (e : choice task next ≡ preemptive_step s st st.holder urgent) where
    runs : (preemptive_step s st st.holder urgent).task ≡ task
    runs = sym (ap (λ (x : Choice). x.task) e)

    leaves : next ≡ (preemptive_step s st st.holder urgent).state
    leaves = ap (λ (x : Choice). x.state) e

    rest-stretch : (ticks : ℕ) → task ≡ None → IsStretch s r st q tick phase ticks task next
    rest-stretch ticks none =
        let same : next ≡ st = leaves ∙ rests s st st.holder urgent (runs ∙ none) in
        let all = stretch-still s r st q tick phase ticks task (λ n h. region-step st task n (tick + n) ∙ sym e ∙ ap (choice task) same) in
        subst (IsStretch s r st q tick phase ticks task) (sym same) all

    next-free : (j : ℕ) → Belongs s r st → task ≡ Some j → region_of s j ≡ 1 → next ≡ free
    next-free j belongs is one = leaves ∙ is-free s st st.holder urgent j (region-holds s r st st.holder kind belongs refl) one (runs ∙ is)

    one-stretch : (j ticks : ℕ) → Belongs s r st → task ≡ Some j → region_of s j ≡ 1 → 0 < ticks → IsStretch s r st q tick phase ticks task next
    one-stretch j ticks belongs is one some =
        let begins : urgent ≡ Some j = is-urgent s st st.holder urgent j (region-holds s r st st.holder kind belongs refl) one (runs ∙ is) in
        let same : next ≡ free = next-free j belongs is one in
        let all : IsStretch s r st q tick phase ticks task free =
        stretch-then s r st q tick phase ticks task free some (region-step st task 0 (tick + 0) ∙ sym e ∙ ap (choice task) same)
        (λ n. region-step free task (suc n) (tick + suc n) ∙ ap (preemptive_step s free None) begins ∙ again-one s j one ∙ ap (λ o. choice o free) (sym is)) in
        subst (IsStretch s r st q tick phase ticks task) (sym same) all

    after_begin : ℕ → ℕ → ResourceState
    after_begin j zero = st
    after_begin j (suc n) = within_region j (next.left - n)

    is-begun : (j : ℕ) → task ≡ Some j → next ≡ within_region j next.left
    is-begun j is = leaves ∙ is-within s st st.holder urgent j (runs ∙ is) ∙ ap (λ (x : ResourceState). within_region j x.left) (sym leaves)

    within-stretch : (j n : ℕ) → task ≡ Some j → n ≤ next.left → IsStretch s r st q tick phase (n + 1) task (within_region j (next.left - n))
    unfolding after_begin
    within-stretch j n is enough =
        let one : n + 1 ≡ suc n = omega arith in
        rw one (stretch-by s r st q tick phase (suc n) task (after_begin j) refl each)
      where
        begun : next ≡ within_region j (next.left - 0)
        begun =
            let whole : next.left ≡ next.left - 0 = omega arith in
            is-begun j is ∙ ap (within_region j) whole

        each : (m : ℕ) → m < suc n → step s r (after_begin j m) (got q task m) (tick + m) phase ≡ choice task (after_begin j (suc m))
        each zero h = region-step st task 0 (tick + 0) ∙ sym e ∙ ap (choice task) begun
        each (suc m) h =
            let less : next.left - m - 1 ≡ next.left - suc m = omega arith in
            region-step (after_begin j (suc m)) task (suc m) (tick + suc m)
            ∙ again-within s j (next.left - m) urgent (omega (arith, h, enough))
            ∙ ap (λ l. choice (Some j) (within_region j l)) less
            ∙ ap (λ o. choice o (within_region j (next.left - suc m))) (sym is)

    -- the states of a stretch are those said
    later-one : (n : ℕ) → next ≡ free → held_later Preemptive next next.holder n ≡ next
    later-one n same = ap (λ o. held_later Preemptive next o n) (ap (λ (x : ResourceState). x.holder) same)

    later-within : (j n : ℕ) → task ≡ Some j → held_later Preemptive next next.holder n ≡ within_region j (next.left - n)
    later-within j n is =
        let begun = is-begun j is in
        ap (λ (x : ResourceState). held_later Preemptive x x.holder n) begun ∙ region-later j next.left n

    -- as long as is said
    pub region-stretch : (most n : ℕ) → Belongs s r st → n < ticks_of_region s most task next.left → IsStretch s r st q tick phase (n + 1) task (state_later Preemptive task next n)
    region-stretch most n belongs less = by_task task refl
      where
        by_task : (o : Option ℕ) → task ≡ o → IsStretch s r st q tick phase (n + 1) task (state_later Preemptive task next n)
        by_task None none = subst (λ o. IsStretch s r st q tick phase (n + 1) task (state_later Preemptive o next n)) (sym none) (rest-stretch (n + 1) none)
        by_task (Some j) is =
            subst (λ o. IsStretch s r st q tick phase (n + 1) task (state_later Preemptive o next n)) (sym is)
            (elim (cases_Bool (eqb (region_of s j) 1)) [
              | inl one ↦
                  let single : region_of s j ≡ 1 = eqb-true (region_of s j) 1 one in
                  subst (IsStretch s r st q tick phase (n + 1) task) (sym (later-one n (next-free j belongs is single))) (one-stretch j (n + 1) belongs is single (omega arith))
              | inr more ↦
                  let long : ticks_of_region s most task next.left ≡ min most (next.left + 1) = ap (λ o. ticks_of_region s most o next.left) is ∙ cond-false _ _ _ more in
                  subst (IsStretch s r st q tick phase (n + 1) task) (sym (later-within j n is)) (within-stretch j n is (omega (arith, less, long)))
            ])

    pub region-long : (most ticks : ℕ) → ticks ≡ ticks_of_region s most task next.left → ticks ≡ length_of s r st q tick phase most
    region-long most ticks is =
        is ∙ sym (length-by_kind s r st q tick phase Preemptive most kind ∙ ap (λ (x : Choice). ticks_of_region s most x.task x.state.left) (sym e))
