-- A source whose events may come sooner, later or closer together, on the clock that it was on: clocks stay, and it sends in wider
-- intervals.
use Rattle.std.proofs.Common.{◌≡◌, ℕ, zero, suc, ◌<◌, ◌≤◌, length, Bool, true, false, List, [], ◌∷◌, map, set, get_or, Option, Some, None, option_map, refl, sym, ap, ◌∙◌, inl, inr, subst, arith, get_or-set_same, get_or-set_other}
use Rattle.std.specs.Prelude.{filter, position}
use Rattle.std.proofs.lemmas.Bool.{cases_Bool, cases_lt, cases_eq, false≢true}
use Rattle.std.proofs.lemmas.List.{set_past}
use Rattle.std.proofs.lemmas.Option.{none-some}
use Rattle.std.proofs.Math.Seq.{map-set_same}
use Rattle.cpa_events.specs.declared.stream.Stream.{Stream}
use Rattle.cpa_draft.specs.Clocks.{common_cycle}
use Rattle.cpa_draft.proofs.Maps.{position-map}
use Rattle.cpa_clock.specs.declared.anchor.Anchor.{Anchor}
use Rattle.cpa_clock.specs.Wider.{IsWiderOn}
use Rattle.cpa_model.specs.declared.entries.OnClock.{OnClock}
use Rattle.cpa_model.specs.declared.entries.Source.{Source}
use Rattle.cpa_model.specs.Clocks.{names_clock, is_on_clock, is_clocked, first_on, clock_of, offset_on, offset_of, clock_periods, cycle_on, clock_cycle}
use Rattle.cpa_model.specs.SystemLists.{SystemLists, source_at, no_source}
use Rattle.cpa_model.specs.Streams.{source_stream}
use Rattle.cpa_local.specs.OnClocks.{source_anchor}
use Rattle.cpa_local.proofs.WiderLaws.{wider_on-itself}

-- what is made of those that pass stays where one is written over, if the new one passes as the old one did and the same is made of it
made-kept : {X Y : Type 0} (f : X → Y) (p : X → Bool) (xs : List X) (k : ℕ) (y d : X) → p y ≡ p (get_or xs k d) → (p (get_or xs k d) ≡ true → f y ≡ f (get_or xs k d)) → map f (filter p (set xs k y)) ≡ map f (filter p xs)
made-kept f p [] k y d same made = refl
made-kept f p (x ∷ xs) zero y d same made =
    elim (cases_Bool (p x)) [
      | inl passes ↦ rw (passes, same ∙ passes, made passes) refl
      | inr fails ↦ rw (fails, same ∙ fails) refl
    ]
made-kept f p (x ∷ xs) (suc k) y d same made =
    elim (cases_Bool (p x)) [
      | inl passes ↦ rw passes (ap (λ ys. f x ∷ ys) (made-kept f p xs k y d same made))
      | inr fails ↦ rw fails (made-kept f p xs k y d same made)
    ]

-- another source at place k, on the clock that the old one was on, and with its period there
module _ (s : SystemLists) (k : ℕ) (r : Source) (kept : r.on_clock ≡ (source_at s k).on_clock) (period : is_clocked (source_at s k) ≡ true → r.period ≡ (source_at s k).period) where
  abbrev changed : SystemLists
  changed = record s { sources = set s.sources k r }

  at-other : (j : ℕ) → (j ≡ k → ⊥) → source_at changed j ≡ source_at s j
  at-other j other = get_or-set_other s.sources k j r no_source other

  on-same : (j : ℕ) → (source_at changed j).on_clock ≡ (source_at s j).on_clock
  on-same j =
      elim (cases_eq j k) [
        | inl same ↦ elim (cases_lt k (length s.sources)) [
          | inl less ↦ rw same (ap (λ (u : Source). u.on_clock) (get_or-set_same s.sources k r no_source less) ∙ kept)
          | inr past ↦ rw (set_past s.sources k r past) refl
        ]
        | inr other ↦ ap (λ (u : Source). u.on_clock) (at-other j other)
      ]

  first-same : (on : Option OnClock) → first_on changed on ≡ first_on s on
  first-same None = refl
  first-same (Some o) =
      let ons : map (λ (u : Source). u.on_clock) (set s.sources k r) ≡ map (λ (u : Source). u.on_clock) s.sources = map-set_same (λ (u : Source). u.on_clock) s.sources k r no_source kept in
      sym (position-map (names_clock o.clock) (λ (u : Source). u.on_clock) (set s.sources k r))
      ∙ ap (position (names_clock o.clock)) ons
      ∙ position-map (names_clock o.clock) (λ (u : Source). u.on_clock) s.sources

  pub clock_of-same : (j : ℕ) → clock_of changed j ≡ clock_of s j
  clock_of-same j = ap (first_on changed) (on-same j) ∙ first-same (source_at s j).on_clock

  named-clocked : (name : List ℕ) (on : Option OnClock) (u : Source) → u.on_clock ≡ on → names_clock name on ≡ true → is_clocked u ≡ true
  named-clocked name None u e h = absurd (false≢true h)
  named-clocked name (Some o) u e h = rw e refl

  periods-same : (name : List ℕ) → clock_periods changed name ≡ clock_periods s name
  periods-same name =
      made-kept (λ (u : Source). u.period) (is_on_clock name) s.sources k r no_source (ap (names_clock name) kept)
      (λ on. period (named-clocked name (source_at s k).on_clock (source_at s k) refl on))

  cycle-same_on : (on : Option OnClock) → cycle_on changed on ≡ cycle_on s on
  cycle-same_on None = refl
  cycle-same_on (Some o) = ap common_cycle (periods-same o.clock)

  -- each clock has the cycle that it had
  pub cycle-kept : (c : ℕ) → clock_cycle s c ≡ clock_cycle changed c
  cycle-kept c = sym (ap (cycle_on changed) (on-same c) ∙ cycle-same_on (source_at s c).on_clock)

  abbrev anchor_on : Option ℕ → ℕ → Option Anchor
  anchor_on clock offset = option_map (λ c. record { clock = c; offset = offset }) clock

  -- and each source is where it was
  pub anchor-kept : (j : ℕ) → source_anchor s j ≡ source_anchor changed j
  anchor-kept j = sym (ap (λ (c : Option ℕ). anchor_on c (offset_of changed j)) (clock_of-same j) ∙ ap (λ (on : Option OnClock). anchor_on (clock_of s j) (offset_on on)) (on-same j))

  clocked-of : (u : Source) (on : Option OnClock) (c : ℕ) → u.on_clock ≡ on → first_on s on ≡ Some c → is_clocked u ≡ true
  clocked-of u None c e h = absurd (none-some c h)
  clocked-of u (Some o) c e h = rw e refl

  module _ (shorter : r.period ≤ (source_at s k).period) (wider : (source_at s k).jitter ≤ r.jitter) (closer : r.distance ≤ (source_at s k).distance) where
    -- the stream of the source itself
    own-wider : (clock : Option ℕ) (m : Stream) → clock_of s k ≡ clock → m ≡ record { period = r.period; jitter = r.jitter; distance = r.distance } → IsWiderOn (anchor_on clock (offset_of s k)) (anchor_on clock (offset_of s k)) (source_stream s k) m
    own-wider None m e is = rw is (record { period = shorter; jitter = wider; distance = closer })
    own-wider (Some c) m e is =
        let same = period (clocked-of (source_at s k) (source_at s k).on_clock c refl e) in
        rw is (record { clock = refl; placed = record { period = same; sooner = omega arith; later = omega (arith, wider); distance = closer; worst = omega arith } })

    stream-wider : (j : ℕ) → IsWiderOn (source_anchor s j) (source_anchor s j) (source_stream s j) (source_stream changed j)
    stream-wider j =
        elim (cases_eq j k) [
          | inl same ↦ elim (cases_lt k (length s.sources)) [
            | inl less ↦
                let it : source_at changed k ≡ r = get_or-set_same s.sources k r no_source less in
                rw same (own-wider (clock_of s k) (source_stream changed k) refl (ap (λ (u : Source). record { period = u.period; jitter = u.jitter; distance = u.distance }) it))
            | inr past ↦ rw (set_past s.sources k r past) (wider_on-itself (source_anchor s j) (source_stream s j))
          ]
          | inr other ↦ rw (at-other j other) (wider_on-itself (source_anchor s j) (source_stream s j))
        ]

    -- each source sends in wider intervals
    pub source-wider : (j : ℕ) → IsWiderOn (source_anchor s j) (source_anchor changed j) (source_stream s j) (source_stream changed j)
    source-wider j = subst (λ (o : Option Anchor). IsWiderOn (source_anchor s j) o (source_stream s j) (source_stream changed j)) (anchor-kept j) (stream-wider j)
