-- How lists of streams by clocks are kept.
use Rattle.std.proofs.Common.{◌≡◌, ℕ, ◌<◌, ◌==◌, ◌++◌, true, false, eqb, List, [], ◌∷◌, Option, Some, None, length, map, refl, sym, ◌∙◌, ap, inl, inr, arith}
use Rattle.std.specs.Prelude.{slice_get, slice_index_or, slice_set}
use Rattle.std.specs.Option.{option_eq}
use Rattle.std.proofs.Math.Path.{fun_ext}
use Rattle.std.proofs.lemmas.Bool.{cases_eq, cases_Bool, eq-eqb, eqb-true}
use Rattle.std.proofs.lemmas.List.{get_or-map, get_or-set_same, get_or-set_other, length-map, length-set, map-set}
use Rattle.cpa_phase.specs.declared.placed.Placed.{Placed}
use Rattle.cpa_phase.specs.declared.clock.Clock.{Clock}
use Rattle.cpa_clock.specs.declared.clock_lists.ClockLists.{ClockLists}
use Rattle.cpa_clock.specs.Gathered.{AreLists, IsPlace, IsPlaceOf, HasNoPlace, HasMoreAt, joint_among, number_at, cycle_at, streams_at, more_at, unless_own}

-- two places have one number only where they are one
pub one_place : (cycles : List ℕ) (lists : ℕ → List Placed) (l : ClockLists) (j k : ℕ) → AreLists cycles lists l → IsPlace l j → IsPlace l k → number_at l j ≡ number_at l k → j ≡ k
one_place cycles lists l j k h there here same =
    let first : slice_get l.places.items (number_at l j) ≡ Some j = h.once j there in
    let second : slice_get l.places.items (number_at l j) ≡ Some k = rw same (h.once k here) in
    some-same j k ((sym first) ∙ second)
  where
    some-same : (j k : ℕ) → Some j ≡ Some k → j ≡ k
    some-same j k e = cc

-- a clock put in the place of another, and others as before
module _ (clocks : List Clock) (place : ℕ) (clock : Clock) where
  pub cycle_at-put : place < length clocks → cycle_at (slice_set clocks place clock) place ≡ clock.cycle
  cycle_at-put there =
      rw (map-set (λ (c : Clock). c.cycle) clocks place clock)
      (get_or-set_same (map (λ (c : Clock). c.cycle) clocks) place clock.cycle 1 (rw (length-map clocks (λ (c : Clock). c.cycle)) there))

  pub streams_at-put : place < length clocks → streams_at (slice_set clocks place clock) place ≡ clock.streams.items
  streams_at-put there =
      rw (map-set (λ (c : Clock). c.streams.items) clocks place clock)
      (get_or-set_same (map (λ (c : Clock). c.streams.items) clocks) place clock.streams.items [] (rw (length-map clocks (λ (c : Clock). c.streams.items)) there))

  pub cycle_at-other : (k : ℕ) → (k ≡ place → ⊥) → cycle_at (slice_set clocks place clock) k ≡ cycle_at clocks k
  cycle_at-other k apart = rw (map-set (λ (c : Clock). c.cycle) clocks place clock) (get_or-set_other (map (λ (c : Clock). c.cycle) clocks) place k clock.cycle 1 apart)

  pub streams_at-other : (k : ℕ) → (k ≡ place → ⊥) → streams_at (slice_set clocks place clock) k ≡ streams_at clocks k
  streams_at-other k apart = rw (map-set (λ (c : Clock). c.streams.items) clocks place clock) (get_or-set_other (map (λ (c : Clock). c.streams.items) clocks) place k clock.streams.items [] apart)

  pub more_at_place : (stream : Placed) → place < length clocks → clock.cycle ≡ cycle_at clocks place → clock.streams.items ≡ streams_at clocks place ++ stream ∷ [] → HasMoreAt place stream clocks (slice_set clocks place clock)
  more_at_place stream there cycle streams = record {
    long = length-set clocks place clock;
    cycles = λ k less. elim (cases_eq k place) [
      | inl same ↦ rw same (cycle_at-put there ∙ cycle)
      | inr apart ↦ cycle_at-other k apart
    ];
    here = streams_at-put there ∙ streams;
    elsewhere = streams_at-other;
  }

-- what stands at a place of a list
module _ (clocks : List Clock) (place : ℕ) (clock : Clock) (there : place < length clocks) (is : clock ≡ slice_index_or clocks place clock) where
  pub cycle_at-is : clock.cycle ≡ cycle_at clocks place
  cycle_at-is = ap (λ (c : Clock). c.cycle) is ∙ sym (get_or-map (λ (c : Clock). c.cycle) clocks place clock 1 there)

  pub streams_at-is : clock.streams.items ≡ streams_at clocks place
  streams_at-is = ap (λ (c : Clock). c.streams.items) is ∙ sym (get_or-map (λ (c : Clock). c.streams.items) clocks place clock [] there)

-- a stream more in one of the lists
module _ (cycles : List ℕ) (lists : ℕ → List Placed) (old new : ClockLists) (number place : ℕ) (p : Placed)
    (numbers : new.numbers.items ≡ old.numbers.items) (places : new.places.items ≡ old.places.items) (more : HasMoreAt place p old.clocks.items new.clocks.items)
    (is_place : IsPlaceOf old number place) (h : AreLists cycles lists old) where
  more-same : more_at number p lists number ≡ lists number ++ p ∷ []
  more-same = rw (eq-eqb number number refl) refl

  more-other : (c : ℕ) → (c ≡ number → ⊥) → more_at number p lists c ≡ lists c
  more-other c apart =
      elim (cases_Bool (number == c)) [
        | inl same ↦ absurd (apart (sym (eqb-true number c same)))
        | inr other ↦ rw other refl
      ]

  more-streams : (k : ℕ) → IsPlace old k → streams_at new.clocks.items k ≡ more_at number p lists (number_at old k)
  more-streams k there =
      elim (cases_eq k place) [
        | inl same ↦
            let at : streams_at new.clocks.items place ≡ more_at number p lists (number_at old place) =
            rw (is_place.1, more-same) (more.here ∙ (ap (λ xs. xs ++ p ∷ []) ((h.streams place is_place.0) ∙ (ap lists is_place.1)))) in
            rw same at
        | inr apart ↦
            ((more.elsewhere k apart) ∙ ((h.streams k there) ∙ (sym (more-other (number_at old k) (λ same.
            apart (one_place cycles lists old k place h there is_place.0 (same ∙ (sym is_place.1))))))))
      ]

  pub pushed : AreLists cycles (more_at number p lists) new
  pushed = record {
    long = omega (arith, h.long, more.long, ap length numbers);
    there = λ k there. rw numbers (h.there k (rw numbers at there));
    once = λ k there. rw (numbers, places) (h.once k (rw numbers at there));
    cycle = λ k there. rw numbers ((more.cycles k (omega (arith, h.long, rw numbers at there))) ∙ (h.cycle k (rw numbers at there)));
    streams = λ k there. rw numbers (more-streams k (rw numbers at there));
    none = λ c nowhere. none c nowhere;
  }
    where
      none : (c : ℕ) → HasNoPlace new c → more_at number p lists c ≡ []
      none c nowhere =
          let apart : c ≡ number → ⊥ = λ same. nowhere place (rw numbers is_place.0, rw numbers (is_place.1 ∙ (sym same))) in
          ((more-other c apart) ∙ (h.none c (λ k at. nowhere k (rw numbers at.0, rw numbers at.1))))

-- ---- the task's own clock among them

-- whether a clock is the task's own
pub own-same : (own : Option ℕ) (number : ℕ) → option_eq eqb own (Some number) ≡ true → own ≡ Some number
own-same None number e = absurd cc
own-same (Some own) number e = ap Some (eqb-true own number e)

pub own-other : (own : Option ℕ) (number : ℕ) → option_eq eqb own (Some number) ≡ false → own ≡ Some number → ⊥
own-other own number e same =
    let e' = rw same at e in
    let f : eqb number number ≡ true = eq-eqb number number refl in
    absurd cc

more_at-off : (number : ℕ) (p : Placed) (lists : ℕ → List Placed) (c : ℕ) → (c ≡ number → ⊥) → more_at number p lists c ≡ lists c
more_at-off number p lists c apart =
    elim (cases_Bool (number == c)) [
      | inl same ↦ absurd (apart (sym (eqb-true number c same)))
      | inr other ↦ rw other refl
    ]

pub joint-more : (own : ℕ) (p : Placed) (lists : ℕ → List Placed) → joint_among (Some own) (more_at own p lists) ≡ lists own ++ p ∷ []
joint-more own p lists = rw (eq-eqb own own refl) refl

pub others-same : (own : ℕ) (p : Placed) (lists : ℕ → List Placed) → unless_own (Some own) (more_at own p lists) ≡ unless_own (Some own) lists
others-same own p lists = fun_ext each
  where
    each : (c : ℕ) → unless_own (Some own) (more_at own p lists) c ≡ unless_own (Some own) lists c
    each c =
        elim (cases_Bool (own == c)) [ inl here ↦ rw here refl | inr other ↦ rw other refl ]

pub joint-same : (own : Option ℕ) (number : ℕ) (p : Placed) (lists : ℕ → List Placed) → (own ≡ Some number → ⊥) → joint_among own (more_at number p lists) ≡ joint_among own lists
joint-same None number p lists apart = refl
joint-same (Some own) number p lists apart = more_at-off number p lists own (λ same. apart (ap Some same))

pub others-more : (own : Option ℕ) (number : ℕ) (p : Placed) (lists : ℕ → List Placed) → (own ≡ Some number → ⊥) → unless_own own (more_at number p lists) ≡ more_at number p (unless_own own lists)
others-more None number p lists apart = refl
others-more (Some own) number p lists apart = fun_ext each
  where
    each : (c : ℕ) → unless_own (Some own) (more_at number p lists) c ≡ more_at number p (unless_own (Some own) lists) c
    each c =
        elim (cases_Bool (own == c)) [
          | inl here ↦
              let is : own ≡ c = eqb-true own c here in
              let off : more_at number p (unless_own (Some own) lists) c ≡ unless_own (Some own) lists c = more_at-off number p (unless_own (Some own) lists) c (λ same. apart (ap Some (is ∙ same))) in
              let left : unless_own (Some own) (more_at number p lists) c ≡ [] = rw here refl in
              let right : unless_own (Some own) lists c ≡ [] = rw here refl in
              left ∙ sym (off ∙ right)
          | inr other ↦ rw other refl
        ]
