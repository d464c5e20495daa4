-- The sources of a draft that are on clocks.
use Rattle.std.proofs.Common.{◌≡◌, ℕ, zero, suc, ℤ, pos, negsuc, nat_le, is_some, drop, ◌+◌, ◌<◌, ◌≤◌, true, false, List, [], ◌∷◌, ◌++◌, map, length, take, get_or, Option, Some, None, refl, sym, ap, ◌∙◌, inl, inr, arith}
use Rattle.std.specs.Prelude.{All, nat_lt, if◌then◌else◌}
use Rattle.std.specs.Str.{bytes_eq}
use Rattle.std.proofs.lemmas.Bool.{cases_Bool, or_parts, and_parts, ltb-false, leb-true, false≢true}
use Rattle.std.proofs.lemmas.List.{map-append, append-nil, take_more, take_all, take-append-drop}
use Rattle.std.proofs.lemmas.List.Elements.{All-cons, filter-append}
use Rattle.cpa_units.specs.declared.limits.TheConstants.{MAX_PERIOD, MAX_JITTER}
use Rattle.cpa_units.specs.declared.limits.Size.{Size}
use Rattle.cpa_draft.specs.Numbers.{nat_of, is_within, may_be_within}
use Rattle.cpa_draft.specs.Refusals.{source_fits, sporadic_fits, clock_fits, offset_fits}
use Rattle.cpa_draft.specs.First.{first_place}
use Rattle.cpa_draft.proofs.FirstLemmas.{none_marked, all_unmarked}
use Rattle.cpa_draft.specs.Clocks.{is_clock, periods_on, is_overlong, is_too_long, is_long, measure_of, joined, measured, Measures, IsShort, IsTicking, AreMeasured}
use Rattle.cpa_draft.specs.declared.clocks.TheConstants.{MAX_STARTS}
use Rattle.cpa_draft.specs.declared.clocks.Measure.{Measure}
use Rattle.cpa_draft.specs.declared.draft.DraftSource.{DraftSource}
use Rattle.cpa_draft.proofs.ClockLaws.{multiple-some, measure-more, part-short}
use Rattle.cpa_draft.proofs.ListLaws.{all-append}
use Rattle.cpa_draft.proofs.NameLaws.{bytes-same, same-bytes}

pub periods_on-append : (name : List ℕ) (rs ss : List DraftSource) → periods_on name (rs ++ ss) ≡ periods_on name rs ++ periods_on name ss
periods_on-append name rs ss =
    ap (λ xs. map (λ (r : DraftSource). nat_of r.period) xs) (filter-append (λ (r : DraftSource). is_clock name r.clock) rs ss) ∙ map-append _ _ _

-- one source
pub periods_on-one : (name : List ℕ) (r : DraftSource) → is_clock name r.clock ≡ true → periods_on name (r ∷ []) ≡ nat_of r.period ∷ []
periods_on-one name r on = rw on refl

pub periods_on-other : (name : List ℕ) (r : DraftSource) → is_clock name r.clock ≡ false → periods_on name (r ∷ []) ≡ []
periods_on-other name r off = rw off refl

pub periods-above : (name : List ℕ) (rs : List DraftSource) → All IsTicking rs → All (λ p. 0 < p) (periods_on name rs)
periods-above name [] each = λ k d less. absurd (omega arith)
periods-above name (r ∷ rs) each =
    let rest = periods-above name rs (λ k d less. each (suc k) d (omega arith)) in
    elim (cases_Bool (is_clock name r.clock)) [
      | inl on ↦ rw on (All-cons (λ p. 0 < p) (nat_of r.period) (periods_on name rs) (each 0 r (omega arith)).0 rest)
      | inr off ↦ rw off rest
    ]

-- one more source
more-on : (name : List ℕ) (rs : List DraftSource) (r : DraftSource) → is_clock name r.clock ≡ true → periods_on name (rs ++ r ∷ []) ≡ periods_on name rs ++ nat_of r.period ∷ []
more-on name rs r on = periods_on-append name rs (r ∷ []) ∙ ap (λ ps. periods_on name rs ++ ps) (periods_on-one name r on)

more-other : (name : List ℕ) (rs : List DraftSource) (r : DraftSource) → is_clock name r.clock ≡ false → periods_on name (rs ++ r ∷ []) ≡ periods_on name rs
more-other name rs r off = periods_on-append name rs (r ∷ []) ∙ ap (λ ps. periods_on name rs ++ ps) (periods_on-other name r off) ∙ append-nil _

all-one : (r : DraftSource) → IsTicking r → All IsTicking (r ∷ [])
all-one r h = All-cons IsTicking r [] h (λ k d less. absurd (omega arith))

short-from : (m : Measure) → 0 < m.cycle → is_long m ≡ false → IsShort m
short-from m some h =
    let both = or_parts (nat_lt MAX_PERIOD m.cycle) (nat_lt MAX_STARTS m.starts) h in
    record { some = some; cycle = ltb-false MAX_PERIOD m.cycle both.0; starts = ltb-false MAX_STARTS m.starts both.1 }

-- measures with one more source
module _ (rs : List DraftSource) (old : Measures) (r : DraftSource) (are : AreMeasured rs old) (ticks : IsTicking r) where
  pub measured-off : r.clock ≡ None → AreMeasured (rs ++ r ∷ []) old
  measured-off off = record {
    periods = all-append IsTicking rs (r ∷ []) are.periods (all-one r ticks);
    known = λ name. are.known name ∙ ap measure_of (sym (more-other name rs r (rw off refl)));
    short = are.short;
  }

  module _ (clock : List ℕ) (on : r.clock ≡ Some clock) where
    joined-known : joined (measured old clock) (nat_of r.period) ≡ measure_of (periods_on clock (rs ++ r ∷ []))
    joined-known =
        ap (λ m. joined m (nat_of r.period)) (are.known clock)
        ∙ sym (measure-more (periods_on clock rs) (nat_of r.period) (periods-above clock rs are.periods) ticks.0)
        ∙ ap measure_of (sym (more-on clock rs r (rw on (same-bytes clock))))

    pub long-known : is_long (joined (measured old clock) (nat_of r.period)) ≡ is_overlong r.clock (rs ++ r ∷ [])
    long-known = ap is_long joined-known ∙ rw on refl

    pub measured-on : (new : Measures) → is_long (joined (measured old clock) (nat_of r.period)) ≡ false
        → ((other : List ℕ) → measured new other ≡ (if bytes_eq other clock then joined (measured old clock) (nat_of r.period) else measured old other))
        → AreMeasured (rs ++ r ∷ []) new
    measured-on new fits put = record {
      periods = all-append IsTicking rs (r ∷ []) are.periods (all-one r ticks);
      known = λ name. elim (cases_Bool (bytes_eq name clock)) [
        | inl same ↦ let e : name ≡ clock = bytes-same name clock same in rw (put name, same, e) joined-known
        | inr other ↦ rw (put name, other) (are.known name ∙ ap measure_of (sym (more-other name rs r (rw on other))))
      ];
      short = λ name. elim (cases_Bool (bytes_eq name clock)) [
        | inl same ↦ rw (put name, same) (short-from _ (multiple-some (measured old clock).cycle (nat_of r.period)) fits)
        | inr other ↦ rw (put name, other) (are.short name)
      ];
    }

pub measured-none : AreMeasured [] []
measured-none = record {
  periods = λ k d less. absurd (omega arith);
  known = λ name. refl;
  short = λ name. record { some = omega arith; cycle = omega arith; starts = omega arith };
}

-- ---- all sources of a clock
overlong-on : (name : List ℕ) (clock : Option (List ℕ)) (rs : List DraftSource) → is_clock name clock ≡ true → is_overlong clock rs ≡ is_too_long (periods_on name rs)
overlong-on name None rs on = absurd (false≢true on)
overlong-on name (Some other) rs on = let e : name ≡ other = bytes-same name other on in rw e refl

all-left : {X : Type 0} (P : X → Type 0) (xs ys : List X) → All P (xs ++ ys) → All P xs
all-left P [] ys each = λ k d less. absurd (omega arith)
all-left P (x ∷ xs) ys each = All-cons P x xs (each 0 x (omega arith)) (all-left P xs ys (λ k d less. each (suc k) d (omega arith)))

all-right : {X : Type 0} (P : X → Type 0) (xs ys : List X) → All P (xs ++ ys) → All P ys
all-right P [] ys each = each
all-right P (x ∷ xs) ys each = all-right P xs ys (λ k d less. each (suc k) d (omega arith))

module _ (rs : List DraftSource) (ticks : All IsTicking rs) where
  -- with fewer sources the clock isn't too long either
  part-short_on : (name : List ℕ) (n : ℕ) → is_too_long (periods_on name rs) ≡ false → is_too_long (periods_on name (take n rs)) ≡ false
  part-short_on name n short =
      let split : take n rs ++ drop n rs ≡ rs = take-append-drop n rs in
      let periods : periods_on name rs ≡ periods_on name (take n rs) ++ periods_on name (drop n rs) = ap (periods_on name) (sym split) ∙ periods_on-append name (take n rs) (drop n rs) in
      let each = rw periods at (periods-above name rs ticks) in
      let ps = periods_on name (take n rs) in
      let qs = periods_on name (drop n rs) in
      part-short ps qs (all-left (λ p. 0 < p) ps qs each) (all-right (λ p. 0 < p) ps qs each) (rw periods at short)

  overlong-part : (clock : Option (List ℕ)) (n : ℕ) → is_overlong clock rs ≡ false → is_overlong clock (take n rs) ≡ false
  overlong-part None n short = refl
  overlong-part (Some name) n short = part-short_on name n short

  -- where no clock is too long, none is with the sources up to one
  pub unmarked-clocks : All (λ (r : DraftSource). is_overlong r.clock rs ≡ false) rs → first_place (λ k (r : DraftSource). is_overlong r.clock (take (k + 1) rs)) rs ≡ None
  unmarked-clocks each = all_unmarked _ rs (λ k d less. overlong-part (get_or rs k d).clock (k + 1) (each k d less))

  -- and the other way round
  module _ (unmarked : first_place (λ k (r : DraftSource). is_overlong r.clock (take (k + 1) rs)) rs ≡ None) (d : DraftSource) where
    short-up_to : (name : List ℕ) (n : ℕ) → n ≤ length rs → is_too_long (periods_on name (take n rs)) ≡ false
    short-up_to name zero less = refl
    short-up_to name (suc n) less =
        let r = get_or rs n d in
        let more : take (n + 1) rs ≡ take n rs ++ r ∷ [] = take_more rs n d (omega arith) in
        let next : suc n ≡ n + 1 = omega arith in
        elim (cases_Bool (is_clock name r.clock)) [
          | inl on ↦ rw next (sym (overlong-on name r.clock (take (n + 1) rs) on) ∙ none_marked _ rs n d unmarked (omega arith))
          | inr off ↦ rw (next, more) (ap is_too_long (more-other name (take n rs) r off) ∙ short-up_to name n (omega arith))
        ]

    short-all : (name : List ℕ) → is_too_long (periods_on name rs) ≡ false
    short-all name = ap (λ ss. is_too_long (periods_on name ss)) (sym (take_all (length rs) rs (omega arith))) ∙ short-up_to name (length rs) (omega arith)

    overlong-none : (clock : Option (List ℕ)) → is_overlong clock rs ≡ false
    overlong-none None = refl
    overlong-none (Some name) = short-all name

  pub short-clocks : first_place (λ k (r : DraftSource). is_overlong r.clock (take (k + 1) rs)) rs ≡ None → All (λ (r : DraftSource). is_overlong r.clock rs ≡ false) rs
  short-clocks unmarked = λ k d less. overlong-none unmarked d (get_or rs k d).clock

-- ---- periods in their range
within-ticks : (z : ℤ) → is_within 1 MAX_PERIOD z ≡ true → (0 < nat_of z) × (nat_of z ≤ MAX_PERIOD)
within-ticks (pos n) h =
    let both = and_parts (nat_le 1 n) (nat_le n MAX_PERIOD) h in
    (let low : 1 ≤ n = leb-true 1 n both.0 in omega arith, leb-true n MAX_PERIOD both.1)
within-ticks (negsuc n) h = absurd (false≢true h)

pub fits-ticks : (z : Size) (r : DraftSource) → source_fits z r ≡ true → IsTicking r
fits-ticks z r h =
    let e = (and_parts _ (offset_fits (is_some r.clock) r.period r.offset) h).0 in
    let c = (and_parts _ (clock_fits z (is_some r.clock)) e).0 in
    let s = (and_parts _ (sporadic_fits z r.sporadic) c).0 in
    let d = (and_parts _ (may_be_within 0 (nat_of r.period) r.distance) s).0 in
    let j = (and_parts _ (may_be_within 0 MAX_JITTER r.jitter) d).0 in
    within-ticks r.period j
