-- The work of the clocks that occur is that of all clocks but the task's own.
use Rattle.std.proofs.Common.{◌≡◌, ℕ, zero, suc, ◌+◌, ◌<◌, ◌≤◌, ◌==◌, ◌&&◌, Bool, true, false, if◌then◌else◌, nat_lt, List, [], ◌∷◌, Option, Some, None, length, take, All, refl, sym, ◌∙◌, ap, inl, inr, arith}
use Rattle.std.specs.Prelude.{slice_get, slice_index_or}
use Rattle.std.specs.List.{sum_by, range_with_len}
use Rattle.std.proofs.lemmas.Bool.{cases_lt, cases_eq, cases_Bool, eq-eqb, eqb-true, lt-ltb, le-ltb}
use Rattle.std.proofs.lemmas.List.{get_or-map, get_or-take, length-take-le}
use Rattle.std.proofs.lemmas.List.Sums.{sum_by-cons}
use Rattle.cpa_phase.specs.declared.placed.Placed.{Placed}
use Rattle.cpa_phase.specs.declared.placed.TheConstants.{MAX_PLACED}
use Rattle.cpa_phase.specs.declared.clock.Clock.{Clock}
use Rattle.cpa_phase.specs.Streams.{work_from, IsPlacedOn}
use Rattle.cpa_phase.specs.Clocks.{clock_work, clocks_work, IsClock, AreClocks}
use Rattle.cpa_phase.proofs.WorkLaws.{most_of-le}
use Rattle.cpa_clock.specs.declared.clock_lists.ClockLists.{ClockLists}
use Rattle.cpa_clock.specs.Rivals.{ClockedRival, streams_on, unless_known, other_clocks_work}
use Rattle.cpa_clock.specs.Gathered.{AreCycles, AreLists, AreListsOn, IsPlace, number_at, cycle_at, streams_at, cycles_at, clocks_in, unless_own}
use Rattle.cpa_clock.proofs.ListLaws.{one_place}
use Rattle.cpa_clock.proofs.SumLaws.{range-grows}

-- ---- sums over ranges

range-same : (f g : ℕ → ℕ) (first many : ℕ) → ((c : ℕ) → first ≤ c → c < first + many → f c ≡ g c) → sum_by f (range_with_len first many) ≡ sum_by g (range_with_len first many)
range-same f g first zero all = refl
range-same f g first (suc many) all =
    omega (
      arith,
      all first (omega arith) (omega arith),
      range-same f g (first + 1) many (λ c low high. all c (omega arith) (omega arith)),
      sum_by-cons f first (range_with_len (first + 1) many),
      sum_by-cons g first (range_with_len (first + 1) many),
    )

range-snoc : (f : ℕ → ℕ) (first many : ℕ) → sum_by f (range_with_len first (suc many)) ≡ sum_by f (range_with_len first many) + f (first + many)
range-snoc f first zero =
    let e : first + 0 ≡ first = omega arith in
    omega (arith, sum_by-cons f first [], ap f e)
range-snoc f first (suc many) =
    let e : first + suc many ≡ first + 1 + many = omega arith in
    omega (
      arith,
      sum_by-cons f first (range_with_len (first + 1) (suc many)),
      sum_by-cons f first (range_with_len (first + 1) many),
      range-snoc f (first + 1) many,
      ap f e,
    )

range-shift : (f : ℕ → ℕ) (first many : ℕ) → sum_by f (range_with_len (first + 1) many) ≡ sum_by (λ k. f (suc k)) (range_with_len first many)
range-shift f first zero = refl
range-shift f first (suc many) =
    let e : first + 1 ≡ suc first = omega arith in
    omega (
      arith,
      sum_by-cons f (first + 1) (range_with_len (first + 1 + 1) many),
      sum_by-cons (λ k. f (suc k)) first (range_with_len (first + 1) many),
      range-shift f (first + 1) many,
      ap f e,
    )

-- all but one number of a range, and that one
abbrev without : (ℕ → ℕ) → ℕ → ℕ → ℕ
without f n c = if n == c then 0 else f c

without-same : (f : ℕ → ℕ) (n : ℕ) → without f n n ≡ 0
without-same f n = rw (eq-eqb n n refl) refl

without-other : (f : ℕ → ℕ) (n c : ℕ) → (c ≡ n → ⊥) → without f n c ≡ f c
without-other f n c apart =
    elim (cases_Bool (n == c)) [ inl same ↦ absurd (apart (sym (eqb-true n c same))) | inr other ↦ rw other refl ]

range-but_one : (f : ℕ → ℕ) (n first many : ℕ) → first ≤ n → n < first + many → sum_by f (range_with_len first many) ≡ sum_by (without f n) (range_with_len first many) + f n
range-but_one f n first zero low high = absurd (omega arith)
range-but_one f n first (suc many) low high =
    elim (cases_eq first n) [
      | inl same ↦
          let here : without f n first ≡ 0 = rw same (without-same f n) in
          let rest = range-same f (without f n) (first + 1) many (λ c above under. sym (without-other f n c (λ e. omega arith))) in
          omega (arith, here, rest, ap f same, sum_by-cons f first (range_with_len (first + 1) many), sum_by-cons (without f n) first (range_with_len (first + 1) many))
      | inr apart ↦
          omega (
            arith,
            without-other f n first apart,
            range-but_one f n (first + 1) many (omega (arith, apart)) (omega arith),
            sum_by-cons f first (range_with_len (first + 1) many),
            sum_by-cons (without f n) first (range_with_len (first + 1) many),
          )
    ]

-- a sum over all numbers is one over those that occur, each once, where no other adds anything
sum-places : (f number : ℕ → ℕ) (many count : ℕ) → ((k : ℕ) → k < many → number k < count) → ((j k : ℕ) → j < many → k < many → number j ≡ number k → j ≡ k)
    → ((c : ℕ) → c < count → ((k : ℕ) → k < many → number k ≡ c → ⊥) → f c ≡ 0) → sum_by f (range_with_len 0 count) ≡ sum_by (λ k. f (number k)) (range_with_len 0 many)
sum-places f number zero count below once nothing =
    range-same f (λ c. 0) 0 count (λ c low high. nothing c (omega arith) (λ k less e. absurd (omega arith))) ∙ none 0 count
  where
    none : (first many : ℕ) → sum_by (λ c. 0) (range_with_len first many) ≡ 0
    none first zero = refl
    none first (suc many) = omega (arith, none (first + 1) many, sum_by-cons (λ c. 0) first (range_with_len (first + 1) many))
sum-places f number (suc many) count below once nothing =
    let last = number many in
    let at : 0 + many ≡ many = omega arith in
    let others =
    sum-places (without f last) number many count (λ k less. below k (omega arith)) (λ j k there here. once j k (omega arith) (omega arith)) (λ c less nowhere. outside c less nowhere)
    in
    let same = range-same (λ k. without f last (number k)) (λ k. f (number k)) 0 many (λ k low high. without-other f last (number k) (λ e. absurd (let i = once k many (omega arith) (omega arith) e in omega arith))) in
    omega (arith, range-but_one f last 0 count (omega arith) (omega (arith, below many (omega arith))), others, same, range-snoc (λ k. f (number k)) 0 many, ap (λ k. f (number k)) at)
  where
    outside : (c : ℕ) → c < count → ((k : ℕ) → k < many → number k ≡ c → ⊥) → without f (number many) c ≡ 0
    outside c less nowhere =
        elim (cases_eq c (number many)) [
          | inl same ↦ rw same (without-same f (number many))
          | inr apart ↦ without-other f (number many) c apart ∙ nothing c less (λ k there e. elim (cases_lt k many) [
            | inl before ↦ nowhere k before e
            | inr here ↦ let last : k ≡ many = omega arith in apart (sym e ∙ ap number last)
          ])
        ]

-- ---- the clocks that occur

-- a sum over the first of some clocks is one over their places
sum-take : (g : List Placed → ℕ → ℕ) (clocks : List Clock) (many : ℕ) → many ≤ length clocks
    → sum_by (λ (c : Clock). g c.streams.items c.cycle) (take many clocks) ≡ sum_by (λ k. g (streams_at clocks k) (cycle_at clocks k)) (range_with_len 0 many)
sum-take g clocks zero few = refl
sum-take g [] (suc many) few = absurd (omega arith)
sum-take g (c ∷ clocks) (suc many) few =
    omega (
      arith,
      sum_by-cons (λ (c : Clock). g c.streams.items c.cycle) c (take many clocks),
      sum_by-cons (λ k. g (streams_at (c ∷ clocks) k) (cycle_at (c ∷ clocks) k)) 0 (range_with_len 1 many),
      range-shift (λ k. g (streams_at (c ∷ clocks) k) (cycle_at (c ∷ clocks) k)) 0 many,
      sum-take g clocks many (omega arith),
    )

-- no streams ask for anything
pub no_streams_work : (cycle w : ℕ) → clock_work [] cycle w ≡ 0
no_streams_work cycle w = let most = most_of-le (λ x. work_from [] x w) cycle 0 (λ x some le. omega arith) in omega (arith, most)

module _ (cycles : List ℕ) (lists : ℕ → List Placed) (l : ClockLists) (h : AreLists cycles lists l) where
  abbrev work : ℕ → ℕ → ℕ
  work w c = clock_work (lists c) (cycles_at cycles c) w

  clocks-work : (w : ℕ) → clocks_work (clocks_in l) w ≡ sum_by (work w) (range_with_len 0 (length cycles))
  clocks-work w =
      sum-take (λ ps cycle. clock_work ps cycle w) l.clocks.items (length l.numbers.items) h.long
      ∙ range-same (λ k. clock_work (streams_at l.clocks.items k) (cycle_at l.clocks.items k) w) (λ k. work w (number_at l k)) 0 (length l.numbers.items)
      (λ k low high. rw (h.streams k (omega arith), h.cycle k (omega arith)) refl)
      ∙ sym (sum-places (work w) (number_at l) (length l.numbers.items) (length cycles) h.there (λ j k there here. one_place cycles lists l j k h there here)
      (λ c less nowhere. rw (h.none c (λ k place. nowhere k place.0 place.1)) (no_streams_work (cycles_at cycles c) w)))

  -- a clock occurs
  abbrev occurs_at : Option ℕ → ℕ → Bool
  occurs_at None c = false
  occurs_at (Some k) c = nat_lt k (length l.numbers.items) && (number_at l k == c)

  abbrev one_if : Bool → ℕ
  one_if b = if b then 1 else 0

  -- no more occur than there are
  pub few_places : length l.numbers.items ≤ length cycles
  few_places =
      let ones = sum-places (λ c. one_if (occurs_at (slice_get l.places.items c) c)) (number_at l) (length l.numbers.items) (length cycles) h.there
      (λ j k there here. one_place cycles lists l j k h there here) absent in
      let all = range-same (λ k. one_if (occurs_at (slice_get l.places.items (number_at l k)) (number_at l k))) (λ k. 1) 0 (length l.numbers.items) (λ k low high. present k (omega arith)) in
      let most = range-grows (λ c. one_if (occurs_at (slice_get l.places.items c) c)) (λ c. 1) 0 (length cycles) (λ c low high. at_most (occurs_at (slice_get l.places.items c) c)) in
      omega (arith, ones, all, most, count_ones 0 (length l.numbers.items), count_ones 0 (length cycles))
    where
      count_ones : (first many : ℕ) → sum_by (λ c. 1) (range_with_len first many) ≡ many
      count_ones first zero = refl
      count_ones first (suc many) = omega (arith, count_ones (first + 1) many, sum_by-cons (λ c. 1) first (range_with_len (first + 1) many))

      at_most : (b : Bool) → one_if b ≤ 1
      at_most true = omega arith
      at_most false = omega arith

      present : (k : ℕ) → IsPlace l k → one_if (occurs_at (slice_get l.places.items (number_at l k)) (number_at l k)) ≡ 1
      present k there = rw (h.once k there, lt-ltb k (length l.numbers.items) there, eq-eqb (number_at l k) (number_at l k) refl) refl

      absent : (c : ℕ) → c < length cycles → ((k : ℕ) → k < length l.numbers.items → number_at l k ≡ c → ⊥) → one_if (occurs_at (slice_get l.places.items c) c) ≡ 0
      absent c less nowhere = by (slice_get l.places.items c)
        where
          by : (o : Option ℕ) → one_if (occurs_at o c) ≡ 0
          by None = refl
          by (Some k) =
              elim (cases_lt k (length l.numbers.items)) [
                | inl there ↦ elim (cases_Bool (number_at l k == c)) [
                  | inl same ↦ absurd (nowhere k there (eqb-true (number_at l k) c same))
                  | inr other ↦ rw (lt-ltb k (length l.numbers.items) there, other) refl
                ]
                | inr beyond ↦ rw (le-ltb k (length l.numbers.items) beyond) refl
              ]

  -- they are clocks with which the analysis can compute
  pub clocks-in_range : (most : ℕ) → AreCycles cycles → AreListsOn cycles most lists → most ≤ MAX_PLACED → AreClocks (clocks_in l)
  clocks-in_range most can on few = record { few = omega (arith, few_places, can.few, length-take-le (length l.numbers.items) l.clocks.items h.long); each = each }
    where
      one : (x : Clock) (n : ℕ) → n < length cycles → x.cycle ≡ cycles_at cycles n → x.streams.items ≡ lists n → IsClock x
      one x n there cycle streams = record {
        some = rw cycle (can.some n 1 there);
        short = rw cycle (can.short n 1 there);
        placed = record { few = rw streams (omega (arith, on.few n, few)); each = rw streams (λ k d less. (on.each n k d less).placed) };
        whole = rw (cycle, streams) (on.each n);
      }

      each : All IsClock (clocks_in l)
      each k d less =
          let at : k < length l.numbers.items = omega (arith, less, length-take-le (length l.numbers.items) l.clocks.items h.long) in
          let there : k < length l.clocks.items = omega (arith, at, h.long) in
          let is : slice_index_or (clocks_in l) k d ≡ slice_index_or l.clocks.items k d = get_or-take (length l.numbers.items) l.clocks.items k d at in
          one (slice_index_or (clocks_in l) k d) (number_at l k) (h.there k at)
          (ap (λ (c : Clock). c.cycle) is ∙ (sym (get_or-map (λ (c : Clock). c.cycle) l.clocks.items k d 1 there) ∙ h.cycle k at))
          (ap (λ (c : Clock). c.streams.items) is ∙ (sym (get_or-map (λ (c : Clock). c.streams.items) l.clocks.items k d [] there) ∙ h.streams k at))

-- and so are those without the task's own
pub unless_own-on : (own : Option ℕ) (cycles : List ℕ) (most : ℕ) (lists : ℕ → List Placed) → AreListsOn cycles most lists → AreListsOn cycles most (unless_own own lists)
unless_own-on None cycles most lists on = on
unless_own-on (Some own) cycles most lists on = record { few = few; each = each }
  where
    few : (c : ℕ) → length (unless_own (Some own) lists c) ≤ most
    few c = elim (cases_Bool (own == c)) [ inl here ↦ rw here (omega arith) | inr other ↦ rw other (on.few c) ]

    each : (c : ℕ) → All (IsPlacedOn (cycles_at cycles c)) (unless_own (Some own) lists c)
    each c = elim (cases_Bool (own == c)) [ inl here ↦ rw here (λ k d less. absurd (omega arith)) | inr other ↦ rw other (on.each c) ]

-- their work is that of all clocks but the task's own
pub other-clocks : (own : Option ℕ) (cycles : List ℕ) (rs : List ClockedRival) (l : ClockLists) (w : ℕ) → AreLists cycles (unless_own own (λ c. streams_on c rs)) l
    → clocks_work (clocks_in l) w ≡ other_clocks_work own rs (cycles_at cycles) (length cycles) w
other-clocks own cycles rs l w h = clocks-work cycles (unless_own own (λ c. streams_on c rs)) l h w ∙ range-same (λ c. clock_work (unless_own own (λ c. streams_on c rs) c) (cycles_at cycles c) w) (λ c. unless_known own c (clock_work (streams_on c rs) (cycles_at cycles c) w)) 0 (length cycles) (λ c low high. each own c)
  where
    each : (own : Option ℕ) (c : ℕ) → clock_work (unless_own own (λ c. streams_on c rs) c) (cycles_at cycles c) w ≡ unless_known own c (clock_work (streams_on c rs) (cycles_at cycles c) w)
    each None c = refl
    each (Some k) c =
        elim (cases_Bool (k == c)) [
          | inl here ↦ rw here (no_streams_work (cycles_at cycles c) w)
          | inr other ↦ rw other refl
        ]
