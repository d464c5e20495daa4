-- How many of some times have come.
use Rattle.std.proofs.Common.{◌≡◌, ℕ, zero, suc, ◌+◌, ◌-◌, ◌<◌, ◌≤◌, max, length, List, [], ◌∷◌, ◌++◌, get_or, cond, nat_le, refl, sym, ◌∙◌, ap, inl, inr, arith}
use Rattle.std.specs.Prelude.{sum_by}
use Rattle.std.specs.List.{flat_map}
use Rattle.std.specs.List.Sorted.{IsNonDecreasing, IsPermutation}
use Rattle.std.proofs.lemmas.Bool.{cases_lt, le-leb, lt-leb}
use Rattle.std.proofs.lemmas.List.Sums.{sum_by-cons, sum_by-append}
use Rattle.std.proofs.lemmas.List.Concat.{flat_map-cons}
use Rattle.std.proofs.lemmas.List.Sorted.{sum_by-IsPermutation, length_permutation}
use Rattle.cpa_buffer.specs.Buffers.{highest}
use Rattle.cpa_buffer.specs.Peaks.{come_by, inside}
use Rattle.cpa_buffer.proofs.GreatestLaws.{greatest-ge, greatest-le}

pub come-here : (t time : ℕ) (times : List ℕ) → time ≤ t → come_by t (time ∷ times) ≡ 1 + come_by t times
come-here t time times h = sum_by-cons (λ x. cond (nat_le x t) 1 0) time times ∙ rw (le-leb time t h) refl

pub come-later : (t time : ℕ) (times : List ℕ) → t < time → come_by t (time ∷ times) ≡ 0 + come_by t times
come-later t time times h = sum_by-cons (λ x. cond (nat_le x t) 1 0) time times ∙ rw (lt-leb time t h) refl

pub come-append : (t : ℕ) (xs ys : List ℕ) → come_by t (xs ++ ys) ≡ come_by t xs + come_by t ys
come-append t xs ys = sum_by-append (λ x. cond (nat_le x t) 1 0) xs ys

pub come-permuted : (t : ℕ) (xs ys : List ℕ) → IsPermutation xs ys → come_by t ys ≡ come_by t xs
come-permuted t xs ys p = sum_by-IsPermutation (λ x. cond (nat_le x t) 1 0) xs ys p

pub come-flat : {X : Type 0} (t : ℕ) (f : X → List ℕ) (is : List X) → come_by t (flat_map f is) ≡ sum_by (λ i. come_by t (f i)) is
come-flat t f [] = refl
come-flat t f (i ∷ is) =
    ap (come_by t) (flat_map-cons f i is) ∙ come-append t (f i) (flat_map f is)
    ∙ (ap (λ n. come_by t (f i) + n) (come-flat t f is) ∙ sym (sum_by-cons (λ i. come_by t (f i)) i is))

pub come-le : (t d : ℕ) (times : List ℕ) → ((m : ℕ) → d ≤ m → m < length times → t < get_or times m 0) → come_by t times ≤ d
come-le t d [] late = omega arith
come-le t zero (time ∷ times) late = omega (arith, come-later t time times (late 0 (omega arith) (omega arith)), come-le t 0 times (λ m low less. late (suc m) (omega arith) (omega arith)))
come-le t (suc d) (time ∷ times) late =
    let rest = come-le t d times (λ m low less. late (suc m) (omega arith) (omega arith)) in
    elim (cases_lt t time) [
      | inl later ↦ omega (arith, come-later t time times later, rest)
      | inr here ↦ omega (arith, come-here t time times here, rest)
    ]

pub come-ge : (t d : ℕ) (times : List ℕ) → d ≤ length times → ((m : ℕ) → m < d → get_or times m 0 ≤ t) → d ≤ come_by t times
come-ge t zero times within before = omega arith
come-ge t (suc d) [] within before = absurd (omega arith)
come-ge t (suc d) (time ∷ times) within before =
    omega (arith, come-here t time times (before 0 (omega arith)), come-ge t d times (omega arith) (λ m less. before (suc m) (omega arith)))

pub come-mono : (t u : ℕ) (times : List ℕ) → t ≤ u → come_by t times ≤ come_by u times
come-mono t u [] le = omega arith
come-mono t u (time ∷ times) le =
    let rest = come-mono t u times le in
    elim (cases_lt t time) [
      | inr here ↦ omega (arith, come-here t time times here, come-here u time times (omega arith), rest)
      | inl later ↦ elim (cases_lt u time) [
        | inl past ↦ omega (arith, come-later t time times later, come-later u time times past, rest)
        | inr now ↦ omega (arith, come-later t time times later, come-here u time times now, rest)
      ]
    ]

-- the cursor has gone past those that have come
pub come-is : (times : List ℕ) (now d : ℕ) → IsNonDecreasing times → d ≤ length times → ((m : ℕ) → m < d → get_or times m 0 ≤ now) → (d < length times → now < get_or times d 0) → d ≡ come_by now times
come-is times now d order within before after =
    let low = come-ge now d times within before in
    let high = come-le now d times (λ m le less. omega (arith, after (omega arith), order d m 0 le less)) in
    omega arith

-- ---- the sweep

-- what is known after so many arrivals
pub record IsSwept (arrivals ends : List ℕ) (k done peak : ℕ) : Type 0 where
  pub within : done ≤ length ends
  pub before : (m j : ℕ) → m < done → k ≤ j → j < length arrivals → get_or ends m 0 ≤ get_or arrivals j 0
  pub above : (t : ℕ) → come_by t arrivals ≤ k → inside arrivals ends t ≤ peak
  pub reached : (last : ℕ) → ((m : ℕ) → m < length arrivals → get_or arrivals m 0 ≤ last) → peak ≤ highest (inside arrivals ends) last

-- one arrival more
pub swept-more : (arrivals ends : List ℕ) (k done done' peak peak' : ℕ) → IsNonDecreasing arrivals → IsSwept arrivals ends k done peak → k < length arrivals
    → done' ≡ come_by (get_or arrivals k 0) ends → done' ≤ length ends → ((m : ℕ) → m < done' → get_or ends m 0 ≤ get_or arrivals k 0)
    → peak' ≡ max peak ((k + 1) - done') → IsSwept arrivals ends (k + 1) done' peak'
swept-more arrivals ends k done done' peak peak' order swept less is within before greater =
    let now : ℕ = get_or arrivals k 0 in
    record {
      within = within;
      before = λ m j below low high. omega (arith, before m below, order k j 0 (omega arith) high);
      above = λ t few.
          elim (cases_lt (come_by t arrivals) (k + 1)) [
            | inl fewer ↦ omega (arith, swept.above t (omega arith), greater)
            | inr last ↦
                elim (cases_lt t now) [
                  | inl early ↦ absurd (omega (arith, last, come-le t k arrivals (λ m low high. omega (arith, early, order k m 0 low high))))
                  | inr come ↦ omega (arith, few, greater, is, come-mono now t ends come)
                ]
          ];
      reached = λ last all.
          let low = come-ge now (k + 1) arrivals (omega arith) (λ m below. order m k 0 (omega arith) less) in
          let here = greatest-ge (inside arrivals ends) last now (all k less) in
          omega (arith, swept.reached last all, greater, is, low, here);
    }

-- all arrivals
pub swept-all : (arrivals ends : List ℕ) (k done peak : ℕ) → IsSwept arrivals ends k done peak → length arrivals ≤ k → (last : ℕ) → ((m : ℕ) → m < length arrivals → get_or arrivals m 0 ≤ last) → peak ≡ highest (inside arrivals ends) last
swept-all arrivals ends k done peak swept end last all =
    let high = greatest-le (inside arrivals ends) last peak (λ t. swept.above t (omega (arith, come-le t (length arrivals) arrivals (λ m low less. absurd (omega arith))))) in
    omega (arith, high, swept.reached last all)

-- the order of the times doesn't matter
pub inside-permuted : (xs ys us vs : List ℕ) (t : ℕ) → IsPermutation xs ys → IsPermutation us vs → inside ys vs t ≡ inside xs us t
inside-permuted xs ys us vs t p q = rw (come-permuted t xs ys p, come-permuted t us vs q) refl

-- whether all have come by a time can be counted
pub all-come : (last : ℕ) (times : List ℕ) → ((m : ℕ) → m < length times → get_or times m 0 ≤ last) → length times ≤ come_by last times
all-come last times all = come-ge last (length times) times (omega arith) all

pub come-few : (last : ℕ) (times : List ℕ) → come_by last times ≤ length times
come-few last times = come-le last (length times) times (λ m low less. absurd (omega arith))

pub come-all : (last : ℕ) (times : List ℕ) → length times ≤ come_by last times → (m : ℕ) → m < length times → get_or times m 0 ≤ last
come-all last [] all m less = absurd (omega arith)
come-all last (time ∷ times) all zero less =
    elim (cases_lt last time) [
      | inl later ↦ absurd (omega (arith, come-later last time times later, all, come-few last times))
      | inr here ↦ here
    ]
come-all last (time ∷ times) all (suc m) less =
    elim (cases_lt last time) [
      | inl later ↦ absurd (omega (arith, come-later last time times later, all, come-few last times))
      | inr here ↦ come-all last times (omega (arith, come-here last time times here, all)) m (omega arith)
    ]

pub all-permuted : (last : ℕ) (xs ys : List ℕ) → IsPermutation xs ys → ((m : ℕ) → m < length xs → get_or xs m 0 ≤ last) → (m : ℕ) → m < length ys → get_or ys m 0 ≤ last
all-permuted last xs ys p all = come-all last ys (omega (arith, all-come last xs all, come-permuted last xs ys p, length_permutation xs ys p))
