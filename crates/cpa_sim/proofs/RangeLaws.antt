-- Places that pass a test, and what is listed place by place.
use Rattle.std.proofs.Common.{◌≡◌, ℕ, zero, suc, ◌+◌, ◌-◌, ◌<◌, ◌≤◌, ◌++◌, length, List, [], ◌∷◌, Bool, true, false, eqb, get_or, refl, sym, ◌∙◌, ap, inl, inr, arith, length-append}
use Rattle.std.specs.Prelude.{filter}
use Rattle.std.specs.List.{list_any, flat_map, range_with_len}
use Rattle.std.proofs.lemmas.Bool.{cases_lt, cases_Bool, eq-eqb, ne_eqb}
use Rattle.std.proofs.lemmas.List.Elements.{filter-append}
use Rattle.std.proofs.lemmas.List.{append-nil}
use Rattle.std.proofs.lemmas.Grind.{flat_map-append}
use Rattle.cpa_units.proofs.PlaceLaws.{flat_map-places_more}

pub range-split : (a m n : ℕ) → range_with_len a (m + n) ≡ range_with_len a m ++ range_with_len (a + m) n
range-split a zero n =
    let e : 0 + n ≡ n = omega arith in
    let f : a + 0 ≡ a = omega arith in
    rw (e, f) refl
range-split a (suc m) n =
    let e : suc m + n ≡ suc (m + n) = omega arith in
    let f : a + 1 + m ≡ a + suc m = omega arith in
    ap (range_with_len a) e ∙ ap (λ xs. a ∷ xs) (range-split (a + 1) m n ∙ ap (λ k. range_with_len (a + 1) m ++ range_with_len k n) f)

pub filter-none : (p : ℕ → Bool) (a n : ℕ) → ((k : ℕ) → a ≤ k → k < a + n → p k ≡ false) → filter p (range_with_len a n) ≡ []
filter-none p a zero none = refl
filter-none p a (suc n) none = rw (none a (omega arith) (omega arith)) (filter-none p (a + 1) n (λ k low high. none k (omega arith) (omega arith)))

pub filter-all : (p : ℕ → Bool) (a n : ℕ) → ((k : ℕ) → a ≤ k → k < a + n → p k ≡ true) → filter p (range_with_len a n) ≡ range_with_len a n
filter-all p a zero all = refl
filter-all p a (suc n) all = rw (all a (omega arith) (omega arith)) (ap (λ xs. a ∷ xs) (filter-all p (a + 1) n (λ k low high. all k (omega arith) (omega arith))))

-- those from `from` to `to`, of all below n
pub filter-between : (p : ℕ → Bool) (from to n : ℕ) → from ≤ to → to ≤ n → ((k : ℕ) → k < from → p k ≡ false) → ((k : ℕ) → from ≤ k → k < to → p k ≡ true) → ((k : ℕ) → to ≤ k → k < n → p k ≡ false)
    → filter p (range_with_len 0 n) ≡ range_with_len from (to - from)
filter-between p from to n low high before here after =
    let e : from + ((to - from) + (n - to)) ≡ n = omega arith in
    let z : 0 + from ≡ from = omega arith in
    let f : from + (to - from) ≡ to = omega arith in
    let whole : range_with_len 0 n ≡ range_with_len 0 from ++ (range_with_len from (to - from) ++ range_with_len to (n - to)) =
    ap (range_with_len 0) (sym e)
    ∙ (range-split 0 from ((to - from) + (n - to))
    ∙ ap (λ xs. range_with_len 0 from ++ xs) (ap (λ k. range_with_len k ((to - from) + (n - to))) z ∙ (range-split from (to - from) (n - to) ∙ ap (λ k. range_with_len from (to - from) ++ range_with_len k (n - to)) f))) in
    let first : filter p (range_with_len 0 from) ≡ [] = filter-none p 0 from (λ k l h. before k (omega arith)) in
    let mid : filter p (range_with_len from (to - from)) ≡ range_with_len from (to - from) = filter-all p from (to - from) (λ k l h. here k l (omega arith)) in
    let last : filter p (range_with_len to (n - to)) ≡ [] = filter-none p to (n - to) (λ k l h. after k l (omega arith)) in
    ap (filter p) whole
    ∙ (filter-append p (range_with_len 0 from) (range_with_len from (to - from) ++ range_with_len to (n - to))
    ∙ (ap (λ xs. xs ++ filter p (range_with_len from (to - from) ++ range_with_len to (n - to))) first
    ∙ (filter-append p (range_with_len from (to - from)) (range_with_len to (n - to))
    ∙ (ap (λ xs. xs ++ filter p (range_with_len to (n - to))) mid ∙ (ap (λ xs. range_with_len from (to - from) ++ xs) last ∙ append-nil (range_with_len from (to - from)))))))

pub filter-agree : (p q : ℕ → Bool) (a n : ℕ) → ((k : ℕ) → a ≤ k → k < a + n → p k ≡ q k) → filter p (range_with_len a n) ≡ filter q (range_with_len a n)
filter-agree p q a zero agree = refl
filter-agree p q a (suc n) agree = rw (agree a (omega arith) (omega arith), filter-agree p q (a + 1) n (λ k low high. agree k (omega arith) (omega arith))) refl

-- the places that pass lie within their range, and each is past those before it
low-first : (a m : ℕ) (xs : List ℕ) → ((q : ℕ) → q < length xs → a + 1 ≤ get_or xs q 0) → m < length (a ∷ xs) → a ≤ get_or (a ∷ xs) m 0
low-first a zero xs rest h = omega arith
low-first a (suc m) xs rest h = omega (arith, rest m (omega arith))

high-first : (a m b : ℕ) (xs : List ℕ) → a < b → ((q : ℕ) → q < length xs → get_or xs q 0 < b) → m < length (a ∷ xs) → get_or (a ∷ xs) m 0 < b
high-first a zero b xs less rest h = less
high-first a (suc m) b xs less rest h = rest m (omega arith)

rises-first : (a k m : ℕ) (xs : List ℕ) → ((q : ℕ) → q < length xs → a + 1 ≤ get_or xs q 0) → ((q r : ℕ) → q < r → r < length xs → get_or xs q 0 < get_or xs r 0)
    → k < m → m < length (a ∷ xs) → get_or (a ∷ xs) k 0 < get_or (a ∷ xs) m 0
rises-first a k zero xs low rest less h = absurd (omega arith)
rises-first a zero (suc m) xs low rest less h = omega (arith, low m (omega arith))
rises-first a (suc k) (suc m) xs low rest less h = rest k m (omega arith) (omega arith)

pub passing-low : (p : ℕ → Bool) (a n m : ℕ) → m < length (filter p (range_with_len a n)) → a ≤ get_or (filter p (range_with_len a n)) m 0
passing-low p a zero m h = absurd (omega arith)
passing-low p a (suc n) m h =
    let rest : (q : ℕ) → q < length (filter p (range_with_len (a + 1) n)) → a + 1 ≤ get_or (filter p (range_with_len (a + 1) n)) q 0 = passing-low p (a + 1) n in
    elim (cases_Bool (p a)) [
      | inl passes ↦ let h' = rw passes at h in rw passes (low-first a m (filter p (range_with_len (a + 1) n)) rest h')
      | inr fails ↦ let h' = rw fails at h in rw fails (omega (arith, rest m h'))
    ]

pub passing-high : (p : ℕ → Bool) (a n m : ℕ) → m < length (filter p (range_with_len a n)) → get_or (filter p (range_with_len a n)) m 0 < a + n
passing-high p a zero m h = absurd (omega arith)
passing-high p a (suc n) m h =
    let e : (a + 1) + n ≡ a + suc n = omega arith in
    let rest : (q : ℕ) → q < length (filter p (range_with_len (a + 1) n)) → get_or (filter p (range_with_len (a + 1) n)) q 0 < a + suc n = λ q l. omega (arith, passing-high p (a + 1) n q l) in
    elim (cases_Bool (p a)) [
      | inl passes ↦ let h' = rw passes at h in rw passes (high-first a m (a + suc n) (filter p (range_with_len (a + 1) n)) (omega arith) rest h')
      | inr fails ↦ let h' = rw fails at h in rw fails (rest m h')
    ]

pub passing-rises : (p : ℕ → Bool) (a n k m : ℕ) → k < m → m < length (filter p (range_with_len a n)) → get_or (filter p (range_with_len a n)) k 0 < get_or (filter p (range_with_len a n)) m 0
passing-rises p a zero k m less h = absurd (omega arith)
passing-rises p a (suc n) k m less h =
    elim (cases_Bool (p a)) [
      | inl passes ↦ let h' = rw passes at h in rw passes (rises-first a k m (filter p (range_with_len (a + 1) n)) (passing-low p (a + 1) n) (passing-rises p (a + 1) n) less h')
      | inr fails ↦ let h' = rw fails at h in rw fails (passing-rises p (a + 1) n k m less h')
    ]

-- a place is among those that pass where it passes
any-above : (p : ℕ → Bool) (a n i : ℕ) → i < a → list_any (λ x. eqb x i) (filter p (range_with_len a n)) ≡ false
any-above p a zero i less = refl
any-above p a (suc n) i less =
    let differs : eqb a i ≡ false = ne_eqb a i (λ e. absurd (omega arith)) in
    elim (cases_Bool (p a)) [
      | inl passes ↦ rw (passes, differs) (any-above p (a + 1) n i (omega arith))
      | inr fails ↦ rw fails (any-above p (a + 1) n i (omega arith))
    ]

pub any-passing : (p : ℕ → Bool) (a n i : ℕ) → a ≤ i → i < a + n → list_any (λ x. eqb x i) (filter p (range_with_len a n)) ≡ p i
any-passing p a zero i low high = absurd (omega arith)
any-passing p a (suc n) i low high =
    elim (cases_lt a i) [
      | inl more ↦
          let differs : eqb a i ≡ false = ne_eqb a i (λ e. absurd (omega arith)) in
          let rest = any-passing p (a + 1) n i (omega arith) (omega arith) in
          elim (cases_Bool (p a)) [
            | inl passes ↦ rw (passes, differs) rest
            | inr fails ↦ rw fails rest
          ]
      | inr here ↦
          let e : i ≡ a = omega arith in
          let same : eqb a i ≡ true = eq-eqb a i (omega arith) in
          let now : p i ≡ p a = ap p e in
          elim (cases_Bool (p a)) [
            | inl passes ↦ rw (now, passes, same) refl
            | inr fails ↦ rw (now, fails) (any-above p (a + 1) n i (omega arith))
          ]
    ]

-- what is listed for the first places, and for the next
pub part-le : {X : Type 0} (f : ℕ → List X) (k n : ℕ) → k < n → length (flat_map f (range_with_len 0 k)) + length (f k) ≤ length (flat_map f (range_with_len 0 n))
part-le f k n less =
    let e : (k + 1) + (n - (k + 1)) ≡ n = omega arith in
    let whole = ap (flat_map f) (ap (range_with_len 0) (sym e) ∙ range-split 0 (k + 1) (n - (k + 1))) ∙ flat_map-append f (range_with_len 0 (k + 1)) (range_with_len (0 + (k + 1)) (n - (k + 1))) in
    let front = flat_map-places_more f k in
    omega (arith, ap length whole, ap length front, length-append (flat_map f (range_with_len 0 (k + 1))) (flat_map f (range_with_len (0 + (k + 1)) (n - (k + 1)))), length-append (flat_map f (range_with_len 0 k)) (f k))

-- what is listed for each of some places
pub flat_map-agree : {X : Type 0} (f g : ℕ → List X) (a n : ℕ) → ((j : ℕ) → a ≤ j → j < a + n → f j ≡ g j) → flat_map f (range_with_len a n) ≡ flat_map g (range_with_len a n)
flat_map-agree f g a zero agree = refl
flat_map-agree f g a (suc n) agree =
    rw (agree a (omega arith) (omega arith), flat_map-agree f g (a + 1) n (λ j low high. agree j (omega arith) (omega arith))) refl

pub flat_map-none : {X : Type 0} (f : ℕ → List X) (a n : ℕ) → ((j : ℕ) → a ≤ j → j < a + n → f j ≡ []) → flat_map f (range_with_len a n) ≡ []
flat_map-none f a zero none = refl
flat_map-none f a (suc n) none = rw (none a (omega arith) (omega arith), flat_map-none f (a + 1) n (λ j low high. none j (omega arith) (omega arith))) refl

-- nothing is listed between two places
pub flat_map-quiet : {X : Type 0} (f : ℕ → List X) (k n : ℕ) → k ≤ n → ((j : ℕ) → k ≤ j → j < n → f j ≡ []) → flat_map f (range_with_len 0 k) ≡ flat_map f (range_with_len 0 n)
flat_map-quiet f k n low quiet =
    let e : k + (n - k) ≡ n = omega arith in
    let whole = ap (flat_map f) (ap (range_with_len 0) (sym e) ∙ range-split 0 k (n - k)) ∙ flat_map-append f (range_with_len 0 k) (range_with_len (0 + k) (n - k)) in
    let none : flat_map f (range_with_len (0 + k) (n - k)) ≡ [] = flat_map-none f (0 + k) (n - k) (λ j l h. quiet j (omega arith) (omega arith)) in
    sym (whole ∙ (ap (λ xs. flat_map f (range_with_len 0 k) ++ xs) none ∙ append-nil (flat_map f (range_with_len 0 k))))
