-- How many places pass a test.
use Rattle.std.proofs.Common.{◌≡◌, ℕ, zero, suc, ◌+◌, ◌<◌, ◌≤◌, ◌==◌, ◌++◌, ◌≢◌, nat_lt, cond, Bool, true, false, List, [], ◌∷◌, length, refl, ap, sym, ◌∙◌, inl, inr, arith}
use Rattle.std.specs.Prelude.{filter}
use Rattle.std.specs.List.{range_with_len}
use Rattle.std.proofs.lemmas.Bool.{cases_Bool, cases_lt, eqb-true, ne_eqb}
use Rattle.std.proofs.lemmas.Bool.Decides.{nat_tests}
use Rattle.std.proofs.lemmas.List.Elements.{filter-append}
use Rattle.std.proofs.lemmas.List.{length-append, append-nil}
use Rattle.cpa_units.proofs.PlaceLaws.{places, places-more}
use Rattle.cpa_assign.specs.Placing.{without}
use Rattle.cpa_assign.specs.Orders.{is_member}
use Rattle.cpa_assign.proofs.OrderLaws.{AreOnce, same_place, flip-no, or-true, and-true}
use Rattle.cpa_local.proofs.PassingPlaces.{filter-agree}

-- one place fewer
pub count-without : (p q : ℕ → Bool) (i a n : ℕ) → ((j : ℕ) → q j ≡ without p i j) → p i ≡ true → a ≤ i → i < a + n → length (filter q (range_with_len a n)) + 1 ≡ length (filter p (range_with_len a n))
count-without p q i a zero same passes low high = absurd (omega (arith, low, high))
count-without p q i a (suc n) same passes low high =
    elim (cases_lt a i) [
      | inl before ↦
          let here : q a ≡ p a = same a ∙ (rw (ne_eqb a i (λ e. omega (arith, before, e))) (and-true (p a))) in
          let rest = count-without p q i (a + 1) n same passes (omega arith) (omega arith) in
          elim (cases_Bool (p a)) [
            | inl yes_here ↦ rw (here, yes_here) (omega (arith, rest))
            | inr fails ↦ rw (here, fails) rest
          ]
      | inr there ↦
          let at : a ≡ i = omega arith in
          let left : q a ≡ false = same a ∙ (rw (at, same_place i, passes) refl) in
          let had : p a ≡ true = ap p at ∙ passes in
          let rest : filter q (range_with_len (a + 1) n) ≡ filter p (range_with_len (a + 1) n) =
          filter-agree q p (a + 1) n (λ j after less. same j ∙ (rw (ne_eqb j i (λ e. omega (arith, after, at, e))) (and-true (p j)))) in
          rw (left, had, rest) (omega arith)
    ]

-- where some pass there is one
pub some-passes : (p : ℕ → Bool) (a n : ℕ) → 0 < length (filter p (range_with_len a n)) → (i : ℕ) × (p i ≡ true)
some-passes p a zero h = absurd (omega (arith, h))
some-passes p a (suc n) h =
    elim (cases_Bool (p a)) [
      | inl passes ↦ (a, passes)
      | inr fails ↦ some-passes p (a + 1) n (rw fails at h)
    ]

-- where none pass each fails
pub none-passes : (p : ℕ → Bool) (a n : ℕ) → length (filter p (range_with_len a n)) ≡ 0 → (j : ℕ) → a ≤ j → j < a + n → p j ≡ false
none-passes p a zero h j low high = absurd (omega (arith, low, high))
none-passes p a (suc n) h j low high =
    elim (cases_Bool (p a)) [
      | inl passes ↦ let some = (rw passes at h) in absurd (omega (arith, some))
      | inr fails ↦ elim (cases_lt a j) [
        | inl later ↦ none-passes p (a + 1) n (rw fails at h) j (omega arith) (omega arith)
        | inr here ↦ let e : j ≡ a = omega arith in ap p e ∙ fails
      ]
    ]

-- where another test passes too no fewer pass it
pub length-narrow : (p q : ℕ → Bool) (a n : ℕ) → ((j : ℕ) → a ≤ j → j < a + n → p j ≡ true → q j ≡ true) → length (filter p (range_with_len a n)) ≤ length (filter q (range_with_len a n))
length-narrow p q a zero h = omega arith
length-narrow p q a (suc n) h =
    let rest = length-narrow p q (a + 1) n (λ j low high. h j (omega arith) (omega arith)) in
    elim (cases_Bool (p a)) [
      | inl passes ↦ rw (passes, h a (omega arith) (omega arith) passes) (omega (arith, rest))
      | inr fails ↦ elim (cases_Bool (q a)) [ inl more ↦ rw (fails, more) (omega (arith, rest)) | inr none ↦ rw (fails, none) rest ]
    ]

-- and more where one place passes it alone
pub length-narrower : (p q : ℕ → Bool) (a n i : ℕ) → ((j : ℕ) → a ≤ j → j < a + n → p j ≡ true → q j ≡ true) → a ≤ i → i < a + n → p i ≡ false → q i ≡ true
    → length (filter p (range_with_len a n)) < length (filter q (range_with_len a n))
length-narrower p q a zero i h low high fails passes = absurd (omega (arith, low, high))
length-narrower p q a (suc n) i h low high fails passes =
    elim (cases_lt a i) [
      | inl before ↦
          let rest = length-narrower p q (a + 1) n i (λ j after less. h j (omega arith) (omega arith)) (omega arith) (omega arith) fails passes in
          elim (cases_Bool (p a)) [
            | inl here ↦ rw (here, h a (omega arith) (omega arith) here) (omega (arith, rest))
            | inr off ↦ elim (cases_Bool (q a)) [ inl more ↦ rw (off, more) (omega (arith, rest)) | inr none ↦ rw (off, none) rest ]
          ]
      | inr there ↦
          let at : a ≡ i = omega arith in
          let rest = length-narrow p q (a + 1) n (λ j after less. h j (omega arith) (omega arith)) in
          rw (ap p at ∙ fails, ap q at ∙ passes) (omega (arith, rest))
    ]

-- where more pass another test one does that fails the first
pub some-more : (p q : ℕ → Bool) (a n : ℕ) → length (filter p (range_with_len a n)) < length (filter q (range_with_len a n))
    → (i : ℕ) × (a ≤ i) × (i < a + n) × (p i ≡ false) × (q i ≡ true)
some-more p q a zero less = absurd (omega (arith, less))
some-more p q a (suc n) less =
    elim (cases_Bool (q a)) [
      | inl passes ↦ elim (cases_Bool (p a)) [
        | inl too ↦ later (some-more p q (a + 1) n (let few = (rw (too, passes) at less) in omega (arith, few)))
        | inr fails ↦ (a, omega arith, omega arith, fails, passes)
      ]
      | inr off ↦ elim (cases_Bool (p a)) [
        | inl first ↦ later (some-more p q (a + 1) n (let few = (rw (first, off) at less) in omega (arith, few)))
        | inr fails ↦ later (some-more p q (a + 1) n (rw (fails, off) at less))
      ]
    ]
  where
    later : (i : ℕ) × (a + 1 ≤ i) × (i < a + 1 + n) × (p i ≡ false) × (q i ≡ true) → (i : ℕ) × (a ≤ i) × (i < a + suc n) × (p i ≡ false) × (q i ≡ true)
    later it = (it.0, omega (arith, it.1), omega (arith, it.2), it.3, it.4)

-- one place more
pub passing-more : (p : ℕ → Bool) (k : ℕ) → p k ≡ true → filter p (places (k + 1)) ≡ filter p (places k) ++ k ∷ []
passing-more p k passes =
    let one : filter p (k ∷ []) ≡ k ∷ [] = rw passes refl in
    ap (filter p) (places-more k) ∙ filter-append p (places k) (k ∷ []) ∙ ap (λ js. filter p (places k) ++ js) one

pub failing-more : (p : ℕ → Bool) (k : ℕ) → p k ≡ false → filter p (places (k + 1)) ≡ filter p (places k)
failing-more p k fails =
    let none : filter p (k ∷ []) ≡ [] = rw fails refl in
    ap (filter p) (places-more k) ∙ filter-append p (places k) (k ∷ []) ∙ ap (λ js. filter p (places k) ++ js) none ∙ append-nil (filter p (places k))

pub count-passing : (p : ℕ → Bool) (k : ℕ) → p k ≡ true → length (filter p (places (k + 1))) ≡ length (filter p (places k)) + 1
count-passing p k passes = ap length (passing-more p k passes) ∙ length-append (filter p (places k)) (k ∷ [])

pub count-failing : (p : ℕ → Bool) (k : ℕ) → p k ≡ false → length (filter p (places (k + 1))) ≡ length (filter p (places k))
count-failing p k fails = ap length (failing-more p k fails)

-- what is found of the others is fewer than all, since a task isn't among them
pub few-found : (found i n : ℕ) → n ≢ i → found + cond (nat_lt i n) 1 0 ≤ n → found + 1 + cond (nat_lt i (n + 1)) 1 0 ≤ n + 1
few-found found i n other few = grind (arith, nat_tests)

pub few-begin : (found i : ℕ) → found ≡ 0 → found + cond (nat_lt i 0) 1 0 ≤ 0
few-begin found i none = grind (arith, nat_tests)

pub few-left : (found i n : ℕ) → found + cond (nat_lt i n) 1 0 ≤ n → found + cond (nat_lt i (n + 1)) 1 0 ≤ n + 1
few-left found i n few = grind (arith, nat_tests)

-- a list without repetition whose members are the places that pass has as many as pass
member-apart : (k : ℕ) (o : List ℕ) → is_member o k ≡ false → (j : ℕ) → is_member o j ≡ without (is_member (k ∷ o)) k j
member-apart k o none j =
    elim (cases_Bool (j == k)) [
      | inl same ↦ rw (same, eqb-true j k same, same_place k) none
      | inr other ↦ rw (other, flip-no j k other) (sym (and-true (is_member o j)))
    ]

none-in-none : (a n : ℕ) → length (filter (is_member []) (range_with_len a n)) ≡ 0
none-in-none a zero = refl
none-in-none a (suc n) = none-in-none (a + 1) n

pub once-long : (o : List ℕ) (n : ℕ) → AreOnce o → ((i : ℕ) → is_member o i ≡ true → i < n) → length o ≡ length (filter (is_member o) (places n))
once-long [] n once there = sym (none-in-none 0 n)
once-long (k ∷ o) n once there =
    let own : is_member (k ∷ o) k ≡ true = rw (same_place k) refl in
    let rest = once-long o n once.1 (λ i member. there i (rw member (or-true (k == i)))) in
    let more = count-without (is_member (k ∷ o)) (is_member o) k 0 n (member-apart k o once.0) own (omega arith) (omega (arith, there k own)) in
    omega (arith, rest, more)
