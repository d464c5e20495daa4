-- Sections one by one, and regions as sections.
use Rattle.std.proofs.Common.{◌≡◌, ℕ, zero, suc, ◌+◌, ◌-◌, ◌*◌, ◌<◌, ◌≤◌, ◌++◌, ◌||◌, ◌&&◌, min, Bool, true, false, nat_lt, cond, List, [], ◌∷◌, length, map, take, get_or, refl, sym, ap, ◌∙◌, inl, inr, ◌⊎◌, arith, subst}
use Rattle.std.specs.List.{All, range_with_len}
use Rattle.std.proofs.lemmas.List.{take_more, map-append}
use Rattle.std.proofs.lemmas.List.Elements.{All-nil}
use Rattle.std.proofs.lemmas.Bool.{cases_lt, cases_Bool, cond-true, cond-false, lt-ltb, le-ltb, and_from, false≢true}
use Rattle.std.proofs.Math.Nat.{mul-le-mul_right}
use Rattle.cpa_model.specs.declared.entries.Kind.{Kind}
use Rattle.cpa_model.specs.declared.entries.Kind.TheVariants.{Preemptive, RoundRobin, Tdma, Can, Fifo, Ceiling}
use Rattle.cpa_model.specs.declared.locks.CriticalSection.{CriticalSection}
use Rattle.cpa_model.specs.Rules.{IsSection, LocksFit}
use Rattle.cpa_model.specs.Locks.{Section, regions_of}
use Rattle.cpa_sched.specs.Locks.{is_within, holds_lock, active_priority, urgency, ticks_to_release}

-- ---- one section further

pub sections-more : (f : CriticalSection → Section) (cs : List CriticalSection) (k : ℕ) (c : CriticalSection) → k < length cs → c ≡ get_or cs k c → map f (take (k + 1) cs) ≡ map f (take k cs) ++ f c ∷ []
sections-more f cs k c less is =
    ap (map f) (take_more cs k c less) ∙ map-append f (take k cs) (get_or cs k c ∷ []) ∙ ap (λ d. map f (take k cs) ++ f d ∷ []) (sym is)

module _ (base received : ℕ) where
  pub active-within : (xs : List Section) (x : Section) → is_within received x ≡ true → active_priority base (xs ++ x ∷ []) received ≡ min (active_priority base xs received) x.ceiling
  active-within [] x w =
      let is : active_priority base (x ∷ []) received ≡ min x.ceiling base = cond-true _ _ _ w in
      omega (arith, is)
  active-within (y ∷ ys) x w =
      let rest = active-within ys x w in
      elim (cases_Bool (is_within received y)) [
        | inl within ↦
            let a : active_priority base (y ∷ (ys ++ x ∷ [])) received ≡ min y.ceiling (active_priority base (ys ++ x ∷ []) received) = cond-true _ _ _ within in
            let b : active_priority base (y ∷ ys) received ≡ min y.ceiling (active_priority base ys received) = cond-true _ _ _ within in
            omega (arith, rest, a, b)
        | inr outside ↦
            let a : active_priority base (y ∷ (ys ++ x ∷ [])) received ≡ active_priority base (ys ++ x ∷ []) received = cond-false _ _ _ outside in
            let b : active_priority base (y ∷ ys) received ≡ active_priority base ys received = cond-false _ _ _ outside in
            omega (arith, rest, a, b)
      ]

  pub active-outside : (xs : List Section) (x : Section) → is_within received x ≡ false → active_priority base (xs ++ x ∷ []) received ≡ active_priority base xs received
  active-outside [] x w = cond-false _ _ _ w
  active-outside (y ∷ ys) x w =
      let rest = active-outside ys x w in
      ap (λ n. cond (is_within received y) (min y.ceiling n) n) rest

either : (b : Bool) → (b || true) ≡ true
either true = refl
either false = refl

neither : (b : Bool) → (b || false) ≡ b
neither true = refl
neither false = refl

module _ (received : ℕ) where
  pub holds-within : (xs : List Section) (x : Section) → is_within received x ≡ true → holds_lock (xs ++ x ∷ []) received ≡ true
  holds-within [] x w = rw w refl
  holds-within (y ∷ ys) x w = ap (λ b. is_within received y || b) (holds-within ys x w) ∙ either (is_within received y)

  pub holds-outside : (xs : List Section) (x : Section) → is_within received x ≡ false → holds_lock (xs ++ x ∷ []) received ≡ holds_lock xs received
  holds-outside [] x w = rw w refl
  holds-outside (y ∷ ys) x w = ap (λ b. is_within received y || b) (holds-outside ys x w)

module _ (most received : ℕ) where
  abbrev end_of : Section → ℕ
  end_of x = x.start + x.ticks

  pub release-before : (xs : List Section) (x : Section) → received < end_of x → ticks_to_release most (xs ++ x ∷ []) received ≡ min (ticks_to_release most xs received) (end_of x - received)
  release-before [] x before =
      let is : ticks_to_release most (x ∷ []) received ≡ min (end_of x - received) most = cond-true _ _ _ (lt-ltb received (end_of x) before) in
      omega (arith, is)
  release-before (y ∷ ys) x before =
      let rest = release-before ys x before in
      elim (cases_lt received (end_of y)) [
        | inl less ↦
            let a : ticks_to_release most (y ∷ (ys ++ x ∷ [])) received ≡ min (end_of y - received) (ticks_to_release most (ys ++ x ∷ []) received) = cond-true _ _ _ (lt-ltb received (end_of y) less) in
            let b : ticks_to_release most (y ∷ ys) received ≡ min (end_of y - received) (ticks_to_release most ys received) = cond-true _ _ _ (lt-ltb received (end_of y) less) in
            omega (arith, rest, a, b)
        | inr over ↦
            let a : ticks_to_release most (y ∷ (ys ++ x ∷ [])) received ≡ ticks_to_release most (ys ++ x ∷ []) received = cond-false _ _ _ (le-ltb received (end_of y) over) in
            let b : ticks_to_release most (y ∷ ys) received ≡ ticks_to_release most ys received = cond-false _ _ _ (le-ltb received (end_of y) over) in
            omega (arith, rest, a, b)
      ]

  pub release-over : (xs : List Section) (x : Section) → end_of x ≤ received → ticks_to_release most (xs ++ x ∷ []) received ≡ ticks_to_release most xs received
  release-over [] x over = cond-false _ _ _ (le-ltb received (end_of x) over)
  release-over (y ∷ ys) x over =
      ap (λ n. cond (nat_lt received (end_of y)) (min (end_of y - received) n) n) (release-over ys x over)

-- the sections of a task are in their ranges
pub are-sections : (k : Kind) (region : ℕ) (locks : List CriticalSection) → LocksFit k region locks → All IsSection locks
are-sections Ceiling region locks fits = fits.sections
are-sections Preemptive region locks none = subst (λ (l : List CriticalSection). All IsSection l) (sym none) (All-nil IsSection)
are-sections RoundRobin region locks none = subst (λ (l : List CriticalSection). All IsSection l) (sym none) (All-nil IsSection)
are-sections (Tdma gap) region locks none = subst (λ (l : List CriticalSection). All IsSection l) (sym none) (All-nil IsSection)
are-sections (Can bit) region locks none = subst (λ (l : List CriticalSection). All IsSection l) (sym none) (All-nil IsSection)
are-sections Fifo region locks none = subst (λ (l : List CriticalSection). All IsSection l) (sym none) (All-nil IsSection)

-- ---- regions

module _ (region : ℕ) where
  abbrev region_at : ℕ → Section
  region_at n = record { start = n * region; ticks = region; ceiling = 0 }

  abbrev from_region : ℕ → ℕ → List Section
  from_region a k = map region_at (range_with_len a k)

  -- where a job is within a region, and where within none
  module _ (base received : ℕ) where
    pub region-held : (a k n : ℕ) → a ≤ n → n < a + k → is_within received (region_at n) ≡ true
        → (active_priority base (from_region a k) received ≡ 0) × (holds_lock (from_region a k) received ≡ true)
    region-held a zero n low high w = absurd (omega (arith, low, high))
    region-held a (suc k) n low high w =
        elim (cases_Bool (is_within received (region_at a))) [
          | inl within ↦
              let is : active_priority base (from_region a (suc k)) received ≡ min 0 (active_priority base (from_region (a + 1) k) received) = cond-true _ _ _ within in
              (omega (arith, is), rw within refl)
          | inr outside ↦
              let differs : a ≡ n → ⊥ = λ e. false≢true (sym outside ∙ (ap (λ m. is_within received (region_at m)) e ∙ w)) in
              let rest = region-held (a + 1) k n (above a n low differs) (omega (arith, high)) w in
              let is : active_priority base (from_region a (suc k)) received ≡ active_priority base (from_region (a + 1) k) received = cond-false _ _ _ outside in
              (is ∙ rest.0, ap (λ b. b || holds_lock (from_region (a + 1) k) received) outside ∙ rest.1)
        ]
      where
        above : (a n : ℕ) → a ≤ n → (a ≡ n → ⊥) → a + 1 ≤ n
        above a n low differs =
            elim (cases_lt a n) [
              | inl less ↦ omega (arith, less)
              | inr more ↦ let same : a ≡ n = omega (arith, low, more) in absurd (differs same)
            ]

    pub region-idle : (a k : ℕ) → ((n : ℕ) → a ≤ n → n < a + k → is_within received (region_at n) ≡ false)
        → (active_priority base (from_region a k) received ≡ base) × (holds_lock (from_region a k) received ≡ false)
    region-idle a zero none = (refl, refl)
    region-idle a (suc k) none =
        let outside = none a (omega arith) (omega arith) in
        let rest = region-idle (a + 1) k (λ n low high. none n (omega (arith, low)) (omega (arith, high))) in
        let is : active_priority base (from_region a (suc k)) received ≡ active_priority base (from_region (a + 1) k) received = cond-false _ _ _ outside in
        (is ∙ rest.0, ap (λ b. b || holds_lock (from_region (a + 1) k) received) outside ∙ rest.1)

  -- the ticks to the end of a region
  module _ (most received : ℕ) where
    pub release-to : (a k n : ℕ) → a ≤ n → n < a + k → received < n * region + region → ticks_to_release most (from_region a k) received ≤ n * region + region - received
    release-to a zero n low high before = absurd (omega (arith, low, high))
    release-to a (suc k) n low high before =
        elim (cases_lt received (a * region + region)) [
          | inl less ↦
              let is : ticks_to_release most (from_region a (suc k)) received ≡ min (a * region + region - received) (ticks_to_release most (from_region (a + 1) k) received) = cond-true _ _ _ (lt-ltb received (a * region + region) less) in
              elim (cases_lt a n) [
                | inl later ↦ let rest = release-to (a + 1) k n (omega (arith, later)) (omega (arith, high)) before in omega (arith, is, rest)
                | inr other ↦
                    let same : a ≡ n = omega (arith, low, other) in
                    let at = ap (λ m. m * region) same in
                    omega (arith, is, at)
              ]
          | inr over ↦
              let is : ticks_to_release most (from_region a (suc k)) received ≡ ticks_to_release most (from_region (a + 1) k) received = cond-false _ _ _ (le-ltb received (a * region + region) over) in
              elim (cases_lt a n) [
                | inl later ↦ let rest = release-to (a + 1) k n (omega (arith, later)) (omega (arith, high)) before in omega (arith, is, rest)
                | inr other ↦
                    let same : a ≡ n = omega (arith, low, other) in
                    let at = ap (λ m. m * region) same in
                    absurd (omega (arith, over, before, at))
              ]
        ]

    pub release-from : (b a k : ℕ) → b ≤ most → ((n : ℕ) → a ≤ n → n < a + k → received < n * region + region → b ≤ n * region + region - received) → b ≤ ticks_to_release most (from_region a k) received
    release-from b a zero few each = few
    release-from b a (suc k) few each =
        let rest = release-from b (a + 1) k few (λ n low high before. each n (omega (arith, low)) (omega (arith, high)) before) in
        elim (cases_lt received (a * region + region)) [
          | inl less ↦
              let is : ticks_to_release most (from_region a (suc k)) received ≡ min (a * region + region - received) (ticks_to_release most (from_region (a + 1) k) received) = cond-true _ _ _ (lt-ltb received (a * region + region) less) in
              let here = each a (omega arith) (omega arith) less in
              omega (arith, is, rest, here)
          | inr over ↦
              let is : ticks_to_release most (from_region a (suc k)) received ≡ ticks_to_release most (from_region (a + 1) k) received = cond-false _ _ _ (le-ltb received (a * region + region) over) in
              omega (arith, is, rest)
        ]

pub release-most : (most received : ℕ) (xs : List Section) → ticks_to_release most xs received ≤ most
release-most most received [] = omega arith
release-most most received (x ∷ xs) =
    let rest = release-most most received xs in
    elim (cases_lt received (x.start + x.ticks)) [
      | inl less ↦
          let is : ticks_to_release most (x ∷ xs) received ≡ min (x.start + x.ticks - received) (ticks_to_release most xs received) = cond-true _ _ _ (lt-ltb received (x.start + x.ticks) less) in
          omega (arith, is, rest)
      | inr over ↦
          let is : ticks_to_release most (x ∷ xs) received ≡ ticks_to_release most xs received = cond-false _ _ _ (le-ltb received (x.start + x.ticks) over) in
          omega (arith, is, rest)
    ]

-- a job that has had so many whole regions and some ticks more
module _ (region quotient rest received : ℕ) (is : quotient * region + rest ≡ received) (few : rest < region) where
  -- the regions before are over
  past : (n : ℕ) → n < quotient → n * region + region ≤ received
  past n less =
      let next : n + 1 ≤ quotient = omega (arith, less) in
      let far : (n + 1) * region ≤ quotient * region = mul-le-mul_right region next in
      omega (arith, far, is)

  -- those after haven't begun
  ahead : (n : ℕ) → quotient < n → received ≤ n * region
  ahead n less =
      let next : quotient + 1 ≤ n = omega (arith, less) in
      let far : (quotient + 1) * region ≤ n * region = mul-le-mul_right region next in
      omega (arith, far, is, few)

  within-own : 0 < rest → is_within received (region_at region quotient) ≡ true
  within-own some =
      and_from (nat_lt (quotient * region) received) (nat_lt received (quotient * region + region)) (lt-ltb (quotient * region) received (omega (arith, is, some)))
      (lt-ltb received (quotient * region + region) (omega (arith, is, few)))

  within-past : (n : ℕ) → n < quotient → is_within received (region_at region n) ≡ false
  within-past n less = ends (nat_lt (n * region) received) (le-ltb received (n * region + region) (past n less))
    where
      ends : (b : Bool) {c : Bool} → c ≡ false → (b && c) ≡ false
      ends true e = e
      ends false e = refl

  within-ahead : (n : ℕ) → received ≤ n * region → is_within received (region_at region n) ≡ false
  within-ahead n less = ap (λ b. b && nat_lt received (n * region + region)) (le-ltb (n * region) received less)

  module _ (base worst : ℕ) where
    pub region-urgent : quotient < worst → 0 < rest → urgency base (regions_of region worst) received ≡ 0
    region-urgent less some =
        let held = region-held region base received 0 worst quotient (omega arith) (omega (arith, less)) (within-own some) in
        let now : ℕ = cond (holds_lock (regions_of region worst) received) 0 1 in
        let a : now ≡ 0 = cond-true _ _ _ held.1 in
        let b = held.0 in
        omega (arith, a, b)

    free : (worst ≤ quotient) ⊎ (rest ≡ 0) → (n : ℕ) → 0 ≤ n → n < 0 + worst → is_within received (region_at region n) ≡ false
    free (inl past) n low high = within-past n (omega (arith, past, high))
    free (inr whole) n low high =
        elim (cases_lt n quotient) [
          | inl less ↦ within-past n less
          | inr more ↦
              elim (cases_lt quotient n) [
                | inl later ↦ within-ahead n (ahead n later)
                | inr other ↦
                    let same : quotient ≡ n = omega (arith, more, other) in
                    let at = ap (λ m. m * region) same in
                    within-ahead n (omega (arith, at, is, whole))
              ]
        ]

    pub region-free : (worst ≤ quotient) ⊎ (rest ≡ 0) → urgency base (regions_of region worst) received ≡ 2 * base + 1
    region-free none =
        let idle = region-idle region base received 0 worst (free none) in
        let now : ℕ = cond (holds_lock (regions_of region worst) received) 0 1 in
        let a : now ≡ 1 = cond-false _ _ _ idle.1 in
        let b = idle.0 in
        omega (arith, a, b)

  module _ (most worst : ℕ) where
    pub region-release : quotient < worst → ticks_to_release most (regions_of region worst) received ≡ min most (region - rest)
    region-release less =
        let to = release-to region most received 0 worst quotient (omega arith) (omega (arith, less)) (omega (arith, is, few)) in
        let all = release-most most received (regions_of region worst) in
        let from = release-from region most received (min most (region - rest)) 0 worst (omega arith) (λ n low high before. later n before) in
        omega (arith, to, all, from, is, few)
      where
        later : (n : ℕ) → received < n * region + region → min most (region - rest) ≤ n * region + region - received
        later n before =
            elim (cases_lt n quotient) [
              | inl less ↦ let over = past n less in absurd (omega (arith, over, before))
              | inr more ↦ let far : quotient * region ≤ n * region = mul-le-mul_right region more in omega (arith, far, is, few)
            ]

    pub region-over : worst ≤ quotient → ticks_to_release most (regions_of region worst) received ≡ most
    region-over over =
        let all = release-most most received (regions_of region worst) in
        let from = release-from region most received most 0 worst (omega arith) (λ n low high before. let gone = past n (omega (arith, high, over)) in absurd (omega (arith, gone, before))) in
        omega (arith, all, from)
