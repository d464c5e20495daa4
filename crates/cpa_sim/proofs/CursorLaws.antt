-- The events of a source that come at one time.
use Rattle.std.proofs.Common.{◌≡◌, ℕ, zero, suc, ◌+◌, ◌-◌, ◌<◌, ◌≤◌, length, List, [], ◌∷◌, max, true, false, eqb, nat_lt, nat_le, ◌||◌, take, get_or, refl, sym, ◌∙◌, ap, inl, inr, arith}
use Rattle.std.proofs.lemmas.Bool.{cases_lt, cases_Bool, eqb-true, eq-eqb, le-leb, lt-leb, lt-ltb, le-ltb}
use Rattle.std.specs.List.{list_any, range_with_len}
use Rattle.std.proofs.lemmas.List.Folds.{list_any_at, list_any_more}
use Rattle.cpa_trace.specs.Trace.{TraceLists, IsTrace, times_of, time_of}
use Rattle.cpa_sim.specs.Run.{events_at}
use Rattle.cpa_sim.specs.SourceCursors.{IsPassed, IsAhead}
use Rattle.cpa_sim.proofs.RangeLaws.{filter-none, filter-between}

-- another time than this
pub other-time : (x y : ℕ) → (y ≡ x → ⊥) → eqb y x ≡ false
other-time x y differs =
    elim (cases_Bool (eqb y x)) [
      | inl same ↦ absurd (differs (eqb-true y x same))
      | inr e ↦ e
    ]

-- times don't fall
pub times-rise : (tr : TraceLists) → IsTrace tr → (k n m : ℕ) → n + m < length (times_of tr k) → time_of tr k n ≤ time_of tr k (n + m)
times-rise tr rules k n zero h = let e : n + 0 ≡ n = omega arith in rw e (omega arith)
times-rise tr rules k n (suc m) h =
    let e : n + suc m ≡ (n + m) + 1 = omega arith in
    rw e (omega (arith, times-rise tr rules k n m (omega arith), rules.ordered k (n + m) (omega arith)))

pub rises : (tr : TraceLists) → IsTrace tr → (k n m : ℕ) → n ≤ m → m < length (times_of tr k) → time_of tr k n ≤ time_of tr k m
rises tr rules k n m low h =
    let e : n + (m - n) ≡ m = omega arith in
    let less : n + (m - n) < length (times_of tr k) = omega arith in
    let r = times-rise tr rules k n (m - n) less in
    rw e at r

pub later-than : (x y z : ℕ) → x ≤ y → (y ≡ x → ⊥) → y ≤ z → x < z
later-than x y z low differs high =
    elim (cases_lt x y) [
      | inl h ↦ omega arith
      | inr h ↦ absurd (differs (omega arith))
    ]

-- the events at a time are those between the ones that come before it and the ones that come after
pub events-are : (tr : TraceLists) (k now next end : ℕ) → next ≤ end → end ≤ length (times_of tr k) → ((n : ℕ) → n < next → time_of tr k n < now)
    → ((n : ℕ) → next ≤ n → n < end → time_of tr k n ≡ now) → ((n : ℕ) → end ≤ n → n < length (times_of tr k) → now < time_of tr k n) → events_at tr k now ≡ range_with_len next (end - next)
events-are tr k now next end low high before here after =
    filter-between (λ n. eqb (time_of tr k n) now) next end (length (times_of tr k)) low high
    (λ n less. other-time now (time_of tr k n) (λ e. absurd (omega (arith, before n less, e))))
    (λ n l h. eq-eqb (time_of tr k n) now (here n l h))
    (λ n l h. other-time now (time_of tr k n) (λ e. absurd (omega (arith, after n l h, e))))

-- there are none where all come before it or after it
pub events-none : (tr : TraceLists) (k now : ℕ) → ((n : ℕ) → n < length (times_of tr k) → time_of tr k n ≡ now → ⊥) → events_at tr k now ≡ []
events-none tr k now none = filter-none (λ n. eqb (time_of tr k n) now) 0 (length (times_of tr k)) (λ n low high. other-time now (time_of tr k n) (λ e. none n (omega arith) e))

-- the last event decides whether one comes from a time on
pub last-decides : (tr : TraceLists) → IsTrace tr → (k n last : ℕ) → n ≡ length (times_of tr k) → 0 < n → last ≡ time_of tr k (n - 1) → (t : ℕ) → list_any (λ time. nat_le t time) (times_of tr k) ≡ nat_lt t (last + 1)
last-decides tr rules k n last long some is t =
    elim (cases_lt t (last + 1)) [
      | inl h ↦
          let here : nat_le t (get_or (times_of tr k) (n - 1) 0) ≡ true = le-leb t (get_or (times_of tr k) (n - 1) 0) (omega arith) in
          list_any_at (λ time. nat_le t time) (times_of tr k) (n - 1) 0 (omega arith) here ∙ sym (lt-ltb t (last + 1) h)
      | inr h ↦
          none-from t (times_of tr k) (λ m less. omega (arith, rises tr rules k m (n - 1) (omega arith) (omega arith))) ∙ sym (le-ltb t (last + 1) h)
    ]
  where
    none-from : (t : ℕ) (xs : List ℕ) → ((m : ℕ) → m < length xs → get_or xs m 0 < t) → list_any (λ time. nat_le t time) xs ≡ false
    none-from t [] before = refl
    none-from t (x ∷ xs) before =
        let e : nat_le t x ≡ false = lt-leb t x (before 0 (omega arith)) in
        rw e (none-from t xs (λ m h. before (suc m) (omega arith)))

-- where the next event comes no earlier, no later one does
pub next-ahead : (tr : TraceLists) → IsTrace tr → (k now next : ℕ) → IsPassed (times_of tr k) now next → next < length (times_of tr k) → IsAhead (times_of tr k) (time_of tr k next) next
next-ahead tr is k now next passed there =
    let later = passed.from next (omega arith) there in
    record {
      within = passed.within;
      before = λ n less. omega (arith, passed.before n less, later);
      from = λ n low high. rises tr is k next n low high;
    }

-- one source more
pub quiet-more : (lists : List (List ℕ)) (k t quiet last most : ℕ) → k < length lists → most ≡ max quiet last
    → list_any (λ times. list_any (λ time. nat_le t time) times) (take k lists) ≡ nat_lt t quiet → list_any (λ time. nat_le t time) (get_or lists k []) ≡ nat_lt t last
    → list_any (λ times. list_any (λ time. nat_le t time) times) (take (k + 1) lists) ≡ nat_lt t most
quiet-more lists k t quiet last most there is so_far here =
    list_any_more (λ times. list_any (λ time. nat_le t time) times) lists k [] there
    ∙ (ap (λ b. b || list_any (λ time. nat_le t time) (get_or lists k [])) so_far
    ∙ (ap (λ b. nat_lt t quiet || b) here ∙ (either t quiet last ∙ ap (nat_lt t) (sym is))))
  where
    either : (t a b : ℕ) → (nat_lt t a || nat_lt t b) ≡ nat_lt t (max a b)
    either t a b =
        elim (cases_lt t a) [
          | inl h ↦ rw (lt-ltb t a h) (sym (lt-ltb t (max a b) (omega arith)))
          | inr h ↦
              let e : nat_lt t a ≡ false = le-ltb t a h in
              elim (cases_lt t b) [
                | inl l ↦
                    let e' : nat_lt t b ≡ true = lt-ltb t b l in
                    rw (e, e') (sym (lt-ltb t (max a b) (omega arith)))
                | inr l ↦
                    let e' : nat_lt t b ≡ false = le-ltb t b l in
                    rw (e, e') (sym (le-ltb t (max a b) (omega arith)))
              ]
        ]

-- what lies between the events so far and those to come
pub silent-between : (tr : TraceLists) (k t n u next : ℕ) → IsPassed (times_of tr k) t next → IsAhead (times_of tr k) (t + n) next → 0 < u → u < n → events_at tr k (t + u) ≡ []
silent-between tr k t n u next passed ahead some less =
    events-none tr k (t + u)
    (λ m h e.
    elim (cases_lt m next) [
      | inl before ↦ absurd (omega (arith, passed.before m before, e))
      | inr after ↦ absurd (omega (arith, ahead.from m after h, e))
    ])

-- no event comes before a later time
module _ (times : List ℕ) (t n next_event next : ℕ) (passed : IsPassed times t next) (far : IsAhead times next_event next) where
  pub ahead-by : 0 < n → t + n ≤ next_event → IsAhead times (t + n) next
  ahead-by some within =
      record {
        within = passed.within;
        before = λ m less. omega (arith, passed.before m less, some);
        from = λ m low high. omega (arith, far.from m low high, within);
      }

  pub passed-by : t + n < next_event → IsPassed times (t + n) next
  passed-by less =
      record {
        within = passed.within;
        before = λ m low. omega (arith, passed.before m low);
        from = λ m low high. omega (arith, far.from m low high, less);
      }

pub silent-by : (tr : TraceLists) (k t n next_event next : ℕ) → IsPassed (times_of tr k) t next → IsAhead (times_of tr k) next_event next → 0 < n → t + n < next_event → events_at tr k (t + n) ≡ []
silent-by tr k t n next_event next passed far some less =
    events-none tr k (t + n)
    (λ m high e.
    elim (cases_lt m next) [
      | inl before ↦ absurd (omega (arith, passed.before m before, e, some))
      | inr after ↦ absurd (omega (arith, far.from m after high, e, less))
    ])
