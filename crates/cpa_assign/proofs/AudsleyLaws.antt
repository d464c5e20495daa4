-- Audsley's argument, for any test of a task below others that still passes where fewer stand above.
use Rattle.std.proofs.Common.{◌≡◌, ℕ, ◌<◌, ◌==◌, ◌&&◌, ◌||◌, ◌++◌, not, Bool, true, false, List, [], ◌∷◌, reverse, refl, ap, sym, ◌∙◌, subst, inl, inr}
use Rattle.std.proofs.lemmas.Bool.{and_parts, not-true, cases_Bool, cases_lt, false≢true, eqb-true, or_cases}
use Rattle.std.proofs.lemmas.List.{reverse-append, reverse-reverse, append_assoc, append-nil}
use Rattle.cpa_assign.specs.Orders.{is_member, IsLexAtMost}
use Rattle.cpa_assign.specs.Placing.{without}
use Rattle.cpa_assign.proofs.OrderLaws.{is_before, AreOnce, same_place, flip-no, and-true, or-true, lex-split, lex-next, once-parts, before-split, last_passing}

member-middle : (a : List ℕ) (h : ℕ) (o : List ℕ) → is_member (a ++ h ∷ o) h ≡ true
member-middle [] h o = rw (same_place h) refl
member-middle (k ∷ a) h o = rw (member-middle a h o) (or-true (k == h))

module _ (Fits : (ℕ → Bool) → ℕ → Type 0) (fewer_fits : (fewer above : ℕ → Bool) (i : ℕ) → ((j : ℕ) → fewer j ≡ true → above j ≡ true) → Fits above i → Fits fewer i) (there : ℕ → Bool) where
  -- each member fits below those before it
  abbrev pub OrderFits : List ℕ → Type 0
  OrderFits o = (i : ℕ) → is_member o i ≡ true → Fits (is_before o i) i

  -- each member fits below the first set and those before it
  pub PlacedFits : (ℕ → Bool) → List ℕ → Type 0
  PlacedFits up [] = Unit {0}
  PlacedFits up (k ∷ o) = Fits up k × PlacedFits (λ j. up j || j == k) o

  -- a list of all that are there, each once, in which each fits
  pub record IsFitting (p : List ℕ) : Type 0 where
    pub members : (i : ℕ) → is_member p i ≡ there i
    pub once : AreOnce p
    pub fits : OrderFits p

  -- the lower part of the best order, where `free` says who has no place yet
  pub record IsLowerPart (free : ℕ → Bool) (o : List ℕ) : Type 0 where
    pub apart : (j : ℕ) → free j ≡ (there j && not (is_member o j))
    pub known : (j : ℕ) → is_member o j ≡ true → there j ≡ true
    pub once : AreOnce o
    pub fits : PlacedFits free o
    pub least : (p : List ℕ) → IsFitting p → IsLexAtMost (reverse o) (reverse p)

  -- the first that fits below all others that are free
  pub record IsLowest (free : ℕ → Bool) (i : ℕ) : Type 0 where
    pub unplaced : free i ≡ true
    pub fits : Fits (without free i) i
    pub first : (k : ℕ) → k < i → free k ≡ true → ¬ Fits (without free k) k

  placed-fewer : (fewer above : ℕ → Bool) (o : List ℕ) → ((j : ℕ) → fewer j ≡ true → above j ≡ true) → PlacedFits above o → PlacedFits fewer o
  unfolding PlacedFits
  placed-fewer fewer above [] moved fits = tt
  placed-fewer fewer above (k ∷ o) moved fits = (
    fewer_fits fewer above k moved fits.0,
    placed-fewer (λ j. fewer j || j == k) (λ j. above j || j == k) o (λ j h. elim (or_cases (fewer j) (j == k) h) [
      | inl here ↦ rw (moved j here) refl
      | inr same ↦ rw same (or-true (above j))
    ]) fits.1,
  )

  placed-each : (up : ℕ → Bool) (o : List ℕ) → PlacedFits up o → (i : ℕ) → is_member o i ≡ true → Fits (λ j. up j || is_before o i j) i
  unfolding PlacedFits
  placed-each up [] fits i member = absurd (false≢true member)
  placed-each up (k ∷ o) fits i member =
      elim (cases_Bool (k == i)) [
        | inl here ↦
            fewer_fits (λ j. up j || is_before (k ∷ o) i j) up i
            (λ j h. elim (or_cases (up j) (is_before (k ∷ o) i j) h) [ inl high ↦ high | inr before ↦ absurd (false≢true (rw here at before)) ])
            (subst (λ (n : ℕ). Fits up n) (eqb-true k i here) fits.0)
        | inr past ↦
            fewer_fits (λ j. up j || is_before (k ∷ o) i j) (λ j. (up j || j == k) || is_before o i j) i
            (λ j h. elim (or_cases (up j) (is_before (k ∷ o) i j) h) [
              | inl high ↦ rw high refl
              | inr before ↦ elim (or_cases (j == k) (is_before o i j) (rw past at before)) [
                | inl same ↦ rw (same, or-true (up j)) refl
                | inr later ↦ rw later (or-true (up j || j == k))
              ]
            ])
            (placed-each (λ j. up j || j == k) o fits.1 i (rw (← member, past) refl))
      ]

  -- once nobody is free the part is the whole
  pub whole-fits : (free : ℕ → Bool) (o : List ℕ) → PlacedFits free o → OrderFits o
  whole-fits free o fits i member =
      fewer_fits (is_before o i) (λ j. free j || is_before o i j) i (λ j h. rw h (or-true (free j))) (placed-each free o fits i member)

  -- at the begin nobody has a place
  pub lower-none : IsLowerPart there []
  unfolding PlacedFits
  lower-none =
      record {
        apart = λ j. elim (cases_Bool (there j)) [ inl e ↦ rw e refl | inr e ↦ rw e refl ];
        known = λ j h. absurd (false≢true h);
        once = tt;
        fits = tt;
        least = λ p fitting. tt;
      }

  -- it is told by the answers of the two tests of who is free
  pub lower-same : (free free' : ℕ → Bool) (o : List ℕ) → ((j : ℕ) → free j ≡ free' j) → IsLowerPart free o → IsLowerPart free' o
  lower-same free free' o same part =
      let e : free ≡ free' = λ i j. same j i in
      subst (λ (f : ℕ → Bool). IsLowerPart f o) e part

  module _ (free : ℕ → Bool) (o : List ℕ) (part : IsLowerPart free o) where
    free-parts : (j : ℕ) → free j ≡ true → (there j ≡ true) × (is_member o j ≡ false)
    free-parts j h =
        let both = and_parts (there j) (not (is_member o j)) (sym (part.apart j) ∙ h) in
        (both.0, not-true (is_member o j) both.1)

    apart-next : (i j : ℕ) → without free i j ≡ (there j && not (is_member (i ∷ o) j))
    apart-next i j =
        elim (cases_Bool (i == j)) [
          | inl same ↦
              let back : (j == i) ≡ true = rw (eqb-true i j same) (same_place j) in
              rw (same, back) (elim (cases_Bool (free j)) [
                | inl a ↦ elim (cases_Bool (there j)) [ inl b ↦ rw (a, b) refl | inr b ↦ rw (a, b) refl ]
                | inr a ↦ elim (cases_Bool (there j)) [ inl b ↦ rw (a, b) refl | inr b ↦ rw (a, b) refl ]
              ])
          | inr other ↦ rw (other, flip-no i j other) (and-true (free j) ∙ part.apart j)
        ]

    fits-next : (i : ℕ) → free i ≡ true → Fits (without free i) i → PlacedFits (without free i) (i ∷ o)
    unfolding PlacedFits
    fits-next i is_free fits = (
      fits,
      placed-fewer (λ j. without free i j || j == i) free o (λ j h. elim (or_cases (without free i j) (j == i) h) [
        | inl left ↦ (and_parts (free j) (not (j == i)) left).0
        | inr same ↦ subst (λ (n : ℕ). free n ≡ true) (sym (eqb-true j i same)) is_free
      ]) part.fits,
    )

    -- whoever stands just below the free ones in a fitting order fits below all others of them
    stands-fits : (p a : List ℕ) (h : ℕ) → IsFitting p → p ≡ a ++ h ∷ o → (free h ≡ true) × Fits (without free h) h
    stands-fits p a h fitting split =
        let parts = once-parts a h o (subst AreOnce split fitting.once) in
        let member : is_member p h ≡ true = subst (λ (q : List ℕ). is_member q h ≡ true) (sym split) (member-middle a h o) in
        let known : there h ≡ true = sym (fitting.members h) ∙ member in
        let is_free : free h ≡ true = part.apart h ∙ (rw (known, parts.1) refl) in (
          is_free,
          fewer_fits (without free h) (is_before p h) h (λ j left.
              let both = and_parts (free j) (not (j == h)) left in
              let loose = free-parts j both.0 in
              let there_too : is_member p j ≡ true = fitting.members j ∙ loose.0 in
              subst (λ (q : List ℕ). is_before q h j ≡ true) (sym split)
              (before-split a h o j (subst (λ (q : List ℕ). is_member q j ≡ true) split there_too) loose.1 (not-true (j == h) both.1) parts.0)) (fitting.fits h member),
        )

    least-at : (i : ℕ) → IsLowest free i → (p rest : List ℕ) → IsFitting p → reverse p ≡ reverse o ++ rest → IsLexAtMost (reverse o ++ i ∷ []) (reverse p)
    least-at i lowest p [] fitting split =
        let same : p ≡ o = sym (reverse-reverse p) ∙ ap reverse (split ∙ append-nil (reverse o)) ∙ reverse-reverse o in
        let loose = free-parts i lowest.unplaced in
        absurd (false≢true (sym loose.1 ∙ (subst (λ (q : List ℕ). is_member q i ≡ true) same (fitting.members i ∙ loose.0))))
    least-at i lowest p (h ∷ rest) fitting split =
        let whole : p ≡ reverse rest ++ h ∷ o =
        sym (reverse-reverse p) ∙ ap reverse split ∙ reverse-append (reverse o) (h ∷ rest)
        ∙ ap (λ (q : List ℕ). reverse (h ∷ rest) ++ q) (reverse-reverse o)
        ∙ ap (λ (q : List ℕ). q ++ o) (reverse-append (h ∷ []) rest)
        ∙ append_assoc (reverse rest) (h ∷ []) o in
        let stands = stands-fits p (reverse rest) h fitting whole in
        elim (cases_lt h i) [
          | inl sooner ↦ absurd (lowest.first h sooner stands.0 stands.1)
          | inr no_sooner ↦ rw split (lex-next (reverse o) i h rest no_sooner)
        ]

    -- the first that fits gets the lowest free place
    pub lower-next : (i : ℕ) → IsLowest free i → IsLowerPart (without free i) (i ∷ o)
    lower-next i lowest =
        let loose = free-parts i lowest.unplaced in
        record {
          apart = apart-next i;
          known = λ j h. elim (or_cases (i == j) (is_member o j) h) [
            | inl same ↦ subst (λ (n : ℕ). there n ≡ true) (eqb-true i j same) loose.0
            | inr member ↦ part.known j member
          ];
          once = (loose.1, part.once);
          fits = fits-next i lowest.unplaced lowest.fits;
          least = λ p fitting. rw (reverse-append (i ∷ []) o) (elim (lex-split (reverse o) (reverse p) (part.least p fitting)) [
            | inl below ↦ below i
            | inr begun ↦ least-at i lowest p begun.0 fitting begun.1
          ]);
        }

    -- where nobody fits at the lowest free place, no order does
    pub none-fits : (i : ℕ) → free i ≡ true → ((k : ℕ) → free k ≡ true → ¬ Fits (without free k) k) → (p : List ℕ) → ¬ IsFitting p
    none-fits i is_free none p fitting =
        let loose = free-parts i is_free in
        let last = last_passing p free i fitting.once (fitting.members i ∙ loose.0) is_free in
        none last.0 last.2
        (fewer_fits (without free last.0) (is_before p last.0) last.0 (λ j left.
        let both = and_parts (free j) (not (j == last.0)) left in
        last.3 j both.0 (fitting.members j ∙ (free-parts j both.0).0) (not-true (j == last.0) both.1)) (fitting.fits last.0 last.1))
