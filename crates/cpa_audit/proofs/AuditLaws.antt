-- What an audit knows on its way: each segment that has started is open, or was compared.
use Rattle.std.proofs.Common.{◌≡◌, ℕ, zero, suc, ◌<◌, ◌≤◌, ◌++◌, length, List, [], ◌∷◌, true, false, eqb, Option, Some, None, refl, sym, ◌∙◌, ap, subst, inl, inr, arith, length-append}
use Rattle.std.specs.Prelude.{slice_get}
use Rattle.std.proofs.lemmas.Bool.{cases_lt, cases_Bool, eqb-true, eq-eqb, lt-ltb, le-ltb, cond-true, cond-false}
use Rattle.std.proofs.lemmas.Option.{slice_get_within}
use Rattle.cpa_model.specs.SystemLists.{SystemLists}
use Rattle.cpa_trace.specs.Trace.{TraceLists}
use Rattle.cpa_sim.specs.declared.jobs.Served.{Served}
use Rattle.cpa_sim.specs.Outcome.{end_of}
use Rattle.cpa_audit.specs.declared.schedule.Segment.{Segment}
use Rattle.cpa_audit.specs.declared.auditing.Open.{Open}
use Rattle.cpa_audit.specs.declared.auditing.Difference.{Difference}
use Rattle.cpa_audit.specs.Segments.{gets, stop_of}
use Rattle.cpa_audit.specs.Auditing.{has_segment, earlier, compared, put}
use Rattle.cpa_audit.specs.Compared.{stopped, IsBehind, IsChecked, IsGoing, IsCompared}
use Rattle.cpa_audit.proofs.SegmentLaws.{stops-at}
use Rattle.cpa_audit.specs.Firsts.{AgreeBelow, IsFirst}

unput : (open_on : ℕ → Option Open) (k r : ℕ) (o : Open) → put open_on k None r ≡ Some o → open_on r ≡ Some o
unput open_on k r o e =
    elim (cases_Bool (eqb r k)) [
      | inl same ↦ let none : None ≡ Some o = rw same at e in cc
      | inr other ↦ let h = rw other at e in h
    ]

some-one : (a b : Segment) → Some a ≡ Some b → a ≡ b
some-one a b e = cc

-- the earlier of two is no later than either
earlier-old : (d e : Difference) → (earlier (Some e) d).place ≤ e.place
earlier-old d e = elim (cases_lt d.place e.place) [ inl h ↦ rw (lt-ltb d.place e.place h) (omega arith) | inr h ↦ rw (le-ltb d.place e.place h) (omega arith) ]

earlier-new : (first : Option Difference) (d : Difference) → (earlier first d).place ≤ d.place
earlier-new None d = omega arith
earlier-new (Some e) d = elim (cases_lt d.place e.place) [ inl h ↦ rw (lt-ltb d.place e.place h) (omega arith) | inr h ↦ rw (le-ltb d.place e.place h) h ]

-- what was behind a difference stays so
behind-more : (schedule : List Segment) (first : Option Difference) (place p : ℕ) (seg : Segment) → IsBehind first p → IsBehind (compared schedule first place seg) p
behind-more schedule first place p seg b =
    elim (cases_Bool (has_segment (slice_get schedule place) seg)) [
      | inl same ↦ rw same b
      | inr other ↦
          let d : Difference = record { place = place; expected = seg } in
          rw (other, b.is) (record { difference = earlier (Some b.difference) d; is = refl; le = omega (arith, earlier-old d b.difference, b.le) })
    ]

-- a segment that was compared
checked-now : (schedule : List Segment) (open_on : ℕ → Option Open) (first : Option Difference) (place : ℕ) (seg : Segment) → IsChecked schedule open_on (compared schedule first place seg) place seg
checked-now schedule open_on first place seg =
    elim (cases_Bool (has_segment (slice_get schedule place) seg)) [
      | inl same ↦ inl same
      | inr other ↦
          let d : Difference = record { place = place; expected = seg } in
          rw other (inr (inl (record { difference = earlier first d; is = refl; le = earlier-new first d })))
    ]

rechecked : (schedule : List Segment) (open_on : ℕ → Option Open) (first : Option Difference) (k : ℕ) (o : Open) (p : ℕ) (x seg : Segment) → open_on k ≡ Some o
    → (p ≡ o.place → x ≡ seg) → IsChecked schedule open_on first p x → IsChecked schedule (put open_on k None) (compared schedule first o.place seg) p x
rechecked schedule open_on first k o p x seg is same (inl had) = inl had
rechecked schedule open_on first k o p x seg is same (inr (inl behind)) = inr (inl (behind-more schedule first o.place p seg behind))
rechecked schedule open_on first k o p x seg is same (inr (inr going)) =
    elim (cases_Bool (eqb going.res k)) [
      | inl here ↦
          let r : going.res ≡ k = eqb-true going.res k here in
          let one : going.going ≡ o = some-open going.going o (sym going.is ∙ (ap open_on r ∙ is)) in
          let at : o.place ≡ p = ap (λ (q : Open). q.place) (sym one) ∙ going.at in
          let e : x ≡ seg = same (sym at) in
          rw (← at, e) (checked-now schedule (put open_on k None) first o.place seg)
      | inr other ↦
          let there : put open_on k None going.res ≡ Some going.going = cond-false (eqb going.res k) _ _ other ∙ going.is in
          inr (inr (record { res = going.res; going = going.going; is = there; at = going.at }))
    ]
  where
    some-open : (a b : Open) → Some a ≡ Some b → a ≡ b
    some-open a b e = cc

slice_get-before : (xs ys : List Segment) (p : ℕ) → p < length xs → slice_get (xs ++ ys) p ≡ slice_get xs p
slice_get-before [] ys p less = absurd (omega arith)
slice_get-before (x ∷ xs) ys zero less = refl
slice_get-before (x ∷ xs) ys (suc p) less = slice_get-before xs ys p (omega arith)

slice_get-kept : (xs ys : List Segment) (p : ℕ) (x : Segment) → slice_get xs p ≡ Some x → slice_get (xs ++ ys) p ≡ Some x
slice_get-kept xs ys p x e = slice_get-before xs ys p (slice_get_within xs p x e) ∙ e

slice_get-last : (xs : List Segment) (y : Segment) → slice_get (xs ++ y ∷ []) (length xs) ≡ Some y
slice_get-last [] y = refl
slice_get-last (x ∷ xs) y = slice_get-last xs y

still-checked : (schedule : List Segment) (open_on : ℕ → Option Open) (first : Option Difference) (k : ℕ) (o : Open) (p : ℕ) (x : Segment) → open_on k ≡ None
    → IsChecked schedule open_on first p x → IsChecked schedule (put open_on k (Some o)) first p x
still-checked schedule open_on first k o p x none (inl had) = inl had
still-checked schedule open_on first k o p x none (inr (inl behind)) = inr (inl behind)
still-checked schedule open_on first k o p x none (inr (inr going)) =
    elim (cases_Bool (eqb going.res k)) [
      | inl here ↦ let is : None ≡ Some going.going = sym none ∙ (ap open_on (sym (eqb-true going.res k here)) ∙ going.is) in cc
      | inr other ↦
          let there : put open_on k (Some o) going.res ≡ Some going.going = cond-false (eqb going.res k) _ _ other ∙ going.is in
          inr (inr (record { res = going.res; going = going.going; is = there; at = going.at }))
    ]

-- a difference is one
abbrev pub Differs : List Segment → List Segment → Difference → Type 0
Differs schedule expected d = (slice_get expected d.place ≡ Some d.expected) × (has_segment (slice_get schedule d.place) d.expected ≡ false)

-- and all before it agree
abbrev DiffersFirst : List Segment → List Segment → Difference → Type 0
DiffersFirst schedule expected d = (slice_get expected d.place ≡ Some d.expected) × (has_segment (slice_get schedule d.place) d.expected ≡ false) × AgreeBelow schedule expected d.place

earlier-differs : (schedule expected : List Segment) (f : Option Difference) (n : Difference) → Differs schedule expected n → ((d : Difference) → f ≡ Some d → Differs schedule expected d) → Differs schedule expected (earlier f n)
earlier-differs schedule expected None n new old = new
earlier-differs schedule expected (Some e) n new old =
    elim (cases_lt n.place e.place) [ inl h ↦ rw (lt-ltb n.place e.place h) new | inr h ↦ rw (le-ltb n.place e.place h) (old e refl) ]

still-differs : (schedule expected : List Segment) (first : Option Difference) (place : ℕ) (d : Difference) (seg : Segment) → slice_get expected place ≡ Some seg
    → ((d : Difference) → first ≡ Some d → Differs schedule expected d) → compared schedule first place seg ≡ Some d → Differs schedule expected d
still-differs schedule expected first place d seg there old e =
    elim (cases_Bool (has_segment (slice_get schedule place) seg)) [
      | inl same ↦ old d (rw same at e)
      | inr other ↦
          let n : Difference = record { place = place; expected = seg } in
          let is : Some (earlier first n) ≡ Some d = rw other at e in
          let one : earlier first n ≡ d = cc in
          subst (Differs schedule expected) one (earlier-differs schedule expected first n (there, other) old)
    ]

module _ (s : SystemLists) (tr : TraceLists) (schedule : List Segment) where
  -- nothing so far
  pub compared-none : IsCompared s tr schedule [] (λ r. 0) (λ r. None) None
  compared-none =
      record {
        going = λ r o e. let e' : None ≡ Some o = e in cc;
        checked = λ p seg e. let e' : slice_get [] p ≡ Some seg = e in cc;
        differs = λ d e. let e' : None ≡ Some d = e in cc;
      }

  -- the open ones go on
  pub compared-later : (expected : List Segment) (time later : ℕ → ℕ) (open_on : ℕ → Option Open) (first : Option Difference) → IsCompared s tr schedule expected time open_on first
      → ((r : ℕ) (o : Open) → open_on r ≡ Some o → (time r ≤ later r) × ((u : ℕ) → time r ≤ u → u < later r → gets s tr r o.job u ≡ true)) → IsCompared s tr schedule expected later open_on first
  compared-later expected time later open_on first c goes =
      record {
        going = λ r o e.
            let g = c.going r o e in
            let h = goes r o e in
            record {
              place = g.place;
              started = omega (arith, g.started, h.0);
              each = λ u from before. elim (cases_lt u (time r)) [ inl early ↦ g.each u from early | inr late ↦ h.1 u late before ];
            };
        checked = c.checked;
        differs = c.differs;
      }

  -- an open one stops
  pub compared-closed : (expected : List Segment) (time : ℕ → ℕ) (open_on : ℕ → Option Open) (first : Option Difference) (k : ℕ) (o : Open) → IsCompared s tr schedule expected time open_on first → open_on k ≡ Some o
      → time k ≤ end_of s tr → (time k < end_of s tr → gets s tr k o.job (time k) ≡ false) → IsCompared s tr schedule expected time (put open_on k None) (compared schedule first o.place (stopped o (time k)))
  compared-closed expected time open_on first k o c is within stops =
      let g = c.going k o is in
      let end : stop_of s tr k o.job o.start ≡ time k = stops-at s tr k o.job o.start (time k) g.started within g.each stops in
      let seg : Segment = stopped o (time k) in
      let there : slice_get expected o.place ≡ Some (stopped o (time k)) = g.place ∙ ap (λ e. Some (stopped o e)) end in
      record {
        going = λ r p e. c.going r p (unput open_on k r p e);
        checked = λ p x e. rechecked schedule open_on first k o p x (stopped o (time k)) is (λ same. some-one x (stopped o (time k)) (sym e ∙ (ap (slice_get expected) same ∙ there))) (c.checked p x e);
        differs = λ d e. still-differs schedule expected first o.place d (stopped o (time k)) there c.differs e;
      }

  -- another one starts
  pub compared-opened : (expected : List Segment) (time : ℕ → ℕ) (open_on : ℕ → Option Open) (first : Option Difference) (k start : ℕ) (j : Served) → IsCompared s tr schedule expected time open_on first → open_on k ≡ None
      → start ≤ time k → ((u : ℕ) → start ≤ u → u < time k → gets s tr k j u ≡ true)
      → IsCompared s tr schedule (expected ++ record { task = j.task; start = start; end = stop_of s tr k j start } ∷ []) time (put open_on k (Some (record { job = j; start = start; place = length expected }))) first
  compared-opened expected time open_on first k start j c none from each =
      let o : Open = record { job = j; start = start; place = length expected } in
      let seg : Segment = record { task = j.task; start = start; end = stop_of s tr k j start } in
      record {
        going = λ r q e.
            elim (cases_Bool (eqb r k)) [
              | inl here ↦
                  let same : r ≡ k = eqb-true r k here in
                  let is : Some o ≡ Some q = rw here at e in
                  let one : o ≡ q = cc in
                  rw same (subst (λ q. IsGoing s tr (expected ++ seg ∷ []) k (time k) q) one (record { place = slice_get-last expected seg; started = from; each = each }))
              | inr other ↦
                  let g = c.going r q (rw other at e) in
                  record { place = slice_get-kept expected (seg ∷ []) q.place _ g.place; started = g.started; each = g.each }
            ];
        checked = λ p x e.
            elim (cases_lt p (length expected)) [
              | inl early ↦ still-checked schedule open_on first k o p x none (c.checked p x (sym (slice_get-before expected (seg ∷ []) p early) ∙ e))
              | inr late ↦
                  let within = slice_get_within (expected ++ seg ∷ []) p x e in
                  let at : length expected ≡ p = omega (arith, within, length-append expected (seg ∷ [])) in
                  inr (inr (record { res = k; going = o; is = cond-true (eqb k k) _ _ (eq-eqb k k refl); at = at }))
            ];
        differs = λ d e. let h = c.differs d e in (slice_get-kept expected (seg ∷ []) d.place _ h.0, h.1);
      }

  -- once nothing is open
  pub compared-all : (expected : List Segment) (time : ℕ → ℕ) (open_on : ℕ → Option Open) (first : Option Difference) → IsCompared s tr schedule expected time open_on first → ((r : ℕ) → open_on r ≡ None) → IsFirst schedule expected first
  compared-all expected time open_on first c none =
      record {
        differs = λ d e. let h = c.differs d e in (h.0, h.1, λ p seg less is. had-before p seg d e less (c.checked p seg is));
        agrees = λ e p seg less is. had-all p seg e (c.checked p seg is);
      }
    where
      had-before : (p : ℕ) (seg : Segment) (d : Difference) → first ≡ Some d → p < d.place → IsChecked schedule open_on first p seg → has_segment (slice_get schedule p) seg ≡ true
      had-before p seg d e less (inl had) = had
      had-before p seg d e less (inr (inl b)) =
          let is : Some b.difference ≡ Some d = sym b.is ∙ e in
          let one : b.difference ≡ d = cc in
          absurd (omega (arith, less, b.le, ap (λ (x : Difference). x.place) one))
      had-before p seg d e less (inr (inr o)) = let is : None ≡ Some o.going = sym (none o.res) ∙ o.is in cc

      had-all : (p : ℕ) (seg : Segment) → first ≡ None → IsChecked schedule open_on first p seg → has_segment (slice_get schedule p) seg ≡ true
      had-all p seg e (inl had) = had
      had-all p seg e (inr (inl b)) = let is : None ≡ Some b.difference = sym e ∙ b.is in cc
      had-all p seg e (inr (inr o)) = let is : None ≡ Some o.going = sym (none o.res) ∙ o.is in cc

  -- once nothing open lies before a difference, whatever starts after these
  pub compared-settled : (expected rest : List Segment) (time : ℕ → ℕ) (open_on : ℕ → Option Open) (d : Difference) → IsCompared s tr schedule expected time open_on (Some d)
      → ((r : ℕ) (o : Open) → open_on r ≡ Some o → d.place ≤ o.place) → IsFirst schedule (expected ++ rest) (Some d)
  compared-settled expected rest time open_on d c none =
      record {
        differs = λ x e. let one : d ≡ x = cc in subst (DiffersFirst schedule (expected ++ rest)) one known;
        agrees = λ e p seg less is. let z : Some d ≡ None = e in cc;
      }
    where
      had-before : (p : ℕ) (seg : Segment) → p < d.place → IsChecked schedule open_on (Some d) p seg → has_segment (slice_get schedule p) seg ≡ true
      had-before p seg less (inl had) = had
      had-before p seg less (inr (inl b)) =
          let is : Some d ≡ Some b.difference = b.is in
          let one : d ≡ b.difference = cc in
          absurd (omega (arith, less, b.le, ap (λ (x : Difference). x.place) one))
      had-before p seg less (inr (inr o)) = absurd (omega (arith, less, o.at, none o.res o.going o.is))

      known : DiffersFirst schedule (expected ++ rest) d
      known =
          let h = c.differs d refl in
          let there = slice_get_within expected d.place d.expected h.0 in
          (slice_get-kept expected rest d.place d.expected h.0, h.1, λ p seg less is. had-before p seg less (c.checked p seg (sym (slice_get-before expected rest p (omega (arith, less, there))) ∙ is)))
