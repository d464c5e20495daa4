-- The leads that the sources before one leave, and whether a source has an event that doesn't come by its clock.
use Rattle.std.proofs.Common.{◌≡◌, ◌∙◌, ℕ, zero, suc, ◌+◌, ◌<◌, ◌≤◌, ◌&&◌, ◌==◌, not, Bool, true, false, if◌then◌else◌, List, [], ◌∷◌, ◌++◌, length, Option, Some, None, option_map, refl, sym, ap, ap₂, subst, arith, inl, inr}
use Rattle.std.specs.Option.{is_some, is_none}
use Rattle.std.specs.List.{list_all}
use Rattle.std.proofs.Math.Bool.{and-true}
use Rattle.std.proofs.lemmas.Bool.{cases_lt, false≢true, and_parts, and_from, and_left, and_right, lt-ltb, le-ltb, eq-eqb, eqb-true}
use Rattle.std.proofs.lemmas.Bool.Decides.{nat_tests}
use Rattle.std.proofs.lemmas.List.Folds.{list_all-append}
use Rattle.std.proofs.lemmas.Option.{none-some}
use Rattle.cpa_model.specs.Clocks.{clock_of, clock_cycle, has_clocks}
use Rattle.cpa_model.proofs.ClockLaws.{clock-there, clock-past, no_clocks}
use Rattle.cpa_model.specs.SystemLists.{SystemLists, source_at}
use Rattle.cpa_trace.specs.declared.leads.Leads.{Leads}
use Rattle.cpa_trace.specs.declared.breach.Breach.{Breach}
use Rattle.cpa_trace.specs.declared.breach.Breach.TheVariants.{Clock}
use Rattle.cpa_trace.specs.Trace.{TraceLists, times_of, time_of}
use Rattle.cpa_trace.specs.Breaches.{first_below, first_some, fits_lead, is_clock, misses, serves, leaves_lead, events_to, clock_breach_on, clock_breach}
use Rattle.cpa_trace.specs.Leads.{allows, allowed_by, leaves_with}
use Rattle.cpa_trace.specs.Offs.{HasEvents, HasNoneOff}
use Rattle.cpa_trace.proofs.SearchLaws.{FailsBelow, first_below-none, first_below-fails, fails-more, is_some-same, first-same, first_some-found, first_some-none}
use Rattle.cpa_trace.proofs.LeftLaws.{leaves-one, leaves-none, leaves-fewer}

pub same_tests : (a b : Bool) → (a ≡ true → b ≡ true) → (b ≡ true → a ≡ true) → a ≡ b
same_tests true b h k = sym (h refl)
same_tests false true h k = k refl
same_tests false false h k = refl

is_none-none : {X : Type 0} (o : Option X) → is_none o ≡ true → o ≡ None
is_none-none None e = refl
is_none-none (Some x) e = absurd (false≢true e)

pub none_below : (p : ℕ → Bool) (count : ℕ) → FailsBelow p count → is_none (first_below p count) ≡ true
none_below p count fails = rw (first_below-none p count fails) refl

pub none_below-fails : (p : ℕ → Bool) (count : ℕ) → is_none (first_below p count) ≡ true → FailsBelow p count
none_below-fails p count e = first_below-fails p count (is_none-none (first_below p count) e)

not-false : (b : Bool) → not b ≡ false → b ≡ true
not-false true e = refl
not-false false e = absurd (false≢true (sym e))

not-true : (b : Bool) → not b ≡ true → b ≡ false
not-true true e = absurd (false≢true e)
not-true false e = refl

-- one place more
pub none_below-more : (p : ℕ → Bool) (count : ℕ) → is_none (first_below p (count + 1)) ≡ (is_none (first_below p count) && not (p count))
none_below-more p count =
    same_tests (is_none (first_below p (count + 1))) (is_none (first_below p count) && not (p count))
    (λ e. let fails = none_below-fails p (count + 1) e in and_from _ _ (none_below p count (λ m h. fails m (omega arith))) (ap not (fails count (omega arith))))
    (λ e. let parts = and_parts _ _ e in none_below p (count + 1) (fails-more p count (none_below-fails p count parts.0) (not-true (p count) parts.1)))

pub is_clock-some : (o : Option ℕ) (c : ℕ) → o ≡ Some c → is_clock o c ≡ true
is_clock-some o c e = rw e (eq-eqb c c refl)

pub some-is_clock : (o : Option ℕ) (c : ℕ) → is_clock o c ≡ true → o ≡ Some c
some-is_clock None c e = absurd (false≢true e)
some-is_clock (Some clock) c e = ap Some (eqb-true clock c e)

-- all events
abbrev pub all_events : TraceLists → ℕ → ℕ
all_events tr k = length (times_of tr k)

events-before : (tr : TraceLists) (k n j : ℕ) → j < k → events_to tr k n j ≡ length (times_of tr j)
events-before tr k n j h = ap (λ b. if b then length (times_of tr j) else (if j == k then n else 0)) (lt-ltb j k h)

events-here : (tr : TraceLists) (k n : ℕ) → events_to tr k n k ≡ n
events-here tr k n = ap (λ b. if b then length (times_of tr k) else (if k == k then n else 0)) (le-ltb k k (omega arith)) ∙ ap (λ b. if b then n else 0) (eq-eqb k k refl)

other-eqb : (j k : ℕ) → k < j → (j == k) ≡ false
other-eqb j k h = grind (arith, nat_tests)

events-after : (tr : TraceLists) (k n j : ℕ) → k < j → events_to tr k n j ≡ 0
events-after tr k n j h = ap (λ b. if b then length (times_of tr j) else (if j == k then n else 0)) (le-ltb j k (omega arith)) ∙ ap (λ b. if b then n else 0) (other-eqb j k h)

module _ (s : SystemLists) (tr : TraceLists) (c : ℕ) where
  -- whether all events of the sources on the clock before place k come by it
  abbrev pub serves_before : ℕ → ℕ → Bool
  serves_before k lead = is_none (first_below (misses s tr (all_events tr) c lead) k)

  -- by how many events are looked at
  abbrev by_count : ℕ → ℕ → ℕ → Bool
  by_count lead j n = is_clock (clock_of s j) c && not (fits_lead (source_at s j) (times_of tr j) lead n)

  -- the kept leads are those that the sources before k leave
  abbrev pub AreKept : ℕ → List Leads → Type 0
  AreKept k others = (lead : ℕ) → list_all (allows lead) others ≡ serves_before k lead

  pub kept-none : AreKept 0 []
  kept-none lead = sym (none_below (misses s tr (all_events tr) c lead) 0 (λ m h. absurd (omega arith)))

  -- a source that isn't on the clock, or has no events
  by_none : (lead k : ℕ) (b : Bool) (n : ℕ) → is_clock (clock_of s k) c ≡ b → length (times_of tr k) ≡ n → (HasEvents s tr c k → ⊥) → by_count lead k n ≡ false
  by_none lead k false n e l other = and_left _ _ e
  by_none lead k true zero e l other = and_right _ _ refl
  by_none lead k true (suc n) e l other = absurd (other (record { on = some-is_clock (clock_of s k) c e; some = omega (arith, l) }))

  other-misses : (lead k : ℕ) → (HasEvents s tr c k → ⊥) → misses s tr (all_events tr) c lead k ≡ false
  other-misses lead k other = by_none lead k (is_clock (clock_of s k) c) (length (times_of tr k)) refl refl other

  pub serves-other : (k lead : ℕ) → (HasEvents s tr c k → ⊥) → serves_before (k + 1) lead ≡ serves_before k lead
  serves-other k lead other =
      none_below-more (misses s tr (all_events tr) c lead) k ∙ ap (λ b. serves_before k lead && not b) (other-misses lead k other) ∙ and-true (serves_before k lead)

  pub kept-other : (k : ℕ) (others : List Leads) → (HasEvents s tr c k → ⊥) → AreKept k others → AreKept (k + 1) others
  kept-other k others other kept lead = kept lead ∙ sym (serves-other k lead other)

  -- all sources on the clock before a place
  here-fits-at : (lead k n : ℕ) → clock_of s k ≡ Some c → by_count lead k n ≡ false → fits_lead (source_at s k) (times_of tr k) lead n ≡ true
  here-fits-at lead k n on e = not-false _ (sym (ap (λ b. b && not (fits_lead (source_at s k) (times_of tr k) lead n)) (is_clock-some (clock_of s k) c on)) ∙ e)

  pub here-fits : (count lead k : ℕ) → k < count → clock_of s k ≡ Some c → serves_before count lead ≡ true → fits_lead (source_at s k) (times_of tr k) lead (length (times_of tr k)) ≡ true
  here-fits count lead k h on all = here-fits-at lead k (length (times_of tr k)) on (none_below-fails (misses s tr (all_events tr) c lead) count all k h)

  pub misses-none : (count lead : ℕ) → ((k : ℕ) → k < count → clock_of s k ≡ Some c → fits_lead (source_at s k) (times_of tr k) lead (length (times_of tr k)) ≡ true) → serves_before count lead ≡ true
  misses-none count lead fits = none_below (misses s tr (all_events tr) c lead) count (λ k h. by_clock k h (is_clock (clock_of s k) c) refl)
    where
      by_clock : (k : ℕ) → k < count → (b : Bool) → is_clock (clock_of s k) c ≡ b → misses s tr (all_events tr) c lead k ≡ false
      by_clock k h false e = and_left _ _ e
      by_clock k h true e = and_right _ _ (ap not (fits k h (some-is_clock (clock_of s k) c e)))

  module _ (k : ℕ) (on : clock_of s k ≡ Some c) where
    here-misses : (lead n : ℕ) → by_count lead k n ≡ not (fits_lead (source_at s k) (times_of tr k) lead n)
    here-misses lead n = ap (λ b. b && not (fits_lead (source_at s k) (times_of tr k) lead n)) (is_clock-some (clock_of s k) c on)

    not-not : (b : Bool) → not (not b) ≡ b
    not-not true = refl
    not-not false = refl

    pub serves-more : (lead : ℕ) → serves_before (k + 1) lead ≡ (serves_before k lead && fits_lead (source_at s k) (times_of tr k) lead (length (times_of tr k)))
    serves-more lead =
        none_below-more (misses s tr (all_events tr) c lead) k ∙ ap (λ b. serves_before k lead && not b) (here-misses lead (length (times_of tr k)))
        ∙ ap (λ b. serves_before k lead && b) (not-not (fits_lead (source_at s k) (times_of tr k) lead (length (times_of tr k))))

    pub kept-more : (own : Leads) (others : List Leads) → ((lead : ℕ) → allows lead own ≡ fits_lead (source_at s k) (times_of tr k) lead (length (times_of tr k)))
        → AreKept k others → AreKept (k + 1) (others ++ own ∷ [])
    kept-more own others these kept lead =
        list_all-append (allows lead) others (own ∷ []) ∙ ap₂ (λ a b. a && b) (kept lead) (and-true (allows lead own) ∙ these lead) ∙ sym (serves-more lead)

    module _ (there : k < length s.sources) where
      -- all that is looked at up to event n of source k
      pub serves-split : (n lead : ℕ) → serves s tr (events_to tr k n) c lead ≡ (fits_lead (source_at s k) (times_of tr k) lead n && serves_before k lead)
      serves-split n lead = same_tests _ _ parts whole
        where
          parts : serves s tr (events_to tr k n) c lead ≡ true → (fits_lead (source_at s k) (times_of tr k) lead n && serves_before k lead) ≡ true
          parts e =
              let fails = none_below-fails (misses s tr (events_to tr k n) c lead) (length s.sources) e in
              and_from _ _
              (not-false _ (sym (here-misses lead n) ∙ ap (by_count lead k) (sym (events-here tr k n)) ∙ fails k there))
              (none_below (misses s tr (all_events tr) c lead) k (λ j h. ap (by_count lead j) (sym (events-before tr k n j h)) ∙ fails j (omega arith)))

          whole : (fits_lead (source_at s k) (times_of tr k) lead n && serves_before k lead) ≡ true → serves s tr (events_to tr k n) c lead ≡ true
          whole e =
              let both = and_parts _ _ e in
              let before = none_below-fails (misses s tr (all_events tr) c lead) k both.1 in
              none_below (misses s tr (events_to tr k n) c lead) (length s.sources) (λ j h. elim (cases_lt j k) [
                | inl less ↦ ap (by_count lead j) (events-before tr k n j less) ∙ before j less
                | inr more ↦ elim (cases_lt k j) [
                  | inl after ↦ ap (by_count lead j) (events-after tr k n j after) ∙ and_right _ _ refl
                  | inr least ↦
                      let same : k ≡ j = omega arith in
                      subst (λ i. by_count lead i (events_to tr k n i) ≡ false) same (ap (by_count lead k) (events-here tr k n) ∙ here-misses lead n ∙ ap not both.0)
                ]
              ])

      -- whether the events up to that leave a lead
      pub leaves-kept_lead : (others : List Leads) → AreKept k others → (n : ℕ) → leaves_lead s tr (events_to tr k n) c ≡ leaves_with (source_at s k) (times_of tr k) others (clock_cycle s c) n
      leaves-kept_lead others kept n =
          is_some-same (serves s tr (events_to tr k n) c) (λ lead. fits_lead (source_at s k) (times_of tr k) lead n && list_all (allows lead) others) (clock_cycle s c)
          (λ lead h. serves-split n lead ∙ ap (λ b. fits_lead (source_at s k) (times_of tr k) lead n && b) (sym (kept lead)))

      -- by the kept leads
      abbrev pub off_event : List Leads → Option ℕ
      off_event others = first_below (λ n. not (leaves_with (source_at s k) (times_of tr k) others (clock_cycle s c) (n + 1))) (length (times_of tr k))

      pub breach-is : (others : List Leads) → AreKept k others → clock_breach s tr k ≡ option_map (λ n. Clock (record { 0 = k }) (time_of tr k n)) (off_event others)
      breach-is others kept =
          ap (clock_breach_on s tr k) on
          ∙ ap (option_map (λ n. Clock (record { 0 = k }) (time_of tr k n)))
          (first-same (λ n. not (leaves_lead s tr (events_to tr k (n + 1)) c)) (λ n. not (leaves_with (source_at s k) (times_of tr k) others (clock_cycle s c) (n + 1))) (length (times_of tr k))
          (λ n h. ap not (leaves-kept_lead others kept (n + 1))))

      told : (o : Option ℕ) (time : ℕ) → option_map (time_of tr k) o ≡ Some time → option_map (λ n. Clock (record { 0 = k }) (time_of tr k n)) o ≡ Some (Clock (record { 0 = k }) time)
      told None time e = absurd (none-some time e)
      told (Some n) time e = let same : time_of tr k n ≡ time = cc in ap (λ t. Some (Clock (record { 0 = k }) t)) same

      pub breach-off : (others : List Leads) (time : ℕ) → AreKept k others → option_map (time_of tr k) (off_event others) ≡ Some time → clock_breach s tr k ≡ Some (Clock (record { 0 = k }) time)
      breach-off others time kept e = breach-is others kept ∙ told (off_event others) time e

      pub breach-left : (others : List Leads) → AreKept k others → leaves_with (source_at s k) (times_of tr k) others (clock_cycle s c) (length (times_of tr k)) ≡ true → clock_breach s tr k ≡ None
      breach-left others kept left =
          breach-is others kept
          ∙ ap (option_map (λ n. Clock (record { 0 = k }) (time_of tr k n)))
          (first_below-none (λ n. not (leaves_with (source_at s k) (times_of tr k) others (clock_cycle s c) (n + 1))) (length (times_of tr k))
          (λ n h. ap not (leaves-fewer (source_at s k) (times_of tr k) others (clock_cycle s c) (n + 1) (length (times_of tr k)) (omega arith) left)))

      -- the next least lead, where the least that those before leave is known
      module _ (own : Leads) (others : List Leads) (lead next : ℕ)
          (these : (l : ℕ) → allows l own ≡ fits_lead (source_at s k) (times_of tr k) l (length (times_of tr k))) (kept : AreKept k others)
          (before : (l : ℕ) → l < lead → serves_before k l ≡ false) (first : (l : ℕ) → lead ≤ l → l < next → allowed_by own others l ≡ false) where
        -- none below it is one
        none-next : (l : ℕ) → l < next → (fits_lead (source_at s k) (times_of tr k) l (length (times_of tr k)) && list_all (allows l) others) ≡ false
        none-next l h = elim (cases_lt l lead) [
          | inl less ↦ and_right _ _ (kept l ∙ before l less)
          | inr more ↦ ap (λ b. b && list_all (allows l) others) (sym (these l)) ∙ first l more h
        ]

        swap : (a b : Bool) → (a && b) ≡ false → (b && a) ≡ false
        swap true b e = rw e refl
        swap false true e = refl
        swap false false e = refl

        pub before-next : (l : ℕ) → l < next → serves_before (k + 1) l ≡ false
        before-next l h =
            let fits = fits_lead (source_at s k) (times_of tr k) l (length (times_of tr k)) in
            serves-more l ∙ swap fits (serves_before k l) (ap (λ b. fits && b) (sym (kept l)) ∙ none-next l h)

        pub none-left : clock_cycle s c ≤ next → leaves_with (source_at s k) (times_of tr k) others (clock_cycle s c) (length (times_of tr k)) ≡ false
        none-left past = leaves-none (source_at s k) (times_of tr k) others (clock_cycle s c) (length (times_of tr k)) (λ l h. none-next l (omega arith))

        pub one-left : next < clock_cycle s c → allowed_by own others next ≡ true → leaves_with (source_at s k) (times_of tr k) others (clock_cycle s c) (length (times_of tr k)) ≡ true
        one-left less allowed =
            let parts = and_parts _ _ allowed in
            leaves-one (source_at s k) (times_of tr k) others (clock_cycle s c) (length (times_of tr k)) next less (sym (these next) ∙ parts.0) parts.1

  -- a source without events has none that doesn't come by its clock
  pub breach-none : (k : ℕ) → (HasEvents s tr c k → ⊥) → clock_of s k ≡ Some c → clock_breach s tr k ≡ None
  breach-none k other on = ap (clock_breach_on s tr k) on ∙ by_length (length (times_of tr k)) refl
    where
      by_length : (n : ℕ) → length (times_of tr k) ≡ n → option_map (λ n. Clock (record { 0 = k }) (time_of tr k n)) (first_below (λ n. not (leaves_lead s tr (events_to tr k (n + 1)) c)) n) ≡ None
      by_length zero e = ap (option_map (λ n. Clock (record { 0 = k }) (time_of tr k n))) (first_below-none (λ n. not (leaves_lead s tr (events_to tr k (n + 1)) c)) 0 (λ m h. absurd (omega arith)))
      by_length (suc n) e = absurd (other (record { on = on; some = omega (arith, e) }))

  -- one source more
  pub fine-more : (k : ℕ) → HasNoneOff s tr c k → (clock_of s k ≡ Some c → clock_breach s tr k ≡ None) → HasNoneOff s tr c (k + 1)
  fine-more k fine here j h on = elim (cases_lt j k) [
    | inl less ↦ fine j less on
    | inr more ↦ let same : k ≡ j = omega arith in subst (λ i. clock_of s i ≡ Some c → clock_breach s tr i ≡ None) same here on
  ]

module _ (s : SystemLists) (tr : TraceLists) (until : ℕ) where
  -- clock by clock
  pub fine-below : ((c : ℕ) → c < length s.sources → HasNoneOff s tr c until) → (k : ℕ) → k < until → clock_breach s tr k ≡ None
  fine-below fine k h = by_clock (clock_of s k) refl
    where
      by_clock : (o : Option ℕ) → clock_of s k ≡ o → clock_breach s tr k ≡ None
      by_clock None e = ap (clock_breach_on s tr k) e
      by_clock (Some c) e = fine c (clock-there s k c e) k h e

  pub first-breach : (first : Option Breach) → until ≤ length s.sources → first ≡ clock_breach s tr until → (until < length s.sources → is_some first ≡ true)
      → ((c : ℕ) → c < length s.sources → HasNoneOff s tr c until) → first ≡ first_some (clock_breach s tr) (length s.sources)
  first-breach first within is some fine =
      let fails : FailsBelow (λ k. is_some (clock_breach s tr k)) until = λ k h. ap is_some (fine-below fine k h) in
      elim (cases_lt until (length s.sources)) [
        | inl less ↦ is ∙ sym (first_some-found (clock_breach s tr) (length s.sources) until less (ap is_some (sym is) ∙ some less) fails)
        | inr all ↦
            is ∙ ap (clock_breach_on s tr until) (clock-past s until all)
            ∙ sym (first_some-none (clock_breach s tr) (length s.sources) (λ k h. fails k (omega arith)))
      ]

-- where no source is on a clock
pub no-breach : (s : SystemLists) (tr : TraceLists) → has_clocks s ≡ false → None ≡ first_some (clock_breach s tr) (length s.sources)
no-breach s tr none =
    sym (first_some-none (clock_breach s tr) (length s.sources) (λ k h. ap is_some (ap (clock_breach_on s tr k) (no_clocks s none k))))
