-- Clocks of drafts and of the systems that they stand for have the same periods.
use Rattle.std.proofs.Common.{◌≡◌, ℕ, ℤ, Bool, true, false, List, [], ◌∷◌, map, length, get_or, All, Option, Some, None, refl, sym, ap, ◌∙◌, inl, inr}
use Rattle.std.specs.Prelude.{filter}
use Rattle.std.specs.Option.{ForSome}
use Rattle.std.proofs.lemmas.Bool.{cases_Bool}
use Rattle.std.proofs.lemmas.Option.{none-some, same_Some}
use Rattle.cpa_draft.specs.Numbers.{nat_of}
use Rattle.cpa_draft.specs.DraftLists.{DraftLists}
use Rattle.cpa_draft.specs.Clocks.{is_clock, periods_on, is_overlong, is_too_long}
use Rattle.cpa_draft.specs.Refusals.{has_clock_name}
use Rattle.cpa_draft.specs.declared.draft.DraftSource.{DraftSource}
use Rattle.cpa_draft.proofs.ListLaws.{all-map}
use Rattle.cpa_model.specs.declared.entries.OnClock.{OnClock}
use Rattle.cpa_model.specs.declared.entries.Source.{Source}
use Rattle.cpa_model.specs.Built.{built_on_clock, built_source, system_of}
use Rattle.cpa_model.specs.Redraft.{redraft_source, redraft}
use Rattle.cpa_model.specs.Rules.{IsSystem, HasShortClock}
use Rattle.cpa_model.specs.SystemLists.{SystemLists}
use Rattle.cpa_model.specs.Clocks.{clock_name, names_clock, is_on_clock, clock_periods}

-- from a draft

built-name : (clock : Option (List ℕ)) (offset : Option ℤ) → clock_name (built_on_clock clock offset) ≡ clock
built-name None offset = refl
built-name (Some name) offset = refl

built-on : (name : List ℕ) (clock : Option (List ℕ)) (offset : Option ℤ) → names_clock name (built_on_clock clock offset) ≡ is_clock name clock
built-on name None offset = refl
built-on name (Some other) offset = refl

built-periods : (name : List ℕ) (rs : List DraftSource) → map (λ (r : Source). r.period) (filter (is_on_clock name) (map built_source rs)) ≡ periods_on name rs
built-periods name [] = refl
built-periods name (r ∷ rs) = elim (cases_Bool (is_clock name r.clock)) [
  | inl on ↦
      let here : names_clock name (built_on_clock r.clock r.offset) ≡ true = built-on name r.clock r.offset ∙ on in
      rw (here, on) (ap (λ ps. nat_of r.period ∷ ps) (built-periods name rs))
  | inr off ↦
      let here : names_clock name (built_on_clock r.clock r.offset) ≡ false = built-on name r.clock r.offset ∙ off in
      rw (here, off) (built-periods name rs)
]

pub built-named : (d : DraftLists) → All (λ (r : DraftSource). has_clock_name r.clock ≡ true) d.sources → All (λ (r : Source). has_clock_name (clock_name r.on_clock) ≡ true) (map built_source d.sources)
built-named d named =
    all-map (λ (r : Source). has_clock_name (clock_name r.on_clock) ≡ true) built_source d.sources
    (λ k r less. ap has_clock_name (built-name (get_or d.sources k r).clock (get_or d.sources k r).offset) ∙ named k r less)

built-short : (d : DraftLists) (clock : Option (List ℕ)) (offset : Option ℤ) → is_overlong clock d.sources ≡ false → ForSome (built_on_clock clock offset) (λ o. is_too_long (clock_periods (system_of d) o.clock) ≡ false)
unfolding system_of
built-short d None offset short = λ o e. absurd (none-some o e)
built-short d (Some name) offset short =
    λ o e.
    let same : name ≡ o.clock = ap (λ (on : OnClock). on.clock) (same_Some _ o e) in
    rw (← same, built-periods name d.sources) short

pub built-clocks : (d : DraftLists) → All (λ (r : DraftSource). is_overlong r.clock d.sources ≡ false) d.sources → All (HasShortClock (system_of d)) (map built_source d.sources)
built-clocks d short =
    all-map (HasShortClock (system_of d)) built_source d.sources (λ k r less. built-short d (get_or d.sources k r).clock (get_or d.sources k r).offset (short k r less))

-- and back

redraft-on : (name : List ℕ) (on : Option OnClock) → is_clock name (clock_name on) ≡ names_clock name on
redraft-on name None = refl
redraft-on name (Some o) = refl

redraft-periods : (name : List ℕ) (rs : List Source) → periods_on name (map redraft_source rs) ≡ map (λ (r : Source). r.period) (filter (is_on_clock name) rs)
redraft-periods name [] = refl
redraft-periods name (r ∷ rs) = elim (cases_Bool (names_clock name r.on_clock)) [
  | inl on ↦
      let here : is_clock name (clock_name r.on_clock) ≡ true = redraft-on name r.on_clock ∙ on in
      rw (here, on) (ap (λ ps. r.period ∷ ps) (redraft-periods name rs))
  | inr off ↦
      let here : is_clock name (clock_name r.on_clock) ≡ false = redraft-on name r.on_clock ∙ off in
      rw (here, off) (redraft-periods name rs)
]

redraft-short : (s : SystemLists) (on : Option OnClock) → ForSome on (λ o. is_too_long (clock_periods s o.clock) ≡ false) → is_overlong (clock_name on) (map redraft_source s.sources) ≡ false
redraft-short s None short = refl
redraft-short s (Some o) short = rw (redraft-periods o.clock s.sources) (short o refl)

pub redraft-clocks : (s : SystemLists) → IsSystem s → All (λ (r : DraftSource). is_overlong r.clock (map redraft_source s.sources) ≡ false) (map redraft_source s.sources)
redraft-clocks s rules =
    all-map (λ (r : DraftSource). is_overlong r.clock (map redraft_source s.sources) ≡ false) redraft_source s.sources
    (λ k r less. redraft-short s (get_or s.sources k r).on_clock (rules.clocks k r less))
