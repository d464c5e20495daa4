-- Streams of an input that is the same in two systems come again in each cycle that their clocks have in either.
use Rattle.std.proofs.Common.{◌≡◌, ℕ, zero, suc, ◌+◌, ◌*◌, ◌<◌, ◌%◌, All, List, [], ◌∷◌, length, map, get_or, drop, Option, Some, None, refl, sym, ap, ◌∙◌, arith, subst}
use Rattle.std.specs.List.{AllZip}
use Rattle.std.specs.Option.{ForSome}
use Rattle.std.proofs.lemmas.List.Elements.{All-head, All-tail}
use Rattle.cpa_units.specs.declared.bound.Bound.{Bound}
use Rattle.cpa_units.specs.declared.limits.TheConstants.{MAX_PERIOD, MAX_EXECUTION}
use Rattle.cpa_units.specs.declared.places.SourceId.{SourceId}
use Rattle.cpa_events.specs.declared.stream.Stream.{Stream}
use Rattle.cpa_events.specs.Streams.{IsStream}
use Rattle.cpa_events.specs.Events.{Model, IsModel}
use Rattle.cpa_window.specs.Rivals.{IsInput}
use Rattle.cpa_clock.specs.declared.anchor.Anchor.{Anchor}
use Rattle.cpa_clock.specs.Anchors.{Anchors}
use Rattle.cpa_model.specs.Clocks.{clock_cycle}
use Rattle.cpa_model.specs.Rules.{IsSystem}
use Rattle.cpa_model.specs.SystemLists.{SystemLists, source_at, streams_of}
use Rattle.cpa_local.specs.Inputs.{input}
use Rattle.cpa_local.specs.OnClocks.{anchor_list, anchors_of}
use Rattle.cpa_local.proofs.AnchorLists.{IsOnClock, anchors-on}
use Rattle.cpa_local.proofs.ResponseLaws.{input-is_input}
use Rattle.cpa_local.proofs.StreamLaws.{input-follows}
use Rattle.cpa_session.proofs.CycleLaws.{IsWholeOn, AreWholeFrom, IsWholeInput}

-- a cycle of its clock is whole for a stream
abbrev IsWhole : (ℕ → ℕ) → Option Anchor → Stream → Type 0
IsWhole cycle o m = ForSome o (λ a. cycle a.clock % m.period ≡ 0)

module _ (s : SystemLists) where
  by-periods : (os : List (Option Anchor)) (ks : List SourceId) (m : Model) → AllZip (IsOnClock s (MAX_PERIOD + 32 * MAX_EXECUTION)) os ks
      → map (λ (t : Stream). t.period) m ≡ map (λ (k : SourceId). (source_at s k.0).period) ks → AllZip (IsWhole (clock_cycle s)) os m
  by-periods [] [] [] h periods = tt
  by-periods [] [] (t ∷ m) h periods = absurd (omega (arith, ap length periods))
  by-periods [] (k ∷ ks) m h periods = absurd h
  by-periods (o ∷ os) [] m h periods = absurd h
  by-periods (o ∷ os) (k ∷ ks) [] h periods = absurd (omega (arith, ap length periods))
  by-periods (o ∷ os) (k ∷ ks) (t ∷ m) h periods =
      let period : t.period ≡ (source_at s k.0).period = ap (λ ps. get_or ps 0 0) periods in
      (λ a is. rw period (h.0 a is).whole, by-periods os ks m h.1 (ap (drop 1) periods))

  all-whole : IsSystem s → (x : List Bound) (i : ℕ) (m : Model) → i < length s.tasks → input s x i ≡ Some m → AllZip (IsWhole (clock_cycle s)) (anchor_list s i) m
  all-whole rules x i m there is = by-periods (anchor_list s i) (streams_of s i) m (anchors-on s rules i) (input-follows s x rules i m there is)

module _ (f g : ℕ → ℕ) where
  from-zips : (anchors : Anchors) (first : ℕ) (os : List (Option Anchor)) (m : Model) → ((k : ℕ) → anchors (first + k) ≡ get_or os k None) → All IsStream m → AllZip (IsWhole f) os m → AllZip (IsWhole g) os m → AreWholeFrom f g anchors first m
  from-zips anchors first os [] at regular one two = tt
  from-zips anchors first [] (t ∷ m) at regular one two = absurd one
  from-zips anchors first (o ∷ os) (t ∷ m) at regular one two =
      let here : anchors first ≡ o = let same : first + 0 ≡ first = omega arith in ap anchors (sym same) ∙ at 0 in (
        λ a is. record { regular = All-head IsStream t m regular; first = one.0 a (sym here ∙ is); second = two.0 a (sym here ∙ is) },
        from-zips anchors (first + 1) os m (λ k. let same : first + 1 + k ≡ first + suc k = omega arith in ap anchors same ∙ at (suc k)) (All-tail IsStream t m regular) one.1 two.1,
      )

-- of task j, which was task i before, where nothing of it has changed
pub both-whole : (s t : SystemLists) (x y : List Bound) → IsSystem s → IsSystem t → (i j : ℕ) → i < length s.tasks → j < length t.tasks → anchor_list s i ≡ anchor_list t j → input s x i ≡ input t y j
    → IsWholeInput (clock_cycle s) (clock_cycle t) (anchors_of t j) (input t y j)
both-whole s t x y old new i j before there anchors same = by (input t y j) refl
  where
    by : (o : Option Model) → input t y j ≡ o → IsWholeInput (clock_cycle s) (clock_cycle t) (anchors_of t j) o
    by None is = tt
    by (Some m) is =
        let model : IsModel m = subst IsInput is (input-is_input t y new j there) in
        from-zips (clock_cycle s) (clock_cycle t) (anchors_of t j) 0 (anchor_list t j) m
        (λ k. let same : 0 + k ≡ k = omega arith in ap (anchors_of t j) same)
        model.each
        (subst (λ os. AllZip (IsWhole (clock_cycle s)) os m) anchors (all-whole s old x i m before (same ∙ is)))
        (all-whole t new y j m there is)
