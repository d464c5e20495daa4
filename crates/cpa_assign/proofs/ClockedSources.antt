-- Tasks that sources alone activate, where these are on clocks.
use Rattle.std.proofs.Common.{◌≡◌, ℕ, Bool, List, [], ◌∷◌, length, map, Option, Some, None, option_map, refl, sym, ap, ◌∙◌, subst, arith}
use Rattle.std.specs.List.{AllZip}
use Rattle.std.proofs.lemmas.Option.{none-some, same_Some}
use Rattle.cpa_units.specs.declared.places.SourceId.{SourceId}
use Rattle.cpa_units.specs.declared.bound.Bound.{Bound}
use Rattle.cpa_events.specs.Events.{Model, IsModelInRange}
use Rattle.cpa_clock.specs.declared.anchor.Anchor.{Anchor}
use Rattle.cpa_clock.specs.Clocked.{clocked_preemptive_bound}
use Rattle.cpa_clock.specs.Gathered.{IsAnchored, IsAnchoredAt, IsInputOn, anchors_at, cycles_at}
use Rattle.cpa_model.specs.Clocks.{clock_of, clock_cycle, offset_of}
use Rattle.cpa_model.specs.Rules.{IsSystem}
use Rattle.cpa_model.specs.SystemLists.{SystemLists, task_at, resource_at, streams_of}
use Rattle.cpa_model.specs.Streams.{source_stream}
use Rattle.cpa_model.proofs.ClockLaws.{clock-there, clock-whole, offset-small}
use Rattle.cpa_local.specs.OnClocks.{source_anchor}
use Rattle.cpa_local.proofs.ClockedInputs.{cycles-long, cycles-at, cycles-same}
use Rattle.cpa_assign.specs.Placing.{AreSourceCycles, sources_model, source_anchors, clocked_rivals_at, placed_on_clocks}

module _ (s : SystemLists) (rules : IsSystem s) (cycles : List ℕ) (are : AreSourceCycles s cycles) where
  source-anchored : (k : ℕ) → IsAnchored cycles (source_anchor s k) (source_stream s k)
  source-anchored k = by (clock_of s k) refl
    where
      by : (o : Option ℕ) → clock_of s k ≡ o → IsAnchored cycles (option_map (λ c. record { clock = c; offset = offset_of s k }) o) (source_stream s k)
      by None e = λ a is. absurd (none-some a is)
      by (Some c) e =
          let at : IsAnchoredAt cycles (record { clock = c; offset = offset_of s k }) (source_stream s k) =
          record {
            there = omega (arith, clock-there s k c e, cycles-long s cycles are);
            offset = omega (arith, offset-small s rules k);
            whole = rw (cycles-at s cycles are c) (clock-whole s rules k c e);
          }
          in
          λ a is. subst (λ (b : Anchor). IsAnchoredAt cycles b (source_stream s k)) (same_Some (record { clock = c; offset = offset_of s k }) a is) at

  all-anchored : (ks : List SourceId) → AllZip (IsAnchored cycles) (map (λ (k : SourceId). source_anchor s k.0) ks) (map (λ (k : SourceId). source_stream s k.0) ks)
  all-anchored [] = tt
  all-anchored (k ∷ ks) = (source-anchored k.0, all-anchored ks)

  -- what such a task receives is on clocks as is said
  pub sources-on : (i : ℕ) (m : Model) (anchors : List (Option Anchor)) → m ≡ sources_model s i → anchors ≡ source_anchors s i → IsModelInRange m → IsInputOn cycles anchors (Some m)
  sources-on i m anchors model places range x is =
      let same : x ≡ sources_model s i = sym (same_Some m x is) ∙ model in
      (subst IsModelInRange (same_Some m x is) range, rw (same, places) (all-anchored (streams_of s i)))

  -- the bound by what is found of the task and its neighbours
  pub placed-found : (r i : ℕ) (above : ℕ → Bool) (own : Model) (anchors : List (Option Anchor)) (worst limit : ℕ) → own ≡ sources_model s i → anchors ≡ source_anchors s i → worst ≡ (task_at s i).worst → limit ≡ (resource_at s r).limit
      → clocked_preemptive_bound own (anchors_at anchors) worst 0 (clocked_rivals_at s above) (cycles_at cycles) (length cycles) limit ≡ placed_on_clocks s r above i
  placed-found r i above own anchors worst limit model places longest bound =
      let value : Model → List (Option Anchor) → ℕ → (ℕ → ℕ) → ℕ → ℕ → Bound = λ m os w f count most. clocked_preemptive_bound m (anchors_at os) w 0 (clocked_rivals_at s above) f count most in
      ap (λ (m : Model). value m anchors worst (cycles_at cycles) (length cycles) limit) model
      ∙ ap (λ (os : List (Option Anchor)). value (sources_model s i) os worst (cycles_at cycles) (length cycles) limit) places
      ∙ ap (λ (w : ℕ). value (sources_model s i) (source_anchors s i) w (cycles_at cycles) (length cycles) limit) longest
      ∙ ap (λ (f : ℕ → ℕ). value (sources_model s i) (source_anchors s i) (task_at s i).worst f (length cycles) limit) (cycles-same s cycles are)
      ∙ ap (λ (count : ℕ). value (sources_model s i) (source_anchors s i) (task_at s i).worst (clock_cycle s) count limit) (cycles-long s cycles are)
      ∙ ap (λ (most : ℕ). value (sources_model s i) (source_anchors s i) (task_at s i).worst (clock_cycle s) (length s.sources) most) bound
