use Rattle.std.proofs.Common.{◌≡◌, ◌<◌, Option, None, Some, length, get_or, ap, ◌∙◌, sym, refl, arith}
use Rattle.std.proofs.lemmas.List.FromFn.{length-map-range_with_len, get_or-map-range_with_len}
use Rattle.cpa_draft.proofs.ListLaws.{get_or-any}
use Rattle.cpa_model.specs.declared.entries.OnClock.{OnClock}
use Rattle.cpa_model.specs.declared.entries.Source.{Source}
use Rattle.cpa_model.specs.declared.clocks.Ticking.{Ticking}
use Rattle.cpa_model.specs.SystemLists.{source_at, no_source}
use Rattle.cpa_model.specs.Clocks.{first_on, cycle_on, clock_of, clock_cycle, cycle_known, ticking_of, of_sources}
use Rattle.cpa_model.proofs.KeptClocks.{cycle-at_first, ticking-found}
use Rattle.cpa_model.proofs.clocks.find_ticking.Goals as goal
use Rattle.cpa_model.proofs.clocks.find_ticking.Goals.{then-first-place, else-first-place}

pub known_cycle-cycle-requires : goal.known_cycle-cycle-requires
known_cycle-cycle-requires c =
    let long : length c.args.known.now ≡ c.args.place = ap length c.requires.known ∙ length-map-range_with_len (ticking_of (of_sources c.args.sources.now)) 0 c.args.place in
    omega (arith, c.if-first-place.true)

pub returns-after-first-place : goal.returns-after-first-place
returns-after-first-place c =
    let is : source_at (of_sources c.args.sources.now) c.args.place ≡ get_or c.args.sources.now c.args.place c.index-sources-place.result =
    sym (get_or-any c.args.sources.now c.args.place c.index-sources-place.result no_source c.requires.there) in
    let on : (source_at (of_sources c.args.sources.now) c.args.place).on_clock ≡ Some c.in-Some.on = ap (λ (r : Source). r.on_clock) is ∙ c.in-Some.is in
    let first : first_on (of_sources c.args.sources.now) (Some c.in-Some.on) ≡ Some c.in-Some-first_on.first =
    sym (rw (c.bytes-name.ensures.value) at c.first_on.ensures.place) ∙ c.in-Some-first_on.is in
    let clock : clock_of (of_sources c.args.sources.now) c.args.place ≡ Some c.in-Some-first_on.first = ap (first_on (of_sources c.args.sources.now)) on ∙ first in
    let cycle : c.if-first-place.cycle ≡ clock_cycle (of_sources c.args.sources.now) c.args.place =
    elim c.if-first-place.branch [
      | then-first-place w ↦
          w.cycle-is ∙ w.known_cycle-cycle.ensures
          ∙ ap (λ ts. cycle_known (get_or ts c.in-Some-first_on.first None)) c.requires.known
          ∙ ap cycle_known (get_or-map-range_with_len (ticking_of (of_sources c.args.sources.now)) 0 c.args.place c.in-Some-first_on.first c.in-Some-first_on.first None w.if-first-place.true (omega arith))
          ∙ cycle-at_first (of_sources c.args.sources.now) c.args.place c.in-Some-first_on.first clock
      | else-first-place w ↦ w.cycle-is ∙ (rw (c.bytes-name.ensures.value) at w.cycle_of-cycle.ensures) ∙ sym (ap (cycle_on (of_sources c.args.sources.now)) on)
    ] in
    ticking-found (of_sources c.args.sources.now) c.args.place c.in-Some-first_on.first c.if-first-place.cycle c.in-Some.on on first cycle
