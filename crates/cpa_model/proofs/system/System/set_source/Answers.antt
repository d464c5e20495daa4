use Rattle.std.proofs.Common.{◌≡◌, ◌<◌, length, set, ap, ◌∙◌, refl, arith}
use Rattle.std.proofs.lemmas.List.{with_items_is}
use Rattle.cpa_model.specs.declared.entries.Source.{Source}
use Rattle.cpa_model.specs.Clocks.{renewed_clocks, of_sources}
use Rattle.cpa_model.proofs.ChangedLaws.{source-written, source-read, system-same}
use Rattle.cpa_model.proofs.KeptClocks.{kept-renewed}
use Rattle.cpa_model.proofs.system.System.set_source.Goals as goal

pub renew_clock-requires-clause-periods : goal.renew_clock-requires-clause-periods
renew_clock-requires-clause-periods c =
    let there = rw (← c.self.view_is) at c.requires.there in
    let rules = rw (← c.self.view_is) at c.requires.rules in
    rw (c.as_slice.ensures.value)
    (system-same _ _ (source-written _ c.args.source.0 c.args.period c.args.jitter c.args.distance c.index_mut-entry.result.now there c.index_mut-entry.ensures.value) rules).sources

pub renew_clock-requires-clause-short : goal.renew_clock-requires-clause-short
renew_clock-requires-clause-short c =
    let there = rw (← c.self.view_is) at c.requires.there in
    let rules = rw (← c.self.view_is) at c.requires.rules in
    rw (c.as_slice.ensures.value)
    (system-same _ _ (source-written _ c.args.source.0 c.args.period c.args.jitter c.args.distance c.index_mut-entry.result.now there c.index_mut-entry.ensures.value) rules).clocks

pub invariant_of-self : goal.invariant_of-self
invariant_of-self c =
    let there : c.args.source.0 < length c.self.inside.sources.items = rw (← c.self.view_is) at c.requires.there in
    let rules = rw (← c.self.view_is) at c.requires.rules in
    let r : Source = record c.index_mut-entry.result.now { period = c.args.period; jitter = c.args.jitter; distance = c.args.distance } in
    let same = ap (λ (u : Source). u.on_clock) (source-read c.self.inside.sources.items c.args.source.0 c.index_mut-entry.result.now there c.index_mut-entry.ensures.value) in (
      system-same _ _ (source-written _ c.args.source.0 c.args.period c.args.jitter c.args.distance c.index_mut-entry.result.now there c.index_mut-entry.ensures.value) rules,
      c.self.invariant.1,
      with_items_is c.self.inside.clocks c.renew_clock.new.kept (omega arith)
          ∙ c.renew_clock.ensures
          ∙ ap (λ us. renewed_clocks (of_sources us) c.args.source.0 c.as_mut_slice.result.now) c.as_slice.ensures.value
          ∙ ap (renewed_clocks (of_sources (set c.self.inside.sources.items c.args.source.0 r)) c.args.source.0) (c.as_mut_slice.ensures.value ∙ c.self.invariant.2)
          ∙ kept-renewed (of_sources c.self.inside.sources.items) c.args.source.0 r same,
    )

pub returns : goal.returns
returns c =
    rw (← c.self.view_is)
    (source-written _ c.args.source.0 c.args.period c.args.jitter c.args.distance c.index_mut-entry.result.now (rw (← c.self.view_is) at c.requires.there) c.index_mut-entry.ensures.value)
