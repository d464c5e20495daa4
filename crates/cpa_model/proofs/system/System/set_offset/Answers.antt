use Rattle.std.proofs.Common.{◌≡◌, ◌<◌, length, set, ap, ◌∙◌, sym, arith}
use Rattle.std.proofs.lemmas.List.{with_items_is}
use Rattle.cpa_model.specs.declared.entries.Source.{Source}
use Rattle.cpa_model.specs.Clocks.{moved_clocks, kept_clocks, of_sources}
use Rattle.cpa_model.proofs.ChangedLaws.{offset-written, offset-moved, system-same}
use Rattle.cpa_model.proofs.KeptClocks.{kept-moved}
use Rattle.cpa_model.proofs.system.System.set_offset.Goals as goal

pub invariant_of-self : goal.invariant_of-self
invariant_of-self c =
    let there : c.args.source.0 < length c.self.inside.sources.items = rw (← c.self.view_is) at c.requires.there in
    let rules = rw (← c.self.view_is) at c.requires.rules in
    let is = offset-moved c.self.inside.sources.items c.args.source.0 c.args.offset c.index_mut.result.now c.move_on_clock.new.source there c.index_mut.ensures.value c.move_on_clock.ensures in (
      system-same _ _ (offset-written _ c.args.source.0 c.args.offset c.index_mut.result.now c.move_on_clock.new.source there c.index_mut.ensures.value c.move_on_clock.ensures) rules,
      c.self.invariant.1,
      with_items_is c.self.inside.clocks c.set_kept_offset.new.kept (omega arith)
          ∙ c.set_kept_offset.ensures
          ∙ ap (moved_clocks c.args.source.0 c.args.offset) (c.as_mut_slice.ensures.value ∙ c.self.invariant.2)
          ∙ kept-moved (of_sources c.self.inside.sources.items) c.args.source.0 c.args.offset there
          ∙ ap (λ (r : Source). kept_clocks (of_sources (set c.self.inside.sources.items c.args.source.0 r))) (sym is),
    )

pub returns : goal.returns
returns c =
    let there : c.args.source.0 < length c.self.inside.sources.items = rw (← c.self.view_is) at c.requires.there in
    rw (← c.self.view_is) (offset-written _ c.args.source.0 c.args.offset c.index_mut.result.now c.move_on_clock.new.source there c.index_mut.ensures.value c.move_on_clock.ensures)
