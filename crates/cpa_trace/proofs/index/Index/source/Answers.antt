use Rattle.std.proofs.Common.{ℕ, ◌∙◌, None, Some}
use Rattle.cpa_units.specs.declared.places.SourceId.{SourceId}
use Rattle.cpa_model.specs.declared.entries.Source.{Source}
use Rattle.cpa_trace.proofs.NameLaws.{place-named}
use Rattle.cpa_trace.proofs.index.Index.source.Goals as goal

id : ℕ → SourceId
id k = record { 0 = k }

pub returns-in_err-place-clause-value : goal.returns-in_err-place-clause-value
unfolding id
returns-in_err-place-clause-value c =
    let none = place-named (λ (r : Source). r.name) c.args.system.now.sources id c.args.self.now.sources c.args.name.now None c.requires.sources (c.in_err-place.ensures) in
    c.from_residual.ensures ∙ none

pub returns-clause-value : goal.returns-clause-value
unfolding id
returns-clause-value c =
    place-named (λ (r : Source). r.name) c.args.system.now.sources id c.args.self.now.sources c.args.name.now (Some c.in_ok-place.place) c.requires.sources c.in_ok-place.ensures
