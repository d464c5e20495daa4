use Rattle.std.proofs.Common.{ℕ, ◌∙◌, None, Some}
use Rattle.cpa_units.specs.declared.places.ResId.{ResId}
use Rattle.cpa_model.specs.declared.entries.Resource.{Resource}
use Rattle.cpa_trace.proofs.NameLaws.{place-named}
use Rattle.cpa_trace.proofs.index.Index.resource.Goals as goal

id : ℕ → ResId
id k = record { 0 = k }

pub returns-in_err-place-clause-value : goal.returns-in_err-place-clause-value
unfolding id
returns-in_err-place-clause-value c =
    let none = place-named (λ (r : Resource). r.name) c.args.system.now.resources id c.args.self.now.resources c.args.name.now None c.requires.resources (c.in_err-place.ensures) in
    c.from_residual.ensures ∙ none

pub returns-clause-value : goal.returns-clause-value
unfolding id
returns-clause-value c =
    place-named (λ (r : Resource). r.name) c.args.system.now.resources id c.args.self.now.resources c.args.name.now (Some c.in_ok-place.place) c.requires.resources c.in_ok-place.ensures
