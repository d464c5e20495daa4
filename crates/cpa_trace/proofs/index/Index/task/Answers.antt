use Rattle.std.proofs.Common.{ℕ, ◌∙◌, None, Some}
use Rattle.cpa_units.specs.declared.places.TaskId.{TaskId}
use Rattle.cpa_model.specs.declared.entries.Task.{Task}
use Rattle.cpa_trace.proofs.NameLaws.{place-named}
use Rattle.cpa_trace.proofs.index.Index.task.Goals as goal

id : ℕ → TaskId
id k = record { 0 = k }

pub returns-in_err-place-clause-value : goal.returns-in_err-place-clause-value
unfolding id
returns-in_err-place-clause-value c =
    let none = place-named (λ (r : Task). r.name) c.args.system.now.tasks id c.args.self.now.tasks c.args.name.now None c.requires.tasks (c.in_err-place.ensures) in
    c.from_residual.ensures ∙ none

pub returns-clause-value : goal.returns-clause-value
unfolding id
returns-clause-value c =
    place-named (λ (r : Task). r.name) c.args.system.now.tasks id c.args.self.now.tasks c.args.name.now (Some c.in_ok-place.place) c.requires.tasks c.in_ok-place.ensures
