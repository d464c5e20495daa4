use Rattle.std.proofs.Common.{[], ◌∷◌, ap, ◌∙◌}
use Rattle.cpa_model.specs.declared.entries.Resource.{Resource}
use Rattle.cpa_edit.specs.Edited.{change}
use Rattle.cpa_edit.proofs.AllowedLaws.{named-add, small-add, added-same}
use Rattle.cpa_edit.proofs.make_edits.make_addition.Goals as goal

pub resource_named-place-requires : goal.resource_named-place-requires
resource_named-place-requires c = named-add c.args.system.now c.args.name.now c.args.res.now c.args.after.now c.args.numbers.best c.args.numbers.worst c.args.numbers.number c.requires.allowed

pub turn_of-turn-requires : goal.turn_of-turn-requires
turn_of-turn-requires c = small-add c.args.system.now c.args.name.now c.args.res.now c.args.after.now c.args.numbers.best c.args.numbers.worst c.args.numbers.number c.requires.allowed

pub push_task-requires : goal.push_task-requires
unfolding change
push_task-requires c = record {
  rules = rw (added-same c.args.system.now c.args.name.now c.args.res.now c.args.after.now c.args.numbers.best c.args.numbers.worst c.args.numbers.number c.in_ok-copy.field-0 c.resource_named-place.result
      c.resource.result.now.kind c.turn_of-turn.result c.one.result c.none.result c.in_ok-copy.ensures c.resource_named-place.ensures.value (ap (λ (r : Resource). r.kind) c.resource.ensures.value) c.turn_of-turn.ensures
      (c.one.ensures ∙ ap (λ a. a ∷ []) c.activator_named.ensures) c.none.ensures)
      c.requires.rules;
}

pub returns-clause-made : goal.returns-clause-made
unfolding change
returns-clause-made c =
    c.in_ok-push_task.ensures.ok
    ∙ added-same c.args.system.now c.args.name.now c.args.res.now c.args.after.now c.args.numbers.best c.args.numbers.worst c.args.numbers.number c.in_ok-copy.field-0 c.resource_named-place.result
    c.resource.result.now.kind c.turn_of-turn.result c.one.result c.none.result c.in_ok-copy.ensures c.resource_named-place.ensures.value (ap (λ (r : Resource). r.kind) c.resource.ensures.value) c.turn_of-turn.ensures
    (c.one.ensures ∙ ap (λ a. a ∷ []) c.activator_named.ensures) c.none.ensures
