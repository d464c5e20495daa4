use Rattle.std.proofs.Common.{arith, subst, sym, ap, ap₂, ◌∙◌}
use Rattle.cpa_units.specs.Bounds.{RespectsLimit}
use Rattle.cpa_units.specs.declared.bound.Bound.TheVariants.{Within}
use Rattle.cpa_units.specs.declared.limits.TheConstants.{MAX_LIMIT}
use Rattle.cpa_events.proofs.EventLaws.{eta_plus-few}
use Rattle.cpa_buffer.specs.Buffers.{buffer_at, buffer_of}
use Rattle.cpa_buffer.proofs.buffers.buffer.Goals as goal

pub returns-in-Some-clause-few : goal.returns-in-Some-clause-few
returns-in-Some-clause-few c =
    let small : RespectsLimit MAX_LIMIT (Within c.in-Within.bound) = subst (RespectsLimit MAX_LIMIT) (sym c.in-Within.ensures) (c.requires.vector.high c.args.task.0 c.requires.there) in
    let few = eta_plus-few c.in-Some.model c.in-Within.bound c.in-Some.ensures.in_range (omega (arith, small)) in
    omega (arith, few, c.eta_plus.ensures)

pub returns-in-Some-clause-value : goal.returns-in-Some-clause-value
unfolding buffer_of
returns-in-Some-clause-value c = ap Within c.eta_plus.ensures ∙ ap₂ buffer_at c.in-Within.ensures c.in-Some.ensures.value
