use Rattle.std.proofs.Common.{◌≡◌, ℕ, true, false, List, Some, sym, subst, ◌∙◌}
use Rattle.cpa_model.specs.declared.entries.Resource.{Resource}
use Rattle.cpa_model.specs.Kinds.{has_priorities}
use Rattle.cpa_model.specs.SystemLists.{resource_at, resource_named}
use Rattle.cpa_run.proofs.PlannedLaws.{refused-fourth}
use Rattle.cpa_run.proofs.loading.find_resource.Goals as goal

pub returns-then-not-can_compare-clause-ended : goal.returns-then-not-can_compare-clause-ended
returns-then-not-can_compare-clause-ended c =
    let s = c.args.system.now in
    let res = c.in-Some.res in
    let named : resource_named s c.args.name.now ≡ Some res = subst (λ (name : List ℕ). resource_named s name ≡ Some res) c.as_bytes.ensures.value (sym c.find_resource.ensures ∙ c.in-Some.is) in
    let kind : has_priorities (resource_at s res.0).kind ≡ true =
    subst (λ (e : Resource). has_priorities e.kind ≡ true) c.resource.ensures.value (sym c.has_priorities.ensures ∙ c.if-not-has_priorities.false) in
    let fed = sym c.is_fed_by_sources.ensures ∙ c.if-not-is_fed_by_sources.false in
    let apart = sym c.can_compare.ensures ∙ c.if-not-can_compare.true in
    rw (c.refused_by-then-not-can_compare.ensures, c.in_ok-assign_line-4.ensures) (refused-fourth s c.args.name.now res named kind fed apart)
