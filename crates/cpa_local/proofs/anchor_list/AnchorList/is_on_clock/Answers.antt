use Rattle.std.proofs.Common.{◌≡◌, ◌∙◌, Option, None, false, get_or, take, All, List, sym, subst}
use Rattle.std.proofs.lemmas.List.{take_all, take_more}
use Rattle.std.proofs.lemmas.List.Elements.{All-push}
use Rattle.cpa_clock.specs.declared.anchor.Anchor.{Anchor}
use Rattle.cpa_local.proofs.AnchorLists.{is-none}
use Rattle.cpa_local.proofs.anchor_list.AnchorList.is_on_clock.Goals as goal

pub loop-anchor-preserved : goal.loop-anchor-preserved
loop-anchor-preserved c =
    let items = c.as_slice-anchor-items.result.now in
    let k = c.loop-anchor.anchor-index in
    let none : get_or items k None ≡ None = is-none (get_or items k None) (sym c.is_some.ensures ∙ c.if-is_some.false) in
    rw (take_more items k None c.loop-anchor-test.true) (All-push (λ (a : Option Anchor). a ≡ None) (take k items) (get_or items k None) c.loop-anchor.invariant none)

pub returns : goal.returns
returns c =
    subst (All (λ (a : Option Anchor). a ≡ None)) (take_all c.loop-anchor.anchor-index c.as_slice-anchor-items.result.now c.loop-anchor-test.false ∙ c.as_slice-anchor-items.ensures) c.loop-anchor.invariant
