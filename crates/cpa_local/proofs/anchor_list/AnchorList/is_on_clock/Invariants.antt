use Rattle.std.proofs.Common.{◌≡◌, None, All, take}
use Rattle.cpa_local.proofs.anchor_list.AnchorList.is_on_clock.Given as goal

abbrev pub invariant-loop-anchor : goal.invariant-loop-anchor
invariant-loop-anchor l = All (λ a. a ≡ None) (take l.anchor-index l.anchor-items)
