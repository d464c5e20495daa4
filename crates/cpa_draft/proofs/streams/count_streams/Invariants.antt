use Rattle.std.proofs.Common.{◌≡◌, take}
use Rattle.cpa_draft.specs.Search.{capped_streams}
use Rattle.cpa_draft.proofs.streams.count_streams.Given as goal

abbrev pub invariant-loop-link : goal.invariant-loop-link
invariant-loop-link l = l.streams ≡ capped_streams l.counts (take l.link-index l.links)
