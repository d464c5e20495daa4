use Rattle.cpa_draft.specs.Search.{AreWithin}
use Rattle.cpa_draft.proofs.LinkLaws.{links_of-within}
use Rattle.cpa_draft.proofs.entry_checks.refuse_chain.Goals as goal

pub refuse_measured-requires-clause-within : goal.refuse_measured-requires-clause-within
refuse_measured-requires-clause-within c = let within : AreWithin c.args.links.now = rw c.requires (links_of-within c.args.draft.now) in within
