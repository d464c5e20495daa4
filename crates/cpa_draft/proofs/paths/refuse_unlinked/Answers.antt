use Rattle.cpa_draft.specs.Search.{AreLongLists}
use Rattle.cpa_draft.proofs.paths.refuse_unlinked.Goals as goal

pub first_unlinked-place-requires : goal.first_unlinked-place-requires
first_unlinked-place-requires c =
    let lists : AreLongLists c.args.draft.now c.deref.result.now = rw c.deref.ensures.value c.in_ok-lists.ensures in
    record { places = c.requires; long = lists }
