use Rattle.std.proofs.Common.{◌≡◌, ◌||◌, Option, Some, None, ℕ, slice_index_or, [], is_none, ◌∙◌, refl}
use Rattle.std.specs.List.{list_any}
use Rattle.cpa_draft.specs.First.{first_place}
use Rattle.cpa_draft.specs.DraftLists.{DraftLists}
use Rattle.cpa_draft.specs.declared.draft.DraftTask.{DraftTask}
use Rattle.cpa_draft.specs.Names.{resource_names, place_of, link_of, links_of, is_nothing}
use Rattle.cpa_draft.specs.Refusals.{unknown_name}
use Rattle.cpa_draft.proofs.FirstLemmas.{first_place-agree}
use Rattle.cpa_draft.proofs.LinkLaws.{lacking}
use Rattle.cpa_draft.proofs.entry_checks.refuse_unknown_name.Goals as goal

same-first : (d : DraftLists) → first_place (λ k (t : DraftTask). is_none (place_of (resource_names d) t.on) || list_any is_nothing (slice_index_or (links_of d) k [])) d.tasks
    ≡ first_place (λ k (t : DraftTask). is_none (place_of (resource_names d) t.on) || list_any (λ name. is_nothing (link_of d name)) t.after) d.tasks
same-first d =
    first_place-agree (λ k (t : DraftTask). is_none (place_of (resource_names d) t.on) || list_any is_nothing (slice_index_or (links_of d) k []))
    (λ k (t : DraftTask). is_none (place_of (resource_names d) t.on) || list_any (λ name. is_nothing (link_of d name)) t.after) d.tasks d.tasks refl
    (λ k t e less. lacking d k t e less)

abbrev first_unknown : DraftLists → Option ℕ
first_unknown d = first_place (λ k (t : DraftTask). is_none (place_of (resource_names d) t.on) || list_any (λ name. is_nothing (link_of d name)) t.after) d.tasks

pub returns-in-Some : goal.returns-in-Some
unfolding unknown_name
returns-in-Some c =
    let found : Some c.in-Some.place ≡ first_unknown c.args.draft.now = (rw (c.requires.links, c.task_entries.ensures) at c.in-Some.ensures.place) ∙ same-first c.args.draft.now in
    c.refuse.ensures ∙ rw (← found) refl

pub returns-in-None : goal.returns-in-None
unfolding unknown_name
returns-in-None c =
    let found : None ≡ first_unknown c.args.draft.now = (rw (c.requires.links, c.task_entries.ensures) at c.in-None.ensures.place) ∙ same-first c.args.draft.now in
    c.refuse_at.ensures ∙ rw (← found, c.first_path_lacking.ensures.place, c.path_entries.ensures) refl
