-- Priorities that are taken.
use Rattle.std.proofs.Common.{◌≡◌, ℕ, ◌+◌, ◌<◌, List, [], ◌∷◌, ◌++◌, length, take, get_or, Option, Some, None, refl, sym, ap, ◌∙◌}
use Rattle.std.specs.List.{filter_map}
use Rattle.std.proofs.lemmas.List.{take_more}
use Rattle.std.proofs.lemmas.List.Elements.{filter_map-append}
use Rattle.cpa_draft.specs.DraftLists.{DraftLists}
use Rattle.cpa_draft.specs.declared.draft.DraftTask.{DraftTask}
use Rattle.cpa_draft.specs.Refusals.{rank_of, ranks_of}

ranks_one : (o : Option (ℕ × ℕ)) (d : DraftLists) (t : DraftTask) → o ≡ rank_of d t → ranks_of o ≡ filter_map (rank_of d) (t ∷ [])
ranks_one None d t e = rw (← e)
ranks_one (Some r) d t e = rw (← e)

-- the rank of one more task
pub ranks_more : (d : DraftLists) (ts : List DraftTask) (k : ℕ) (t : DraftTask) → k < length ts → t ≡ get_or ts k t
    → filter_map (rank_of d) (take k ts) ++ ranks_of (rank_of d t) ≡ filter_map (rank_of d) (take (k + 1) ts)
ranks_more d ts k t h at =
    ap (λ rs. filter_map (rank_of d) (take k ts) ++ rs) (ranks_one (rank_of d t) d t refl)
    ∙ sym (filter_map-append (rank_of d) (take k ts) (t ∷ []))
    ∙ sym (ap (filter_map (rank_of d)) (take_more ts k t h ∙ ap (λ x. take k ts ++ x ∷ []) (sym at)))
