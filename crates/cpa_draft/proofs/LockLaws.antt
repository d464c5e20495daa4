-- Tasks without critical sections.
use Rattle.std.proofs.Common.{◌≡◌, Bool, false, List, [], ◌∷◌, length, refl, arith}
use Rattle.std.specs.List.{list_any}
use Rattle.cpa_draft.specs.declared.draft.DraftTask.{DraftTask}
use Rattle.cpa_draft.specs.Refusals.{is_elsewhere, mislocked_after}

empty : {X : Type 0} (xs : List X) → length xs ≡ 0 → xs ≡ []
empty [] e = refl
empty (x ∷ xs) e = absurd (omega arith)

none_any : {X : Type 0} (p : X → Bool) (xs : List X) → ((x : X) → p x ≡ false) → list_any p xs ≡ false
none_any p [] each = refl
none_any p (x ∷ xs) each = rw (each x) (none_any p xs each)

-- reason 16 doesn't apply to a task without critical sections
pub unlocked : (earlier : List DraftTask) (t : DraftTask) → length t.locks ≡ 0 → mislocked_after earlier t ≡ false
unlocked earlier t none =
    let e : t.locks ≡ [] = empty t.locks none in
    let apart : list_any (is_elsewhere t) earlier ≡ false = none_any (is_elsewhere t) earlier (λ other. rw e refl) in
    rw (apart, e) refl
