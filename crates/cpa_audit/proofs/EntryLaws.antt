-- The fields of a row.
use Rattle.std.proofs.Common.{◌≡◌, ℕ, List, [], ◌∷◌, length, None, refl, arith}
use Rattle.cpa_audit.specs.ScheduleReading.{entry_of}

-- other than three fields give no entry
pub entry-other : (fields : List (List ℕ)) → (length fields ≡ 3 → ⊥) → entry_of fields ≡ None
entry-other [] other = refl
entry-other (a ∷ []) other = refl
entry-other (a ∷ b ∷ []) other = refl
entry-other (a ∷ b ∷ c ∷ []) other = absurd (other (omega arith))
entry-other (a ∷ b ∷ c ∷ d ∷ rest) other = refl
