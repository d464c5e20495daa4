-- What a search for the least solution keeps, and why it ends.
use Rattle.std.proofs.Common.{◌≡◌, ℕ, zero, suc, ◌<◌, ◌≤◌, ◌⊎◌, length, List, [], ◌∷◌, Option, Some, None, refl, sym, ap, ◌∙◌, arith}
use Rattle.std.specs.List.{sum_by}
use Rattle.std.proofs.lemmas.List.Sums.{sum_by-cons}
use Rattle.cpa_units.specs.declared.bound.Bound.{Bound}
use Rattle.cpa_units.specs.declared.limits.TheConstants.{MAX_LIMIT}
use Rattle.cpa_units.specs.Bounds.{RespectsLimit, IsNowhereAbove, bound_of}
use Rattle.cpa_units.proofs.BoundLaws.{IsAtMost_trans, IsNowhereAbove_trans}
use Rattle.cpa_model.specs.SystemLists.{SystemLists}
use Rattle.cpa_local.specs.Local.{response}
use Rattle.cpa_local.specs.Solution.{IsVector}
use Rattle.cpa_local.proofs.VectorLaws.{same_bounds}
use Rattle.cpa_local.proofs.SolutionLaws.{rank, rank-mono, rank-same}
use Rattle.cpa_fix.specs.declared.readings.Reading.{Reading}
use Rattle.cpa_fix.specs.Readings.{IsSound, IsClean, reading_of}

-- a reading stays sound while the vector rises
pub IsSound-mono : (s : SystemLists) (r : ℕ) (seen x y : List Bound) → IsNowhereAbove x y → IsSound s r seen x → IsSound s r seen y
IsSound-mono s r seen x y up h =
    record {
      vector = h.vector;
      below = IsNowhereAbove_trans seen x y h.below up;
      answered = λ i in_range on. IsAtMost_trans (response s seen i) (bound_of x i) (bound_of y i) (h.answered i in_range on) (up i);
    }

-- where nothing rose in a round, its readings are up to date
pub clean_from_still : (s : SystemLists) (r : ℕ) (seen x : List Bound) → IsVector s x → IsNowhereAbove x seen → IsSound s r seen x → IsClean s r seen x
clean_from_still s r seen x vector up sound =
    let same : seen ≡ x = same_bounds seen x (sound.vector.long ∙ sym vector.long) sound.below up in
    record { sound = sound; current = λ j reads. ap (λ y. bound_of y j) same }

-- ---- how far vectors rise

-- how far a vector has risen
abbrev pub risen : List Bound → ℕ
risen x = sum_by (rank MAX_LIMIT) x

-- a vector that is nowhere above another has risen no further
pub risen-mono : (x y : List Bound) → length x ≡ length y → ((i : ℕ) → i < length x → RespectsLimit MAX_LIMIT (bound_of x i)) → IsNowhereAbove x y → risen x ≤ risen y
risen-mono [] [] e l h = omega arith
risen-mono [] (b ∷ y) e l h = omega arith
risen-mono (a ∷ x) [] e l h = absurd (omega arith)
risen-mono (a ∷ x) (b ∷ y) e l h =
    omega (arith, rank-mono MAX_LIMIT a b (l 0 (omega arith)) (h 0), risen-mono x y (omega arith) (λ i k. l (suc i) (omega arith)) (λ i. h (suc i)), sum_by-cons (rank MAX_LIMIT) a x, sum_by-cons (rank MAX_LIMIT) b y)

-- and if it has risen as far, it is the same
pub risen-same : (x y : List Bound) → length x ≡ length y → ((i : ℕ) → i < length x → RespectsLimit MAX_LIMIT (bound_of x i)) → IsNowhereAbove x y → risen y ≤ risen x → x ≡ y
risen-same [] [] e l h k = refl
risen-same [] (b ∷ y) e l h k = absurd (omega arith)
risen-same (a ∷ x) [] e l h k = absurd (omega arith)
risen-same (a ∷ x) (b ∷ y) e l h k =
    let within = λ (i : ℕ) (below : i < length x). l (suc i) (let b : suc i < length (a ∷ x) = omega arith in b) in
    let long : length x ≡ length y = omega arith in
    let here = rank-mono MAX_LIMIT a b (l 0 (omega arith)) (h 0) in
    let rest = risen-mono x y long within (λ i. h (suc i)) in
    let xs = sum_by-cons (rank MAX_LIMIT) a x in
    let ys = sum_by-cons (rank MAX_LIMIT) b y in
    let first : a ≡ b = rank-same MAX_LIMIT a b (l 0 (omega arith)) (h 0) (omega arith) in
    let others : x ≡ y = risen-same x y long within (λ i. h (suc i)) (omega arith) in
    cc

-- ---- readings that are taken over

-- those below a place are taken over, and those from it on are still there
pub record IsTakenOver (others old remaining new : List (Option Reading)) (place : ℕ) : Type 0 where
  pub long : length new ≡ length old
  pub rest : length remaining ≡ length others
  pub left : (r : ℕ) → place ≤ r → reading_of remaining r ≡ reading_of others r
  pub taken : (r : ℕ) (reading : Reading) → r < place → reading_of others r ≡ Some reading → reading_of new r ≡ Some reading
  pub same : (r : ℕ) → place ≤ r ⊎ reading_of others r ≡ None → reading_of new r ≡ reading_of old r

-- a reading that is kept is one of the list
pub reading-in_range : (kept : List (Option Reading)) (r : ℕ) (reading : Reading) → reading_of kept r ≡ Some reading → r < length kept
reading-in_range [] r reading e = absurd (let f : ⊥ = cc in f)
reading-in_range (m ∷ ms) zero reading e = omega arith
reading-in_range (m ∷ ms) (suc r) reading e = let less = reading-in_range ms r reading e in omega arith
