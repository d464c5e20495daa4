-- What becomes of marks.
use Rattle.std.proofs.Common.{◌≡◌, ℕ, zero, suc, ◌<◌, ◌⊎◌, Bool, true, false, List, [], ◌∷◌, length, replicate, slice_index_or, slice_set, get_or-set_same, get_or-set_other, Option, None, refl, sym, ◌∙◌, inl, inr, arith}
use Rattle.std.proofs.lemmas.Bool.{false≢true, cases_eq}
use Rattle.std.proofs.lemmas.List.{length-set}
use Rattle.cpa_units.specs.declared.bound.Bound.{Bound}
use Rattle.cpa_events.specs.Events.{Model}
use Rattle.cpa_model.specs.SystemLists.{SystemLists}
use Rattle.cpa_local.specs.Inputs.{AreKnown, input}
use Rattle.cpa_local.specs.Trails.{Marks, IsKept, NewMarksAre}

-- where nothing is marked
pub unmarked : (n i : ℕ) → slice_index_or (replicate n false) i false ≡ false
unmarked zero i = refl
unmarked (suc n) zero = refl
unmarked (suc n) (suc i) = unmarked n i

-- what is told known stays so where another is told
pub still-known : (known : List Bool) (i place : ℕ) → slice_index_or known i false ≡ true → slice_index_or (slice_set known place true) i false ≡ true
still-known [] i place e = e
still-known (k ∷ ks) zero zero e = refl
still-known (k ∷ ks) zero (suc place) e = e
still-known (k ∷ ks) (suc i) zero e = e
still-known (k ∷ ks) (suc i) (suc place) e = still-known ks i place e

-- nothing is known where nothing is told known
pub known-none : (s : SystemLists) (x : List Bound) (n : ℕ) (inputs : List (Option Model)) → AreKnown s x (replicate n false) inputs
known-none s x n inputs i e = absurd (false≢true (sym (unmarked n i) ∙ e))

-- an input that is found is known
pub known-set : (s : SystemLists) (x : List Bound) (inputs : List (Option Model)) (known : List Bool) (place : ℕ) (v : Option Model) → place < length inputs → v ≡ input s x place → AreKnown s x known inputs
    → AreKnown s x (slice_set known place true) (slice_set inputs place v)
known-set s x inputs known place v listed is right i e =
    elim (cases_eq i place) [
      | inl same ↦ rw same (let long = length-set inputs place v in omega arith, get_or-set_same inputs place v None listed ∙ is)
      | inr other ↦
          let before = right i (sym (get_or-set_other known place i true false other) ∙ e) in
          (let long = length-set inputs place v in let less = before.0 in omega arith, get_or-set_other inputs place i v None other ∙ before.1)
    ]

-- one call after another

pub IsKept_refl : (trail : Marks) → IsKept trail trail
IsKept_refl trail = record { marks = λ i h. h; room = omega arith }

pub IsKept_trans : (a b c : Marks) → IsKept a b → IsKept b c → IsKept a c
IsKept_trans a b c first second = record { marks = λ i h. second.marks i (first.marks i h); room = omega arith }

pub NewMarks_trans : (a b c : Marks) (which : ℕ → Type 0) → NewMarksAre a b which → NewMarksAre b c which → NewMarksAre a c which
NewMarks_trans a b c which first second i h = elim (second i h) [ inl before ↦ first i before | inr new ↦ inr new ]

pub NewMarks-weaker : (a b : Marks) (which wider : ℕ → Type 0) → ((i : ℕ) → which i → wider i) → NewMarksAre a b which → NewMarksAre a b wider
NewMarks-weaker a b which wider up h i m = elim (h i m) [ inl before ↦ inl before | inr new ↦ inr (up i new) ]

-- the marks of two trails, as far as a place
pub record IsJoined (one other both : List Bool) (place : ℕ) : Type 0 where
  pub kept : (i : ℕ) → slice_index_or one i false ≡ true → slice_index_or both i false ≡ true
  pub fresh : (i : ℕ) → slice_index_or both i false ≡ true → (slice_index_or one i false ≡ true) ⊎ (slice_index_or other i false ≡ true)
  pub marked : (i : ℕ) → i < place → slice_index_or other i false ≡ true → slice_index_or both i false ≡ true

-- a mark is a place in the list
pub marked-in_range : (marks : List Bool) (i : ℕ) → slice_index_or marks i false ≡ true → i < length marks
marked-in_range [] i e = absurd (false≢true e)
marked-in_range (m ∷ ms) zero e = omega arith
marked-in_range (m ∷ ms) (suc i) e = let less = marked-in_range ms i e in omega arith
