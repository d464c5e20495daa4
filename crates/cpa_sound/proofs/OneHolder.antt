-- What only the one that runs takes up, and none while another has it, no two have at once.
use Rattle.std.proofs.Common.{◌≡◌, ℕ, zero, suc, ◌+◌, ◌⊎◌, inl, inr, add-one}

module _ (on : ℕ → Type 0) (runs hot : ℕ → ℕ → Type 0) (at_first : (j : ℕ) → on j → ¬ hot 0 j) (decide : (t j : ℕ) → runs t j ⊎ (¬ runs t j)) (kept : (t j : ℕ) → on j → ¬ runs t j → hot (t + 1) j → hot t j)
    (alone : (t j k : ℕ) → on j → on k → runs t j → runs t k → j ≡ k) (begins : (t j k : ℕ) → on j → on k → runs t j → hot t k → hot t j) where
  pub at_most_one : (t j k : ℕ) → on j → on k → hot t j → hot t k → j ≡ k
  at_most_one zero j k on_j on_k hot_j hot_k = absurd (at_first j on_j hot_j)
  at_most_one (suc t) j k on_j on_k hot_j hot_k =
      let hot_j' : hot (t + 1) j = rw add-one hot_j in
      let hot_k' : hot (t + 1) k = rw add-one hot_k in
      elim (decide t j) [
        | inl runs_j ↦ elim (decide t k) [
          | inl runs_k ↦ alone t j k on_j on_k runs_j runs_k
          | inr idle_k ↦ let before = kept t k on_k idle_k hot_k' in at_most_one t j k on_j on_k (begins t j k on_j on_k runs_j before) before
        ]
        | inr idle_j ↦
            let before = kept t j on_j idle_j hot_j' in
            elim (decide t k) [
              | inl runs_k ↦ at_most_one t j k on_j on_k before (begins t k j on_k on_j runs_k before)
              | inr idle_k ↦ at_most_one t j k on_j on_k before (kept t k on_k idle_k hot_k')
            ]
      ]
