-- Operands, and an option that stands anywhere among them.
use Rattle.std.specs.Prelude.{◌≡◌, true, ◌≤◌, ℕ, codes, List, ◌∷◌, ◌++◌, length, Option, Some, None}
use Rattle.std.specs.List.{list_all}
use Rattle.std.specs.Option.{option_map_or}
use Rattle.cpa_words.specs.Words.{is_operand}

-- the words are the operands in their order, and somewhere among them the option, where it has a value
pub data IsArranged : List (List ℕ) → Option (List ℕ) → List (List ℕ) → Type 0 where
  nowhere : (operands : List (List ℕ)) → IsArranged operands None operands
  apart : (operands : List (List ℕ)) (value : List ℕ) → IsArranged operands (Some value) (codes "--workers" ∷ value ∷ operands)
  joined : (operands : List (List ℕ)) (value : List ℕ) → IsArranged operands (Some value) ((codes "--workers=" ++ value) ∷ operands)
  later : (word : List ℕ) (operands : List (List ℕ)) (value : Option (List ℕ)) (words : List (List ℕ)) → IsArranged operands value words
      → IsArranged (word ∷ operands) value (word ∷ words)

-- 1 to 3 operands, and beside three no option
pub record IsReadable (words : List (List ℕ)) (option : Option (List ℕ)) : Type 0 where
  pub some : 1 ≤ length words
  pub few : length words ≤ 3
  pub alone : length words ≡ 3 → option ≡ None
  pub operands : list_all is_operand words ≡ true
  pub value : option_map_or is_operand option true ≡ true
