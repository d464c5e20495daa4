-- Bounds as words of 64 bits.
use Rattle.std.specs.Prelude.{ℕ, ◌≡◌, ◌<◌, ◌≤◌, ◌↔◌, ◌-◌, ◌^◌, ◌==◌, if◌then◌else◌}
use Rattle.cpa_units.specs.declared.bound.Bound.{Bound}
use Rattle.cpa_units.specs.declared.bound.Bound.TheVariants.{Within, Overload}
use Rattle.cpa_units.specs.Bounds.{IsAtMost}

-- the number is below the word of an overload
abbrev pub IsWordable : Bound → Type 0
IsWordable (Within n) = n < 2 ^ 64 - 1
IsWordable Overload = Unit {0}

-- the bound as a word
abbrev pub word_of : Bound → ℕ
word_of (Within n) = n
word_of Overload = 2 ^ 64 - 1

-- the bound that a word stands for
abbrev pub bound_of_word : ℕ → Bound
bound_of_word n = if n == 2 ^ 64 - 1 then Overload else Within n

-- a bound's word gives the bound back
abbrev pub WordsComeBack : Type 0
WordsComeBack = (b : Bound) → IsWordable b → bound_of_word (word_of b) ≡ b

-- words are in the order of their bounds
abbrev pub WordsKeepOrder : Type 0
WordsKeepOrder = (a b : Bound) → IsWordable a → IsWordable b → IsAtMost a b ↔ (word_of a ≤ word_of b)
