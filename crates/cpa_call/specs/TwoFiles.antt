-- The words of a call that are two files: a system file, and another that is read after it.
use Rattle.std.specs.Prelude.{◌≡◌, ℕ, Bool, false, ◌==◌, not, ◌&&◌, if◌then◌else◌, List, [], ◌∷◌, Option, Some, None}
use Rattle.cpa_io.specs.Causes.{Rose}
use Rattle.cpa_call.specs.declared.errors.InputError.{InputError}
use Rattle.cpa_call.specs.declared.two_files.TwoFiles.{TwoFiles}
use Rattle.cpa_call.specs.Ends.{IsUnreadLine}
use Rattle.cpa_call.specs.Plans.{Held, IsSecond}

-- the two files that accepted words name
pub record Asked : Type 0 where
  pub file : List ℕ
  pub second : List ℕ

-- as the program has them
abbrev pub asked : TwoFiles → Asked
asked n = record { file = n.file.now; second = n.second.now }

-- a word that isn't empty and doesn't begin with a hyphen
abbrev pub is_file : List ℕ → Bool
is_file [] = false
is_file (c ∷ cs) = not (c == 45)

abbrev pub asked_by : List ℕ → List ℕ → Option Asked
asked_by file second = if is_file file && is_file second then Some (record { file = file; second = second }) else None

-- the words are two files, and nothing else
abbrev pub accepted : List (List ℕ) → Option Asked
accepted (file ∷ second ∷ []) = asked_by file second
accepted _ = None

-- a file that the words name is the one whose load failed last, and the count of faults rose
pub record IsUnread (words : List (List ℕ)) (told : Bool) (held : Held) (before now : ℕ) (last : List ℕ) : Type 0 where
  pub asked : Asked
  pub accepted : accepted words ≡ Some asked
  pub named : IsSecond told held asked.file asked.second last
  pub rose : Rose before now

-- why a call ends before its work: where a file couldn't be loaded, its line says its name
abbrev pub IsUnreadCall : List (List ℕ) → Bool → Held → ℕ → ℕ → List ℕ → InputError → Type 0
IsUnreadCall words told held before now last = IsUnreadLine (IsUnread words told held before now last) last
