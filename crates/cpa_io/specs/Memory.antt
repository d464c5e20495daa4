-- Files and a sink in memory, as contracts see them, and which of their calls fail.
use Rattle.std.specs.Prelude.{ℕ, Bool, ◌==◌, ◌||◌, ◌&&◌, not, List, [], ◌∷◌, length, map, if◌then◌else◌, Option, Some, None, is_none, String, string_bytes, Vec}
use Rattle.std.specs.List.{list_any}
use Rattle.std.specs.Str.{bytes_eq}
use Rattle.std.specs.declared.alloc.Global.{Global}

-- what files in memory hold, as names and bytes, and how their calls went
pub record FilesInMemory : Type 0 where
  pub entries : List (List ℕ × List ℕ)
  pub failing : List ℕ
  pub calls : ℕ
  pub faults : ℕ
  pub last_failed : List ℕ

-- what was sent to a sink in memory, which takes pieces of one size, and how its calls went
pub record SinkInMemory : Type 0 where
  pub sent : List ℕ
  pub piece : ℕ
  pub failing : List ℕ
  pub calls : ℕ
  pub faults : ℕ

-- the names and the bytes of entries
abbrev pub entries_of : List (String Global × Vec ℕ Global) → List (List ℕ × List ℕ)
entries_of entries = map (λ e. (string_bytes e.0, e.1.items)) entries

-- the bytes under a name: of two entries with one name the first counts
abbrev pub held_under : List ℕ → List (List ℕ × List ℕ) → Option (List ℕ)
held_under name [] = None
held_under name (e ∷ es) = if bytes_eq e.0 name then Some e.1 else held_under name es

-- whether the call of a number is one of those that fail
abbrev pub is_failing : List ℕ → ℕ → Bool
is_failing failing number = list_any (λ n. n == number) failing

-- whether the next load, of this name, fails
abbrev pub load_fails : FilesInMemory → List ℕ → Bool
load_fails files name = is_failing files.failing files.calls || is_none (held_under name files.entries)

-- whether the next put, of this piece, fails: an empty piece has no number
abbrev pub put_fails : SinkInMemory → List ℕ → Bool
put_fails sink piece = not (length piece == 0) && is_failing sink.failing sink.calls
