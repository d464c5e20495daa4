-- A list that is written to the beginning of a buffer.
use Rattle.std.specs.Prelude.{ℕ, List, ◌++◌, length, take, drop}

-- a buffer after a list was written to its beginning, as far as there is room
abbrev pub over : List ℕ → List ℕ → List ℕ
over text room = take (length room) text ++ drop (length text) room
