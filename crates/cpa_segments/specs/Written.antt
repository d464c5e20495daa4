-- Texts that are written, and sent in pieces.
use Rattle.std.specs.Prelude.{◌≡◌, ℕ, List, ◌++◌, Option}
use Rattle.cpa_io.specs.Causes.{grown}

-- a text was written more: of it and what wasn't sent before, a first part was sent, and the rest is left
pub record IsWritten (before now : Option (List ℕ)) (unsent left text : List ℕ) : Type 0 where
  pub first : List ℕ
  pub sent : now ≡ grown before first
  pub all : unsent ++ text ≡ first ++ left
