-- When a fault may be answered, and what a sink holds then.
use Rattle.std.specs.Prelude.{◌≡◌, ℕ, ◌+◌, ◌-◌, ◌^◌, ◌≤◌, min, List, ◌++◌, Option, option_map, length, take}

-- a count of 64 bits after one more, which stays at its last value
abbrev pub risen : ℕ → ℕ
risen count = min (count + 1) (2 ^ 64 - 1)

-- a count of faults rose, or stands at its last value
abbrev pub Rose : ℕ → ℕ → Type 0
Rose before now = risen before ≤ now

-- what was sent, and then a piece
abbrev pub grown : Option (List ℕ) → List ℕ → Option (List ℕ)
grown sent piece = option_map (λ bytes. bytes ++ piece) sent

-- a prefix of the bytes was sent
pub record SentPart (before now : Option (List ℕ)) (bytes : List ℕ) : Type 0 where
  pub count : ℕ
  pub within : count ≤ length bytes
  pub sent : now ≡ grown before (take count bytes)
