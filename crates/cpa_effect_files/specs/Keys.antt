-- The keys of a set of texts.
use Rattle.std.specs.Prelude.{ℕ, List, map, Vec}
use Rattle.std.specs.declared.alloc.Global.{Global}

-- as names
abbrev pub names_of : List (Vec ℕ Global) → List (List ℕ)
names_of keys = map (λ (v : Vec ℕ Global). v.items) keys
