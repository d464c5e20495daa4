-- The chains of a file as they are read, or the first refusal with reason 13 or 1.
use Rattle.std.specs.Prelude.{◌≡◌, ℕ, ℤ, Bool, false, not, ◌&&◌, is_some, List, [], ◌∷◌, Option, Some, None, Result, Ok, Err, Vec, codes, if◌then◌else◌}
use Rattle.std.specs.declared.alloc.Global.{Global}
use Rattle.toml.specs.Data.{Data, Items, as_str, as_integer}
use Rattle.cpa_draft.specs.Numbers.{is_within}
use Rattle.cpa_file.specs.Lists.{read_all}
use Rattle.cpa_file.specs.Fields.{◌>>=◌, optional, required, has_only}
use Rattle.cpa_file.specs.Entries.{as_texts}
use Rattle.cpa_file.specs.Document.{integer_at, items_at}
use Rattle.cpa_effect_files.specs.declared.draft.DraftChain.{DraftChain}
use Rattle.cpa_effect_files.specs.declared.refusal.ChainsRefusal.{ChainsRefusal}
use Rattle.cpa_effect_files.specs.declared.refusal.ChainsFault.{ChainsFault}
use Rattle.cpa_effect_files.specs.declared.refusal.ChainsFault.TheVariants.{NotToml, Refused, Memory}

-- the entry, if it has the form of a chain
unfoldable pub chain_entry : Data → Option DraftChain
chain_entry d = do
  name ← required as_str (codes "name") d
  tasks ← required as_texts (codes "tasks") d
  reaction ← optional as_integer (codes "reaction") d
  age ← optional as_integer (codes "age") d
  held ← optional as_integer (codes "held") d
  if has_only (codes "name" ∷ codes "tasks" ∷ codes "reaction" ∷ codes "age" ∷ codes "held" ∷ []) d
      then Some (record { name = name; tasks = tasks; reaction = reaction; age = age; held = held })
      else None

abbrev pub refusal : ℕ → ℕ → ChainsRefusal
refusal reason place = record { reason = reason; place = place }

-- an integer other than 1
abbrev pub is_other_format : Option ℤ → Bool
is_other_format None = false
is_other_format (Some z) = not (is_within 1 1 z)

-- the top of a file has the form: an integer `format`, and no unknown key
unfoldable pub has_form : Data → Bool
has_form d = has_only (codes "format" ∷ codes "chain" ∷ []) d && is_some (integer_at (codes "format") d)

-- the entries, or the place of the first that hasn't the form
abbrev pub in_file : Result (List DraftChain) ℕ → Result (List DraftChain) ChainsRefusal
in_file (Ok chains) = Ok chains
in_file (Err k) = Err (refusal 1 k)

abbrev pub chains_in : Option Items → Result (List DraftChain) ChainsRefusal
chains_in None = Err (refusal 1 0)
chains_in (Some ds) = in_file (read_all chain_entry 1 ds)

unfoldable pub chains_at : Data → Result (List DraftChain) ChainsRefusal
chains_at d = chains_in (items_at (codes "chain") d)

-- the chains that a document has, or the first refusal with reason 13 or 1
unfoldable pub draft_of : Data → Result (List DraftChain) ChainsRefusal
draft_of d =
    if is_other_format (integer_at (codes "format") d) then Err (refusal 13 0)
    else if has_form d then chains_at d
    else Err (refusal 1 0)

-- What a function returned is what reading gives, unless memory ran out.
abbrev pub FailsDraft : ChainsFault → Result (List DraftChain) ChainsRefusal → Type 0
FailsDraft NotToml read = ⊥
FailsDraft (Refused r) read = read ≡ Err r
FailsDraft Memory read = Unit {0}

abbrev pub GivesDraft : Result (Vec DraftChain Global) ChainsFault → Result (List DraftChain) ChainsRefusal → Type 0
GivesDraft (Ok v) read = read ≡ Ok v.items
GivesDraft (Err e) read = FailsDraft e read
