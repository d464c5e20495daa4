-- Measures of clocks by their names.
use Rattle.std.proofs.Common.{◌≡◌, ℕ, Bool, true, false, cond, List, [], ◌∷◌, map, Option, Some, None, Vec, Global, refl, sym, ap, ◌∙◌, inl, inr}
use Rattle.std.specs.Str.{bytes_eq}
use Rattle.std.specs.Map.{lookup}
use Rattle.std.proofs.lemmas.Bool.{cases_Bool}
use Rattle.indexmap.specs.IndexMap.{insert_entry}
use Rattle.cpa_draft.proofs.NameLaws.{other-bytes, differ-bytes, bytes-same}
use Rattle.cpa_draft.specs.Clocks.{Measures, measured}
use Rattle.cpa_draft.specs.declared.clocks.Measure.{Measure}

abbrev pub entries_of : List (Vec ℕ Global × Measure) → Measures
entries_of es = map (λ (e : Vec ℕ Global × Measure). (e.0.items, e.1)) es

abbrev pub or_none : Option Measure → Measure
or_none None = record { cycle = 1; starts = 0 }
or_none (Some m) = m

or_none-cond : (b : Bool) (m : Measure) (o : Option Measure) → cond b m (or_none o) ≡ or_none (cond b (Some m) o)
or_none-cond true m o = refl
or_none-cond false m o = refl

pub measured-lookup : (name : List ℕ) (es : List (Vec ℕ Global × Measure)) → measured (entries_of es) name ≡ or_none (lookup (λ (v : Vec ℕ Global). bytes_eq name v.items) es)
measured-lookup name [] = refl
measured-lookup name (e ∷ es) =
    ap (λ m. cond (bytes_eq name e.0.items) e.1 m) (measured-lookup name es) ∙ or_none-cond (bytes_eq name e.0.items) e.1 _

abbrev pub same_bytes : Vec ℕ Global → Vec ℕ Global → Bool
same_bytes a b = bytes_eq a.items b.items

cond_twice : (b : Bool) (m n r : Measure) → cond b m r ≡ cond b m (cond b n r)
cond_twice true m n r = refl
cond_twice false m n r = refl

cond_swap : (b c : Bool) (m n r : Measure) → (b ≡ true → c ≡ false) → cond b m (cond c n r) ≡ cond c n (cond b m r)
cond_swap true c m n r apart = rw (apart refl) refl
cond_swap false c m n r apart = refl

pub measured-insert : (es : List (Vec ℕ Global × Measure)) (key : Vec ℕ Global) (m : Measure) (other : List ℕ)
    → measured (entries_of (insert_entry same_bytes es key m)) other ≡ cond (bytes_eq other key.items) m (measured (entries_of es) other)
measured-insert [] key m other = refl
measured-insert (e ∷ es) key m other =
    elim (cases_Bool (bytes_eq key.items e.0.items)) [
      | inl same ↦ let names : key.items ≡ e.0.items = bytes-same key.items e.0.items same in rw (same, names) (cond_twice (bytes_eq other e.0.items) m e.1 (measured (entries_of es) other))
      | inr differ ↦
          rw (differ, measured-insert es key m other)
          (cond_swap (bytes_eq other e.0.items) (bytes_eq other key.items) e.1 m (measured (entries_of es) other)
          (λ at. differ-bytes other key.items (λ name. other-bytes key.items e.0.items differ (sym name ∙ bytes-same other e.0.items at))))
    ]
