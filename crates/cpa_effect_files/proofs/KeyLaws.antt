-- Names that are put into a set.
use Rattle.std.proofs.Common.{◌≡◌, ◌∙◌, ℕ, Bool, true, false, not, if◌then◌else◌, List, [], ◌∷◌, ◌++◌, sym, ap, Vec, Global}
use Rattle.std.specs.List.{list_any}
use Rattle.std.specs.Str.{bytes_eq}
use Rattle.cpa_draft.proofs.Maps.{list_any-map}
use Rattle.cpa_draft.proofs.ListLaws.{not-true}
use Rattle.cpa_trace.proofs.NameLaws.{names-added}
use Rattle.cpa_effect_files.specs.Keys.{names_of}

module _ (keys : List (Vec ℕ Global)) (key : Vec ℕ Global) (name : List ℕ) (is : key.items ≡ name) where
  -- whether a key is new
  pub new-name : (new : Bool) → new ≡ not (list_any (λ (v : Vec ℕ Global). bytes_eq key.items v.items) keys) → new ≡ not (list_any (bytes_eq name) (names_of keys))
  new-name new said =
      said ∙ ap (λ (b : List ℕ). not (list_any (λ (v : Vec ℕ Global). bytes_eq b v.items) keys)) is
      ∙ ap not (sym (list_any-map (bytes_eq name) (λ (v : Vec ℕ Global). v.items) keys))

  -- one that is goes to the end
  pub name-added : (more : List (Vec ℕ Global)) → true ≡ not (list_any (bytes_eq name) (names_of keys))
      → more ≡ (if list_any (λ (v : Vec ℕ Global). bytes_eq key.items v.items) keys then keys else keys ++ key ∷ [])
      → names_of more ≡ names_of keys ++ name ∷ []
  name-added more new put =
      let none : list_any (bytes_eq name) (names_of keys) ≡ false = not-true _ (sym new) in
      let own : list_any (bytes_eq key.items) (names_of keys) ≡ false = ap (λ (b : List ℕ). list_any (bytes_eq b) (names_of keys)) is ∙ none in
      names-added keys more key put own ∙ ap (λ (b : List ℕ). names_of keys ++ b ∷ []) is
