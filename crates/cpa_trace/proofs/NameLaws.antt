-- Names that are put into an index one after the other, and the places that it gives.
use Rattle.std.proofs.Common.{◌≡◌, ◌∙◌, ℕ, ◌+◌, ◌<◌, false, if◌then◌else◌, List, [], ◌∷◌, ◌++◌, Option, map, option_map, take, length, get_or, sym, ap, arith, length-take, length-append, Vec, Global}
use Rattle.std.specs.Prelude.{position}
use Rattle.std.specs.List.{list_any}
use Rattle.std.specs.Str.{bytes_eq}
use Rattle.std.proofs.lemmas.List.{length-map, get_or-map, get_or-take, get_or_append_left, get_or-append-add, map-append, take_more}
use Rattle.cpa_draft.proofs.ListLaws.{none-any}
use Rattle.cpa_draft.proofs.Maps.{list_any-map, position-map}
use Rattle.cpa_draft.proofs.NameLaws.{differ-bytes}
use Rattle.cpa_model.specs.Rules.{AllDiffer}

-- the keys of a set, as names
abbrev names_of : List (Vec ℕ Global) → List (List ℕ)
names_of keys = map (λ (v : Vec ℕ Global). v.items) keys

-- a key that no other is goes to the end
pub names-added : (keys new : List (Vec ℕ Global)) (key : Vec ℕ Global) → new ≡ (if list_any (λ (v : Vec ℕ Global). bytes_eq key.items v.items) keys then keys else keys ++ key ∷ [])
    → list_any (bytes_eq key.items) (names_of keys) ≡ false → names_of new ≡ names_of keys ++ key.items ∷ []
names-added keys new key is none =
    let absent : list_any (λ (v : Vec ℕ Global). bytes_eq key.items v.items) keys ≡ false = sym (list_any-map (bytes_eq key.items) (λ (v : Vec ℕ Global). v.items) keys) ∙ none in
    let added = rw absent at is in
    rw added (map-append (λ (v : Vec ℕ Global). v.items) keys (key ∷ []))

-- names of which no two are the same, without those at the end, and without those at the start
pub differ-left : (xs ys : List (List ℕ)) → AllDiffer (xs ++ ys) → AllDiffer xs
differ-left xs ys differ i j d before less =
    rw (← get_or_append_left xs ys d i (omega arith), ← get_or_append_left xs ys d j less) (differ i j d before (omega (arith, length-append xs ys)))

pub differ-right : (xs ys : List (List ℕ)) → AllDiffer (xs ++ ys) → AllDiffer ys
differ-right xs ys differ i j d before less =
    rw (← get_or-append-add xs ys i d, ← get_or-append-add xs ys j d) (differ (length xs + i) (length xs + j) d (omega arith) (omega (arith, length-append xs ys)))

module _ {X : Type 0} (name : X → List ℕ) (xs : List X) where
  -- a name that differs from all others isn't one of those before it
  pub is-new : (k : ℕ) (d : X) → AllDiffer (map name xs) → k < length xs → list_any (bytes_eq (name (get_or xs k d))) (take k (map name xs)) ≡ false
  is-new k d differ h =
      none-any (bytes_eq (name (get_or xs k d))) (take k (map name xs)) (λ i e less.
      let before : i < k = omega (arith, length-take k (map name xs)) in
      let there : k < length (map name xs) = rw (length-map xs name) h in
      differ-bytes _ _ (λ same. differ i k e before there (sym (get_or-take k (map name xs) i e before) ∙ sym same ∙ sym (get_or-map name xs k d e h))))

  -- and is put behind them
  pub next-name : (k : ℕ) (d : X) → k < length xs → take k (map name xs) ++ name (get_or xs k d) ∷ [] ≡ take (k + 1) (map name xs)
  next-name k d h =
      let there : k < length (map name xs) = rw (length-map xs name) h in
      sym (take_more (map name xs) k (name d) there ∙ ap (λ n. take k (map name xs) ++ n ∷ []) (get_or-map name xs k d (name d) h))

  -- the place of a name is that of its entry
  pub place-named : {Id : Type 0} (id : ℕ → Id) (names : List (List ℕ)) (bytes : List ℕ) (place : Option ℕ) → names ≡ map name xs → place ≡ position (bytes_eq bytes) names
      → option_map id place ≡ option_map id (position (λ x. bytes_eq bytes (name x)) xs)
  place-named id names bytes place are is = ap (option_map id) (is ∙ ap (position (bytes_eq bytes)) are ∙ position-map (bytes_eq bytes) name xs)
