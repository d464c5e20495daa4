-- A resource has at most one answer.
use Rattle.std.proofs.Common.{◌≡◌, ℕ, List, [], ◌∷◌, Option, Some, None, refl, ap, sym, ◌∙◌, inl, inr, arith, reverse}
use Rattle.std.proofs.lemmas.List.{reverse-reverse}
use Rattle.cpa_units.specs.declared.places.TaskId.{TaskId}
use Rattle.cpa_model.specs.SystemLists.{SystemLists, places_of}
use Rattle.cpa_assign.specs.Orders.{IsLexAtMost, IsBestOrder, IsOrderOf}

-- the tasks of these places
abbrev pub tasks_at : List ℕ → List TaskId
tasks_at [] = []
tasks_at (n ∷ o) = record { 0 = n } ∷ tasks_at o

pub places-tasks_at : (o : List ℕ) → places_of (tasks_at o) ≡ o
places-tasks_at [] = refl
places-tasks_at (n ∷ o) = ap (λ (rest : List ℕ). n ∷ rest) (places-tasks_at o)

tasks_at-places : (ids : List TaskId) → tasks_at (places_of ids) ≡ ids
tasks_at-places [] = refl
tasks_at-places (id ∷ ids) = ap (λ (rest : List TaskId). id ∷ rest) (tasks_at-places ids)

places-one : (a b : List TaskId) → places_of a ≡ places_of b → a ≡ b
places-one a b same = sym (tasks_at-places a) ∙ ap tasks_at same ∙ tasks_at-places b

lex-both : (xs ys : List ℕ) → IsLexAtMost xs ys → IsLexAtMost ys xs → xs ≡ ys
lex-both [] [] h l = refl
lex-both [] (y ∷ ys) h l = absurd l
lex-both (x ∷ xs) [] h l = absurd h
lex-both (x ∷ xs) (y ∷ ys) (inl less) (inl more) = absurd (omega (arith, less, more))
lex-both (x ∷ xs) (y ∷ ys) (inl less) (inr same) = absurd (omega (arith, less, same.0))
lex-both (x ∷ xs) (y ∷ ys) (inr same) (inl more) = absurd (omega (arith, more, same.0))
lex-both (x ∷ xs) (y ∷ ys) (inr same) (inr also) = rw (same.0, lex-both xs ys same.1 also.1) refl

best-one : (s : SystemLists) (r : ℕ) (o p : List ℕ) → IsBestOrder s r o → IsBestOrder s r p → o ≡ p
best-one s r o p first second =
    sym (reverse-reverse o)
    ∙ ap reverse (lex-both (reverse o) (reverse p) (first.least p second.order second.meets) (second.least o first.order first.meets))
    ∙ reverse-reverse p

pub best_order_is_one : (s : SystemLists) (r : ℕ) (it other : Option (List TaskId)) → IsOrderOf s r it → IsOrderOf s r other → it ≡ other
best_order_is_one s r None None first second = refl
best_order_is_one s r None (Some order) first second = absurd (first (places_of order) second.order second.meets)
best_order_is_one s r (Some order) None first second = absurd (second (places_of order) first.order first.meets)
best_order_is_one s r (Some order) (Some other) first second = ap Some (places-one order other (best-one s r (places_of order) (places_of other) first second))
