-- What `clap` finds in regular words.
use Rattle.std.proofs.Common.{◌≡◌, ℕ, List, [], ◌∷◌, ◌++◌, Bool, ◌&&◌, Option, Some, None, codes, true, false, refl, ap, ap₂, ◌∙◌, arith, is_some, slice_get}
use Rattle.std.specs.List.{list_all}
use Rattle.std.specs.Option.{option_map_or}
use Rattle.clap.specs.Walk.{Held, Rule, Text, Walk, first_of, finished, idle, option, walk_from, nothing_held, settled, reacted}
use Rattle.clap.specs.Takes.{takes, settle_passes, react_passes, default_passes, is_valid, entered_passes}
use Rattle.clap.specs.Simple.{Shape, is_simple, filled, built, entered, matches_of}
use Rattle.clap.specs.Matches.{first_value}
use Rattle.clap.specs.Walk.{rows_of}
use Rattle.clap.specs.declared.parser.matches.Found.{Found}
use Rattle.clap.proofs.WalkLemmas.{both, first_value-rows}
use Rattle.clap.proofs.OnLiterals.{clap_on_literals}
use Rattle.cpa_words.specs.Reader.{reader, workers_rule}
use Rattle.cpa_words.specs.Words.{is_operand}
use Rattle.cpa_words.specs.Arranged.{IsArranged, IsReadable, nowhere, apart, joined, later}
use Rattle.cpa_words.proofs.Turns.{Goes, Turns, IsSeenPlain, seen_plain, at, gone, goes, operand_turn, value_turn}

abbrev shape : Shape
shape = (built reader).top

abbrev workers_built : Rule
workers_built = filled workers_rule

-- `clap` takes the words, and finds these operands and this value of the option
pub record Reads (words : List Text) (operands : List Text) (o : Option Text) : Type 0 where
  pub taken : takes reader words ≡ true
  pub first : first_of (codes "first") (matches_of reader words) ≡ slice_get operands 0
  pub second : first_of (codes "second") (matches_of reader words) ≡ slice_get operands 1
  pub third : first_of (codes "third") (matches_of reader words) ≡ slice_get operands 2
  pub workers : first_of (codes "workers") (matches_of reader words) ≡ o

option_turn : (h : Held) (i : ℕ) → settle_passes shape.rules false h ≡ true
    → Turns shape (at h idle i) (codes "--workers") (at (record (settled shape.rules h) { pending = Some (codes "workers", []) }) (option (codes "workers")) i)
unfolding clap_on_literals
option_turn h i e = record { passes = ap (λ b. b && true) e; becomes = refl }

joined_turn : (h : Held) (i : ℕ) (v : Text) → react_passes shape.rules false workers_built (v ∷ []) h ≡ true
    → Turns shape (at h idle i) (codes "--workers=" ++ v) (at (reacted shape.rules workers_built (v ∷ []) h) idle i)
unfolding clap_on_literals
joined_turn h i v e = record { passes = ap (λ b. b && true) e; becomes = refl }

-- what is left to pass at the end of the words
abbrev is_passed : Walk → Bool → Bool
is_passed w walked = entered_passes (built reader) w.stopped && (walked && (settle_passes shape.rules false w.held
    && (list_all default_passes shape.rules && is_valid shape (finished shape.rules w.held) (is_some (entered (built reader) w.stopped)))))

abbrev found : Text → Walk → Option Text
found id w = first_of id (finished shape.rules w.held)

finish : (words operands : List Text) (o : Option Text) (end : Walk) → Goes shape (walk_from nothing_held) words end → is_passed end true ≡ true
    → found (codes "first") end ≡ slice_get operands 0 → found (codes "second") end ≡ slice_get operands 1 → found (codes "third") end ≡ slice_get operands 2
    → found (codes "workers") end ≡ o → Reads words operands o
finish words operands o end g e f1 f2 f3 f4 = record {
  taken = ap₂ is_passed g.ends g.passes ∙ e;
  first = ap (found (codes "first")) g.ends ∙ f1;
  second = ap (found (codes "second")) g.ends ∙ f2;
  third = ap (found (codes "third")) g.ends ∙ f3;
  workers = ap (found (codes "workers")) g.ends ∙ f4;
}

of_one_nowhere : (a : Text) → IsSeenPlain a → Reads (a ∷ []) (a ∷ []) None
unfolding clap_on_literals
of_one_nowhere a pa = finish _ _ _ _ (goes _ _ _ _ _ _ (operand_turn shape _ 1 a pa refl) (gone _ _)) refl refl refl refl refl

of_one_apart_0 : (a v : Text) → IsSeenPlain a → IsSeenPlain v → Reads (codes "--workers" ∷ v ∷ a ∷ []) (a ∷ []) (Some v)
unfolding clap_on_literals
of_one_apart_0 a v pa pv = finish _ _ _ _ (goes _ _ _ _ _ _ (option_turn _ 1 refl) (goes _ _ _ _ _ _ (value_turn shape _ 1 (codes "workers") v pv) (goes _ _ _ _ _ _ (operand_turn shape _ 1 a pa refl) (gone _ _)))) refl refl refl refl refl

of_one_apart_1 : (a v : Text) → IsSeenPlain a → IsSeenPlain v → Reads (a ∷ codes "--workers" ∷ v ∷ []) (a ∷ []) (Some v)
unfolding clap_on_literals
of_one_apart_1 a v pa pv = finish _ _ _ _ (goes _ _ _ _ _ _ (operand_turn shape _ 1 a pa refl) (goes _ _ _ _ _ _ (option_turn _ 2 refl) (goes _ _ _ _ _ _ (value_turn shape _ 2 (codes "workers") v pv) (gone _ _)))) refl refl refl refl refl

of_one_joined_0 : (a v : Text) → IsSeenPlain a → IsSeenPlain v → Reads ((codes "--workers=" ++ v) ∷ a ∷ []) (a ∷ []) (Some v)
unfolding clap_on_literals
of_one_joined_0 a v pa pv = finish _ _ _ _ (goes _ _ _ _ _ _ (joined_turn _ 1 v refl) (goes _ _ _ _ _ _ (operand_turn shape _ 1 a pa refl) (gone _ _))) refl refl refl refl refl

of_one_joined_1 : (a v : Text) → IsSeenPlain a → IsSeenPlain v → Reads (a ∷ (codes "--workers=" ++ v) ∷ []) (a ∷ []) (Some v)
unfolding clap_on_literals
of_one_joined_1 a v pa pv = finish _ _ _ _ (goes _ _ _ _ _ _ (operand_turn shape _ 1 a pa refl) (goes _ _ _ _ _ _ (joined_turn _ 2 v refl) (gone _ _))) refl refl refl refl refl

of_two_nowhere : (a b : Text) → IsSeenPlain a → IsSeenPlain b → Reads (a ∷ b ∷ []) (a ∷ b ∷ []) None
unfolding clap_on_literals
of_two_nowhere a b pa pb = finish _ _ _ _ (goes _ _ _ _ _ _ (operand_turn shape _ 1 a pa refl) (goes _ _ _ _ _ _ (operand_turn shape _ 2 b pb refl) (gone _ _))) refl refl refl refl refl

of_two_apart_0 : (a b v : Text) → IsSeenPlain a → IsSeenPlain b → IsSeenPlain v → Reads (codes "--workers" ∷ v ∷ a ∷ b ∷ []) (a ∷ b ∷ []) (Some v)
unfolding clap_on_literals
of_two_apart_0 a b v pa pb pv = finish _ _ _ _ (goes _ _ _ _ _ _ (option_turn _ 1 refl) (goes _ _ _ _ _ _ (value_turn shape _ 1 (codes "workers") v pv) (goes _ _ _ _ _ _ (operand_turn shape _ 1 a pa refl) (goes _ _ _ _ _ _ (operand_turn shape _ 2 b pb refl) (gone _ _))))) refl refl refl refl refl

of_two_apart_1 : (a b v : Text) → IsSeenPlain a → IsSeenPlain b → IsSeenPlain v → Reads (a ∷ codes "--workers" ∷ v ∷ b ∷ []) (a ∷ b ∷ []) (Some v)
unfolding clap_on_literals
of_two_apart_1 a b v pa pb pv = finish _ _ _ _ (goes _ _ _ _ _ _ (operand_turn shape _ 1 a pa refl) (goes _ _ _ _ _ _ (option_turn _ 2 refl) (goes _ _ _ _ _ _ (value_turn shape _ 2 (codes "workers") v pv) (goes _ _ _ _ _ _ (operand_turn shape _ 2 b pb refl) (gone _ _))))) refl refl refl refl refl

of_two_apart_2 : (a b v : Text) → IsSeenPlain a → IsSeenPlain b → IsSeenPlain v → Reads (a ∷ b ∷ codes "--workers" ∷ v ∷ []) (a ∷ b ∷ []) (Some v)
unfolding clap_on_literals
of_two_apart_2 a b v pa pb pv = finish _ _ _ _ (goes _ _ _ _ _ _ (operand_turn shape _ 1 a pa refl) (goes _ _ _ _ _ _ (operand_turn shape _ 2 b pb refl) (goes _ _ _ _ _ _ (option_turn _ 3 refl) (goes _ _ _ _ _ _ (value_turn shape _ 3 (codes "workers") v pv) (gone _ _))))) refl refl refl refl refl

of_two_joined_0 : (a b v : Text) → IsSeenPlain a → IsSeenPlain b → IsSeenPlain v → Reads ((codes "--workers=" ++ v) ∷ a ∷ b ∷ []) (a ∷ b ∷ []) (Some v)
unfolding clap_on_literals
of_two_joined_0 a b v pa pb pv = finish _ _ _ _ (goes _ _ _ _ _ _ (joined_turn _ 1 v refl) (goes _ _ _ _ _ _ (operand_turn shape _ 1 a pa refl) (goes _ _ _ _ _ _ (operand_turn shape _ 2 b pb refl) (gone _ _)))) refl refl refl refl refl

of_two_joined_1 : (a b v : Text) → IsSeenPlain a → IsSeenPlain b → IsSeenPlain v → Reads (a ∷ (codes "--workers=" ++ v) ∷ b ∷ []) (a ∷ b ∷ []) (Some v)
unfolding clap_on_literals
of_two_joined_1 a b v pa pb pv = finish _ _ _ _ (goes _ _ _ _ _ _ (operand_turn shape _ 1 a pa refl) (goes _ _ _ _ _ _ (joined_turn _ 2 v refl) (goes _ _ _ _ _ _ (operand_turn shape _ 2 b pb refl) (gone _ _)))) refl refl refl refl refl

of_two_joined_2 : (a b v : Text) → IsSeenPlain a → IsSeenPlain b → IsSeenPlain v → Reads (a ∷ b ∷ (codes "--workers=" ++ v) ∷ []) (a ∷ b ∷ []) (Some v)
unfolding clap_on_literals
of_two_joined_2 a b v pa pb pv = finish _ _ _ _ (goes _ _ _ _ _ _ (operand_turn shape _ 1 a pa refl) (goes _ _ _ _ _ _ (operand_turn shape _ 2 b pb refl) (goes _ _ _ _ _ _ (joined_turn _ 3 v refl) (gone _ _)))) refl refl refl refl refl

of_three_nowhere : (a b c : Text) → IsSeenPlain a → IsSeenPlain b → IsSeenPlain c → Reads (a ∷ b ∷ c ∷ []) (a ∷ b ∷ c ∷ []) None
unfolding clap_on_literals
of_three_nowhere a b c pa pb pc = finish _ _ _ _ (goes _ _ _ _ _ _ (operand_turn shape _ 1 a pa refl) (goes _ _ _ _ _ _ (operand_turn shape _ 2 b pb refl) (goes _ _ _ _ _ _ (operand_turn shape _ 3 c pc refl) (gone _ _)))) refl refl refl refl refl

abbrev IsOperand : Text → Type 0
IsOperand word = is_operand word ≡ true

one : (a : Text) (o : Option Text) (words : List Text) → IsArranged (a ∷ []) o words → IsOperand a → option_map_or is_operand o true ≡ true → Reads words (a ∷ []) o
one a _ _ (nowhere _) p q = of_one_nowhere a (seen_plain a p)
one a _ _ (apart _ v) p q = of_one_apart_0 a v (seen_plain a p) (seen_plain v q)
one a _ _ (joined _ v) p q = of_one_joined_0 a v (seen_plain a p) (seen_plain v q)
one a _ _ (later _ _ _ _ (nowhere _)) p q = of_one_nowhere a (seen_plain a p)
one a _ _ (later _ _ _ _ (apart _ v)) p q = of_one_apart_1 a v (seen_plain a p) (seen_plain v q)
one a _ _ (later _ _ _ _ (joined _ v)) p q = of_one_joined_1 a v (seen_plain a p) (seen_plain v q)

two : (a b : Text) (o : Option Text) (words : List Text) → IsArranged (a ∷ b ∷ []) o words → IsOperand a → IsOperand b → option_map_or is_operand o true ≡ true → Reads words (a ∷ b ∷ []) o
two a b _ _ (nowhere _) p r q = of_two_nowhere a b (seen_plain a p) (seen_plain b r)
two a b _ _ (apart _ v) p r q = of_two_apart_0 a b v (seen_plain a p) (seen_plain b r) (seen_plain v q)
two a b _ _ (joined _ v) p r q = of_two_joined_0 a b v (seen_plain a p) (seen_plain b r) (seen_plain v q)
two a b _ _ (later _ _ _ _ (nowhere _)) p r q = of_two_nowhere a b (seen_plain a p) (seen_plain b r)
two a b _ _ (later _ _ _ _ (apart _ v)) p r q = of_two_apart_1 a b v (seen_plain a p) (seen_plain b r) (seen_plain v q)
two a b _ _ (later _ _ _ _ (joined _ v)) p r q = of_two_joined_1 a b v (seen_plain a p) (seen_plain b r) (seen_plain v q)
two a b _ _ (later _ _ _ _ (later _ _ _ _ (nowhere _))) p r q = of_two_nowhere a b (seen_plain a p) (seen_plain b r)
two a b _ _ (later _ _ _ _ (later _ _ _ _ (apart _ v))) p r q = of_two_apart_2 a b v (seen_plain a p) (seen_plain b r) (seen_plain v q)
two a b _ _ (later _ _ _ _ (later _ _ _ _ (joined _ v))) p r q = of_two_joined_2 a b v (seen_plain a p) (seen_plain b r) (seen_plain v q)

-- without a value of the option the words are the operands
nothing_between : (operands words : List Text) → IsArranged operands None words → words ≡ operands
nothing_between _ _ (nowhere _) = refl
nothing_between _ _ (later w ops _ ws r) = ap (λ rest. w ∷ rest) (nothing_between ops ws r)

three : (a b c : Text) (words : List Text) → words ≡ a ∷ b ∷ c ∷ [] → IsOperand a → IsOperand b → IsOperand c → Reads words (a ∷ b ∷ c ∷ []) None
three a b c words e p q r = rw e (of_three_nowhere a b c (seen_plain a p) (seen_plain b q) (seen_plain c r))

three_alone : (a b c : Text) (o : Option Text) (words : List Text) → o ≡ None → IsArranged (a ∷ b ∷ c ∷ []) o words → IsOperand a → IsOperand b → IsOperand c
    → Reads words (a ∷ b ∷ c ∷ []) o
three_alone a b c o words n i p q r = rw n (three a b c words (nothing_between _ words (rw n at i)) p q r)

pub reads : (operands : List Text) (o : Option Text) (words : List Text) → IsArranged operands o words → IsReadable operands o → Reads words operands o
reads [] o words i r = absurd (omega (arith, r.some))
reads (a ∷ []) o words i r = one a o words i (both _ _ r.operands).0 r.value
reads (a ∷ b ∷ []) o words i r =
    let rest = (both _ _ r.operands).1 in two a b o words i (both _ _ r.operands).0 (both _ _ rest).0 r.value
reads (a ∷ b ∷ c ∷ []) o words i r =
    let rest = (both _ _ r.operands).1 in let last = (both _ _ rest).1 in
    three_alone a b c o words (r.alone refl) i (both _ _ r.operands).0 (both _ _ rest).0 (both _ _ last).0
reads (a ∷ b ∷ c ∷ d ∷ rest) o words i r = absurd (omega (arith, r.few))

pub reader_is_simple : is_simple reader ≡ true
unfolding clap_on_literals
reader_is_simple = refl

-- what a getter of the matches answers
pub got : (f : Found) (answer : Option Text) (id : Text) (words : List Text) (want : Option Text) → answer ≡ first_value f id → rows_of f ≡ matches_of reader words
    → first_of id (matches_of reader words) ≡ want → answer ≡ want
got f answer id words want e rows w = e ∙ first_value-rows f id ∙ ap (first_of id) rows ∙ w
