-- Regular words are operands with the option among them.
use Rattle.std.proofs.Common.{◌≡◌, ◌≤◌, unwrap_or, ℕ, List, [], ◌∷◌, ◌++◌, Bool, true, false, ◌&&◌, ◌==◌, if◌then◌else◌, Option, Some, None, codes, refl, sym, ap, ◌∙◌, arith, rules, take, drop, length, subst}
use Rattle.std.specs.List.{list_all}
use Rattle.std.specs.Option.{option_map_or}
use Rattle.std.specs.Str.{bytes_eq}
use Rattle.std.proofs.lemmas.Slice.Eq.{bytes_eq-Decides}
use Rattle.std.proofs.lemmas.Bool.Decides.{Decides-eqb}
use Rattle.std.proofs.lemmas.List.{take-append-drop}
use Rattle.clap.proofs.WalkLemmas.{both}
use Rattle.cpa_words.specs.declared.verb.Verb.{Verb}
use Rattle.cpa_words.specs.declared.verb.Verb.TheVariants as verb
use Rattle.cpa_words.specs.declared.reading.Operands.{Operands}
use Rattle.cpa_words.specs.Commands.{AreFound, IsFound, IsFoundIf}
use Rattle.cpa_words.specs.Words.{Asked, Sorted, asked_by, asked_for, is_operand, is_regular, joined_value, operands_of, sorted, with_next, with_operand, with_value, words_of}
use Rattle.cpa_words.specs.Arranged.{IsArranged, IsReadable, nowhere, apart, joined, later}

abbrev Arranged : Sorted → List (List ℕ) → Type 0
Arranged s words = IsArranged s.operands s.workers words

beside_option : (word : List ℕ) (rest : List (List ℕ)) → word ≡ codes "--workers" → Arranged (with_next rest) (word ∷ rest)
beside_option word [] e = rw e (nowhere (codes "--workers" ∷ []))
beside_option word (value ∷ others) e = rw e (apart others value)

joined_word : (word : List ℕ) → bytes_eq (take 10 word) (codes "--workers=") ≡ true → codes "--workers=" ++ drop 10 word ≡ word
joined_word word e = ap (λ first. first ++ drop 10 word) (sym ((bytes_eq-Decides (take 10 word) (codes "--workers=")).0 e)) ∙ take-append-drop 10 word

if_joined : (word : List ℕ) (rest : List (List ℕ)) (b : Bool) → bytes_eq (take 10 word) (codes "--workers=") ≡ b → Arranged (sorted rest) rest
    → Arranged (option_map_or (with_value rest) (if b then Some (drop 10 word) else None) (with_operand word (sorted rest))) (word ∷ rest)
if_joined word rest true e r = subst (λ w. Arranged (with_value rest (drop 10 word)) (w ∷ rest)) (joined_word word e) (joined rest (drop 10 word))
if_joined word rest false e r = later word (sorted rest).operands (sorted rest).workers rest r

if_apart : (word : List ℕ) (rest : List (List ℕ)) (b : Bool) → bytes_eq word (codes "--workers") ≡ b → Arranged (sorted rest) rest
    → Arranged (if b then with_next rest else option_map_or (with_value rest) (joined_value word) (with_operand word (sorted rest))) (word ∷ rest)
if_apart word rest true e r = beside_option word rest ((bytes_eq-Decides word (codes "--workers")).0 e)
if_apart word rest false e r = if_joined word rest _ refl r

arranged : (words : List (List ℕ)) → Arranged (sorted words) words
arranged [] = nowhere []
arranged (word ∷ rest) = if_apart word rest _ refl (arranged rest)

pub words_arranged : (verb : Verb) (words : List (List ℕ)) → Arranged (words_of verb words) words
words_arranged verb.Analyse words = arranged words
words_arranged verb.Session words = arranged words
words_arranged verb.Simulate words = nowhere words
words_arranged verb.Generate words = nowhere words
words_arranged verb.Load words = arranged words
words_arranged verb.Hammer words = nowhere words
words_arranged verb.Assign words = nowhere words
words_arranged verb.Slack words = arranged words
words_arranged verb.Buffers words = arranged words
words_arranged verb.Audit words = nowhere words

counted : (n : ℕ) (s : Sorted) → is_regular n s ≡ true → length s.operands ≡ n
counted n s e = (Decides-eqb (length s.operands) n).0 (both (length s.operands == n) (list_all is_operand s.operands && option_map_or is_operand s.workers true) e).0

readable : (n : ℕ) (s : Sorted) → 1 ≤ n → n ≤ 3 → (n ≡ 3 → s.workers ≡ None) → is_regular n s ≡ true → IsReadable s.operands s.workers
readable n s some few alone e =
    let first = both (length s.operands == n) (list_all is_operand s.operands && option_map_or is_operand s.workers true) e in
    let last = both (list_all is_operand s.operands) (option_map_or is_operand s.workers true) first.1 in
    let count = counted n s e in
    record { some = omega (arith, count); few = omega (arith, count); alone = λ h. alone (sym count ∙ h); operands = last.0; value = last.1 }

pub words_readable : (verb : Verb) (words : List (List ℕ)) → is_regular (operands_of verb) (words_of verb words) ≡ true → IsReadable (words_of verb words).operands (words_of verb words).workers
words_readable verb.Analyse words e = readable 1 _ (omega arith) (omega arith) (λ h. absurd (omega (arith, h))) e
words_readable verb.Session words e = readable 2 _ (omega arith) (omega arith) (λ h. absurd (omega (arith, h))) e
words_readable verb.Simulate words e = readable 2 _ (omega arith) (omega arith) (λ h. refl) e
words_readable verb.Generate words e = readable 2 _ (omega arith) (omega arith) (λ h. refl) e
words_readable verb.Load words e = readable 2 _ (omega arith) (omega arith) (λ h. absurd (omega (arith, h))) e
words_readable verb.Hammer words e = readable 3 _ (omega arith) (omega arith) (λ h. refl) e
words_readable verb.Assign words e = readable 2 _ (omega arith) (omega arith) (λ h. refl) e
words_readable verb.Slack words e = readable 2 _ (omega arith) (omega arith) (λ h. absurd (omega (arith, h))) e
words_readable verb.Buffers words e = readable 2 _ (omega arith) (omega arith) (λ h. absurd (omega (arith, h))) e
words_readable verb.Audit words e = readable 3 _ (omega arith) (omega arith) (λ h. refl) e

abbrev Regular : Verb → List (List ℕ) → Bool
Regular verb words = is_regular (operands_of verb) (words_of verb words)

-- what was found in regular words
pub found_if : (verb : Verb) (words : List (List ℕ)) → Regular verb words ≡ true → (found : Option Operands) → IsFound (words_of verb words).operands (words_of verb words).workers found
    → IsFoundIf (Regular verb words) (words_of verb words) found
found_if verb words e found h = subst (λ b. IsFoundIf b (words_of verb words) found) (sym e) h

found_some : (verb : Verb) (words : List (List ℕ)) (found : Operands) (answer : Option Asked) (b : Bool) → Regular verb words ≡ b → IsFoundIf b (words_of verb words) (Some found)
    → ((s : Sorted) → AreFound s.operands s.workers found → is_regular (operands_of verb) s ≡ true → answer ≡ asked_for verb s)
    → answer ≡ (if b then asked_for verb (words_of verb words) else None)
found_some verb words found answer true e (o, is, all) h = h (words_of verb words) (subst (AreFound (words_of verb words).operands (words_of verb words).workers) (sym (ap (λ x. unwrap_or x found) is)) all) e
found_some verb words found answer false e is h = absurd (search (rules, is))

-- what is asked for by what was found
pub asked_found : (verb : Verb) (words : List (List ℕ)) (found : Operands) (answer : Option Asked) → IsFoundIf (Regular verb words) (words_of verb words) (Some found)
    → ((s : Sorted) → AreFound s.operands s.workers found → is_regular (operands_of verb) s ≡ true → answer ≡ asked_for verb s) → answer ≡ asked_by words verb
asked_found verb words found answer i h = found_some verb words found answer _ refl i h

none_found : (verb : Verb) (words : List (List ℕ)) (b : Bool) → IsFoundIf b (words_of verb words) None → None ≡ (if b then asked_for verb (words_of verb words) else None)
none_found verb words true (o, is, all) = absurd (search (rules, is))
none_found verb words false e = refl

pub asked_none : (verb : Verb) (words : List (List ℕ)) → IsFoundIf (Regular verb words) (words_of verb words) None → None ≡ asked_by words verb
asked_none verb words i = none_found verb words _ i
