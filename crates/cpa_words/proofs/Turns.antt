-- The walk of `clap` over words whose sorts are known.
use Rattle.std.proofs.Common.{◌≡◌, ℕ, List, [], ◌∷◌, ◌&&◌, ◌||◌, None, true, false, refl, ap, ap₂, ◌∙◌, rules, fold, if◌then◌else◌}
use Rattle.std.specs.Str.{bytes_eq}
use Rattle.std.specs.Option.{option_map_or}
use Rattle.clap.specs.Lexer.{long_of, short_of}
use Rattle.clap.specs.Walk.{Held, Text, Walk, Waiting, after_step, arg_by_index, idle, option, long_or_other, short_or_plain, option_word, arg_by_id, to_positional, trailing, value, walked}
use Rattle.clap.specs.Takes.{walk_passes, turn_passes, step_passes, flag_word_passes, bundle_passes}
use Rattle.clap.specs.Simple.{Shape}
use Rattle.cpa_words.specs.Words.{is_operand}

-- the walk passes all words, and ends there
pub record Goes (s : Shape) (from : Walk) (words : List Text) (end : Walk) : Type 0 where
  pub passes : walk_passes s [] from words ≡ true
  pub ends : fold (walked s.rules []) from words ≡ end

-- the walk passes a word
pub record Turns (s : Shape) (from : Walk) (word : Text) (after : Walk) : Type 0 where
  pub passes : turn_passes s [] from word ≡ true
  pub becomes : walked s.rules [] from word ≡ after

pub gone : (s : Shape) (from : Walk) → Goes s from [] from
unfolding walk_passes
gone s from = record { passes = refl; ends = refl }

pub goes : (s : Shape) (from after end : Walk) (word : Text) (rest : List Text) → Turns s from word after → Goes s after rest end → Goes s from (word ∷ rest) end
unfolding walk_passes
goes s from after end word rest t g = record {
  passes = ap₂ (λ a b. a && b) t.passes (ap (λ w. walk_passes s [] w rest) t.becomes ∙ g.passes);
  ends = ap (λ w. fold (walked s.rules []) w rest) t.becomes ∙ g.ends;
}

-- how `clap` sees an operand
pub record IsSeenPlain (word : Text) : Type 0 where
  pub end : bytes_eq word (45 ∷ 45 ∷ []) ≡ false
  pub long : long_of word ≡ None
  pub short : short_of word ≡ None

pub seen_plain : (word : Text) → is_operand word ≡ true → IsSeenPlain word
seen_plain [] e = absurd (search rules)
seen_plain (x ∷ xs) e = record { end = search rules; long = search rules; short = search rules }

abbrev pub at : Held → Waiting → ℕ → Walk
at h waiting position = record { held = h; waiting = waiting; position = position; is_trailing = false; stopped = None }

pub operand_turn : (s : Shape) (h : Held) (i : ℕ) (word : Text) → IsSeenPlain word → step_passes s i h value ≡ true
    → Turns s (at h idle i) word (to_positional s.rules (arg_by_index s.rules i) word (at h idle i) h)
unfolding walked
operand_turn s h i word p e = record {
  passes = ap₂ (λ b l. (b || flag_word_passes s.rules s.args_override_self l word h) && step_passes s i (if b then (h, trailing i) else long_or_other s.rules idle word l h).0 (if b then (h, trailing i) else long_or_other s.rules idle word l h).1) p.end p.long
      ∙ ap (λ k. option_map_or (λ flags. bundle_passes s.rules s.args_override_self flags h) k true && step_passes s i (short_or_plain s.rules idle word k h).0 (short_or_plain s.rules idle word k h).1) p.short ∙ e;
  becomes = ap₂ (λ b l. after_step s.rules word (at h idle i) (if b then (h, trailing i) else long_or_other s.rules idle word l h).0 (if b then (h, trailing i) else long_or_other s.rules idle word l h).1) p.end p.long
      ∙ ap (λ k. after_step s.rules word (at h idle i) (short_or_plain s.rules idle word k h).0 (short_or_plain s.rules idle word k h).1) p.short;
}

pub value_turn : (s : Shape) (h : Held) (i : ℕ) (id word : Text) → IsSeenPlain word
    → Turns s (at h (option id) i) word (at (option_word (arg_by_id s.rules id) id word h).0 (option_word (arg_by_id s.rules id) id word h).1 i)
unfolding walked
value_turn s h i id word p = record {
  passes = ap₂ (λ b l. (b || flag_word_passes s.rules s.args_override_self l word h) && step_passes s i (if b then (h, trailing i) else long_or_other s.rules (option id) word l h).0 (if b then (h, trailing i) else long_or_other s.rules (option id) word l h).1) p.end p.long
      ∙ ap (λ k. option_map_or (λ flags. bundle_passes s.rules s.args_override_self flags h) k true && step_passes s i (short_or_plain s.rules (option id) word k h).0 (short_or_plain s.rules (option id) word k h).1) p.short;
  becomes = ap₂ (λ b l. after_step s.rules word (at h (option id) i) (if b then (h, trailing i) else long_or_other s.rules (option id) word l h).0 (if b then (h, trailing i) else long_or_other s.rules (option id) word l h).1) p.end p.long
      ∙ ap (λ k. after_step s.rules word (at h (option id) i) (short_or_plain s.rules (option id) word k h).0 (short_or_plain s.rules (option id) word k h).1) p.short;
}
