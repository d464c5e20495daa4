-- The numbers of accepted words are within their limits.
use Rattle.std.proofs.Common.{◌≡◌, ◌≤◌, ℕ, List, [], ◌∷◌, Bool, true, false, ◌&&◌, nat_le, if◌then◌else◌, Option, Some, None, refl, rules, option_map, option_and_then, IfSome}
use Rattle.cpa_units.specs.declared.limits.TheConstants.{MAX_WORKERS, MAX_NUMBER, MAX_SIZE, MAX_TRACES}
use Rattle.cpa_units.specs.Digits.{number_of}
use Rattle.cpa_words.specs.declared.verb.Verb.{Verb}
use Rattle.cpa_words.specs.declared.verb.Verb.TheVariants as verb
use Rattle.cpa_words.specs.Numbers.{number_within}
use Rattle.cpa_words.specs.Words.{Sorted, AreTraces, AreWorkers, IsNumber, IsSize, IsWithin, Analyse, Buffers, Generate, Hammer, Session, Slack, accepted, asked_by, asked_for, is_regular, loaded, operand, operands_of, verb_of, with_numbers, words_of, workers_of}

if_within : (least most n : ℕ) (b : Bool) → nat_le least n && nat_le n most ≡ b → IfSome (if b then Some n else None) (λ n. (least ≤ n) × (n ≤ most))
if_within least most n true e = search rules
if_within least most n false e = search rules

found_within : (least most : ℕ) (found : Option ℕ) → IfSome (option_and_then (λ n. if nat_le least n && nat_le n most then Some n else None) found) (λ n. (least ≤ n) × (n ≤ most))
found_within least most None = search rules
found_within least most (Some n) = if_within least most n _ refl

is_within : (least most : ℕ) (word : List ℕ) → IfSome (number_within least most word) (λ n. (least ≤ n) × (n ≤ most))
is_within least most word = found_within least most (number_of word)

workers_within : (value : Option (List ℕ)) → IfSome (workers_of value) AreWorkers
workers_within None = search rules
workers_within (Some word) = is_within 1 MAX_WORKERS word

analyse_within : (file : List ℕ) (workers : Option ℕ) → IfSome workers AreWorkers → IfSome (option_map (Analyse file) workers) IsWithin
analyse_within file None h = search rules
analyse_within file (Some n) h = h

session_within : (file script : List ℕ) (workers : Option ℕ) → IfSome workers AreWorkers → IfSome (option_map (Session file script) workers) IsWithin
session_within file script None h = search rules
session_within file script (Some n) h = h

slack_within : (file task : List ℕ) (workers : Option ℕ) → IfSome workers AreWorkers → IfSome (option_map (Slack file task) workers) IsWithin
slack_within file task None h = search rules
slack_within file task (Some n) h = h

buffers_within : (file trace : List ℕ) (workers : Option ℕ) → IfSome workers AreWorkers → IfSome (option_map (Buffers file trace) workers) IsWithin
buffers_within file trace None h = search rules
buffers_within file trace (Some n) h = h

generate_within : (number size : Option ℕ) → IfSome number (λ n. (0 ≤ n) × IsNumber n) → IfSome size (λ n. (0 ≤ n) × IsSize n) → IfSome (with_numbers Generate number size) IsWithin
generate_within None size h k = search rules
generate_within (Some n) None h k = search rules
generate_within (Some n) (Some m) h k = (h.1, k.1)

load_within : (number size workers : Option ℕ) → IfSome number (λ n. (0 ≤ n) × IsNumber n) → IfSome size (λ n. (0 ≤ n) × IsSize n) → IfSome workers AreWorkers → IfSome (loaded number size workers) IsWithin
load_within None size workers h k w = search rules
load_within (Some n) None workers h k w = search rules
load_within (Some n) (Some m) None h k w = search rules
load_within (Some n) (Some m) (Some p) h k w = (h.1, k.1, w)

hammer_within : (file : List ℕ) (number traces : Option ℕ) → IfSome number (λ n. (0 ≤ n) × IsNumber n) → IfSome traces AreTraces → IfSome (with_numbers (Hammer file) number traces) IsWithin
hammer_within file None traces h k = search rules
hammer_within file (Some n) None h k = search rules
hammer_within file (Some n) (Some m) h k = (h.1, k)

asked_within : (verb : Verb) (s : Sorted) → IfSome (asked_for verb s) IsWithin
asked_within verb.Analyse s = analyse_within (operand s 0) (workers_of s.workers) (workers_within s.workers)
asked_within verb.Session s = session_within (operand s 0) (operand s 1) (workers_of s.workers) (workers_within s.workers)
asked_within verb.Simulate s = search rules
asked_within verb.Generate s = generate_within _ _ (is_within 0 MAX_NUMBER (operand s 0)) (is_within 0 MAX_SIZE (operand s 1))
asked_within verb.Load s = load_within _ _ _ (is_within 0 MAX_NUMBER (operand s 0)) (is_within 0 MAX_SIZE (operand s 1)) (workers_within s.workers)
asked_within verb.Hammer s = hammer_within (operand s 0) _ _ (is_within 0 MAX_NUMBER (operand s 1)) (is_within 1 MAX_TRACES (operand s 2))
asked_within verb.Assign s = search rules
asked_within verb.Slack s = slack_within (operand s 0) (operand s 1) (workers_of s.workers) (workers_within s.workers)
asked_within verb.Buffers s = buffers_within (operand s 0) (operand s 1) (workers_of s.workers) (workers_within s.workers)
asked_within verb.Audit s = search rules

if_regular : (verb : Verb) (s : Sorted) (b : Bool) → IfSome (if b then asked_for verb s else None) IsWithin
if_regular verb s true = asked_within verb s
if_regular verb s false = search rules

if_command : (words : List (List ℕ)) (verb : Option Verb) → IfSome (option_and_then (asked_by words) verb) IsWithin
if_command words None = search rules
if_command words (Some verb) = if_regular verb (words_of verb words) (is_regular (operands_of verb) (words_of verb words))

pub accepted_within : (words : List (List ℕ)) → IfSome (accepted words) IsWithin
accepted_within [] = search rules
accepted_within (command ∷ words) = if_command words (verb_of command)
