use Rattle.std.proofs.Common.{map, string_bytes, Some, option_map, rules}
use Rattle.cpa_words.specs.Words.{is_regular, operands_of, words_of}
use Rattle.cpa_words.specs.Commands.{IsFoundIf, asked}
use Rattle.cpa_words.proofs.SortedLaws.{asked_found}
use Rattle.cpa_words.proofs.command.accept_after.Goals as goal

pub returns-in-Some-clause-value : goal.returns-in-Some-clause-value
returns-in-Some-clause-value c =
    let verb = c.args.verb in
    let words = map string_bytes c.args.words.now in
    let given : IsFoundIf (is_regular (operands_of verb) (words_of verb words)) (words_of verb words) (Some c.in-Some.found) = search rules in
    asked_found verb words c.in-Some.found (option_map asked c.command_of.result) given c.command_of.ensures.value
