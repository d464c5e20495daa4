use Rattle.std.proofs.Common.{◌≡◌, true, ◌∙◌, map, string_bytes, sym}
use Rattle.std.proofs.lemmas.Result.{IfOk-weaker}
use Rattle.cpa_words.specs.Words.{is_regular, operands_of, words_of}
use Rattle.cpa_words.proofs.SortedLaws.{found_if, words_arranged, words_readable}
use Rattle.cpa_words.proofs.command.find_operands.Goals as goal

pub returns-then-is_regular : goal.returns-then-is_regular
returns-then-is_regular c =
    let verb = c.args.verb in
    let words = map string_bytes c.args.words.now in
    let regular : is_regular (operands_of verb) (words_of verb words) ≡ true = sym c.is_regular.ensures ∙ c.if-is_regular.true in
    IfOk-weaker c.read_words.result _ _ (found_if verb words regular) (c.read_words.ensures _ _ (words_arranged verb words) (words_readable verb words regular))
