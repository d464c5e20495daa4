use Rattle.std.proofs.Common.{◌∙◌, sym, string_bytes}
use Rattle.cpa_effects.proofs.CallLaws.{chain-words}
use Rattle.cpa_effects.proofs.words.is_chain.Goals as goal

pub returns-then-is_count : goal.returns-then-is_count
returns-then-is_count c = chain-words string_bytes c.args.tasks.now c.has_no_word.result (sym c.is_count.ensures ∙ c.if-is_count.true) c.has_no_word.ensures
