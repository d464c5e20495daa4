use Rattle.cpa_words.proofs.WithinLaws.{accepted_within}
use Rattle.cpa_words.proofs.command.accepted_words_are_within.Goals as goal

pub returns : goal.returns
returns c = accepted_within
