use Rattle.std.proofs.Common.{◌∙◌, ap}
use Rattle.cpa_effects.specs.ChainText.{passage_word}
use Rattle.cpa_effects.proofs.StepLaws.{word-later}
use Rattle.cpa_effects.proofs.text.place_word.Goals as goal

pub returns-else-k-eq0 : goal.returns-else-k-eq0
returns-else-k-eq0 c = c.passage_word.ensures ∙ ap passage_word c.passage_between.ensures ∙ word-later c.args.reading c.args.system.now c.args.tasks.now c.args.k c.if-k-eq0.false
