use Rattle.std.proofs.Common.{rules, ◌≡◌, ap, ap₂, ◌∙◌, codes}
use Rattle.std.proofs.lemmas.Result.{IfOk-weaker}
use Rattle.clap.specs.Walk.{rule_of}
use Rattle.clap.specs.Simple.{app_of, app_of_fields, new_rule, with_rule}
use Rattle.cpa_words.specs.Reader.{bare, workers_rule}
use Rattle.cpa_words.proofs.reading.reader.Goals as goal

pub returns : goal.returns
returns c =
    let first : rule_of c.new-first.result ≡ new_rule (codes "first") = search rules in
    let second : rule_of c.new-second.result ≡ new_rule (codes "second") = search rules in
    let third : rule_of c.new-third.result ≡ new_rule (codes "third") = search rules in
    let workers : rule_of c.long-workers.result ≡ workers_rule = search rules in
    let start : app_of c.disable_help_flag.result ≡ bare = ap app_of_fields (c.disable_help_flag.ensures) ∙ search rules in
    let one = c.in_ok-arg.ensures.shape (search rules) ∙ ap₂ with_rule start first in
    let two = c.in_ok-arg-2.ensures.shape (search rules) ∙ ap₂ with_rule one second in
    let three = c.in_ok-arg-3.ensures.shape (search rules) ∙ ap₂ with_rule two third in
    IfOk-weaker c.arg-4.result _ _ (λ r h. h.shape (search rules) ∙ ap₂ with_rule three workers) c.arg-4.ensures
