-- What `clap` reads words by.
use Rattle.std.specs.Prelude.{true, codes, Some}
use Rattle.clap.specs.Walk.{Rule}
use Rattle.clap.specs.Simple.{App, new_app, new_rule, on_top, with_rule}

abbrev pub workers_rule : Rule
workers_rule = record (new_rule (codes "workers")) { long = Some (codes "workers") }

-- a command without a name before its words, and without help
abbrev pub bare : App
bare = on_top (λ s. record s { no_binary_name = true; disable_help_flag = true }) (new_app (codes "lokwurmi"))

-- up to three operands, and the option
abbrev pub reader : App
reader = with_rule (with_rule (with_rule (with_rule bare (new_rule (codes "first"))) (new_rule (codes "second"))) (new_rule (codes "third"))) workers_rule
