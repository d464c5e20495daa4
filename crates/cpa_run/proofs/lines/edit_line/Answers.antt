use Rattle.std.proofs.Common.{ℕ, List, ◌++◌, ap, ◌∙◌}
use Rattle.std.specs.Prelude.{codes}
use Rattle.std.specs.Fmt.{decimal}
use Rattle.cpa_run.proofs.lines.edit_line.Goals as goal

pub returns : goal.returns
returns c =
    c.into_bytes.ensures
    ∙ (c.in_ok-put.ensures
    ∙ ap (λ (t : List ℕ). t ++ codes "\n")
    (c.in_ok-put_count-2.ensures
    ∙ (ap (λ (n : ℕ). c.put_count.new.self ++ codes " refused " ++ decimal n) c.from-2.ensures
    ∙ ap (λ (t : List ℕ). t ++ codes " refused " ++ decimal c.args.number.0)
    (c.in_ok-put_count.ensures
    ∙ (ap (λ (n : ℕ). c.new-text.result ++ codes "line " ++ decimal n) c.from.ensures
    ∙ ap (λ (t : List ℕ). t ++ codes "line " ++ decimal c.args.line) c.new-text.ensures)))))
