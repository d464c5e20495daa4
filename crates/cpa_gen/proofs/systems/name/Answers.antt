use Rattle.std.proofs.Common.{◌++◌, Err, sym, ap, ◌∙◌}
use Rattle.std.specs.Fmt.{decimal}
use Rattle.std.proofs.lemmas.Bool.{true≢false}
use Rattle.cpa_units.specs.Name.{is_name}
use Rattle.cpa_gen.proofs.Names.{numbered_named}
use Rattle.cpa_gen.proofs.systems.name.Goals as goal

pub unreachable-requires : goal.unreachable-requires
unreachable-requires c =
    let named = numbered_named c.args.letter.now c.args.ending.now c.args.number c.requires.letter c.requires.ending c.requires.short c.requires.number in
    let lettered = c.in_ok-put.ensures ∙ ap (λ t. t ++ c.args.letter.now) c.new-text.ensures in
    let counted = c.in_ok-put_number.ensures ∙ ap (λ t. t ++ decimal c.args.number) lettered in
    let same = c.as_slice.ensures.value ∙ c.into_bytes.ensures ∙ c.in_ok-put-2.ensures ∙ ap (λ t. t ++ c.args.ending.now) counted in
    true≢false (sym named ∙ ap is_name (sym same) ∙ c.in-Err-Form.ensures.form.0 (ap Err c.in-Err-Form.field-0-is))
