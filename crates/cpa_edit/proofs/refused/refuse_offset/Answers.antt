use Rattle.std.proofs.Common.{Some, None, ◌∙◌}
use Rattle.cpa_edit.proofs.RefusalLaws.{offset-rules}
use Rattle.cpa_edit.proofs.refused.refuse_offset.Goals as goal

pub returns-in_default : goal.returns-in_default
returns-in_default c = offset-rules c.args.system.now c.args.name.now c.args.offset None c.in_default.ensures.found

pub returns : goal.returns
returns c =
    c.first_broken.ensures
    ∙ rw (c.is_some.ensures, c.source-entry.ensures.value)
    (offset-rules c.args.system.now c.args.name.now c.args.offset (Some c.in-Some.source) c.in-Some.ensures.found)
