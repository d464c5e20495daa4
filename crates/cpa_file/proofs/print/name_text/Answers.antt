use Rattle.cpa_file.proofs.NameText.{name_is_text}
use Rattle.cpa_file.proofs.print.name_text.Goals as goal

pub unreachable-requires : goal.unreachable-requires
unreachable-requires c = rw (c.bytes.ensures.value) at c.in-Err.ensures.cases.0 (name_is_text c.args.name.now c.bytes.ensures.formed)
