use Rattle.std.proofs.Common.{refl}
use Rattle.cpa_file.proofs.entries.one_text.Goals as goal

pub returns : goal.returns
returns c = rw (c.one.ensures, c.new.ensures, c.in_ok-from_slice.ensures.items, c.as_bytes.ensures.value) refl
