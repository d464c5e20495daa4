use Rattle.std.proofs.Common.{append_assoc}
use Rattle.cpa_run.proofs.lines.assign_line.Goals as goal

pub returns : goal.returns
returns c = rw (c.into_bytes.ensures, c.in_ok-put.ensures, c.in_ok-put_count.ensures, c.new-text.ensures) (simp append_assoc)
