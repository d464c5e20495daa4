use Rattle.std.proofs.Common.{append_assoc}
use Rattle.cpa_effect_files.specs.ChainsText.{summary_line}
use Rattle.cpa_effect_files.proofs.text.put_summary.Goals as goal

pub returns : goal.returns
unfolding summary_line
returns c = rw (c.in_ok-put.ensures, c.in_ok-put_count-3.ensures, c.in_ok-put_count-2.ensures, c.in_ok-put_count.ensures) (simp append_assoc)
