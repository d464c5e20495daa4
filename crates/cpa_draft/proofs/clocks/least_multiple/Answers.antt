use Rattle.std.proofs.Common.{sym}
use Rattle.cpa_draft.proofs.ClockLaws.{divisor-some, multiple-by_divisor}
use Rattle.cpa_draft.proofs.clocks.least_multiple.Goals as goal

pub nonzero_div-result : goal.nonzero_div-result
nonzero_div-result c = divisor-some c.args.a c.args.b c.requires.a.0 c.requires.b.0 c.greatest_divisor.result c.greatest_divisor.ensures

pub returns : goal.returns
returns c = sym (multiple-by_divisor c.args.a c.args.b c.requires.a.0 c.requires.b.0 c.greatest_divisor.result c.greatest_divisor.ensures)
