use Rattle.std.proofs.Common.{◌∙◌, take, get_or, ap, arith}
use Rattle.std.proofs.lemmas.List.{take_more}
use Rattle.cpa_units.specs.Sets.{holds}
use Rattle.cpa_assign.specs.Placing.{placed_section, placed_sections, without}
use Rattle.cpa_assign.proofs.BelowLaws.{sections-push}
use Rattle.cpa_assign.proofs.below.most_with_sections.Goals as goal

pub loop-section-preserved : goal.loop-section-preserved
loop-section-preserved c =
    let s = c.args.system.now in
    let r = c.args.res.0 in
    let i = c.args.task.0 in
    let above = without (holds c.args.free.now) i in
    let worst = c.args.lower.now.worst in
    let items = c.sections-section-items.result.now in
    let k = c.loop-section.section-index in
    let item = c.section-item.result in
    let more = ap (placed_sections s r above i worst) (take_more items k item c.loop-section-test.true) ∙ sections-push s r above i worst (take k items) (get_or items k item) in
    omega (arith, c.most_with_section-longest.ensures, c.loop-section.invariant, more, ap (placed_section s r above i worst) c.section-item.is)
