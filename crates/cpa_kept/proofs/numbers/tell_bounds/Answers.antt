use Rattle.std.proofs.Common.{ap, subst, ◌∙◌}
use Rattle.cpa_model.specs.Rules.{IsSystem}
use Rattle.cpa_report.specs.Report.{verdict}
use Rattle.cpa_sound.proofs.Soundness.{least_solutions_bound_every_run}
use Rattle.cpa_kept.proofs.numbers.tell_bounds.Goals as goal

pub returns : goal.returns
returns c =
    let x = c.bounds-bounds.result.now in
    let rules : IsSystem c.args.session.now = subst IsSystem c.system-system.ensures c.has_rules.ensures in
    record {
      bounds = x;
      least = c.bounds-bounds.ensures.least;
      hold = least_solutions_bound_every_run c.args.session.now x rules c.bounds-bounds.ensures.least;
      status_is = c.verdict.ensures.value ∙ ap (λ s. verdict s x) c.system-system.ensures;
      count_is = c.len.ensures;
      out_is = c.put_bounds.ensures;
    }
