use Rattle.std.proofs.Common.{ap, sym, subst, ◌∙◌, length, map}
use Rattle.std.proofs.lemmas.List.{length-map}
use Rattle.cpa_units.specs.Words.{word_of}
use Rattle.cpa_model.specs.Rules.{IsSystem}
use Rattle.cpa_local.specs.Paths.{path_worst}
use Rattle.cpa_report.specs.Report.{verdict}
use Rattle.cpa_sound.proofs.Soundness.{least_solutions_bound_every_run}
use Rattle.cpa_memory.specs.Given.{over}
use Rattle.cpa_kept.specs.Numbers.{latencies_of}
use Rattle.cpa_kept.proofs.numbers.tell_latencies.Goals as goal

pub returns : goal.returns
returns c =
    let x = c.bounds-bounds.result.now in
    let same = c.system-system.ensures in
    let rules : IsSystem c.args.session.now = subst IsSystem same c.has_rules.ensures in
    record {
      bounds = x;
      least = c.bounds-bounds.ensures.least;
      hold = least_solutions_bound_every_run c.args.session.now x rules c.bounds-bounds.ensures.least;
      status_is = c.verdict.ensures.value ∙ ap (λ s. verdict s x) same;
      count_is = c.paths.ensures.count ∙ ap (λ s. length s.paths) same ∙ sym (length-map (c.args.session.now.paths) (path_worst x));
      out_is = c.put_latencies.ensures ∙ ap (λ s. over (map word_of (latencies_of s x)) c.args.out.now) same;
    }
