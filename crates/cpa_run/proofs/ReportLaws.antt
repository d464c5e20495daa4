-- The report of a system is there, and one only.
use Rattle.std.proofs.Common.{◌≡◌, List, Some, refl, sym, ap, ◌∙◌}
use Rattle.cpa_units.specs.declared.bound.Bound.{Bound}
use Rattle.cpa_model.specs.SystemLists.{SystemLists}
use Rattle.cpa_model.specs.Rules.{IsSystem}
use Rattle.cpa_local.specs.Solution.{IsLeast, least_of}
use Rattle.cpa_local.proofs.VectorLaws.{least-one}
use Rattle.cpa_local.proofs.SolutionLaws.{least_of-is_least}
use Rattle.cpa_report.specs.Report.{report_text, verdict}
use Rattle.cpa_sound.proofs.Soundness.{least_solutions_bound_every_run}
use Rattle.cpa_call.specs.Answers.{Answer, reply}
use Rattle.cpa_run.specs.Answers.{IsReport}

pub report-at : (s : SystemLists) (x : List Bound) → IsSystem s → IsLeast s x → IsReport s (reply (verdict s x) (report_text s x))
report-at s x rules least = record { bounds = x; least = least; hold = least_solutions_bound_every_run s x rules least; status_is = refl; text_is = refl }

pub some-report : (s : SystemLists) → IsSystem s → (answer : Answer) × IsReport s answer
some-report s rules = (reply (verdict s (least_of s)) (report_text s (least_of s)), report-at s (least_of s) rules (least_of-is_least s rules))

pub one-report : (s : SystemLists) (a b : Answer) → IsReport s a → IsReport s b → a ≡ b
one-report s a b h k =
    let same = least-one s h.bounds k.bounds h.least k.least in
    let status : a.status ≡ b.status = h.status_is ∙ ap (λ x. Some (verdict s x)) same ∙ sym k.status_is in
    let text : a.text ≡ b.text = h.text_is ∙ ap (report_text s) same ∙ sym k.text_is in
    λ i. record { status = status i; text = text i }
