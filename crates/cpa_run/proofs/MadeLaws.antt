-- The summary of a generated system, and what is seen of a system under generated traces, are there, and one only.
use Rattle.std.proofs.Common.{◌≡◌, ℕ, ◌≤◌, List, Some, refl, sym, ap, ◌∙◌}
use Rattle.std.specs.List.{range_with_len}
use Rattle.cpa_units.specs.declared.bound.Bound.{Bound}
use Rattle.cpa_units.specs.declared.limits.TheConstants.{MAX_SIZE}
use Rattle.cpa_model.specs.SystemLists.{SystemLists}
use Rattle.cpa_model.specs.Rules.{IsSystem}
use Rattle.cpa_local.specs.Solution.{IsLeast, least_of}
use Rattle.cpa_local.proofs.VectorLaws.{least-one}
use Rattle.cpa_local.proofs.SolutionLaws.{least_of-is_least}
use Rattle.cpa_report.specs.Report.{verdict}
use Rattle.cpa_sound.proofs.Soundness.{least_solutions_bound_every_run}
use Rattle.cpa_gen.specs.MadeSystems.{made_system}
use Rattle.cpa_gen.specs.Seen.{seen_over}
use Rattle.cpa_gen.specs.Texts.{load_text, hammer_text}
use Rattle.cpa_gen.proofs.MadeRules.{made_systems_keep_rules}
use Rattle.cpa_gen.proofs.SeenLaws.{none-beyond}
use Rattle.cpa_call.specs.Answers.{Answer, reply}
use Rattle.cpa_run.specs.Request.{IsSummary, IsHammered}

pub summary-at : (number size : ℕ) (s t : SystemLists) (x : List Bound) → size ≤ MAX_SIZE → t ≡ made_system number size → s ≡ t → IsLeast s x
    → IsSummary number size (made_system number size) (reply (verdict s x) (load_text number size s x))
summary-at number size s t x few made is least =
    rw (← made, ← is) (record {
      bounds = x;
      least = least;
      hold = least_solutions_bound_every_run s x (rw (is, made) (made_systems_keep_rules number size few)) least;
      status_is = refl;
      text_is = refl;
    })

pub some-summary : (number size : ℕ) → size ≤ MAX_SIZE → (answer : Answer) × IsSummary number size (made_system number size) answer
some-summary number size few =
    let s = made_system number size in (
      reply (verdict s (least_of s)) (load_text number size s (least_of s)),
      summary-at number size s s (least_of s) few refl refl (least_of-is_least s (made_systems_keep_rules number size few)),
    )

pub one-summary : (number size : ℕ) (s : SystemLists) (a b : Answer) → IsSummary number size s a → IsSummary number size s b → a ≡ b
one-summary number size s a b h k =
    let same = least-one s h.bounds k.bounds h.least k.least in
    let status : a.status ≡ b.status = h.status_is ∙ ap (λ x. Some (verdict s x)) same ∙ sym k.status_is in
    let text : a.text ≡ b.text = h.text_is ∙ ap (load_text number size s) same ∙ sym k.text_is in
    λ i. record { status = status i; text = text i }

hammered : SystemLists → ℕ → ℕ → List Bound → List ℕ
hammered s number traces x = hammer_text s x (seen_over s x number (range_with_len 0 traces))

pub hammered-at : (s : SystemLists) (number traces : ℕ) (x : List Bound) → IsSystem s → IsLeast s x → IsHammered s number traces (reply 0 (hammer_text s x (seen_over s x number (range_with_len 0 traces))))
hammered-at s number traces x rules least =
    record {
      bounds = x;
      least = least;
      hold = least_solutions_bound_every_run s x rules least;
      none_beyond = none-beyond s x number rules least.closed (range_with_len 0 traces) (seen_over s x number (range_with_len 0 traces)) refl;
      status_is = refl;
      text_is = refl;
    }

pub some-hammered : (s : SystemLists) (number traces : ℕ) → IsSystem s → (answer : Answer) × IsHammered s number traces answer
unfolding hammered hammer_text
some-hammered s number traces rules =
    (reply 0 (hammered s number traces (least_of s)), hammered-at s number traces (least_of s) rules (least_of-is_least s rules))

pub one-hammered : (s : SystemLists) (number traces : ℕ) (a b : Answer) → IsHammered s number traces a → IsHammered s number traces b → a ≡ b
unfolding hammered hammer_text
one-hammered s number traces a b h k =
    let same = least-one s h.bounds k.bounds h.least k.least in
    let status : a.status ≡ b.status = h.status_is ∙ sym k.status_is in
    let text : a.text ≡ b.text = h.text_is ∙ ap (hammered s number traces) same ∙ sym k.text_is in
    λ i. record { status = status i; text = text i }
