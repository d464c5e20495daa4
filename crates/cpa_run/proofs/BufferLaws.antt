-- What is answered of the jobs that wait: there is an answer, and one only.
use Rattle.std.proofs.Common.{◌≡◌, List, refl, sym, ap, ◌∙◌}
use Rattle.cpa_units.specs.declared.bound.Bound.{Bound}
use Rattle.cpa_model.specs.SystemLists.{SystemLists}
use Rattle.cpa_model.specs.Rules.{IsSystem}
use Rattle.cpa_local.specs.Solution.{IsLeast, least_of}
use Rattle.cpa_local.proofs.VectorLaws.{least-one}
use Rattle.cpa_local.proofs.SolutionLaws.{least_of-is_least}
use Rattle.cpa_trace.specs.Trace.{TraceLists}
use Rattle.cpa_buffer.specs.Peaks.{peaks_of}
use Rattle.cpa_buffer.specs.BufferText.{buffer_text}
use Rattle.cpa_buffer.proofs.BufferLaws.{least_solutions_bound_buffers}
use Rattle.cpa_call.specs.Answers.{Answer, reply}
use Rattle.cpa_run.specs.Request.{IsBuffered}

pub buffered-at : (s : SystemLists) (tr : TraceLists) (x : List Bound) → IsSystem s → IsLeast s x → IsBuffered s tr (reply 0 (buffer_text s x (peaks_of s tr)))
buffered-at s tr x rules least =
    record {
      bounds = x;
      least = least;
      suffice = least_solutions_bound_buffers s x rules least;
      status_is = refl;
      text_is = refl;
    }

pub some-buffered : (s : SystemLists) (tr : TraceLists) → IsSystem s → (answer : Answer) × IsBuffered s tr answer
some-buffered s tr rules = (reply 0 (buffer_text s (least_of s) (peaks_of s tr)), buffered-at s tr (least_of s) rules (least_of-is_least s rules))

pub one-buffered : (s : SystemLists) (tr : TraceLists) (a b : Answer) → IsBuffered s tr a → IsBuffered s tr b → a ≡ b
one-buffered s tr a b h k =
    let same = least-one s h.bounds k.bounds h.least k.least in
    let status : a.status ≡ b.status = h.status_is ∙ sym k.status_is in
    let text : a.text ≡ b.text = h.text_is ∙ ap (λ (x : List Bound). buffer_text s x (peaks_of s tr)) same ∙ sym k.text_is in
    λ i. record { status = status i; text = text i }
