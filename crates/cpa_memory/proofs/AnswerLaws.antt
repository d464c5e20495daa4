-- All that was sent, from nothing, is the answer.
use Rattle.std.proofs.Common.{◌≡◌, ℕ, List, [], ◌++◌, Some, sym, ◌∙◌, ap, ap₂, subst}
use Rattle.std.proofs.lemmas.Option.{same_Some}
use Rattle.std.specs.Prelude.{◌≢◌, Result, Ok, Err, IfOk}
use Rattle.cpa_units.specs.declared.places.NoMemory.{NoMemory}
use Rattle.cpa_call.specs.declared.errors.Reply.{Reply}
use Rattle.cpa_call.specs.Answers.{Answer, reply, Sends}
use Rattle.cpa_memory.specs.declared.written_output.Written.{Written}

pub sent-all : (P : Answer → Type 0) (status : ℕ) (before bytes : List ℕ) → before ≡ [] → Sends P status (Some before) (Some bytes) → P (reply status bytes)
sent-all P status before bytes none h =
    let text : bytes ≡ h.answer.text = same_Some bytes (before ++ h.answer.text) h.sent ∙ ap (λ first. first ++ h.answer.text) none in
    subst P (ap₂ (λ s t. record { status = s; text = t }) h.status_is (sym text)) h.is_output

-- what a call that ended answers is what it sent
pub ended-all : (P : Answer → Type 0) (r : Result Reply NoMemory) (status : ℕ) (before : List ℕ) (written : Written) → before ≡ []
    → IfOk r (λ it. (it.status ≡ status) × (it.text ≡ written.bytes)) → IfOk r (λ it. it.status ≢ 30)
    → (status ≢ 30 → Sends P status (Some before) (Some written.bytes.items)) → IfOk r (λ it. P (reply it.status it.text.items))
ended-all P (Ok it) status before written none same enough sends =
    let other : status ≢ 30 = λ is. enough (same.0 ∙ is) in
    subst P (sym (ap₂ (λ s t. reply s t.items) same.0 same.1)) (sent-all P status before written.bytes.items none (sends other))
ended-all P (Err e) status before written none same enough sends = tt
