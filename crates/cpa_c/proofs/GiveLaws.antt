-- A reply that was given is the answer.
use Rattle.std.proofs.Common.{◌≡◌, ℕ, List, length, Ok, Err, IfOk, sym, ap, Some}
use Rattle.std.specs.Prelude.{Result}
use Rattle.std.specs.Result.{IsOkAnd}
use Rattle.cpa_units.specs.declared.places.NoMemory.{NoMemory}
use Rattle.cpa_call.specs.declared.errors.Reply.{Reply}
use Rattle.cpa_call.specs.Answers.{Answer, reply}
use Rattle.cpa_memory.specs.Given.{over}
use Rattle.cpa_c.specs.Given.{Gives}

pub gives-by : (P : Answer → Type 0) (r : Result Reply NoMemory) (status used : ℕ) (before now : List ℕ) → IfOk r (λ it. P (reply it.status it.text.items))
    → IsOkAnd r (λ it. (status ≡ it.status) × (used ≡ length it.text.items) × (now ≡ over it.text.items before)) → Gives P status before now used
gives-by P (Ok it) status used before now is h = record { answer = reply it.status it.text.items; is_output = is; status_is = ap Some (sym h.0); used_is = h.1; out_is = h.2 }
gives-by P (Err e) status used before now is h = absurd h
