-- What is said of an edit that breaks a rule.
use Rattle.std.proofs.Common.{◌≡◌, ℕ, List, Some, Err, sym, ap, subst}
use Rattle.std.specs.Prelude.{Result}
use Rattle.cpa_model.specs.SystemLists.{SystemLists}
use Rattle.cpa_edit.specs.declared.edit.EditRefusal.{EditRefusal}
use Rattle.cpa_call.specs.Answers.{reply}
use Rattle.cpa_run.specs.Lines.{edit_refused}
use Rattle.cpa_kept.specs.Kept.{IsMade}

pub refused-made : (s now : SystemLists) (line : ℕ) (made : Result SystemLists EditRefusal) (number : EditRefusal) (text : List ℕ) → made ≡ Err number → now ≡ s → text ≡ edit_refused line number
    → IsMade s line made (Some now) (reply 21 text)
refused-made s now line made number text is same said = subst (λ m. IsMade s line m (Some now) (reply 21 text)) (sym is) (ap Some same, ap (reply 21) said)
