-- What is planned.
use Rattle.std.proofs.Common.{◌≡◌, ℕ, List, Some, None, refl}
use Rattle.cpa_call.specs.Lines.{words_refused}
use Rattle.cpa_call.specs.Plans.{Held, Refuse}
use Rattle.cpa_call.specs.TwoFiles.{Asked, accepted}
use Rattle.cpa_effect_files.specs.Calls.{plan_for, plan_of}

pub plan-some : (words : List (List ℕ)) (held : Held) (it : Asked) → Some it ≡ accepted words → plan_of words held ≡ plan_for held it.file it.second
unfolding plan_of
plan-some words held it e = rw (← e) refl

pub plan-none : (words : List (List ℕ)) (held : Held) → None ≡ accepted words → plan_of words held ≡ Refuse 10 words_refused
unfolding plan_of
plan-none words held e = rw (← e) refl
