-- What a check of a draft answers.
use Rattle.std.specs.Prelude.{◌≡◌, Option, Some, None, Result, Ok, Err}
use Rattle.cpa_draft.specs.declared.refusal.Refusal.{Refusal}
use Rattle.cpa_draft.specs.declared.refusal.BuildFault.{BuildFault}
use Rattle.cpa_draft.specs.declared.refusal.BuildFault.TheVariants.{Refused, Memory}

-- a fault is the refusal; memory may run out at any time
abbrev pub IsFault : BuildFault → Option Refusal → Type 0
IsFault (Refused r) first = first ≡ Some r
IsFault Memory first = Unit {0}

-- no refusal where the answer is Ok
abbrev pub Validates : {X : Type 0} → Result X BuildFault → Option Refusal → Type 0
Validates (Ok x) first = first ≡ None
Validates (Err e) first = IsFault e first
