-- Answers: a status, where there is one, and a text; and what of one was sent.
use Rattle.std.specs.Prelude.{◌≡◌, ◌≢◌, ℕ, List, Option, Some}
use Rattle.cpa_io.specs.Causes.{grown, SentPart}

pub record Answer : Type 0 where
  pub status : Option ℕ
  pub text : List ℕ

abbrev pub reply : ℕ → List ℕ → Answer
reply status text = record { status = Some status; text = text }

-- a status that the output decides: neither a fault nor out of memory
abbrev pub IsOfOutput : ℕ → Type 0
IsOfOutput status = (status ≢ 11) × (status ≢ 20) × (status ≢ 30)

-- status and bytes sent are those of an answer
pub record Sends (output : Answer → Type 0) (status : ℕ) (before now : Option (List ℕ)) : Type 0 where
  pub answer : Answer
  pub is_output : output answer
  pub status_is : answer.status ≡ Some status
  pub sent : now ≡ grown before answer.text

-- a prefix of an answer's text was sent
pub record SendsPart (output : Answer → Type 0) (before now : Option (List ℕ)) : Type 0 where
  pub answer : Answer
  pub is_output : output answer
  pub part : SentPart before now answer.text
