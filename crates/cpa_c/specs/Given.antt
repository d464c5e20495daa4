-- What a call gives to the caller: a status, a text in a buffer, as far as it has room, and how long the text is.
use Rattle.std.specs.Prelude.{◌≡◌, ℕ, List, length, Some}
use Rattle.cpa_call.specs.Answers.{Answer}
use Rattle.cpa_memory.specs.Given.{over}

pub record Gives (output : Answer → Type 0) (status : ℕ) (before now : List ℕ) (used : ℕ) : Type 0 where
  pub answer : Answer
  pub is_output : output answer
  pub status_is : answer.status ≡ Some status
  pub used_is : used ≡ length answer.text
  pub out_is : now ≡ over answer.text before

-- nothing is given: the length is 0, and the buffer is as before
pub record GivesNothing (before now : List ℕ) (used : ℕ) : Type 0 where
  pub used_is : used ≡ 0
  pub out_is : now ≡ before
