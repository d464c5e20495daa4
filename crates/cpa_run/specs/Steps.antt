-- How far a session has come.
use Rattle.std.specs.Prelude.{◌≡◌, ℕ, List, drop, Option}
use Rattle.cpa_io.specs.Causes.{grown, SentPart}
use Rattle.cpa_model.specs.SystemLists.{SystemLists}
use Rattle.cpa_model.specs.Rules.{IsSystem}
use Rattle.cpa_edit.specs.declared.script.Step.{Step}
use Rattle.cpa_call.specs.Answers.{Answer}
use Rattle.cpa_run.specs.Session.{IsStepText, IsSession, led_by}

-- the text of a step was sent
pub record IsWritten (s : SystemLists) (line : ℕ) (step : Step) (before now : Option (List ℕ)) : Type 0 where
  pub text : List ℕ
  pub is_text : IsStepText s line step text
  pub sent : now ≡ grown before text

-- a prefix of it was sent
pub record IsWrittenPart (s : SystemLists) (line : ℕ) (step : Step) (before now : Option (List ℕ)) : Type 0 where
  pub text : List ℕ
  pub is_text : IsStepText s line step text
  pub part : SentPart before now text

-- of the steps that start at s the first k were taken, which lead to t: with what is sent by then before it, each answer to the rest is
-- one to all
pub record IsUnderWay (s : SystemLists) (steps : List (ℕ × Step)) (k : ℕ) (t : SystemLists) (before now : Option (List ℕ)) : Type 0 where
  pub text : List ℕ
  pub sent : now ≡ grown before text
  pub rules : IsSystem t
  pub goes_on : (later : Answer) → IsSession t (drop k steps) later → IsSession s steps (led_by text later)
