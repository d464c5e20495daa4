-- The words by which texts in memory are named.
use Rattle.std.specs.Prelude.{Bool, true, false, ℕ, codes, List, [], ◌∷◌}
use Rattle.std.specs.Str.Lines.{lines}
use Rattle.cpa_effects.specs.declared.steps.Reading.{Reading}
use Rattle.cpa_effects.specs.declared.steps.Reading.TheVariants.{Anywhere, WhileRunning}
use Rattle.cpa_effects.specs.Calls.{Call}

-- the words of `schedule`
abbrev pub schedule_words : List (List ℕ)
schedule_words = codes "system" ∷ codes "trace" ∷ []

-- when jobs read
abbrev pub reading_of : Bool → Reading
reading_of true = WhileRunning
reading_of false = Anywhere

-- a call of `chain`, with the names that stand in the lines of a text: each line is a name, whatever it says
abbrev pub chain_call : List ℕ → Bool → Call
chain_call tasks while_running = record { reading = reading_of while_running; words = codes "system" ∷ lines tasks }

-- the words of `chains`
abbrev pub chains_words : List (List ℕ)
chains_words = codes "system" ∷ codes "chains" ∷ []
