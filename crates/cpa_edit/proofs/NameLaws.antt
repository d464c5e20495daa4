-- The names that the edits of a script bring have the form of names.
use Rattle.std.proofs.Common.{◌≡◌, ℕ, zero, suc, ◌+◌, ◌&&◌, Bool, true, false, List, [], ◌∷◌, length, Option, Some, None, Ok, Err, refl, arith}
use Rattle.std.specs.Prelude.{nat_lt, if◌then◌else◌}
use Rattle.cpa_units.specs.Name.{is_name}
use Rattle.cpa_units.specs.declared.limits.TheConstants.{MAX_SCRIPT_LINES}
use Rattle.cpa_edit.specs.declared.script.Step.{Step}
use Rattle.cpa_edit.specs.declared.script.ScriptFault.TheVariants.{TooManyLines}
use Rattle.cpa_edit.specs.declared.forms.Keyword.{Keyword}
use Rattle.cpa_edit.specs.declared.forms.Keyword.TheVariants as key
use Rattle.cpa_edit.specs.declared.forms.Line.{Line}
use Rattle.cpa_edit.specs.declared.forms.Line.TheVariants.{Skipped, Has, Bad}
use Rattle.cpa_edit.specs.Forms.{fits, sorts_of, step_of, form_of, keyword_of, is_comment, line_of}
use Rattle.cpa_edit.specs.Lines.{words_of, lines_of}
use Rattle.cpa_edit.specs.Script.{Read, with_line, steps_from, script_of, IsNamedChange, AreNamed}

and-first : (x y : Bool) → (x && y) ≡ true → x ≡ true
and-first true y h = refl
and-first false y h = h

-- a step of words that fit
step-named : (k : Keyword) (words : List (List ℕ)) → fits (sorts_of k) words ≡ true → IsNamedChange (step_of k words)
step-named key.Exec w h = tt
step-named key.Priority w h = tt
step-named key.Swap w h = tt
step-named key.Slot w h = tt
step-named key.Source w h = tt
step-named key.Offset w h = tt
step-named key.Add [] h = cc
step-named key.Add (name ∷ words) h = and-first (is_name name) _ h
step-named key.Remove w h = tt
step-named key.Report w h = tt

-- a line's step
abbrev IsNamedLine : Line → Type 0
IsNamedLine Skipped = Unit {0}
IsNamedLine (Has step) = IsNamedChange step
IsNamedLine Bad = Unit {0}

form-named : (o : Option Keyword) (words : List (List ℕ)) → IsNamedLine (form_of o words)
form-named None words = tt
form-named (Some k) words = by (fits (sorts_of k) words) refl
  where
    by : (b : Bool) → fits (sorts_of k) words ≡ b → IsNamedLine (if b then Has (step_of k words) else Bad)
    by true is = step-named k words is
    by false is = tt

line-named : (words : List (List ℕ)) → IsNamedLine (line_of words)
line-named [] = tt
line-named (first ∷ words) = by (is_comment first)
  where
    by : (b : Bool) → IsNamedLine (if b then Skipped else form_of (keyword_of first) words)
    by true = tt
    by false = form-named (keyword_of first) words

-- what was read
abbrev AreNamedIn : Read → Type 0
AreNamedIn (Ok steps) = AreNamed steps
AreNamedIn (Err fault) = Unit {0}

cons-named : (step : ℕ × Step) (rest : List (ℕ × Step)) → IsNamedChange step.1 → AreNamed rest → AreNamed (step ∷ rest)
cons-named step rest h named zero d below = h
cons-named step rest h named (suc k) d below = named k d (omega (arith, below))

with-named : (number : ℕ) (line : Line) (later : Read) → IsNamedLine line → AreNamedIn later → AreNamedIn (with_line number line later)
with-named number Skipped later h named = named
with-named number (Has step) (Ok steps) h named = cons-named (number, step) steps h named
with-named number (Has step) (Err fault) h named = tt
with-named number Bad later h named = tt

lines-named : (number : ℕ) (lines : List (List ℕ)) → AreNamedIn (steps_from number lines)
unfolding steps_from
lines-named number [] = λ k d below. absurd (omega (arith, below))
lines-named number (line ∷ later) = with-named number (line_of (words_of line)) (steps_from (number + 1) later) (line-named (words_of line)) (lines-named (number + 1) later)

script-named : (bytes : List ℕ) → AreNamedIn (script_of bytes)
unfolding script_of
script-named bytes = by (nat_lt MAX_SCRIPT_LINES (length (lines_of bytes)))
  where
    by : (b : Bool) → AreNamedIn (if b then Err TooManyLines else steps_from 1 (lines_of bytes))
    by true = tt
    by false = lines-named 1 (lines_of bytes)

pub scripts-are_named : (bytes : List ℕ) (steps : List (ℕ × Step)) → script_of bytes ≡ Ok steps → AreNamed steps
scripts-are_named bytes steps is = rw is at (script-named bytes)
