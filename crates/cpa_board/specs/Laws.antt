-- How seats become more and fewer, as the public function of the crate states it: a table says nothing of these to its callers
-- moves but the new views.
use Rattle.std.specs.Prelude.{◌≡◌, ℕ, List, [], ◌∷◌, ◌++◌, slice_set}
use mathlib.Core.Option.{some}
use lib.ListN.{get_elem?}
use Rattle.cpa_board.specs.declared.rule.View.{View}
use Rattle.cpa_board.specs.declared.rule.Life.TheVariants.{Active}
use Rattle.cpa_board.specs.Machine.{Takes}
use Rattle.cpa_board.specs.Machine.Step.{Split, Join}
use Rattle.cpa_board.specs.Rule.{IsBoard, joined, done}

-- whatever the board's state, a live seat more with a seat's view is one step
abbrev pub SplitsAreSteps : Type 0
SplitsAreSteps =
    (words : List ℕ) (views : List View) (old : IsBoard words views) (a : ℕ) (v : View) →
    get_elem? views a ≡ some v → v.life ≡ Active →
    (new : IsBoard words (slice_set views a v ++ v ∷ [])) × Takes old.board (Split a) new.board

-- whatever the board's state, a live seat's taking in another is one step
abbrev pub JoinsAreSteps : Type 0
JoinsAreSteps =
    (words : List ℕ) (views : List View) (old : IsBoard words views) (a b : ℕ) (v w : View) →
    get_elem? views a ≡ some v → v.life ≡ Active → get_elem? views b ≡ some w → w.life ≡ Active → ¬ (b ≡ a) →
    (new : IsBoard words (slice_set (slice_set views a (joined v w)) b done)) × Takes old.board (Join b a) new.board
