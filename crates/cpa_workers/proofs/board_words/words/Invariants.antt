use Rattle.std.proofs.Common.{◌≡◌, map}
use Rattle.cpa_units.specs.Bounds.{bound_of}
use Rattle.cpa_units.specs.Words.{word_of}
use Rattle.cpa_units.proofs.PlaceLaws.{places}
use Rattle.cpa_workers.proofs.board_words.words.Given as goal

abbrev pub invariant-loop-place : goal.invariant-loop-place
invariant-loop-place l = l.words.items ≡ map (λ i. word_of (bound_of l.x i)) (places l.place)
