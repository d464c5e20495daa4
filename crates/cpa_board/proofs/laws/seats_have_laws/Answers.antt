use Rattle.cpa_board.proofs.Moves.{splits_step, joins_step}
use Rattle.cpa_board.proofs.laws.seats_have_laws.Goals as goal

pub returns-clause-splits : goal.returns-clause-splits
returns-clause-splits c = splits_step

pub returns-clause-joins : goal.returns-clause-joins
returns-clause-joins c = joins_step
