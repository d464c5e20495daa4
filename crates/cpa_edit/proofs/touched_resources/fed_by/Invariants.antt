use Rattle.std.proofs.Common.{◌≡◌, ℕ, filter}
use Rattle.std.specs.List.{list_any, range_with_len}
use Rattle.cpa_units.specs.Sets.{holds}
use Rattle.cpa_model.specs.SystemLists.{is_fed_by, is_on}
use Rattle.cpa_edit.proofs.touched_resources.fed_by.Given as goal

abbrev pub invariant-loop-place : goal.invariant-loop-place
invariant-loop-place l = (r : ℕ) → holds l.set r ≡ list_any (is_fed_by l.system l.source.0) (filter (is_on l.system r) (range_with_len 0 l.place))
