use Rattle.std.proofs.Common.{◌≡◌, ◌≤◌, ℕ, List, [], ◌∷◌, length, false, is_some, refl, ap, ◌∙◌, arith}
use Rattle.cpa_draft.specs.First.{first_known}
use Rattle.cpa_draft.specs.Refusals.{has_double}
use Rattle.std.proofs.lemmas.Result.{IfOk-from_err}
use Rattle.cpa_draft.proofs.names.has_double.Goals as goal

one : (names : List (List ℕ)) → length names ≤ 1 → false ≡ has_double names
unfolding first_known
one [] few = refl
one (name ∷ []) few = refl
one (name ∷ other ∷ names) few = absurd (omega arith)

pub returns-then-names-le1 : goal.returns-then-names-le1
returns-then-names-le1 c = one c.args.names.now (omega arith)

pub returns-in_err-add_names : goal.returns-in_err-add_names
returns-in_err-add_names c = IfOk-from_err _ _ c.from_residual.ensures.0

pub returns : goal.returns
returns c = c.is_some.ensures ∙ ap is_some (c.in_ok-add_names.ensures.place ∙ ap (λ ns. first_known (λ name. name) ns c.args.names.now) c.new-before.ensures)
