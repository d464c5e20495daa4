use Rattle.std.proofs.Common.{◌≡◌, ◌≢◌, true, false, not, Bool, Result, Ok, Err, ◌∙◌, sym, refl}
use Rattle.std.specs.Result.{IsErr}
use Rattle.std.specs.List.{list_any}
use Rattle.std.specs.Str.{bytes_eq}
use Rattle.cpa_draft.proofs.Maps.{list_any-map}
use Rattle.cpa_draft.proofs.names.Names.add.Goals as goal

never-ok : {T E : Type 0} (r : Result T E) (v : T) → IsErr r → r ≢ Ok v
never-ok (Ok x) v err e = cc
never-ok (Err x) v err e = cc

said_new : (b r : Bool) → r ≡ not b → r ≡ true → b ≡ false
said_new true r e t = sym t ∙ e
said_new false r e t = refl

said_known : (b r : Bool) → r ≡ not b → r ≡ false → b ≡ true
said_known true r e t = refl
said_known false r e t = sym t ∙ e

pub returns-clause-new : goal.returns-clause-new
returns-clause-new c e =
    let a : c.in_ok-new.new ≡ not (list_any (bytes_eq c.args.name.now) c.args.self.now) =
    rw (← c.self.view_is, list_any-map, ← c.in_ok-name.ensures.items) c.in_ok-new.ensures.added in
    said_new _ c.in_ok-new.new a cc

pub returns-clause-known : goal.returns-clause-known
returns-clause-known c e =
    let a : c.in_ok-new.new ≡ not (list_any (bytes_eq c.args.name.now) c.args.self.now) =
    rw (← c.self.view_is, list_any-map, ← c.in_ok-name.ensures.items) c.in_ok-new.ensures.added in
    said_known _ c.in_ok-new.new a cc

pub returns-in_err-name-clause-new : goal.returns-in_err-name-clause-new
returns-in_err-name-clause-new c e = absurd (never-ok _ _ c.from_residual.ensures.0 e)

pub returns-in_err-new-clause-new : goal.returns-in_err-new-clause-new
returns-in_err-new-clause-new c e = absurd (never-ok _ _ c.from_residual-in_err-new.ensures.0 e)

pub returns-in_err-name-clause-added : goal.returns-in_err-name-clause-added
returns-in_err-name-clause-added c e = absurd (never-ok _ _ c.from_residual.ensures.0 e)

pub returns-in_err-new-clause-added : goal.returns-in_err-new-clause-added
returns-in_err-new-clause-added c e = absurd (never-ok _ _ c.from_residual-in_err-new.ensures.0 e)

pub returns-in_err-name-clause-known : goal.returns-in_err-name-clause-known
returns-in_err-name-clause-known c e = absurd (never-ok _ _ c.from_residual.ensures.0 e)

pub returns-in_err-new-clause-known : goal.returns-in_err-new-clause-known
returns-in_err-new-clause-known c e = absurd (never-ok _ _ c.from_residual-in_err-new.ensures.0 e)

pub returns-in_err-name-clause-unchanged : goal.returns-in_err-name-clause-unchanged
returns-in_err-name-clause-unchanged c e = absurd (never-ok _ _ c.from_residual.ensures.0 e)

pub returns-in_err-new-clause-unchanged : goal.returns-in_err-new-clause-unchanged
returns-in_err-new-clause-unchanged c e = absurd (never-ok _ _ c.from_residual-in_err-new.ensures.0 e)
