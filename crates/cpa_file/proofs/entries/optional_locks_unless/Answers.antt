use Rattle.std.proofs.Common.{◌≡◌, Bool, None, refl, subst}
use Rattle.std.specs.Bool.{OnTrue}
use Rattle.toml.specs.Data.{get}
use Rattle.toml.specs.View.{view}
use Rattle.cpa_file.specs.Fields.{optional}
use Rattle.cpa_file.proofs.entries.optional_locks_unless.Goals as goal

pub returns-then-absent : goal.returns-then-absent
unfolding optional
returns-then-absent c =
    let absent = subst (λ (b : Bool). OnTrue b (get c.args.key.now (view c.args.entry.now) ≡ None)) c.if-absent.true c.requires in
    rw absent refl
