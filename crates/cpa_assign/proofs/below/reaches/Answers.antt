use Rattle.std.proofs.Common.{◌∙◌, ℕ, Bool, sym, arith}
use Rattle.std.proofs.lemmas.Bool.{and_parts}
use Rattle.cpa_units.specs.Sets.{holds}
use Rattle.cpa_model.specs.SystemLists.{is_on}
use Rattle.cpa_assign.specs.Placing.{is_reaching, without}
use Rattle.cpa_assign.proofs.BelowLaws.{any-found, any-next}
use Rattle.cpa_assign.proofs.below.reaches.Goals as goal

pub loop-k-preserved : goal.loop-k-preserved
loop-k-preserved c =
    let test : ℕ → Bool = is_reaching c.args.system.now (without (holds c.args.free.now) c.args.task.0) c.args.task.0 c.args.lock.now in
    any-next (is_on c.args.system.now c.args.res.0) test c.loop-k.k c.loop-k.invariant (sym c.is_user.ensures ∙ c.if-is_user.false)

pub returns-then-is_user : goal.returns-then-is_user
returns-then-is_user c =
    let test : ℕ → Bool = is_reaching c.args.system.now (without (holds c.args.free.now) c.args.task.0) c.args.task.0 c.args.lock.now in
    let both = and_parts (is_on c.args.system.now c.args.res.0 c.loop-k.k) (test c.loop-k.k) (sym c.is_user.ensures ∙ c.if-is_user.true) in
    sym (any-found (is_on c.args.system.now c.args.res.0) test 0 _ c.loop-k.k (omega arith) (omega arith) both.0 both.1)
