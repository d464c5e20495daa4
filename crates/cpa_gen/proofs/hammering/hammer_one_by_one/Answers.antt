use Rattle.std.proofs.Common.{◌+◌, ◌≤◌, length, arith}
use Rattle.std.specs.List.{range_with_len}
use Rattle.std.proofs.lemmas.List.FromFn.{length-range_with_len}
use Rattle.cpa_gen.proofs.SeenLaws.{added-is, none-beyond, one-small, seen-long, seen-none, seen-small}
use Rattle.cpa_gen.proofs.hammering.hammer_one_by_one.Goals as goal

pub loop-k-init : goal.loop-k-init
loop-k-init c = seen-none c.args.system.now c.args.x.now c.args.number c.in_ok-total.total c.tasks.result c.tasks.ensures.count c.in_ok-total.ensures

pub add-requires-clause-small : goal.add-requires-clause-small
add-requires-clause-small c =
    let ks = range_with_len 0 c.loop-k.k in
    let few : length ks ≤ 10000 = omega (arith, length-range_with_len 0 c.loop-k.k, c.loop-k-test.true, c.requires.few) in
    seen-small c.args.system.now c.args.x.now c.args.number c.has_rules.ensures ks c.loop-k.total few c.loop-k.invariant

pub add-requires-clause-small_too : goal.add-requires-clause-small_too
add-requires-clause-small_too c =
    one-small c.args.system.now c.args.x.now c.args.number c.has_rules.ensures (range_with_len 0 c.loop-k.k) c.loop-k.total c.loop-k.k c.see-one.result c.loop-k.invariant c.see-one.ensures

pub loop-k-preserved : goal.loop-k-preserved
loop-k-preserved c =
    added-is c.args.system.now c.args.x.now c.args.number c.loop-k.k (c.loop-k.k + 1) c.loop-k.total c.in_ok-total-2.total c.see-one.result (omega arith) c.loop-k.invariant c.see-one.ensures c.in_ok-total-2.ensures

pub returns-clause-belongs : goal.returns-clause-belongs
returns-clause-belongs c =
    seen-long c.args.system.now c.args.x.now c.args.number c.has_rules.ensures (range_with_len 0 c.loop-k.k) c.loop-k.total c.loop-k.invariant

pub returns-clause-none : goal.returns-clause-none
returns-clause-none c closed =
    none-beyond c.args.system.now c.args.x.now c.args.number c.has_rules.ensures closed (range_with_len 0 c.loop-k.k) c.loop-k.total c.loop-k.invariant
