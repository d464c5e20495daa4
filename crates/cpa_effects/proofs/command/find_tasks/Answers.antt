use Rattle.std.proofs.Common.{◌∙◌, ◌≡◌, ◌+◌, ◌<◌, ◌∷◌, [], ◌++◌, length, map, string_bytes, get_or, Some, sym, ap, subst, arith}
use Rattle.std.proofs.lemmas.List.{get_or-map, length-map, length-append}
use Rattle.cpa_call.specs.Ends.{IsEndOf}
use Rattle.cpa_effects.proofs.CallLaws.{found-next, missed-next, one-more_there, task-there}
use Rattle.cpa_effects.proofs.command.find_tasks.Goals as goal

pub returns-in-None-clause-ended : goal.returns-in-None-clause-ended
returns-in-None-clause-ended c =
    let names = map string_bytes c.args.names.now in
    let k = c.loop-k.k in
    let less : k < length names = omega (arith, c.loop-k-test.true, length-map c.args.names.now string_bytes) in
    let is : get_or names k [] ≡ c.as_bytes.result.now =
    get_or-map string_bytes c.args.names.now k c.index-names-k.result [] (omega (arith, c.loop-k-test.true)) ∙ ap string_bytes (sym c.index-names-k.is) ∙ sym c.as_bytes.ensures.value in
    let missed = missed-next c.args.system.now (k + 1) c.loop-k.tasks.items names k c.as_bytes.result.now less is (sym c.in-None.is ∙ c.find_task.ensures) in
    subst (λ p. IsEndOf p c.refuse.result) (sym missed ∙ c.loop-k.invariant.rest) c.refuse.ensures.ended

pub loop-k-preserved : goal.loop-k-preserved
loop-k-preserved c =
    let names = map string_bytes c.args.names.now in
    let k = c.loop-k.k in
    let less : k < length names = omega (arith, c.loop-k-test.true, length-map c.args.names.now string_bytes) in
    let is : get_or names k [] ≡ c.as_bytes.result.now =
    get_or-map string_bytes c.args.names.now k c.index-names-k.result [] (omega (arith, c.loop-k-test.true)) ∙ ap string_bytes (sym c.index-names-k.is) ∙ sym c.as_bytes.ensures.value in
    let grown : c.push_task.new.tasks.items ≡ c.loop-k.tasks.items ++ c.in-Some.task ∷ [] = c.in_ok-push_task-in-Some.ensures in
    let named : Some c.in-Some.task ≡ _ = sym c.in-Some.is ∙ c.find_task.ensures in
    let found = found-next c.args.system.now (k + 1) c.loop-k.tasks.items names k c.as_bytes.result.now less is c.in-Some.task named in
    record {
      rest = rw grown (sym found ∙ c.loop-k.invariant.rest);
      long = rw grown (omega (arith, length-append c.loop-k.tasks.items (c.in-Some.task ∷ []), c.loop-k.invariant.long));
      there = one-more_there c.args.system.now c.loop-k.tasks.items c.push_task.new.tasks.items c.in-Some.task c.loop-k.invariant.there (task-there c.args.system.now c.as_bytes.result.now c.in-Some.task (sym named)) grown;
    }
