use Rattle.std.proofs.Common.{◌≡◌, ◌∙◌, Some, None, map, string_bytes, ap, sym, subst, IfErr}
use Rattle.std.specs.Prelude.{option_map}
use Rattle.std.proofs.lemmas.Result.{IfOk-weaker}
use Rattle.cpa_call.specs.Ends.{IsEndOf}
use Rattle.cpa_call.specs.TwoFiles.{accepted, asked}
use Rattle.cpa_call.proofs.CallLaws.{words-ended}
use Rattle.cpa_effect_files.specs.Calls.{plan_of}
use Rattle.cpa_effect_files.proofs.PlanLaws.{plan-some, plan-none}
use Rattle.cpa_effect_files.proofs.command.plan.Goals as goal

pub returns-in-Some-clause-planned : goal.returns-in-Some-clause-planned
returns-in-Some-clause-planned g c = λ told.
    let is : Some (asked c.in-Some.named) ≡ accepted (map string_bytes c.args.words.now) = ap (option_map asked) (sym c.in-Some.is) ∙ c.accept_two.ensures in
    IfOk-weaker c.load_listed.result _ _
    (λ t said. plan-some (map string_bytes c.args.words.now) (g.F.Files.held c.args.files.now) (asked c.in-Some.named) is ∙ said)
    (c.load_listed.ensures.planned told)

pub returns-in-Some-clause-ended : goal.returns-in-Some-clause-ended
returns-in-Some-clause-ended g c = λ told.
    let is : Some (asked c.in-Some.named) ≡ accepted (map string_bytes c.args.words.now) = ap (option_map asked) (sym c.in-Some.is) ∙ c.accept_two.ensures in
    subst (λ p. IfErr c.load_listed.result (IsEndOf p)) (sym (plan-some (map string_bytes c.args.words.now) (g.F.Files.held c.args.files.now) (asked c.in-Some.named) is))
    (c.load_listed.ensures.ended told)

pub returns-in-None-clause-ended : goal.returns-in-None-clause-ended
returns-in-None-clause-ended g c = λ told.
    let is : None ≡ accepted (map string_bytes c.args.words.now) = ap (option_map asked) (sym c.in-None.is) ∙ c.accept_two.ensures in
    words-ended (plan_of (map string_bytes c.args.words.now) (g.F.Files.held c.args.files.now)) c.refuse_words.result (plan-none (map string_bytes c.args.words.now) (g.F.Files.held c.args.files.now) is) c.refuse_words.ensures.ended
