-- What is answered of an order and of a growth: there is an answer, and one only.
use Rattle.std.proofs.Common.{◌≡◌, ◌<◌, ℕ, List, length, Option, Some, None, refl, sym, ap, ◌∙◌}
use Rattle.std.specs.Prelude.{option_map}
use Rattle.std.proofs.lemmas.Option.{none-some}
use Rattle.std.proofs.lemmas.List.Quantifiers.{position-Some}
use Rattle.cpa_units.specs.declared.places.ResId.{ResId}
use Rattle.cpa_units.specs.declared.places.TaskId.{TaskId}
use Rattle.cpa_model.specs.Rules.{IsSystem}
use Rattle.cpa_model.specs.SystemLists.{SystemLists, resource_named, task_named, no_resource, no_task}
use Rattle.cpa_local.specs.Solution.{least_of}
use Rattle.cpa_assign.specs.Orders.{IsOrderOf, IsOrderable, with_order}
use Rattle.cpa_assign.specs.OrderText.{assign_text}
use Rattle.cpa_local.proofs.SolutionLaws.{least_of-is_least}
use Rattle.cpa_sound.proofs.Soundness.{least_solutions_bound_every_run}
use Rattle.cpa_assign.proofs.DecidedLaws.{orders_are_decided}
use Rattle.cpa_assign.proofs.KeptLaws.{order_keeps_rules}
use Rattle.cpa_assign.proofs.OneOrderLaws.{best_order_is_one}
use Rattle.cpa_slack.specs.declared.slack.Slack.{Slack}
use Rattle.cpa_slack.specs.Slack.{IsSlack, longer}
use Rattle.cpa_slack.specs.SlackText.{slack_text}
use Rattle.cpa_slack.proofs.OneSlackLaws.{slack_exists, slack_is_one}
use Rattle.cpa_slack.proofs.SlackLaws.{longer-rules}
use Rattle.cpa_call.specs.Answers.{Answer, reply}
use Rattle.cpa_run.specs.Request.{IsAssigned, order_status, IsGrowth, slack_status}

-- who is named is there
res_at : (o : Option ℕ) (r : ResId) → option_map (λ k. record { 0 = k }) o ≡ Some r → o ≡ Some r.0
res_at None r e = absurd (none-some _ e)
res_at (Some k) r e = ap (option_map (λ (q : ResId). q.0)) e

pub resource-there : (s : SystemLists) (name : List ℕ) (r : ResId) → resource_named s name ≡ Some r → r.0 < length s.resources
resource-there s name r e = (position-Some _ s.resources r.0 no_resource (res_at _ r e)).0

task_at_place : (o : Option ℕ) (i : TaskId) → option_map (λ k. record { 0 = k }) o ≡ Some i → o ≡ Some i.0
task_at_place None i e = absurd (none-some _ e)
task_at_place (Some k) i e = ap (option_map (λ (q : TaskId). q.0)) e

pub task-there : (s : SystemLists) (name : List ℕ) (i : TaskId) → task_named s name ≡ Some i → i.0 < length s.tasks
task-there s name i e = (position-Some _ s.tasks i.0 no_task (task_at_place _ i e)).0

-- ---- orders

pub assigned-at : (s : SystemLists) (r : ℕ) (order : Option (List TaskId)) → IsSystem s → IsOrderable s r → IsOrderOf s r order → IsAssigned s r (reply (order_status order) (assign_text s r order))
assigned-at s r order rules able is =
    record {
      order = order;
      is_best = is;
      hold = λ o ordered.
          let kept = order_keeps_rules s r o rules able.kind ordered in
          least_solutions_bound_every_run (with_order s r o) (least_of (with_order s r o)) kept (least_of-is_least (with_order s r o) kept);
      status_is = refl;
      text_is = refl;
    }

pub some-assigned : (s : SystemLists) (r : ℕ) → IsSystem s → IsOrderable s r → (answer : Answer) × IsAssigned s r answer
some-assigned s r rules able =
    let it = orders_are_decided s r rules able in
    (reply (order_status it.0) (assign_text s r it.0), assigned-at s r it.0 rules able it.1)

pub one-assigned : (s : SystemLists) (r : ℕ) (a b : Answer) → IsAssigned s r a → IsAssigned s r b → a ≡ b
one-assigned s r a b h k =
    let same = best_order_is_one s r h.order k.order h.is_best k.is_best in
    let status : a.status ≡ b.status = h.status_is ∙ ap (λ o. Some (order_status o)) same ∙ sym k.status_is in
    let text : a.text ≡ b.text = h.text_is ∙ ap (assign_text s r) same ∙ sym k.text_is in
    λ i. record { status = status i; text = text i }

-- ---- growths

pub growth-at : (s : SystemLists) (i : ℕ) (slack : Slack) → IsSystem s → i < length s.tasks → IsSlack s i slack → IsGrowth s i (reply (slack_status slack) (slack_text s i slack))
growth-at s i slack rules there is =
    record {
      slack = slack;
      is_most = is;
      hold = λ k few.
          let kept = longer-rules s i k rules there few in
          least_solutions_bound_every_run (longer s i k) (least_of (longer s i k)) kept (least_of-is_least (longer s i k) kept);
      status_is = refl;
      text_is = refl;
    }

pub some-growth : (s : SystemLists) (i : ℕ) → IsSystem s → i < length s.tasks → (answer : Answer) × IsGrowth s i answer
some-growth s i rules there =
    let it = slack_exists s i rules there in
    (reply (slack_status it.0) (slack_text s i it.0), growth-at s i it.0 rules there it.1)

pub one-growth : (s : SystemLists) (i : ℕ) (a b : Answer) → IsGrowth s i a → IsGrowth s i b → a ≡ b
one-growth s i a b h k =
    let same = slack_is_one s i h.slack k.slack h.is_most k.is_most in
    let status : a.status ≡ b.status = h.status_is ∙ ap (λ o. Some (slack_status o)) same ∙ sym k.status_is in
    let text : a.text ≡ b.text = h.text_is ∙ ap (slack_text s i) same ∙ sym k.text_is in
    λ i. record { status = status i; text = text i }
