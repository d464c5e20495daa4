-- There is an output of each call, and one only.
use Rattle.std.proofs.Common.{◌≡◌, ℕ, List, [], Option, Some, None, refl, sym, ◌∙◌, inl, inr}
use Rattle.std.specs.Prelude.{IfSome}
use Rattle.cpa_sim.specs.Outcome.{outcome_of}
use Rattle.cpa_sim.specs.SimText.{sim_text}
use Rattle.cpa_words.specs.Words.{Asked, Analyse, Session, Simulate, Generate, Load, Hammer, Assign, Slack, Buffers, Audit, IsWithin, accepted}
use Rattle.cpa_words.proofs.WithinLaws.{accepted_within}
use Rattle.cpa_gen.specs.MadeSystems.{made_system}
use Rattle.cpa_call.specs.Answers.{Answer, reply, SendsPart}
use Rattle.cpa_call.specs.Lines.{words_refused}
use Rattle.cpa_call.specs.Plans.{Held, Plan, Do, Refuse, Missing, and_then, system_in, traced_in}
use Rattle.cpa_call.proofs.PlanLaws.{planned-system, planned-traced}
use Rattle.cpa_call.proofs.SendLaws.{nothing-sent}
use Rattle.cpa_run.specs.declared.request.Request.{Request}
use Rattle.cpa_run.specs.declared.request.Request.TheVariants as work
use Rattle.cpa_run.specs.Plan.{script_in, schedule_in, orderable_in, task_in, plan_for, plan_by, plan_of}
use Rattle.cpa_run.specs.Output.{IsAnswerTo, IsOutput, HasAnswer, AreAlike, SendsSome}
use Rattle.cpa_run.specs.Request.{audited}
use Rattle.cpa_run.proofs.BufferLaws.{some-buffered, one-buffered}
use Rattle.cpa_run.proofs.GrowthLaws.{some-assigned, one-assigned, some-growth, one-growth}
use Rattle.cpa_run.proofs.MadeLaws.{some-summary, one-summary, some-hammered, one-hammered}
use Rattle.cpa_run.proofs.PlannedLaws.{planned-script, planned-resource, planned-task}
use Rattle.cpa_run.proofs.ReportLaws.{some-report, one-report}
use Rattle.cpa_run.proofs.SessionLaws.{some-session, one-session}

-- ---- there is one: a plan has an answer where each plan that it may go on with has

some-then : {A : Type 0} (p : Plan A) (next : A → Plan Request) → ((it : A) → p ≡ Do it → HasAnswer (next it)) → HasAnswer (and_then p next)
some-then (Do it) next each = each it refl
some-then (Refuse status line) next each = (reply status line, refl)
some-then Missing next each = (record { status = None; text = [] }, refl)

some-for : (held : Held) (asked : Asked) → IsWithin asked → HasAnswer (plan_for held asked)
some-for held (Analyse file workers) within =
    some-then (system_in held file) (λ s. Do (work.Analyse s workers)) (λ s is. some-report s (planned-system held file s is))
some-for held (Session file script workers) within =
    some-then (system_in held file) (λ s. and_then (script_in held script) (λ steps. Do (work.Session s steps workers)))
    (λ s is. some-then (script_in held script) (λ steps. Do (work.Session s steps workers)) (λ steps read. some-session steps s (planned-system held file s is) (planned-script held script steps read)))
some-for held (Simulate file trace) within =
    some-then (traced_in held file trace) (λ t. Do (work.Simulate t.system t.trace)) (λ t is. (reply 0 (sim_text t.system (outcome_of t.system t.trace)), refl))
some-for held (Generate number size) within = tt
some-for held (Load number size workers) within = some-summary number size within.1
some-for held (Hammer file number traces) within =
    some-then (system_in held file) (λ s. Do (work.Hammer s number traces)) (λ s is. some-hammered s number traces (planned-system held file s is))
some-for held (Assign file resource) within =
    some-then (system_in held file) (λ s. and_then (orderable_in s resource) (λ r. Do (work.Assign s r)))
    (λ s is. some-then (orderable_in s resource) (λ r. Do (work.Assign s r)) (λ r found. some-assigned s r.0 (planned-system held file s is) (planned-resource s resource r found)))
some-for held (Slack file task workers) within =
    some-then (system_in held file) (λ s. and_then (task_in s task) (λ i. Do (work.Slack s i workers)))
    (λ s is. some-then (task_in s task) (λ i. Do (work.Slack s i workers)) (λ i found. some-growth s i.0 (planned-system held file s is) (planned-task s task i found)))
some-for held (Buffers file trace workers) within =
    some-then (traced_in held file trace) (λ t. Do (work.Buffers t.system t.trace workers)) (λ t is. some-buffered t.system t.trace (planned-traced held file trace t is))
some-for held (Audit file trace schedule) within =
    some-then (traced_in held file trace) (λ t. and_then (schedule_in held t.system schedule) (λ segments. Do (work.Audit t.system t.trace segments)))
    (λ t is. some-then (schedule_in held t.system schedule) (λ segments. Do (work.Audit t.system t.trace segments)) (λ segments read. (audited t.system t.trace segments, refl)))

some-by : (held : Held) (o : Option Asked) → IfSome o IsWithin → HasAnswer (plan_by held o)
some-by held None within = (reply 10 words_refused, refl)
some-by held (Some asked) within = some-for held asked within

pub some-output : (words : List (List ℕ)) (held : Held) → HasAnswer (plan_of words held)
unfolding plan_of
some-output words held = some-by held (accepted words) (accepted_within words)

-- where nothing was sent yet
nothing-of : (plan : Plan Request) (sent : Option (List ℕ)) → HasAnswer plan → SendsSome plan sent sent
nothing-of (Do (work.Generate number size)) sent some = inl refl
nothing-of plan sent some = nothing-sent (IsAnswerTo plan) some sent

pub nothing-yet : (words : List (List ℕ)) (held : Held) (sent : Option (List ℕ)) → SendsSome (plan_of words held) sent sent
nothing-yet words held sent = nothing-of (plan_of words held) sent (some-output words held)

-- where a part was
pub some-part : (plan : Plan Request) (before now : Option (List ℕ)) → SendsPart (IsAnswerTo plan) before now → SendsSome plan before now
some-part (Do (work.Generate number size)) before now part = inr part
some-part plan before now part = part

-- ---- and only one

one-answer : (plan : Plan Request) (a b : Answer) → IsAnswerTo plan a → IsAnswerTo plan b → AreAlike plan a b
one-answer (Do (work.Analyse s workers)) a b h k = one-report s a b h k
one-answer (Do (work.Session s steps workers)) a b h k = one-session steps s a b h k
one-answer (Do (work.Simulate s tr)) a b h k = h ∙ sym k
one-answer (Do (work.Generate number size)) a b h k = (h.status_is ∙ sym k.status_is, h.stands ∙ sym k.stands)
one-answer (Do (work.Load number size workers)) a b h k = one-summary number size (made_system number size) a b h k
one-answer (Do (work.Hammer s number traces)) a b h k = one-hammered s number traces a b h k
one-answer (Do (work.Assign s r)) a b h k = one-assigned s r.0 a b h k
one-answer (Do (work.Slack s i workers)) a b h k = one-growth s i.0 a b h k
one-answer (Do (work.Buffers s tr workers)) a b h k = one-buffered s tr a b h k
one-answer (Do (work.Audit s tr schedule)) a b h k = h ∙ sym k
one-answer (Refuse status line) a b h k = h ∙ sym k
one-answer Missing a b h k = h ∙ sym k

pub one-output : (words : List (List ℕ)) (held : Held) (a b : Answer) → IsOutput words held a → IsOutput words held b → AreAlike (plan_of words held) a b
one-output words held = one-answer (plan_of words held)
