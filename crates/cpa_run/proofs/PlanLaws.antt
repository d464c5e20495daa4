-- What plans answer.
use Rattle.std.proofs.Common.{◌≡◌, ℕ, List, Option, Some, None, refl, ap}
use Rattle.cpa_io.specs.Causes.{Rose}
use Rattle.cpa_model.specs.SystemLists.{SystemLists}
use Rattle.cpa_edit.specs.declared.script.Step.{Step}
use Rattle.cpa_words.specs.Words.{Asked, accepted, Session}
use Rattle.cpa_call.specs.declared.errors.InputError.{InputError}
use Rattle.cpa_call.specs.declared.errors.InputError.TheVariants.{Refused, Unread, Memory}
use Rattle.cpa_call.specs.Ends.{IsEndOf, IsUnreadFile, IsUnreadLine}
use Rattle.cpa_call.specs.Lines.{words_refused}
use Rattle.cpa_call.specs.Plans.{Held, Plan, Do, Refuse, and_then, system_in}
use Rattle.cpa_run.specs.Plan.{plan_for, plan_of, script_in}
use Rattle.cpa_run.specs.declared.request.Request.{Request}
use Rattle.cpa_run.specs.declared.request.Request.TheVariants as work

pub plan-some : (words : List (List ℕ)) (held : Held) (asked : Asked) → Some asked ≡ accepted words → plan_of words held ≡ plan_for held asked
unfolding plan_of
plan-some words held asked e = rw (← e) refl

pub plan-none : (words : List (List ℕ)) (held : Held) → None ≡ accepted words → plan_of words held ≡ Refuse 10 words_refused
unfolding plan_of
plan-none words held e = rw (← e) refl

-- where a file couldn't be loaded, the count of faults rose
pub unread-rose : (named : List ℕ → Type 0) (before now : ℕ) (last : List ℕ) (e : InputError) → IsUnreadFile named before now last e → IsUnreadLine (Rose before now) last e
unread-rose named before now last (Refused r) h = tt
unread-rose named before now last (Unread line) h = (h.1, h.2)
unread-rose named before now last Memory h = tt

-- an end comes before all that is planned next
then-ends : {A B : Type 0} (p : Plan A) (next : A → Plan B) (e : InputError) → IsEndOf p e → IsEndOf (and_then p next) e
then-ends p next (Refused r) end = ap (λ q. and_then q next) end
then-ends p next (Unread line) end = tt
then-ends p next Memory end = tt

-- a session, where the script is read after the system
pub session-planned : (held later : Held) (file script : List ℕ) (workers : ℕ) (s : SystemLists) (steps : List (ℕ × Step)) → later ≡ held → system_in held file ≡ Do s → script_in later script ≡ Do steps
    → plan_for held (Session file script workers) ≡ Do (work.Session s steps workers)
session-planned held later file script workers s steps same system read = rw (system, ← same, read) refl

pub session-ended : (held later : Held) (file script : List ℕ) (workers : ℕ) (s : SystemLists) (e : InputError) → later ≡ held → system_in held file ≡ Do s → IsEndOf (script_in later script) e
    → IsEndOf (plan_for held (Session file script workers)) e
session-ended held later file script workers s e same system end =
    rw (system, ← same) (then-ends (script_in later script) (λ steps. Do (work.Session s steps workers)) e end)
