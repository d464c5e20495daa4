-- The text of a session, step by step.
use Rattle.std.proofs.Common.{◌≡◌, ℕ, zero, suc, ◌+◌, ◌≤◌, List, [], ◌∷◌, ◌++◌, length, drop, slice_get, Option, Some, None, Ok, Err, refl, sym, ap, subst, ◌∙◌, arith}
use Rattle.std.specs.Prelude.{Result, option_map}
use Rattle.std.proofs.lemmas.List.{append_assoc, drop_more, drop_all}
use Rattle.std.proofs.lemmas.Option.{slice_get_within, get_or_from_slice_get}
use Rattle.cpa_io.specs.Causes.{grown, SentPart}
use Rattle.cpa_model.specs.SystemLists.{SystemLists}
use Rattle.cpa_model.specs.Rules.{IsSystem}
use Rattle.cpa_edit.specs.declared.edit.Edit.{Edit}
use Rattle.cpa_edit.specs.declared.edit.EditRefusal.{EditRefusal}
use Rattle.cpa_edit.specs.declared.script.Step.{Step}
use Rattle.cpa_edit.specs.declared.script.Step.TheVariants.{Report, Change}
use Rattle.cpa_edit.specs.Edited.{edited, edited_by, or_unchanged}
use Rattle.cpa_edit.proofs.EditLaws.{edits-keep_rules, edited-size}
use Rattle.cpa_call.specs.Answers.{Answer}
use Rattle.cpa_run.specs.Answers.{IsReport}
use Rattle.cpa_run.specs.Session.{led_by, edit_text, edits_of, system_after, with_edit, IsLed, IsStepText, IsSession}
use Rattle.cpa_run.specs.Steps.{IsWritten, IsWrittenPart, IsUnderWay}
use Rattle.cpa_edit.specs.Script.{AreNamed, IsNamedChange}
use Rattle.cpa_call.specs.Answers.{Sends, SendsPart}
use Rattle.cpa_call.proofs.SendLaws.{grown-none, grown-grown, part-after, part-first}
use Rattle.cpa_run.proofs.ReportLaws.{some-report, one-report}

kept-rules : (s : SystemLists) → IsSystem s → (r : Result SystemLists EditRefusal) → ((t : SystemLists) → r ≡ Ok t → IsSystem t) → IsSystem (or_unchanged s r)
kept-rules s rules (Ok t) keep = keep t refl
kept-rules s rules (Err number) keep = rules

pub after-rules : (s : SystemLists) → IsSystem s → (step : Step) → IsNamedChange step → IsSystem (system_after s step)
after-rules s rules Report named = rules
after-rules s rules (Change e) named = kept-rules s rules (edited s e) (λ t is. edits-keep_rules s rules e named t is)

kept-size : (s : SystemLists) (r : Result SystemLists EditRefusal) → ((t : SystemLists) → r ≡ Ok t → t.size ≡ s.size) → (or_unchanged s r).size ≡ s.size
kept-size s (Ok t) keep = keep t refl
kept-size s (Err number) keep = refl

-- no step changes the size of a system
pub after-size : (s : SystemLists) (step : Step) → (system_after s step).size ≡ s.size
after-size s Report = refl
after-size s (Change e) = kept-size s (edited s e) (λ t is. edited-size s e t is)

-- there is a text

pub some-step : (s : SystemLists) → IsSystem s → (line : ℕ) (step : Step) → (text : List ℕ) × IsStepText s line step text
some-step s rules line Report = let r = some-report s rules in (r.0.text, (r.0, r.1, refl))
some-step s rules line (Change e) = (edit_text line (edited s e), refl)

named-head : (step : ℕ × Step) (rest : List (ℕ × Step)) → AreNamed (step ∷ rest) → IsNamedChange step.1
named-head step rest named = named 0 step (omega arith)

named-tail : (step : ℕ × Step) (rest : List (ℕ × Step)) → AreNamed (step ∷ rest) → AreNamed rest
named-tail step rest named = λ k d below. named (suc k) d (omega (arith, below))

pub some-session : (steps : List (ℕ × Step)) (s : SystemLists) → IsSystem s → AreNamed steps → (answer : Answer) × IsSession s steps answer
some-session [] s rules named = some-report s rules
some-session (step ∷ rest) s rules named =
    let first = some-step s rules step.0 step.1 in
    let later = some-session rest (system_after s step.1) (after-rules s rules step.1 (named-head step rest named)) (named-tail step rest named) in
    (led_by first.0 later.0, record { text = first.0; later = later.0; is_text = first.1; is_later = later.1; answer_is = refl })

-- and one only

one-step : (s : SystemLists) (line : ℕ) (step : Step) (a b : List ℕ) → IsStepText s line step a → IsStepText s line step b → a ≡ b
one-step s line Report a b h k = h.2 ∙ ap (λ (x : Answer). x.text) (one-report s h.0 k.0 h.1 k.1) ∙ sym k.2
one-step s line (Change e) a b h k = h ∙ sym k

pub one-session : (steps : List (ℕ × Step)) (s : SystemLists) (a b : Answer) → IsSession s steps a → IsSession s steps b → a ≡ b
one-session [] s a b h k = one-report s a b h k
one-session (step ∷ rest) s a b h k =
    let text = one-step s step.0 step.1 h.text k.text h.is_text k.is_text in
    let later = one-session rest (system_after s step.1) h.later k.later h.is_later k.is_later in
    h.answer_is ∙ ap (λ x. led_by x h.later) text ∙ ap (led_by k.text) later ∙ sym k.answer_is

-- under way

led-led : (a b : List ℕ) (later : Answer) → led_by a (led_by b later) ≡ led_by (a ++ b) later
led-led a b later = λ i. record { status = later.status; text = sym (append_assoc a b later.text) i }

-- what comes last

led-more : (text : List ℕ) (rest : Answer → Type 0) (later answer : Answer) → answer ≡ led_by text later → IsLed (λ before. Unit {0}) rest later → IsLed (λ before. Unit {0}) rest answer
led-more text rest later answer is h = record {
  text = text ++ h.text;
  later = h.later;
  is_text = tt;
  is_later = h.is_later;
  answer_is = is ∙ ap (led_by text) h.answer_is ∙ led-led text h.text h.later;
}

edited-step : (s : SystemLists) (step : Step) (rest : List Edit) → edited_by (system_after s step) rest ≡ edited_by s (with_edit step rest)
unfolding edited_by
edited-step s Report rest = refl
edited-step s (Change e) rest = refl

pub ends-edited : (steps : List (ℕ × Step)) (s : SystemLists) (answer : Answer) → IsSession s steps answer → IsLed (λ before. Unit {0}) (IsReport (edited_by s (edits_of steps))) answer
unfolding edited_by
ends-edited [] s answer h = record { text = []; later = answer; is_text = tt; is_later = h; answer_is = refl }
ends-edited (step ∷ rest) s answer h =
    led-more h.text (IsReport (edited_by s (edits_of (step ∷ rest)))) h.later answer h.answer_is
    (subst (λ (t : SystemLists). IsLed (λ before. Unit {0}) (IsReport t) h.later) (edited-step s step.1 (edits_of rest)) (ends-edited rest (system_after s step.1) h.later h.is_later))

drop-at : (steps : List (ℕ × Step)) (k : ℕ) (step : ℕ × Step) → slice_get steps k ≡ Some step → drop k steps ≡ step ∷ drop (k + 1) steps
drop-at steps k step is =
    drop_more steps k step (slice_get_within steps k step is) ∙ ap (λ x. x ∷ drop (k + 1) steps) (get_or_from_slice_get steps k step step is)

pub step-of : (o : Option (ℕ × Step)) (line : ℕ) (step : Step) → option_map (λ s. s.0) o ≡ Some line → option_map (λ s. s.1) o ≡ Some step → o ≡ Some (line, step)
step-of None line step h k = cc
step-of (Some x) line step h k =
    let a : x.0 ≡ line = cc in
    let b : x.1 ≡ step = cc in
    λ i. Some (a i, b i)

named-at : (steps : List (ℕ × Step)) (k : ℕ) (step : ℕ × Step) → slice_get steps k ≡ Some step → AreNamed steps → IsNamedChange step.1
named-at steps k step is named = subst (λ (step : ℕ × Step). IsNamedChange step.1) (get_or_from_slice_get steps k step step is) (named k step (slice_get_within steps k step is))

named-drop : (steps : List (ℕ × Step)) (k : ℕ) → AreNamed steps → AreNamed (drop k steps)
named-drop steps zero named = named
named-drop [] (suc k) named = named
named-drop (step ∷ rest) (suc k) named = named-drop rest k (named-tail step rest named)

pub under-way-start : (s : SystemLists) (steps : List (ℕ × Step)) (sent : Option (List ℕ)) → IsSystem s → IsUnderWay s steps 0 s sent sent
under-way-start s steps sent rules = record { text = []; sent = grown-none sent; rules = rules; goes_on = λ later h. h }

goes-on : (s : SystemLists) (steps : List (ℕ × Step)) (k : ℕ) (t : SystemLists) (before mid : Option (List ℕ)) (line : ℕ) (step : Step) (text : List ℕ)
    → (u : IsUnderWay s steps k t before mid) → slice_get steps k ≡ Some (line, step) → IsStepText t line step text
    → (later : Answer) → IsSession (system_after t step) (drop (k + 1) steps) later → IsSession s steps (led_by u.text (led_by text later))
goes-on s steps k t before mid line step text u is is_text later h =
    let led : IsSession t ((line, step) ∷ drop (k + 1) steps) (led_by text later) = record { text = text; later = later; is_text = is_text; is_later = h; answer_is = refl } in
    u.goes_on (led_by text later) (subst (λ x. IsSession t x (led_by text later)) (sym (drop-at steps k (line, step) is)) led)

pub under-way-more : (s : SystemLists) (steps : List (ℕ × Step)) (k : ℕ) (t : SystemLists) (before mid now : Option (List ℕ)) (line : ℕ) (step : Step) → AreNamed steps
    → IsUnderWay s steps k t before mid → slice_get steps k ≡ Some (line, step) → IsWritten t line step mid now
    → IsUnderWay s steps (k + 1) (system_after t step) before now
under-way-more s steps k t before mid now line step named u is w = record {
  text = u.text ++ w.text;
  sent = w.sent ∙ ap (λ x. grown x w.text) u.sent ∙ grown-grown before u.text w.text;
  rules = after-rules t u.rules step (named-at steps k (line, step) is named);
  goes_on = λ later h. subst (IsSession s steps) (led-led u.text w.text later) (goes-on s steps k t before mid line step w.text u is w.is_text later h);
}

pub part-step : (s : SystemLists) (steps : List (ℕ × Step)) (k : ℕ) (t : SystemLists) (before mid now : Option (List ℕ)) (line : ℕ) (step : Step) → AreNamed steps
    → IsUnderWay s steps k t before mid → slice_get steps k ≡ Some (line, step) → IsWrittenPart t line step mid now
    → SendsPart (IsSession s steps) before now
part-step s steps k t before mid now line step named u is w =
    let some = some-session (drop (k + 1) steps) (system_after t step) (after-rules t u.rules step (named-at steps k (line, step) is named)) (named-drop steps (k + 1) named) in
    record {
      answer = led_by u.text (led_by w.text some.0);
      is_output = goes-on s steps k t before mid line step w.text u is w.is_text some.0 some.1;
      part = part-after before mid now u.text (w.text ++ some.0.text) u.sent (part-first mid now w.text some.0.text w.part);
    }

goes-out : (s : SystemLists) (steps : List (ℕ × Step)) (k : ℕ) (t : SystemLists) (before mid : Option (List ℕ)) → length steps ≤ k
    → (u : IsUnderWay s steps k t before mid) → (later : Answer) → IsReport t later → IsSession s steps (led_by u.text later)
goes-out s steps k t before mid all u later h = u.goes_on later (subst (λ x. IsSession t x later) (sym (drop_all k steps all)) h)

pub sends-session : (s : SystemLists) (steps : List (ℕ × Step)) (k : ℕ) (t : SystemLists) (status : ℕ) (before mid now : Option (List ℕ)) → length steps ≤ k
    → IsUnderWay s steps k t before mid → Sends (IsReport t) status mid now → Sends (IsSession s steps) status before now
sends-session s steps k t status before mid now all u r = record {
  answer = led_by u.text r.answer;
  is_output = goes-out s steps k t before mid all u r.answer r.is_output;
  status_is = r.status_is;
  sent = r.sent ∙ ap (λ x. grown x r.answer.text) u.sent ∙ grown-grown before u.text r.answer.text;
}

pub part-session : (s : SystemLists) (steps : List (ℕ × Step)) (k : ℕ) (t : SystemLists) (before mid now : Option (List ℕ)) → length steps ≤ k
    → IsUnderWay s steps k t before mid → SendsPart (IsReport t) mid now → SendsPart (IsSession s steps) before now
part-session s steps k t before mid now all u r = record {
  answer = led_by u.text r.answer;
  is_output = goes-out s steps k t before mid all u r.answer r.is_output;
  part = part-after before mid now u.text r.answer.text u.sent r.part;
}

-- the text of an edit
pub written-change : (s : SystemLists) (line : ℕ) (e : Edit) (r : Result SystemLists EditRefusal) (before now : Option (List ℕ)) → edited s e ≡ r → now ≡ grown before (edit_text line r) → IsWritten s line (Change e) before now
written-change s line e r before now is sent = record { text = edit_text line r; is_text = ap (edit_text line) (sym is); sent = sent }

pub part-change : (s : SystemLists) (line : ℕ) (e : Edit) (r : Result SystemLists EditRefusal) (before now : Option (List ℕ)) → edited s e ≡ r → SentPart before now (edit_text line r) → IsWrittenPart s line (Change e) before now
part-change s line e r before now is part = record { text = edit_text line r; is_text = ap (edit_text line) (sym is); part = part }

pub change-unchanged : (s t : SystemLists) (e : Edit) (number : EditRefusal) → edited s e ≡ Err number → t ≡ s → t ≡ system_after s (Change e)
change-unchanged s t e number is same = rw is same
