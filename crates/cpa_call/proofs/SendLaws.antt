-- What was sent, as parts of texts.
use Rattle.std.proofs.Common.{◌≡◌, ℕ, ◌+◌, List, [], ◌++◌, length, take, Option, Some, None, Ok, Err, OnOk, OnErr, IfOk, refl, sym, ap, subst, ◌∙◌, arith}
use Rattle.std.specs.Prelude.{Result}
use Rattle.std.proofs.lemmas.List.{append-nil, append_assoc, length-append, take-append-le}
use Rattle.std.proofs.Math.Seq.{take-append-add}
use Rattle.cpa_io.specs.Causes.{grown, SentPart}
use Rattle.cpa_call.specs.Answers.{Answer, reply, Sends, SendsPart}

pub grown-none : (sent : Option (List ℕ)) → sent ≡ grown sent []
grown-none None = refl
grown-none (Some before) = ap Some (sym (append-nil before))

pub grown-grown : (before : Option (List ℕ)) (a b : List ℕ) → grown (grown before a) b ≡ grown before (a ++ b)
grown-grown None a b = refl
grown-grown (Some x) a b = ap Some (append_assoc x a b)

-- nothing was sent
pub sent-nothing : (sent : Option (List ℕ)) (text : List ℕ) → SentPart sent sent text
sent-nothing sent text = record { count = 0; within = omega arith; sent = grown-none sent }

pub nothing-sent : (P : Answer → Type 0) → ((answer : Answer) × P answer) → (sent : Option (List ℕ)) → SendsPart P sent sent
nothing-sent P some sent = record { answer = some.0; is_output = some.1; part = sent-nothing sent some.0.text }

-- a text was sent, whole or in part
pub sends-reply : (P : Answer → Type 0) (status : ℕ) (text : List ℕ) (before now : Option (List ℕ)) → P (reply status text) → now ≡ grown before text → Sends P status before now
sends-reply P status text before now is sent = record { answer = reply status text; is_output = is; status_is = refl; sent = sent }

pub part-reply : (P : Answer → Type 0) (status : ℕ) (text : List ℕ) (before now : Option (List ℕ)) → P (reply status text) → SentPart before now text → SendsPart P before now
part-reply P status text before now is part = record { answer = reply status text; is_output = is; part = part }

-- a part of a second text, after a first
pub part-after : (before mid now : Option (List ℕ)) (a b : List ℕ) → mid ≡ grown before a → SentPart mid now b → SentPart before now (a ++ b)
part-after before mid now a b is h = record {
  count = length a + h.count;
  within = let l = length-append a b in let w = h.within in omega arith;
  sent = h.sent ∙ ap (λ x. grown x (take h.count b)) is ∙ grown-grown before a (take h.count b) ∙ ap (grown before) (sym (take-append-add a b h.count));
}

-- a part of a first text
pub part-first : (before now : Option (List ℕ)) (a b : List ℕ) → SentPart before now a → SentPart before now (a ++ b)
part-first before now a b h = record {
  count = h.count;
  within = let l = length-append a b in let w = h.within in omega arith;
  sent = h.sent ∙ ap (grown before) (sym (take-append-le h.count a b h.within));
}

pub on-err-any : {A E : Type 0} (r : Result A E) (P : Type 0) → P → OnErr r P
on-err-any (Ok x) P p = tt
on-err-any (Err e) P p = p

-- what the sending of a text says
pub sends-by : {E : Type 0} (P : Answer → Type 0) (status : ℕ) (text : List ℕ) (before now : Option (List ℕ)) (r : Result ℕ E) → P (reply status text)
    → OnOk r (now ≡ grown before text) → IfOk r (λ told. told ≡ status) → IfOk r (λ told. Sends P told before now)
sends-by P status text before now (Ok told) is sent same = subst (λ x. Sends P x before now) (sym same) (sends-reply P status text before now is sent)
sends-by P status text before now (Err e) is sent same = sent
