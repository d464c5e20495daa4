-- What a call owes, from what its last step says.
use Rattle.std.proofs.Common.{◌≡◌, ◌≢◌, ◌≤◌, ◌⊎◌, ℕ, true, List, [], Option, Ok, Err, IfOk, refl, sym, ap, subst, ◌∙◌, inl, inr, arith}
use Rattle.std.specs.Prelude.{Result, OnErr}
use Rattle.std.proofs.lemmas.Result.{on_err_weaker}
use Rattle.cpa_units.specs.declared.places.NoMemory.{NoMemory}
use Rattle.cpa_io.specs.Causes.{grown, Rose, SentPart}
use Rattle.cpa_call.specs.declared.errors.InputError.{InputError}
use Rattle.cpa_call.specs.declared.errors.InputError.TheVariants.{Refused, Unread, Memory}
use Rattle.cpa_call.specs.declared.errors.OutputError.{OutputError}
use Rattle.cpa_call.specs.declared.errors.OutputError.TheVariants as stopped
use Rattle.cpa_call.specs.declared.errors.Reply.{Reply}
use Rattle.cpa_call.specs.Answers.{Answer, reply, IsOfOutput, Sends, SendsPart}
use Rattle.cpa_call.specs.Calls.{Loaded, Sent, MeetsCall, SendsText, SendsNothing, SendsReply, SendsEnd, MeetsAnswer, status_by}
use Rattle.cpa_call.specs.Ends.{IsEndOf, HasStatus, IsUnreadLine, IsWordsEnd}
use Rattle.cpa_call.specs.Lines.{cannot_read, words_refused}
use Rattle.cpa_call.specs.Plans.{Plan, Do, Refuse, Missing}
use Rattle.cpa_call.proofs.SendLaws.{nothing-sent, sends-by, part-reply}

-- ---- work that sends its answer

-- a right text was sent
pub text-answer : (O : Answer → Type 0) (status : ℕ) (text : List ℕ) (k : Sent) (r : Result ℕ OutputError) → O (reply status text) → IsOfOutput status → SendsText status text k r → MeetsAnswer O k r
text-answer O status text k r is decides h = record {
  sends = sends-by O status text k.before k.now r is h.sent h.told;
  status = told r h.told;
  part = on_err_weaker r (λ part. inr (part-reply O status text k.before k.now is part)) h.part;
  failed = h.failed;
}
  where
    told : (r : Result ℕ OutputError) → IfOk r (λ told. told ≡ status) → IfOk r IsOfOutput
    told (Ok s) same = subst IsOfOutput (sym same) decides
    told (Err e) none = none

-- nothing was
pub nothing-answer : (O : Answer → Type 0) (k : Sent) (r : Result ℕ OutputError) → SendsNothing k r → MeetsAnswer O k r
nothing-answer O k (Ok s) h = let no : ⊥ = cc in absurd no
nothing-answer O k (Err stopped.Sink) h = let no : ⊥ = cc in absurd no
nothing-answer O k (Err stopped.Memory) h = record {
  sends = tt;
  status = tt;
  part = inl h.1;
  failed = λ sink. let no : ⊥ = cc in absurd no;
}

-- a right reply was sent, or there was none
pub reply-answer : (O : Answer → Type 0) (made : Result Reply NoMemory) (k : Sent) (r : Result ℕ OutputError) → IfOk made (λ q. O (reply q.status q.text.items)) → IfOk made (λ q. IsOfOutput q.status) → SendsReply made k r → MeetsAnswer O k r
reply-answer O (Ok q) k r is decides h = text-answer O q.status q.text.items k r is decides h
reply-answer O (Err none) k r is decides h = nothing-answer O k r h

-- a right verdict was, or there was none
pub verdict-answer : (status : ℕ) (text : List ℕ) (made : Result Reply NoMemory) (k : Sent) (r : Result ℕ OutputError)
    → IfOk made (λ q. q.text.items ≡ text) → IfOk made (λ q. q.status ≡ status) → IfOk made (λ q. q.status ≤ 2) → SendsReply made k r → MeetsAnswer (λ a. a ≡ reply status text) k r
verdict-answer status text (Ok q) k r same told small h =
    text-answer (λ a. a ≡ reply status text) q.status q.text.items k r (λ i. reply (told i) (same i)) (omega (arith, small), omega (arith, small), omega (arith, small)) h
verdict-answer status text (Err none) k r same told small h = nothing-answer (λ a. a ≡ reply status text) k r h

-- ---- the call above it

module _ (O : Answer → Type 0) (P : Option (List ℕ) → Option (List ℕ) → Type 0) (U : Type 0) (f : Loaded) (k : Sent) where
  -- the answer was sent
  meets-answered : (status : ℕ) → (f.told ≡ true → Sends O status k.before k.now) → IsOfOutput status → MeetsCall O P U f k status
  meets-answered status answered is = record {
    answered = λ told of. answered told;
    complete = λ told read sunk enough. answered told;
    unread = λ eleven. absurd (is.0 eleven);
    unread_line = λ eleven. absurd (is.0 eleven);
    unsent = λ twenty. absurd (is.1 twenty);
    part = λ told either. elim either [ inl twenty ↦ absurd (is.1 twenty) | inr thirty ↦ absurd (is.2 thirty) ];
  }

  -- the line of a file that couldn't be loaded was
  meets-unread : U → (U → Rose f.before f.now) → k.now ≡ grown k.before (cannot_read f.last) → MeetsCall O P U f k 11
  meets-unread unread rose line = record {
    answered = λ told of. absurd (of.0 refl);
    complete = λ told read sunk enough. absurd (read (rose unread));
    unread = λ eleven. unread;
    unread_line = λ eleven. line;
    unsent = λ twenty. absurd (omega (arith, twenty));
    part = λ told either. elim either [ inl twenty ↦ absurd (omega (arith, twenty)) | inr thirty ↦ absurd (omega (arith, thirty)) ];
  }

  -- the sink failed, or memory ran out
  meets-stop : (e : OutputError) → (e ≡ stopped.Sink → Rose k.faults_before k.faults_now)
      → (f.told ≡ true → P k.before k.now ⊎ (U × SentPart k.before k.now (cannot_read f.last)))
      → MeetsCall O P U f k (status_by (Err e))
  meets-stop stopped.Sink failed part = record {
    answered = λ told of. absurd (of.1 refl);
    complete = λ told read sunk enough. absurd (sunk (failed refl));
    unread = λ eleven. absurd (omega (arith, eleven));
    unread_line = λ eleven. absurd (omega (arith, eleven));
    unsent = λ twenty. failed refl;
    part = λ told either. part told;
  }
  meets-stop stopped.Memory failed part = record {
    answered = λ told of. absurd (of.2 refl);
    complete = λ told read sunk enough. absurd (enough refl);
    unread = λ eleven. absurd (omega (arith, eleven));
    unread_line = λ eleven. absurd (omega (arith, eleven));
    unsent = λ twenty. absurd (omega (arith, twenty));
    part = λ told either. part told;
  }

-- answers stand by plans, a refusal is its status and its line, and what may have been sent is nothing or a part of an answer
module _ {X : Type 0} (A : Plan X → Answer → Type 0) (P : Option (List ℕ) → Option (List ℕ) → Type 0) (U : Type 0) (f : Loaded) (k : Sent) (plan : Plan X)
    (none : P k.before k.before) (some : SendsPart (A plan) k.before k.now → P k.before k.now) where
  answered-part : (known : Plan X) → plan ≡ known → (k.now ≡ k.before) ⊎ SendsPart (A known) k.before k.now → P k.before k.now
  answered-part known is part =
      elim part [
        | inl same ↦ subst (P k.before) (sym same) none
        | inr sent ↦ some (subst (λ p. SendsPart (A p) k.before k.now) (sym is) sent)
      ]

  answered-by : (known : Plan X) (r : Result ℕ OutputError) → (f.told ≡ true → plan ≡ known) → MeetsAnswer (A known) k r → MeetsCall (A plan) P U f k (status_by r)
  answered-by known (Ok s) is h = meets-answered (A plan) P U f k s (λ told. subst (λ p. Sends (A p) s k.before k.now) (sym (is told)) h.sends) h.status
  answered-by known (Err e) is h = meets-stop (A plan) P U f k e (λ sink. h.failed (ap Err sink)) (λ told. inl (answered-part known (is told) h.part))

  -- work was done that is known where files say what they hold
  pub meets-work : (known : Plan X) (r : Result ℕ OutputError) (status : ℕ) → status ≡ status_by r → (f.told ≡ true → plan ≡ known) → MeetsAnswer (A known) k r → MeetsCall (A plan) P U f k status
  meets-work known r status is planned h = subst (MeetsCall (A plan) P U f k) (sym is) (answered-by known r planned h)

  unread-by : (line : List ℕ) (r : Result ℕ OutputError) → line ≡ cannot_read f.last → U → (U → Rose f.before f.now) → SendsText 11 line k r → MeetsCall (A plan) P U f k (status_by r)
  unread-by line (Ok s) is known rose h = subst (MeetsCall (A plan) P U f k) (sym h.told) (meets-unread (A plan) P U f k known rose (h.sent ∙ ap (grown k.before) is))
  unread-by line (Err e) is known rose h = meets-stop (A plan) P U f k e (λ sink. h.failed (ap Err sink)) (λ told. inr (known, subst (SentPart k.before k.now) is h.part))

  ended-by : (e : InputError) (r : Result ℕ OutputError) → ((status : ℕ) (line : List ℕ) → A (Refuse status line) (reply status line)) → (U → Rose f.before f.now)
      → (f.told ≡ true → IsEndOf plan e) → HasStatus e → IsUnreadLine U f.last e → SendsEnd e k r → MeetsCall (A plan) P U f k (status_by r)
  ended-by (Refused q) r refused rose ended decides unread h =
      answered-by (Refuse q.status q.text.items) r ended (text-answer (A (Refuse q.status q.text.items)) q.status q.text.items k r (refused q.status q.text.items) decides h)
  ended-by (Unread line) r refused rose ended decides unread h = unread-by line.items r unread.1 unread.0 rose h
  ended-by Memory (Ok s) refused rose ended decides unread h = let no : ⊥ = cc in absurd no
  ended-by Memory (Err e) refused rose ended decides unread h =
      meets-stop (A plan) P U f k e (λ sink. let no : ⊥ = cc in absurd no) (λ told. inl (subst (P k.before) (sym h.1) none))

  -- the call ended before its work
  pub meets-end : (e : InputError) (r : Result ℕ OutputError) (status : ℕ) → status ≡ status_by r → ((status : ℕ) (line : List ℕ) → A (Refuse status line) (reply status line)) → (U → Rose f.before f.now)
      → (f.told ≡ true → IsEndOf plan e) → HasStatus e → IsUnreadLine U f.last e → SendsEnd e k r → MeetsCall (A plan) P U f k status
  meets-end e r status is refused rose ended decides unread h = subst (MeetsCall (A plan) P U f k) (sym is) (ended-by e r refused rose ended decides unread h)

-- so where each plan has one answer
module _ {X : Type 0} (answer : Plan X → Answer) (U : Type 0) (f : Loaded) (k : Sent) (plan : Plan X) where
  nothing-yet : SendsPart (λ a. a ≡ answer plan) k.before k.before
  nothing-yet = nothing-sent (λ a. a ≡ answer plan) (answer plan, refl) k.before

  pub meets-one-work : (known : Plan X) (r : Result ℕ OutputError) (status : ℕ) → status ≡ status_by r → (f.told ≡ true → plan ≡ known) → MeetsAnswer (λ a. a ≡ answer known) k r
      → MeetsCall (λ a. a ≡ answer plan) (SendsPart (λ a. a ≡ answer plan)) U f k status
  meets-one-work known r status is planned h =
      meets-work (λ p a. a ≡ answer p) (SendsPart (λ a. a ≡ answer plan)) U f k plan nothing-yet (λ part. part) known r status is planned h

  pub meets-one-end : (e : InputError) (r : Result ℕ OutputError) (status : ℕ) → status ≡ status_by r → ((status : ℕ) (line : List ℕ) → reply status line ≡ answer (Refuse status line)) → (U → Rose f.before f.now)
      → (f.told ≡ true → IsEndOf plan e) → HasStatus e → IsUnreadLine U f.last e → SendsEnd e k r → MeetsCall (λ a. a ≡ answer plan) (SendsPart (λ a. a ≡ answer plan)) U f k status
  meets-one-end e r status is refused rose ended decides unread h =
      meets-end (λ p a. a ≡ answer p) (SendsPart (λ a. a ≡ answer plan)) U f k plan nothing-yet (λ part. part) e r status is refused rose ended decides unread h

-- ---- words that aren't accepted

pub words-ended : {X : Type 0} (plan : Plan X) (e : InputError) → plan ≡ Refuse 10 words_refused → IsWordsEnd e → IsEndOf plan e
words-ended plan (Refused q) is end = is ∙ (λ i. Refuse (sym end.0 i) (sym end.1 i))
words-ended plan (Unread line) is end = absurd end
words-ended plan Memory is end = tt

-- the answer where there is only a refusal
abbrev refusal : Plan (Unit {0}) → Answer
refusal (Do it) = reply 0 []
refusal (Refuse status line) = reply status line
refusal Missing = reply 0 []

pub meets-refused : (f : Loaded) (k : Sent) (e : InputError) (r : Result ℕ OutputError) (status : ℕ) → status ≡ status_by r → IsWordsEnd e → HasStatus e → SendsEnd e k r
    → MeetsCall (λ a. a ≡ reply 10 words_refused) (SendsPart (λ a. a ≡ reply 10 words_refused)) ⊥ f k status
meets-refused f k e r status is end decides h =
    meets-one-end refusal ⊥ f k (Refuse 10 words_refused) e r status is (λ status line. refl) (λ no. absurd no) (λ told. words-ended (Refuse 10 words_refused) e refl end) decides (unread e end) h
  where
    unread : (e : InputError) → IsWordsEnd e → IsUnreadLine ⊥ f.last e
    unread (Refused q) end = tt
    unread (Unread line) end = absurd end
    unread Memory end = tt
