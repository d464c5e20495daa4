-- What was written and sent, in pieces.
use Rattle.std.proofs.Common.{◌≡◌, ◌∙◌, ℕ, List, [], ◌++◌, Option, refl, sym, ap, subst, append_assoc}
use Rattle.std.proofs.lemmas.List.{append-nil}
use Rattle.cpa_io.specs.Causes.{grown, SentPart}
use Rattle.cpa_call.proofs.SendLaws.{grown-none, grown-grown, part-after, part-first}
use Rattle.cpa_segments.specs.Written.{IsWritten}

-- nothing was sent
pub written-kept : (sent : Option (List ℕ)) (unsent left text : List ℕ) → left ≡ unsent ++ text → IsWritten sent sent unsent left text
written-kept sent unsent left text is = record { first = []; sent = grown-none sent; all = sym is }

pub written-none : (sent : Option (List ℕ)) (unsent : List ℕ) → IsWritten sent sent unsent unsent []
written-none sent unsent = written-kept sent unsent unsent [] (sym (append-nil unsent))

-- all of it was
pub written-all : (before now : Option (List ℕ)) (unsent : List ℕ) → now ≡ grown before unsent → IsWritten before now unsent [] []
written-all before now unsent is = record { first = unsent; sent = is; all = refl }

-- a row was written, of which nothing was sent before
pub written-row : (before now : Option (List ℕ)) (unsent mid left row : List ℕ) → mid ≡ unsent ++ row → IsWritten before now mid left [] → IsWritten before now unsent left row
written-row before now unsent mid left row is h = record { first = h.first; sent = h.sent; all = sym is ∙ (sym (append-nil mid) ∙ h.all) }

-- one text after another
pub written-more : (before mid now : Option (List ℕ)) (u v w a b : List ℕ) → IsWritten before mid u v a → IsWritten mid now v w b → IsWritten before now u w (a ++ b)
written-more before mid now u v w a b h k = record {
  first = h.first ++ k.first;
  sent = k.sent ∙ ap (λ x. grown x k.first) h.sent ∙ grown-grown before h.first k.first;
  all = sym (append_assoc u a b) ∙ (ap (λ x. x ++ b) h.all ∙ (append_assoc h.first v b ∙ (ap (λ x. h.first ++ x) k.all ∙ sym (append_assoc h.first k.first w))));
}

-- a part of a second text, of a whole that has both
pub part-written : (before mid now : Option (List ℕ)) (u v a b later whole : List ℕ) → IsWritten before mid u v a → SentPart mid now (v ++ b) → whole ≡ (a ++ b) ++ later → SentPart before now (u ++ whole)
part-written before mid now u v a b later whole h part is =
    let e : h.first ++ (v ++ b) ≡ u ++ (a ++ b) = sym (append_assoc h.first v b) ∙ (ap (λ x. x ++ b) (sym h.all) ∙ append_assoc u a b) in
    let p : SentPart before now (u ++ (a ++ b)) = subst (SentPart before now) e (part-after before mid now h.first (v ++ b) h.sent part) in
    subst (SentPart before now) (append_assoc u (a ++ b) later ∙ ap (λ x. u ++ x) (sym is)) (part-first before now (u ++ (a ++ b)) later p)

-- what was left is sent at the end
pub sent-written : (before mid now : Option (List ℕ)) (v a : List ℕ) → IsWritten before mid [] v a → now ≡ grown mid v → now ≡ grown before a
sent-written before mid now v a h is = is ∙ (ap (λ x. grown x v) h.sent ∙ (grown-grown before h.first v ∙ ap (grown before) (sym h.all)))

-- or a part of it
pub part-last : (before mid now : Option (List ℕ)) (v a : List ℕ) → IsWritten before mid [] v a → SentPart mid now v → SentPart before now a
part-last before mid now v a h part = subst (SentPart before now) (sym h.all) (part-after before mid now h.first v h.sent part)
