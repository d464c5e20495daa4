-- What comes of a round once the workers are through.
use Rattle.std.proofs.Common.{◌≡◌, ℕ, ◌+◌, ◌<◌, ◌≤◌, Bool, false, length, get_or, set, take, List, ◌++◌, Option, Some, None, refl, sym, ap, ◌∙◌, inl, inr, ◌⊎◌, subst, arith, get_or-set_same, get_or-set_other, length-set}
use Rattle.std.proofs.lemmas.Bool.{cases_eq, cases_lt, cases_Bool, false≢true}
use Rattle.std.proofs.lemmas.List.{get_or_past}
use Rattle.std.proofs.Math.Seq.{take-append_seam}
use Rattle.cpa_units.specs.declared.bound.Bound.{Bound}
use Rattle.cpa_units.specs.declared.bound.Bound.TheVariants.{Within}
use Rattle.cpa_units.specs.Bounds.{IsAtMost, IsNowhereAbove, bound_of}
use Rattle.cpa_units.specs.Words.{word_of}
use Rattle.cpa_units.specs.Sets.{holds, Members}
use Rattle.cpa_units.proofs.BoundLaws.{IsAtMost_refl, IsAtMost_trans, zero_at_most, IsNowhereAbove_trans}
use Rattle.cpa_model.specs.SystemLists.{SystemLists, task_at}
use Rattle.cpa_local.specs.Solution.{IsVector, least_of}
use Rattle.cpa_local.specs.Trails.{Marks, IsMarked, IsKept, NewMarksAre, AreMarked}
use Rattle.cpa_local.proofs.TrailLaws.{IsKept_trans, NewMarks_trans, NewMarks-weaker}
use Rattle.cpa_fix.specs.declared.readings.Reading.{Reading}
use Rattle.cpa_fix.specs.Readings.{reading_of, IsSound, AreSound}
use Rattle.cpa_local.specs.Rising.{TasksOn, IsRisen}
use Rattle.cpa_fix.specs.Rounds.{MayStart, IsRound}
use Rattle.cpa_fix.proofs.ReadingLaws.{IsSound-mono}
use Rattle.cpa_local.proofs.RisingLaws.{IsRisen_trans}
use Rattle.cpa_board.specs.Seats.{BoardId, SeatView, IsBetween}
use Rattle.cpa_workers.specs.BoardWords.{bound_at}
use Rattle.cpa_workers.specs.Workers.{IsFinding, IsWork, IsRoundResult, IsTaken, IsMissing}
use Rattle.cpa_workers.proofs.WordLaws.{bound_read-mono, bound_read-limit, bound_read-below, words_of-at}
use Rattle.cpa_workers.proofs.FindingLaws.{finding-grows}

-- ---- the board is closed

pub outcome-closed : (s : SystemLists) (board : BoardId) (dirty : List Bool) (starts : List Bound) (seat : SeatView) (words : List ℕ) (found : List (Option Reading)) (trail : Marks) → IsVector s (least_of s) → IsWork s board dirty starts seat found trail → length words ≡ length s.tasks →
    ((i : ℕ) → i < length s.tasks → IsBetween seat i (get_or words i 0)) → IsRoundResult s dirty starts words found trail
outcome-closed s board dirty starts seat words found trail least h long between =
    record {
      long = long;
      low = λ i. IsAtMost_trans (bound_of starts i) (bound_at seat.seen i) (bound_at words i) (h.seated.low i) (up i);
      high = high;
      findings = record {
        long = h.findings.long;
        sound = λ r m e. finding-grows s dirty starts r m.seen seat.seen words up (h.findings.sound r m e);
        marked = h.findings.marked;
        only = h.findings.only;
      };
    }
  where
    up : (i : ℕ) → IsAtMost (bound_at seat.seen i) (bound_at words i)
    up i = elim (cases_lt i (length s.tasks)) [
      | inl less ↦ bound_read-mono (get_or seat.seen i 0) (get_or words i 0) (between i less).0
      | inr past ↦ let e : get_or seat.seen i 0 ≡ 0 = get_or_past seat.seen i 0 (rw h.seated.long past) in bound_read-mono (get_or seat.seen i 0) (get_or words i 0) (omega arith)
    ]

    high : (i : ℕ) → IsAtMost (bound_at words i) (bound_of (least_of s) i)
    high i = elim (cases_lt i (length s.tasks)) [
      | inl less ↦
          let cap : get_or seat.caps i 0 ≡ word_of (bound_of (least_of s) i) = ap (λ (v : List ℕ). get_or v i 0) h.seated.caps ∙ words_of-at (least_of s) i in
          bound_read-below (get_or words i 0) (bound_of (least_of s) i) (least.high i less) (subst (λ (k : ℕ). get_or words i 0 ≤ k) cap (between i less).1)
      | inr past ↦ let e : get_or words i 0 ≡ 0 = get_or_past words i 0 (rw long past) in rw e (zero_at_most (bound_of (least_of s) i))
    ]

-- ---- the bounds are taken from the words

-- so far those of the first tasks
pub record IsTakenTo (s : SystemLists) (dirty : List Bool) (old : List Bound) (words : List ℕ) (new : List Bound) (count : ℕ) : Type 0 where
  pub long : length new ≡ length old
  pub taken : (i : ℕ) → i < count → Members dirty (task_at s i).res.0 → bound_of new i ≡ bound_at words i
  pub kept : (i : ℕ) → holds dirty (task_at s i).res.0 ≡ false → bound_of new i ≡ bound_of old i

pub taken-more : (s : SystemLists) (dirty : List Bool) (old : List Bound) (words : List ℕ) (new : List Bound) (count : ℕ) → count < length new → Members dirty (task_at s count).res.0 → IsTakenTo s dirty old words new count → IsTakenTo s dirty old words (set new count (bound_at words count)) (count + 1)
taken-more s dirty old words new count here on h =
    record {
      long = length-set new count (bound_at words count) ∙ h.long;
      taken = λ i less at. elim (cases_eq i count) [
        | inl same ↦ rw (same, get_or-set_same new count (bound_at words count) (Within 0) here) refl
        | inr other ↦ get_or-set_other new count i (bound_at words count) (Within 0) other ∙ h.taken i (omega arith) at
      ];
      kept = λ i off. elim (cases_eq i count) [
        | inl same ↦ absurd (false≢true (sym off ∙ ap (λ (k : ℕ). holds dirty (task_at s k).res.0) same ∙ on))
        | inr other ↦ get_or-set_other new count i (bound_at words count) (Within 0) other ∙ h.kept i off
      ];
    }

pub taken-skip : (s : SystemLists) (dirty : List Bool) (old : List Bound) (words : List ℕ) (new : List Bound) (count : ℕ) → holds dirty (task_at s count).res.0 ≡ false → IsTakenTo s dirty old words new count → IsTakenTo s dirty old words new (count + 1)
taken-skip s dirty old words new count off h =
    record {
      long = h.long;
      taken = λ i less at. elim (cases_eq i count) [
        | inl same ↦ absurd (false≢true (sym off ∙ ap (λ (k : ℕ). holds dirty (task_at s k).res.0) (sym same) ∙ at))
        | inr other ↦ h.taken i (omega arith) at
      ];
      kept = h.kept;
    }

-- each entry is between the old one and that of the least solution
pub taken-risen : (s : SystemLists) (dirty : List Bool) (old new : List Bound) (words : List ℕ) (found : List (Option Reading)) (trail : Marks) → IsVector s old → IsNowhereAbove old (least_of s) → IsRoundResult s dirty old words found trail → IsTaken s dirty old words new → IsRisen s old new
taken-risen s dirty old new words found trail vector below h taken =
    record {
      vector = record {
        long = taken.long ∙ vector.long;
        low = λ i less. IsAtMost_trans (Within (task_at s i).best) (bound_of old i) (bound_of new i) (vector.low i less) (up i);
        high = λ i less. elim (cases_Bool (holds dirty (task_at s i).res.0)) [
          | inl on ↦ rw (taken.taken i less on) (bound_read-limit (get_or words i 0))
          | inr off ↦ rw (taken.kept i off) (vector.high i less)
        ];
      };
      up = up;
      below = λ i. elim (cases_lt i (length s.tasks)) [
        | inl less ↦ elim (cases_Bool (holds dirty (task_at s i).res.0)) [
          | inl on ↦ rw (taken.taken i less on) (h.high i)
          | inr off ↦ rw (taken.kept i off) (below i)
        ]
        | inr past ↦ let e : bound_of new i ≡ Within 0 = get_or_past new i (Within 0) (rw (taken.long, vector.long) past) in rw e (zero_at_most (bound_of (least_of s) i))
      ];
    }
  where
    up : (i : ℕ) → IsAtMost (bound_of old i) (bound_of new i)
    up i = elim (cases_lt i (length s.tasks)) [
      | inl less ↦ elim (cases_Bool (holds dirty (task_at s i).res.0)) [
        | inl on ↦ rw (taken.taken i less on) (h.low i)
        | inr off ↦ rw (taken.kept i off) (IsAtMost_refl (bound_of old i))
      ]
      | inr past ↦ let e : bound_of old i ≡ Within 0 = get_or_past old i (Within 0) (rw vector.long past) in rw e (zero_at_most (bound_of new i))
    ]

-- a reading that was found is sound at the vector
pub found-sound : (s : SystemLists) (dirty : List Bool) (old new : List Bound) (words : List ℕ) (r : ℕ) (seen : List Bound) → IsVector s old → IsTaken s dirty old words new → IsFinding s dirty old r seen words → IsSound s r seen new
found-sound s dirty old new words r seen vector taken h =
    record {
      vector = h.look.vector;
      below = λ i. elim (cases_lt i (length s.tasks)) [
        | inl less ↦ elim (cases_Bool (holds dirty (task_at s i).res.0)) [
          | inl on ↦ rw (taken.taken i less on) (h.look.below i)
          | inr off ↦ rw (h.look.kept i off, taken.kept i off) (IsAtMost_refl (bound_of old i))
        ]
        | inr past ↦ let e : bound_of seen i ≡ Within 0 = get_or_past seen i (Within 0) (rw h.look.vector.long past) in rw e (zero_at_most (bound_of new i))
      ];
      answered = λ i less here. rw (taken.taken i less (ap (holds dirty) here ∙ h.is_dirty)) (h.answered i less here);
    }

-- ---- the readings are taken over

reading_or_none : (m : Option Reading) → (m ≡ None) ⊎ ((reading : Reading) × (m ≡ Some reading))
reading_or_none None = inl refl
reading_or_none (Some reading) = inr (reading, refl)

-- the vector and the readings before what is missing is analysed
pub record IsHalf (s : SystemLists) (dirty : List Bool) (old mid : List Bound) (found before half : List (Option Reading)) (trail marks joined : Marks) : Type 0 where
  pub risen : IsRisen s old mid
  pub others : (i : ℕ) → holds dirty (task_at s i).res.0 ≡ false → bound_of mid i ≡ bound_of old i
  pub sound : AreSound s half mid
  pub fresh : (r : ℕ) (m : Reading) → reading_of found r ≡ Some m → (reading_of half r ≡ Some m) × IsNowhereAbove old m.seen
  pub same : (r : ℕ) → holds dirty r ≡ false → reading_of half r ≡ reading_of before r
  pub kept : IsKept trail joined
  pub new : NewMarksAre trail joined (TasksOn s (Members dirty))
  pub marked : (r : ℕ) (m : Reading) → reading_of found r ≡ Some m → AreMarked joined (TasksOn s (λ q. q ≡ r))

pub half-way : (s : SystemLists) (dirty : List Bool) (old mid : List Bound) (words : List ℕ) (found before half : List (Option Reading)) (trail marks joined : Marks) →
    MayStart s old before trail → IsRoundResult s dirty old words found marks → IsTaken s dirty old words mid →
    length half ≡ length before → ((r : ℕ) (m : Reading) → reading_of found r ≡ Some m → reading_of half r ≡ Some m) → ((r : ℕ) → reading_of found r ≡ None → reading_of half r ≡ reading_of before r) →
    IsKept trail joined → NewMarksAre trail joined (IsMarked marks) → AreMarked joined (IsMarked marks) → IsHalf s dirty old mid found before half trail marks joined
half-way s dirty old mid words found before half trail marks joined start h taken long over same kept fresh all =
    record {
      risen = risen;
      others = taken.kept;
      sound = record {
        long = long ∙ start.sound.long;
        sound = λ r m e. elim (reading_or_none (reading_of found r)) [
          | inl none ↦ IsSound-mono s r m.seen old mid risen.up (start.sound.sound r m (sym (same r none) ∙ e))
          | inr some ↦
              let it : Some some.0 ≡ Some m = sym (over r some.0 some.1) ∙ e in
              found-sound s dirty old mid words r m.seen start.vector taken (h.findings.sound r m (some.1 ∙ it))
        ];
      };
      fresh = λ r m e. (over r m e, (h.findings.sound r m e).look.above);
      same = λ r off. elim (reading_or_none (reading_of found r)) [
        | inl none ↦ same r none
        | inr some ↦ absurd (false≢true (sym off ∙ (h.findings.sound r some.0 some.1).is_dirty))
      ];
      kept = kept;
      new = λ i on. elim (fresh i on) [ inl before_it ↦ inl before_it | inr mark ↦ inr (h.findings.only i mark) ];
      marked = λ r m e i on. all i (h.findings.marked r m e i on);
    }
  where
    risen : IsRisen s old mid
    risen = taken-risen s dirty old mid words found marks start.vector start.below h taken

not_missing : (dirty missing : List Bool) (found : List (Option Reading)) (r : ℕ) → IsMissing dirty found missing → holds dirty r ≡ false → holds missing r ≡ false
not_missing dirty missing found r h off =
    elim (cases_Bool (holds missing r)) [
      | inl on ↦ absurd (false≢true (sym off ∙ (h.lacks r on).0))
      | inr it ↦ it
    ]

-- the round is whole once what is missing has been analysed too
pub whole-round : (s : SystemLists) (dirty missing : List Bool) (old mid new : List Bound) (found before half after : List (Option Reading)) (trail marks joined : Marks) →
    IsHalf s dirty old mid found before half trail marks joined → IsMissing dirty found missing → IsRisen s mid new → IsRound s (holds missing) mid new half after → IsRound s (holds dirty) old new before after
whole-round s dirty missing old mid new found before half after trail marks joined h lacks risen done =
    record {
      others = λ i less off. done.others i less (not_missing dirty missing found (task_at s i).res.0 lacks off) ∙ h.others i off;
      sound = done.sound;
      fresh = λ r on. elim (cases_Bool (holds missing r)) [
        | inl lacking ↦
            let reading = done.fresh r lacking in
            (reading.0, reading.1, IsNowhereAbove_trans old mid reading.0.seen h.risen.up reading.2)
        | inr there ↦
            let reading = lacks.has r on there in
            let it = h.fresh r reading.0 reading.1 in
            (reading.0, done.same r there ∙ it.0, it.1)
      ];
      same = λ r off. done.same r (not_missing dirty missing found r lacks off) ∙ h.same r off;
    }

pub whole-risen : (s : SystemLists) (dirty : List Bool) (old mid new : List Bound) (found before half : List (Option Reading)) (trail marks joined : Marks) → IsHalf s dirty old mid found before half trail marks joined → IsRisen s mid new → IsRisen s old new
whole-risen s dirty old mid new found before half trail marks joined h risen = IsRisen_trans s old mid new h.risen risen

pub whole-kept : (s : SystemLists) (dirty : List Bool) (old mid : List Bound) (found before half : List (Option Reading)) (trail marks joined after : Marks) → IsHalf s dirty old mid found before half trail marks joined → IsKept joined after → IsKept trail after
whole-kept s dirty old mid found before half trail marks joined after h kept = IsKept_trans trail joined after h.kept kept

pub whole-new : (s : SystemLists) (dirty missing : List Bool) (old mid : List Bound) (found before half : List (Option Reading)) (trail marks joined after : Marks) →
    IsHalf s dirty old mid found before half trail marks joined → IsMissing dirty found missing → NewMarksAre joined after (TasksOn s (Members missing)) → NewMarksAre trail after (TasksOn s (Members dirty))
whole-new s dirty missing old mid found before half trail marks joined after h lacks fresh =
    NewMarks_trans trail joined after (TasksOn s (Members dirty)) h.new
    (NewMarks-weaker joined after (TasksOn s (Members missing)) (TasksOn s (Members dirty)) (λ i on. (on.0, (lacks.lacks (task_at s i).res.0 on.1).0)) fresh)

pub whole-marked : (s : SystemLists) (dirty missing : List Bool) (old mid : List Bound) (found before half : List (Option Reading)) (trail marks joined after : Marks) →
    IsHalf s dirty old mid found before half trail marks joined → IsMissing dirty found missing → IsKept joined after → AreMarked after (TasksOn s (Members missing)) → AreMarked after (TasksOn s (Members dirty))
whole-marked s dirty missing old mid found before half trail marks joined after h lacks kept marked i on =
    elim (cases_Bool (holds missing (task_at s i).res.0)) [
      | inl lacking ↦ marked i (on.0, lacking)
      | inr there ↦
          let reading = lacks.has (task_at s i).res.0 on.1 there in
          kept.marks i (h.marked (task_at s i).res.0 reading.0 reading.1 i (on.0, refl))
    ]

-- the front of a list that was written at its front
pub take-front : (xs ys : List ℕ) (n : ℕ) → length xs ≡ n → take n (xs ++ ys) ≡ xs
take-front xs ys n e = subst (λ (k : ℕ). take k (xs ++ ys) ≡ xs) e (take-append_seam xs ys)
