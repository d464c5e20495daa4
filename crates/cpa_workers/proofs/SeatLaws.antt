-- What becomes of the seats of a round.
use Rattle.std.proofs.Common.{◌≡◌, ℕ, ◌+◌, ◌<◌, ◌≤◌, max, length, get_or, set, List, sym, ap, ◌∙◌, inl, inr, subst, arith, get_or-set_same, get_or-set_other, length-set}
use Rattle.std.proofs.lemmas.Bool.{cases_eq, cases_lt}
use Rattle.std.proofs.lemmas.List.{length-map, get_or_past}
use Rattle.cpa_units.specs.declared.bound.Bound.{Bound}
use Rattle.cpa_units.specs.declared.bound.Bound.TheVariants.{Within}
use Rattle.cpa_units.specs.declared.limits.TheConstants.{MAX_LIMIT}
use Rattle.cpa_units.specs.Bounds.{IsAtMost, RespectsLimit, IsNowhereAbove, bound_of}
use Rattle.cpa_units.specs.Words.{word_of}
use Rattle.cpa_units.proofs.BoundLaws.{IsAtMost_refl, IsAtMost_trans}
use Rattle.cpa_units.specs.declared.places.TaskId.{TaskId}
use Rattle.cpa_model.specs.SystemLists.{SystemLists, task_at, places_of, tasks_on}
use Rattle.cpa_model.proofs.SystemLaws.{no_id}
use Rattle.cpa_model.proofs.ResourceTaskLaws.{on-found}
use Rattle.cpa_local.specs.Solution.{IsVector, least_of}
use Rattle.cpa_board.specs.Seats.{BoardId, SeatView, IsBetween, has_seen}
use Rattle.cpa_board.specs.Machine.{greater}
use Rattle.cpa_board.proofs.MachineLaws.{greater-index, length-greater}
use Rattle.cpa_workers.specs.BoardWords.{bound_read, bound_at, words_of, least_words, IsNoLower}
use Rattle.cpa_workers.specs.Workers.{IsSeated}
use Rattle.cpa_workers.proofs.WordLaws.{bound_read-mono, bound_read-word, bound_read-below, bound_read-above, bound_read-max, word_of-mono, words_of-at, IsNoLower_trans}

-- the first seat of a round
seated-first : (s : SystemLists) (board : BoardId) (x : List Bound) (seat : SeatView) → IsVector s x → IsNowhereAbove x (least_of s) → seat.board ≡ board → seat.caps ≡ least_words s → seat.seen ≡ words_of x → IsSeated s board x seat
seated-first s board x seat vector below at caps seen =
    let here : (i : ℕ) → bound_at seat.seen i ≡ bound_of x i = λ i. ap (λ (v : List ℕ). bound_at v i) seen ∙ ap bound_read (words_of-at x i) ∙ bound_read-word (bound_of x i) (limit i) in
    record {
      at = at;
      caps = caps;
      long = ap length seen ∙ length-map x word_of ∙ vector.long;
      low = λ i. rw (here i) (IsAtMost_refl (bound_of x i));
      high = λ i. rw (here i) (below i);
    }
  where
    limit : (i : ℕ) → RespectsLimit MAX_LIMIT (bound_of x i)
    limit i = elim (cases_lt i (length s.tasks)) [
      | inl less ↦ vector.high i less
      | inr past ↦ let e : bound_of x i ≡ Within 0 = get_or_past x i (Within 0) (rw vector.long past) in rw e (omega arith)
    ]

pub seated-opened : (s : SystemLists) (board : BoardId) (x : List Bound) (words : List ℕ) (seat : SeatView) → IsVector s x → IsNowhereAbove x (least_of s) → words ≡ words_of x → seat ≡ record { board = board; starts = words; caps = least_words s; seen = words } → IsSeated s board x seat
seated-opened s board x words seat vector below first opened =
    seated-first s board x seat vector below (ap (λ (v : SeatView). v.board) opened) (ap (λ (v : SeatView). v.caps) opened) (ap (λ (v : SeatView). v.seen) opened ∙ first)

-- a seat has seen a value between what it had seen of a word and the cap
pub seated-seen : (s : SystemLists) (board : BoardId) (x : List Bound) (seat : SeatView) (i n : ℕ) → IsVector s (least_of s) → i < length s.tasks → IsBetween seat i n → IsSeated s board x seat → IsSeated s board x (has_seen seat i n) × IsNoLower seat.seen (set seat.seen i n)
seated-seen s board x seat i n least in_range between h =
    let here : i < length seat.seen = rw h.long in_range in
    let same : get_or (set seat.seen i n) i 0 ≡ n = get_or-set_same seat.seen i n 0 here in
    let up : IsNoLower seat.seen (set seat.seen i n) = λ j. elim (cases_eq j i) [
      | inl is ↦ rw (is, same) (bound_read-mono (get_or seat.seen i 0) n between.0)
      | inr other ↦ rw (get_or-set_other seat.seen i j n 0 other) (IsAtMost_refl (bound_at seat.seen j))
    ] in
    let cap : get_or seat.caps i 0 ≡ word_of (bound_of (least_of s) i) = ap (λ (v : List ℕ). get_or v i 0) h.caps ∙ words_of-at (least_of s) i in
    let top : IsAtMost (bound_read n) (bound_of (least_of s) i) = bound_read-below n (bound_of (least_of s) i) (least.high i in_range) (subst (λ (k : ℕ). n ≤ k) cap between.1) in (
      record {
        at = h.at;
        caps = h.caps;
        long = length-set seat.seen i n ∙ h.long;
        low = λ j. IsAtMost_trans (bound_of x j) (bound_at seat.seen j) (bound_at (set seat.seen i n) j) (h.low j) (up j);
        high = λ j. elim (cases_eq j i) [
          | inl is ↦ rw (is, same) top
          | inr other ↦ rw (get_or-set_other seat.seen i j n 0 other) (h.high j)
        ];
      },
      up,
    )

-- two seats become one
pub seated-joined : (s : SystemLists) (board : BoardId) (x : List Bound) (one other : SeatView) → IsSeated s board x one → IsSeated s board x other →
    IsSeated s board x (record one { seen = greater one.seen other.seen }) × IsNoLower one.seen (greater one.seen other.seen) × IsNoLower other.seen (greater one.seen other.seen)
seated-joined s board x one other h k =
    let both : List ℕ = greater one.seen other.seen in
    let first : IsNoLower one.seen both = λ i. rw (greater-index one.seen other.seen i) (bound_read-mono (get_or one.seen i 0) (max (get_or one.seen i 0) (get_or other.seen i 0)) (omega arith)) in
    let second : IsNoLower other.seen both = λ i. rw (greater-index one.seen other.seen i) (bound_read-mono (get_or other.seen i 0) (max (get_or one.seen i 0) (get_or other.seen i 0)) (omega arith)) in (
      record {
        at = h.at;
        caps = h.caps;
        long = length-greater one.seen other.seen (h.long ∙ sym k.long) ∙ h.long;
        low = λ i. IsAtMost_trans (bound_of x i) (bound_at one.seen i) (bound_at both i) (h.low i) (first i);
        high = λ i. rw (greater-index one.seen other.seen i) (bound_read-max (get_or one.seen i 0) (get_or other.seen i 0) (bound_of (least_of s) i) (h.high i) (k.high i));
      },
      first,
      second,
    )

pub seated-range : (s : SystemLists) (board : BoardId) (x : List Bound) (seat : SeatView) → IsVector s (least_of s) → IsSeated s board x seat → length seat.caps ≡ length s.tasks
seated-range s board x seat least h = ap length h.caps ∙ length-map (least_of s) word_of ∙ least.long

-- a bound up to the least solution has a word up to the cap
pub seated-cap : (s : SystemLists) (board : BoardId) (x : List Bound) (seat : SeatView) (i : ℕ) (b : Bound) → RespectsLimit MAX_LIMIT b → IsAtMost b (bound_of (least_of s) i) → IsSeated s board x seat → word_of b ≤ get_or seat.caps i 0
seated-cap s board x seat i b limit below h =
    let cap : get_or seat.caps i 0 ≡ word_of (bound_of (least_of s) i) = ap (λ (v : List ℕ). get_or v i 0) h.caps ∙ words_of-at (least_of s) i in
    rw cap (word_of-mono b (bound_of (least_of s) i) limit below)

-- ---- a worker tells the board

-- the bounds of the first tasks of a list have been told
pub record IsTold (s : SystemLists) (board : BoardId) (starts x : List Bound) (tasks : List TaskId) (first : List ℕ) (seat : SeatView) (count : ℕ) : Type 0 where
  pub seated : IsSeated s board starts seat
  pub grew : IsNoLower first seat.seen
  pub told : (k : ℕ) → k < count → IsAtMost (bound_of x (get_or tasks k no_id).0) (bound_at seat.seen (get_or tasks k no_id).0)

pub told-more : (s : SystemLists) (board : BoardId) (starts x : List Bound) (tasks : List TaskId) (first : List ℕ) (seat next : SeatView) (count n : ℕ) → IsVector s (least_of s) → IsVector s x → (get_or tasks count no_id).0 < length s.tasks →
    word_of (bound_of x (get_or tasks count no_id).0) ≤ n → IsBetween seat (get_or tasks count no_id).0 n → next ≡ has_seen seat (get_or tasks count no_id).0 n → IsTold s board starts x tasks first seat count → IsTold s board starts x tasks first next (count + 1)
told-more s board starts x tasks first seat next count n least vector in_range value between is h =
    let place = (get_or tasks count no_id).0 in
    let both = seated-seen s board starts seat place n least in_range between h.seated in
    let more : List ℕ = set seat.seen place n in
    let here : place < length seat.seen = rw h.seated.long in_range in
    subst (λ (v : SeatView). IsTold s board starts x tasks first v (count + 1)) (sym is)
    record {
      seated = both.0;
      grew = IsNoLower_trans first seat.seen more h.grew both.1;
      told = λ k less. elim (cases_eq (get_or tasks k no_id).0 place) [
        | inl same ↦ rw (same, get_or-set_same seat.seen place n 0 here) (bound_read-above n (bound_of x place) (vector.high place in_range) value)
        | inr other ↦
            let i = (get_or tasks k no_id).0 in
            elim (cases_eq k count) [
              | inl last ↦ absurd (other (ap (λ (j : ℕ). (get_or tasks j no_id).0) last))
              | inr early ↦ IsAtMost_trans (bound_of x i) (bound_at seat.seen i) (bound_at more i) (h.told k (omega arith)) (both.1 i)
            ]
      ];
    }

-- those of all tasks on a resource
pub told-whole : (s : SystemLists) (board : BoardId) (starts x : List Bound) (r : ℕ) (tasks : List TaskId) (first : List ℕ) (seat : SeatView) (count : ℕ) → places_of tasks ≡ tasks_on s r → length tasks ≤ count →
    IsTold s board starts x tasks first seat count → (i : ℕ) → i < length s.tasks → (task_at s i).res.0 ≡ r → IsAtMost (bound_of x i) (bound_at seat.seen i)
told-whole s board starts x r tasks first seat count are all h i less on =
    let at = on-found s r tasks are i no_id less on in
    subst (λ (j : ℕ). IsAtMost (bound_of x j) (bound_at seat.seen j)) at.2 (h.told at.0 (omega (arith, at.1)))
