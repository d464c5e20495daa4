-- What a worker has found, and what becomes of it.
use Rattle.std.proofs.Common.{◌≡◌, ℕ, ◌<◌, Bool, length, get_or, set, List, Option, Some, None, refl, sym, ap, ◌∙◌, inl, inr, ◌⊎◌, subst, replicate, arith, get_or-set_same, get_or-set_other, length-set}
use Rattle.std.proofs.lemmas.Bool.{cases_eq, cases_lt, false≢true}
use Rattle.std.proofs.lemmas.List.{get_or_past, length-replicate}
use Rattle.cpa_units.specs.declared.bound.Bound.{Bound}
use Rattle.cpa_units.specs.declared.bound.Bound.TheVariants.{Within}
use Rattle.cpa_units.specs.Bounds.{IsAtMost, IsNowhereAbove, bound_of}
use Rattle.cpa_units.specs.Sets.{holds, Members}
use Rattle.cpa_units.proofs.BoundLaws.{IsAtMost_refl, IsAtMost_trans, zero_at_most, IsNowhereAbove_refl, IsNowhereAbove_trans}
use Rattle.cpa_model.specs.SystemLists.{SystemLists, task_at}
use Rattle.cpa_local.specs.Local.{response}
use Rattle.cpa_local.specs.Solution.{IsVector, least_of}
use Rattle.cpa_local.specs.Trails.{Marks, IsMarked, IsKept, NewMarksAre, AreMarked}
use Rattle.cpa_fix.specs.declared.readings.Reading.{Reading}
use Rattle.cpa_fix.specs.Readings.{reading_of, IsSound}
use Rattle.cpa_fix.proofs.SolveLaws.{nothing-kept}
use Rattle.cpa_local.specs.Rising.{TasksOn, IsRaised, AgreeOutside}
use Rattle.cpa_board.specs.Seats.{BoardId, SeatView, IsBetween, has_seen}
use Rattle.cpa_board.specs.Machine.{greater}
use Rattle.cpa_workers.specs.BoardWords.{bound_read, bound_at, IsNoLower}
use Rattle.cpa_workers.specs.Workers.{IsSeated, IsLook, IsFinding, AreFindings, IsWork}
use Rattle.cpa_workers.proofs.WordLaws.{bound_read-limit, IsNoLower_refl, IsNoLower_trans}
use Rattle.cpa_workers.proofs.SeatLaws.{seated-seen, seated-joined}

-- ---- looks

-- before any load
pub look-start : (s : SystemLists) (board : BoardId) (dirty : List Bool) (starts : List Bound) (seat : SeatView) → IsVector s starts → IsSeated s board starts seat → IsLook s dirty starts starts seat.seen
look-start s board dirty starts seat vector seated =
    record { vector = vector; above = IsNowhereAbove_refl starts; below = seated.low; kept = λ i off. refl }

-- one word of a task on a dirty resource more, of which the seat has then seen this value
pub look-load : (s : SystemLists) (board : BoardId) (dirty : List Bool) (starts x : List Bound) (words more : List ℕ) (seat : SeatView) (i n : ℕ) → IsVector s starts → i < length s.tasks → Members dirty (task_at s i).res.0 → seat.seen ≡ more → IsSeated s board starts seat → get_or more i 0 ≡ n → IsNoLower words more → IsLook s dirty starts x words → IsLook s dirty starts (set x i (bound_read n)) more
look-load s board dirty starts x words more seat i n vector in_range on seen seated now up h =
    let here : i < length x = rw h.vector.long in_range in
    let same : bound_of (set x i (bound_read n)) i ≡ bound_read n = get_or-set_same x i (bound_read n) (Within 0) here in
    let start : IsAtMost (bound_of starts i) (bound_read n) = subst (IsAtMost (bound_of starts i)) (ap (λ (v : List ℕ). bound_at v i) seen ∙ ap bound_read now) (seated.low i) in
    let low : IsAtMost (Within (task_at s i).best) (bound_read n) = IsAtMost_trans (Within (task_at s i).best) (bound_of starts i) (bound_read n) (vector.low i in_range) start in
    record {
      vector = record {
        long = length-set x i (bound_read n) ∙ h.vector.long;
        low = λ j k. elim (cases_eq j i) [
          | inl is ↦ rw (is, same) low
          | inr other ↦ rw (get_or-set_other x i j (bound_read n) (Within 0) other) (h.vector.low j k)
        ];
        high = λ j k. elim (cases_eq j i) [
          | inl is ↦ rw (is, same) (bound_read-limit n)
          | inr other ↦ rw (get_or-set_other x i j (bound_read n) (Within 0) other) (h.vector.high j k)
        ];
      };
      above = λ j. elim (cases_eq j i) [
        | inl is ↦ rw (is, same) start
        | inr other ↦ rw (get_or-set_other x i j (bound_read n) (Within 0) other) (h.above j)
      ];
      below = λ j. elim (cases_eq j i) [
        | inl is ↦ rw (is, same, now) (IsAtMost_refl (bound_read n))
        | inr other ↦ rw (get_or-set_other x i j (bound_read n) (Within 0) other) (IsAtMost_trans (bound_of x j) (bound_at words j) (bound_at more j) (h.below j) (up j))
      ];
      kept = λ j off. elim (cases_eq j i) [
        | inl is ↦ absurd (false≢true (sym off ∙ ap (λ (k : ℕ). holds dirty (task_at s k).res.0) is ∙ on))
        | inr other ↦ get_or-set_other x i j (bound_read n) (Within 0) other ∙ h.kept j off
      ];
    }

-- a worker that looks at words of its seat
pub record IsLooking (s : SystemLists) (board : BoardId) (dirty : List Bool) (starts : List Bound) (first : List ℕ) (seat : SeatView) (x : List Bound) : Type 0 where
  pub seated : IsSeated s board starts seat
  pub grew : IsNoLower first seat.seen
  pub look : IsLook s dirty starts x seat.seen

-- it looks first at these, and then at others
pub looking-more : (s : SystemLists) (board : BoardId) (dirty : List Bool) (starts : List Bound) (first : List ℕ) (seat next : SeatView) (x y : List Bound) → IsSeated s board starts next → IsNoLower seat.seen next.seen → IsLook s dirty starts y next.seen → IsLooking s board dirty starts first seat x → IsLooking s board dirty starts first next y
looking-more s board dirty starts first seat next x y seated grew look h = record { seated = seated; grew = IsNoLower_trans first seat.seen next.seen h.grew grew; look = look }

pub looking-start : (s : SystemLists) (board : BoardId) (dirty : List Bool) (starts : List Bound) (seat : SeatView) (x : List Bound) → IsVector s starts → IsSeated s board starts seat → x ≡ starts → IsLooking s board dirty starts seat.seen seat x
looking-start s board dirty starts seat x vector seated is =
    record {
      seated = seated;
      grew = IsNoLower_refl seat.seen;
      look = subst (λ (v : List Bound). IsLook s dirty starts v seat.seen) (sym is) (look-start s board dirty starts seat vector seated);
    }

pub looking-load : (s : SystemLists) (board : BoardId) (dirty : List Bool) (starts : List Bound) (first : List ℕ) (seat next : SeatView) (x : List Bound) (place n : ℕ) (b : Bound) → IsVector s (least_of s) → IsVector s starts → place < length s.tasks →
    Members dirty (task_at s place).res.0 → IsBetween seat place n → next ≡ has_seen seat place n → b ≡ bound_read n → IsLooking s board dirty starts first seat x → IsLooking s board dirty starts first next (set x place b)
looking-load s board dirty starts first seat next x place n b least vector in_range on between is read h =
    let both = seated-seen s board starts seat place n least in_range between h.seated in
    let more : List ℕ = set seat.seen place n in
    let here : place < length seat.seen = rw h.seated.long in_range in
    rw read
    (subst (λ (v : SeatView). IsLooking s board dirty starts first v (set x place (bound_read n))) (sym is)
    record {
      seated = both.0;
      grew = IsNoLower_trans first seat.seen more h.grew both.1;
      look = look-load s board dirty starts x seat.seen more (has_seen seat place n) place n vector in_range on refl both.0 (get_or-set_same seat.seen place n 0 here) both.1 h.look;
    })

pub look-grows : (s : SystemLists) (dirty : List Bool) (starts x : List Bound) (words more : List ℕ) → IsNoLower words more → IsLook s dirty starts x words → IsLook s dirty starts x more
look-grows s dirty starts x words more up h =
    record {
      vector = h.vector;
      above = h.above;
      below = λ i. IsAtMost_trans (bound_of x i) (bound_at words i) (bound_at more i) (h.below i) (up i);
      kept = h.kept;
    }

-- what a worker looks at is nowhere above the least solution
pub look-least : (s : SystemLists) (board : BoardId) (dirty : List Bool) (starts x : List Bound) (seat : SeatView) → IsSeated s board starts seat → IsLook s dirty starts x seat.seen → IsNowhereAbove x (least_of s)
look-least s board dirty starts x seat seated h i = IsAtMost_trans (bound_of x i) (bound_at seat.seen i) (bound_of (least_of s) i) (h.below i) (seated.high i)

-- ---- one finding

-- a resource was analysed at a look, its bounds were told to the board, and its reading was brought up at most to them
pub finding-new : (s : SystemLists) (dirty : List Bool) (starts at seen x : List Bound) (words more : List ℕ) (r : ℕ) (before after : Marks) →
    Members dirty r → IsLook s dirty starts at words → IsRaised s r at x before after → IsSound s r seen x → IsNowhereAbove at seen → AgreeOutside s r seen x → IsNoLower words more →
    ((i : ℕ) → i < length s.tasks → (task_at s i).res.0 ≡ r → IsAtMost (bound_of x i) (bound_at more i)) → IsFinding s dirty starts r seen more
finding-new s dirty starts at seen x words more r before after on look raised sound up agree grew told =
    record {
      is_dirty = on;
      look = record {
        vector = sound.vector;
        above = IsNowhereAbove_trans starts at seen look.above up;
        below = λ i. elim (cases_lt i (length s.tasks)) [
          | inl less ↦ elim (cases_eq (task_at s i).res.0 r) [
            | inl here ↦ IsAtMost_trans (bound_of seen i) (bound_of x i) (bound_at more i) (sound.below i) (told i less here)
            | inr other ↦
                rw (agree i other, raised.others i other)
                (IsAtMost_trans (bound_of at i) (bound_at words i) (bound_at more i) (look.below i) (grew i))
          ]
          | inr past ↦ let e : bound_of seen i ≡ Within 0 = get_or_past seen i (Within 0) (rw sound.vector.long past) in rw e (zero_at_most (bound_at more i))
        ];
        kept = λ i off.
            let other : (task_at s i).res.0 ≡ r → ⊥ = λ here. false≢true (sym off ∙ ap (holds dirty) here ∙ on) in
            agree i other ∙ raised.others i other ∙ look.kept i off;
      };
      answered = λ i less here. IsAtMost_trans (response s seen i) (bound_of x i) (bound_at more i) (sound.answered i less here) (told i less here);
    }

pub finding-grows : (s : SystemLists) (dirty : List Bool) (starts : List Bound) (r : ℕ) (seen : List Bound) (words more : List ℕ) → IsNoLower words more → IsFinding s dirty starts r seen words → IsFinding s dirty starts r seen more
finding-grows s dirty starts r seen words more up h =
    record {
      is_dirty = h.is_dirty;
      look = look-grows s dirty starts seen words more up h.look;
      answered = λ i less here. IsAtMost_trans (response s seen i) (bound_at words i) (bound_at more i) (h.answered i less here) (up i);
    }

-- ---- all findings of a worker

none_some : (m : Reading) → None ≡ Some m → ⊥
none_some m e = cc

pub findings-none : (s : SystemLists) (dirty : List Bool) (starts : List Bound) (found : List (Option Reading)) (words : List ℕ) (trail : Marks) → found ≡ replicate (length s.resources) None → ((i : ℕ) → IsMarked trail i → ⊥) → AreFindings s dirty starts found words trail
findings-none s dirty starts found words trail none unmarked =
    let lacks : (r : ℕ) (m : Reading) → reading_of found r ≡ Some m → ⊥ = λ r m e. none_some m (sym (ap (λ (f : List (Option Reading)). reading_of f r) none ∙ nothing-kept (length s.resources) r) ∙ e) in
    record {
      long = ap length none ∙ length-replicate (length s.resources) None;
      sound = λ r m e. absurd (lacks r m e);
      marked = λ r m e. absurd (lacks r m e);
      only = λ i on. absurd (unmarked i on);
    }

-- one resource more
pub findings-put : (s : SystemLists) (dirty : List Bool) (starts seen : List Bound) (found : List (Option Reading)) (words more : List ℕ) (trail after : Marks) (r : ℕ) →
    r < length s.resources → IsNoLower words more → IsFinding s dirty starts r seen more → IsKept trail after → NewMarksAre trail after (TasksOn s (λ q. q ≡ r)) → AreMarked after (TasksOn s (λ q. q ≡ r)) →
    AreFindings s dirty starts found words trail → AreFindings s dirty starts (set found r (Some (record { seen = seen }))) more after
findings-put s dirty starts seen found words more trail after r in_range grew finding kept fresh marked h =
    let reading : Reading = record { seen = seen } in
    let here : r < length found = rw h.long in_range in
    let at_r : reading_of (set found r (Some reading)) r ≡ Some reading = get_or-set_same found r (Some reading) None here in
    let before : (q : ℕ) (m : Reading) → (q ≡ r → ⊥) → reading_of (set found r (Some reading)) q ≡ Some m → reading_of found q ≡ Some m = λ q m other e. sym (get_or-set_other found r q (Some reading) None other) ∙ e in
    record {
      long = length-set found r (Some reading) ∙ h.long;
      sound = λ q m e. elim (cases_eq q r) [
        | inl same ↦
            let it : Some reading ≡ Some m = sym at_r ∙ subst (λ (k : ℕ). reading_of (set found r (Some reading)) k ≡ Some m) same e in
            let seen_is : seen ≡ m.seen = cc in
            subst (λ (v : List Bound). IsFinding s dirty starts q v more) seen_is (rw same finding)
        | inr other ↦ finding-grows s dirty starts q m.seen words more grew (h.sound q m (before q m other e))
      ];
      marked = λ q m e. elim (cases_eq q r) [
        | inl same ↦ λ i on. marked i (on.0, on.1 ∙ same)
        | inr other ↦ λ i on. kept.marks i (h.marked q m (before q m other e) i on)
      ];
      only = λ i on. elim (fresh i on) [
        | inl old ↦ h.only i old
        | inr new ↦ (new.0, ap (holds dirty) new.1 ∙ finding.is_dirty)
      ];
    }

reading_or_none : (m : Option Reading) → (m ≡ None) ⊎ ((reading : Reading) × (m ≡ Some reading))
reading_or_none None = inl refl
reading_or_none (Some reading) = inr (reading, refl)

-- those of two workers
pub findings-both : (s : SystemLists) (dirty : List Bool) (starts : List Bound) (one other both : List (Option Reading)) (first second more : List ℕ) (trail marks joined : Marks) →
    length both ≡ length one → ((r : ℕ) (m : Reading) → reading_of other r ≡ Some m → reading_of both r ≡ Some m) → ((r : ℕ) → reading_of other r ≡ None → reading_of both r ≡ reading_of one r) →
    IsNoLower first more → IsNoLower second more → IsKept trail joined → NewMarksAre trail joined (IsMarked marks) → AreMarked joined (IsMarked marks) →
    AreFindings s dirty starts one first trail → AreFindings s dirty starts other second marks → AreFindings s dirty starts both more joined
findings-both s dirty starts one other both first second more trail marks joined long taken same up_first up_second kept fresh all h k =
    record {
      long = long ∙ h.long;
      sound = λ r m e. elim (of_which r m e) [
        | inl in_one ↦ finding-grows s dirty starts r m.seen first more up_first (h.sound r m in_one)
        | inr in_other ↦ finding-grows s dirty starts r m.seen second more up_second (k.sound r m in_other)
      ];
      marked = λ r m e. elim (of_which r m e) [
        | inl in_one ↦ λ i on. kept.marks i (h.marked r m in_one i on)
        | inr in_other ↦ λ i on. all i (k.marked r m in_other i on)
      ];
      only = λ i on. elim (fresh i on) [ inl old ↦ h.only i old | inr new ↦ k.only i new ];
    }
  where
    of_which : (r : ℕ) (m : Reading) → reading_of both r ≡ Some m → (reading_of one r ≡ Some m) ⊎ (reading_of other r ≡ Some m)
    of_which r m e =
        elim (reading_or_none (reading_of other r)) [
          | inl none ↦ inl (sym (same r none) ∙ e)
          | inr some ↦
              let it : Some some.0 ≡ Some m = sym (taken r some.0 some.1) ∙ e in
              inr (some.1 ∙ it)
        ]

-- ---- all of a worker's work

pub work-start : (s : SystemLists) (board : BoardId) (dirty : List Bool) (starts : List Bound) (seat : SeatView) (found : List (Option Reading)) (trail : Marks) → IsSeated s board starts seat → found ≡ replicate (length s.resources) None → trail.room ≡ length s.tasks → ((i : ℕ) → IsMarked trail i → ⊥) → IsWork s board dirty starts seat found trail
work-start s board dirty starts seat found trail seated none room unmarked =
    record { seated = seated; findings = findings-none s dirty starts found seat.seen trail none unmarked; room = omega arith }

pub work-joined : (s : SystemLists) (board : BoardId) (dirty : List Bool) (starts : List Bound) (one other seat : SeatView) (found more both : List (Option Reading)) (trail marks joined : Marks) →
    seat ≡ record one { seen = greater one.seen other.seen } →
    length both ≡ length found → ((r : ℕ) (m : Reading) → reading_of more r ≡ Some m → reading_of both r ≡ Some m) → ((r : ℕ) → reading_of more r ≡ None → reading_of both r ≡ reading_of found r) →
    IsKept trail joined → NewMarksAre trail joined (IsMarked marks) → AreMarked joined (IsMarked marks) →
    IsWork s board dirty starts one found trail → IsWork s board dirty starts other more marks → IsWork s board dirty starts seat both joined
work-joined s board dirty starts one other seat found more both trail marks joined is long taken same kept fresh all h k =
    let seats = seated-joined s board starts one other h.seated k.seated in
    subst (λ (v : SeatView). IsWork s board dirty starts v both joined) (sym is)
    record {
      seated = seats.0;
      findings = findings-both s dirty starts found more both one.seen other.seen (greater one.seen other.seen) trail marks joined long taken same seats.1 seats.2 kept fresh all h.findings k.findings;
      room = let old = h.room in let more_room = kept.room in omega arith;
    }

pub work-visited : (s : SystemLists) (board : BoardId) (dirty : List Bool) (starts at from seen x : List Bound) (found : List (Option Reading)) (seat looked told : SeatView) (trail after : Marks) (r : ℕ) →
    r < length s.resources → Members dirty r → IsNoLower seat.seen looked.seen → IsLook s dirty starts at looked.seen → from ≡ at →
    IsRaised s r from x trail after → IsSound s r seen x → IsNowhereAbove at seen → AgreeOutside s r seen x →
    IsSeated s board starts told → IsNoLower looked.seen told.seen → ((i : ℕ) → i < length s.tasks → (task_at s i).res.0 ≡ r → IsAtMost (bound_of x i) (bound_at told.seen i)) →
    IsWork s board dirty starts seat found trail → IsWork s board dirty starts told (set found r (Some (record { seen = seen }))) after
work-visited s board dirty starts at from seen x found seat looked told trail after r in_range on grew look same raised sound up agree seated more announced h =
    let here : IsRaised s r at x trail after = subst (λ (v : List Bound). IsRaised s r v x trail after) same raised in
    record {
      seated = seated;
      findings =
          findings-put s dirty starts seen found seat.seen told.seen trail after r in_range (IsNoLower_trans seat.seen looked.seen told.seen grew more)
          (finding-new s dirty starts at seen x looked.seen told.seen r trail after on look here sound up agree more announced)
          here.kept here.fresh here.marked h.findings;
      room = let old = h.room in let kept = here.kept.room in omega arith;
    }
