-- What the workers of a round know, and what they hand in.
use Rattle.std.specs.Prelude.{ℕ, ◌≡◌, ◌<◌, ◌≤◌, Bool, false, List, Option, Some, None, All, length}
use Rattle.cpa_units.specs.declared.bound.Bound.{Bound}
use Rattle.cpa_units.specs.declared.places.ResId.{ResId}
use Rattle.cpa_units.specs.Bounds.{IsAtMost, IsNowhereAbove, bound_of}
use Rattle.cpa_units.specs.Sets.{holds, Members}
use Rattle.cpa_model.specs.SystemLists.{SystemLists, task_at}
use Rattle.cpa_local.specs.Local.{response}
use Rattle.cpa_local.specs.Solution.{IsVector, least_of}
use Rattle.cpa_local.specs.Trails.{Marks, IsMarked, AreMarked}
use Rattle.cpa_fix.specs.declared.readings.Reading.{Reading}
use Rattle.cpa_fix.specs.Readings.{reading_of}
use Rattle.cpa_local.specs.Rising.{TasksOn}
use Rattle.cpa_board.specs.Seats.{BoardId, SeatView}
use Rattle.cpa_workers.specs.BoardWords.{bound_at, least_words}

-- a list of dirty resources
abbrev pub AreDirty : SystemLists → List Bool → List ResId → Type 0
AreDirty s dirty list = All (λ r. (r.0 < length s.resources) × Members dirty r.0) list

-- a seat of a round that began at `starts`: it is at the board, the least solution is its caps, and what it has seen lies
-- between the two
pub record IsSeated (s : SystemLists) (board : BoardId) (starts : List Bound) (seat : SeatView) : Type 0 where
  pub at : seat.board ≡ board
  pub caps : seat.caps ≡ least_words s
  pub long : length seat.seen ≡ length s.tasks
  pub low : (i : ℕ) → IsAtMost (bound_of starts i) (bound_at seat.seen i)
  pub high : (i : ℕ) → IsAtMost (bound_at seat.seen i) (bound_of (least_of s) i)

-- a vector that a worker reads from the words that its seat has seen: bounds on clean resources are those at the start
pub record IsLook (s : SystemLists) (dirty : List Bool) (starts x : List Bound) (words : List ℕ) : Type 0 where
  pub vector : IsVector s x
  pub above : IsNowhereAbove starts x
  pub below : (i : ℕ) → IsAtMost (bound_of x i) (bound_at words i)
  pub kept : (i : ℕ) → holds dirty (task_at s i).res.0 ≡ false → bound_of x i ≡ bound_of starts i

-- dirty resource r was analysed at such a vector, and the words are no less than what came of it
pub record IsFinding (s : SystemLists) (dirty : List Bool) (starts : List Bound) (r : ℕ) (seen : List Bound) (words : List ℕ) : Type 0 where
  pub is_dirty : Members dirty r
  pub look : IsLook s dirty starts seen words
  pub answered : (i : ℕ) → i < length s.tasks → (task_at s i).res.0 ≡ r → IsAtMost (response s seen i) (bound_at words i)

-- readings of dirty resources, whose tasks are marked, and no mark of another task
pub record AreFindings (s : SystemLists) (dirty : List Bool) (starts : List Bound) (found : List (Option Reading)) (words : List ℕ) (trail : Marks) : Type 0 where
  pub long : length found ≡ length s.resources
  pub sound : (r : ℕ) (reading : Reading) → reading_of found r ≡ Some reading → IsFinding s dirty starts r reading.seen words
  pub marked : (r : ℕ) (reading : Reading) → reading_of found r ≡ Some reading → AreMarked trail (TasksOn s (λ q. q ≡ r))
  pub only : (i : ℕ) → IsMarked trail i → TasksOn s (Members dirty) i

-- what a worker has, and hands in: a seat, readings that its words stand for, and a trail
pub record IsWork (s : SystemLists) (board : BoardId) (dirty : List Bool) (starts : List Bound) (seat : SeatView) (found : List (Option Reading)) (trail : Marks) : Type 0 where
  pub seated : IsSeated s board starts seat
  pub findings : AreFindings s dirty starts found seat.seen trail
  pub room : length s.tasks ≤ trail.room

-- what comes of all workers: words between the start and the least solution, and readings that they stand for
pub record IsRoundResult (s : SystemLists) (dirty : List Bool) (starts : List Bound) (words : List ℕ) (found : List (Option Reading)) (trail : Marks) : Type 0 where
  pub long : length words ≡ length s.tasks
  pub low : (i : ℕ) → IsAtMost (bound_of starts i) (bound_at words i)
  pub high : (i : ℕ) → IsAtMost (bound_at words i) (bound_of (least_of s) i)
  pub findings : AreFindings s dirty starts found words trail

-- bounds on dirty resources are those of the words, and others are as before
pub record IsTaken (s : SystemLists) (dirty : List Bool) (old : List Bound) (words : List ℕ) (new : List Bound) : Type 0 where
  pub long : length new ≡ length old
  pub taken : (i : ℕ) → i < length s.tasks → Members dirty (task_at s i).res.0 → bound_of new i ≡ bound_at words i
  pub kept : (i : ℕ) → holds dirty (task_at s i).res.0 ≡ false → bound_of new i ≡ bound_of old i

-- the members that have no reading; each other member has one
pub record IsMissing (dirty : List Bool) (found : List (Option Reading)) (missing : List Bool) : Type 0 where
  pub lacks : (r : ℕ) → Members missing r → Members dirty r × (reading_of found r ≡ None)
  pub has : (r : ℕ) → Members dirty r → holds missing r ≡ false → (reading : Reading) × (reading_of found r ≡ Some reading)
