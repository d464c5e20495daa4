-- The board machine: words that only rise, a number that counts claims, and seats that have seen values. Threads that share
-- such words may read older ones, as in asynchronous iterations (Chazan, Miranker 1969; Cousot 1977).
use Rattle.std.specs.Prelude.{◌≡◌, ℕ, ◌+◌, ◌%◌, ◌^◌, ◌<◌, ◌≤◌, List, [], ◌∷◌, ◌++◌, max, length, slice_index, slice_set}
use mathlib.Core.Option.{some}
use lib.ListN.{get_elem?}

-- a seat is spent, or live with what it has seen of each word
pub data SeatState : Type 0 where
  Spent : SeatState
  Live : List ℕ → SeatState

pub record Machine : Type 0 where
  pub starts : List ℕ
  pub caps : List ℕ
  pub claims : ℕ
  pub words : List ℕ
  pub seats : List SeatState

-- what a seat does, with what it is answered
pub data Step : Type 0 where
  -- seat a is answered this claim number
  Claim : ℕ → ℕ → Step
  -- seat a finds this value in word i
  Load : ℕ → ℕ → ℕ → Step
  -- seat a raises word i to at least this value
  Raise : ℕ → ℕ → ℕ → Step
  -- a new seat has seen what seat a has
  Split : ℕ → Step
  -- seat a takes in what seat b has seen
  Join : ℕ → ℕ → Step
  -- seat a closes the board, with these words
  Close : ℕ → List ℕ → Step

-- the greater of both, entry by entry
abbrev pub greater : List ℕ → List ℕ → List ℕ
greater [] ws = ws
greater (v ∷ vs) [] = v ∷ vs
greater (v ∷ vs) (w ∷ ws) = max v w ∷ greater vs ws

-- all seats are spent
abbrev pub all_spent : List SeatState → List SeatState
all_spent [] = []
all_spent (s ∷ ss) = Spent ∷ all_spent ss

-- seat a is live, and has seen this
abbrev pub HasSeen : Machine → ℕ → List ℕ → Type 0
HasSeen m a v = get_elem? m.seats a ≡ some (Live v)

-- the machine may take this step from the first state to the second
abbrev pub Takes : Machine → Step → Machine → Type 0
Takes m (Claim a n) t =
    (v : List ℕ) × HasSeen m a v × (n ≡ m.claims) × (t ≡ record m { claims = (m.claims + 1) % 2 ^ 64 })
Takes m (Load a i n) t =
    (v : List ℕ) × HasSeen m a v × (i < length m.words) × (n ≡ slice_index m.words i)
    × (t ≡ record m { seats = slice_set m.seats a (Live (slice_set v i n)) })
Takes m (Raise a i u) t =
    (v : List ℕ) × HasSeen m a v × (i < length m.words) × (u ≤ slice_index m.caps i)
    × (let n = max (slice_index m.words i) u in
    t ≡ record m { words = slice_set m.words i n; seats = slice_set m.seats a (Live (slice_set v i n)) })
Takes m (Split a) t =
    (v : List ℕ) × HasSeen m a v × (t ≡ record m { seats = m.seats ++ Live v ∷ [] })
Takes m (Join b a) t =
    (w : List ℕ) × (v : List ℕ) × HasSeen m b w × HasSeen m a v × ¬ (b ≡ a)
    × (t ≡ record m { seats = slice_set (slice_set m.seats a (Live (greater v w))) b Spent })
Takes m (Close a ws) t =
    (v : List ℕ) × HasSeen m a v × (ws ≡ m.words) × (t ≡ record m { seats = all_spent m.seats })

-- a list of steps leads from the first state to the last
abbrev pub BoardRun : Machine → List Step → Machine → Type 0
BoardRun m [] t = m ≡ t
BoardRun m (x ∷ xs) t = (n : Machine) × Takes m x n × BoardRun n xs t

-- as long, and nowhere above
pub record AreAtMost (xs ys : List ℕ) : Type 0 where
  pub long : length xs ≡ length ys
  pub each : (i : ℕ) → slice_index xs i ≤ slice_index ys i

-- the state in which a board opens
abbrev pub opening : List ℕ → List ℕ → Machine
opening starts caps = record { starts = starts; caps = caps; claims = 0; words = starts; seats = Live starts ∷ [] }

-- the words lie between those at the start and the caps, and no live seat has seen more than they are
pub record IsWithin (m : Machine) : Type 0 where
  pub low : AreAtMost m.starts m.words
  pub high : AreAtMost m.words m.caps
  pub seen : (a : ℕ) (v : List ℕ) → HasSeen m a v → AreAtMost m.starts v × AreAtMost v m.words

-- whatever steps the seats take in any order, the words stay within, and no step makes one fall
abbrev pub WordsOnlyRise : Machine → Type 0
WordsOnlyRise m =
    (steps : List Step) (n : Machine) → BoardRun m steps n →
    IsWithin n × (n.starts ≡ m.starts) × (n.caps ≡ m.caps)
    × ((x : Step) (t : Machine) → Takes n x t → AreAtMost n.words t.words)

-- one step of the machine: a run from the opening has led to the state before it, and the seat that takes it has seen the one
-- list before it and the other after it
abbrev pub IsStep : List ℕ → List ℕ → (ℕ → Step) → List ℕ → List ℕ → Type 0
IsStep starts caps step before after =
    (a : ℕ) × (steps : List Step) × (m : Machine) × (t : Machine) × BoardRun (opening starts caps) steps m × Takes m (step a) t
    × HasSeen m a before × HasSeen t a after

-- the last step: it closes the board with these words, by a seat that has seen this
abbrev pub IsClosing : List ℕ → List ℕ → List ℕ → List ℕ → Type 0
IsClosing starts caps seen words =
    (a : ℕ) × (steps : List Step) × (m : Machine) × (t : Machine) × BoardRun (opening starts caps) steps m × Takes m (Close a words) t
    × HasSeen m a seen
