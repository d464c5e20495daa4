-- Each call on the table is one step of the board machine.
use Rattle.std.proofs.Common.{◌≡◌, ◌≢◌, inr, ℕ, zero, suc, ◌+◌, ◌%◌, ◌^◌, ◌<◌, ◌≤◌, List, [], ◌∷◌, ◌++◌, map, max, length, get_or, set, refl, sym, ap, ◌∙◌, subst, ⊎_elim, arith, add-one}
use Rattle.std.proofs.lemmas.List.{ext_get_or}
use mathlib.Core.Option.{some, none, some-injective, some-ne-none}
use mathlib.Core.List.{map-append}
use lib.ListN.{get_elem?}
use lib.Seq.{map-set}
use Rattle.atomic_table.specs.Table.{State, Me, step, keeps, Allows, Splits, Joins, Final, Seen}
use Rattle.atomic_table.proofs.Lists.{at_set, at_snoc, at_map, set_else, set_again, set_here}
use Rattle.cpa_board.specs.declared.rule.View.{View}
use Rattle.cpa_board.specs.declared.rule.Life.{Life}
use Rattle.cpa_board.specs.declared.rule.Life.TheVariants.{Fresh, Active}
use Rattle.cpa_board.specs.Machine.{SeatState, Machine, Step, greater, all_spent, HasSeen, Takes, BoardRun, AreAtMost, opening, IsStep, IsClosing}
use Rattle.cpa_board.specs.Machine.SeatState.{Spent, Live}
use Rattle.cpa_board.specs.Machine.Step.{Claim, Load, Raise, Split, Join}
use Rattle.cpa_board.specs.Rule.{fresh, active, done, seeing, joined, seat_by, seat_of, Belongs, IsBoard, Keeps, HasClaimed, HasOpened, HasLoaded, HasRaised}
use Rattle.cpa_board.specs.Laws.{SplitsAreSteps, JoinsAreSteps}
use Rattle.cpa_board.proofs.MachineLaws.{IsKept, run_keeps, opening_within}

abbrev St : Type 0
St = State (Unit {0}) View

abbrev Sat : Type 0
Sat = Me (Unit {0}) View

abbrev rule : St → Type 0
rule s = Keeps s.words s.views

run_snoc : (m : Machine) (steps : List Step) (n t : Machine) (x : Step) → BoardRun m steps n → Takes n x t → BoardRun m (steps ++ x ∷ []) t
run_snoc m [] n t x run s = (t, subst (λ z. Takes z x t) (sym run) s, refl)
run_snoc m (y ∷ ys) n t x run s = (run.0, run.1, run_snoc run.0 ys n t x run.2 s)

-- a live seat sits at a board
board_of : (words : List ℕ) (views : List View) → Keeps words views → (id : ℕ) (v : View) → get_elem? views id ≡ some v → v.life ≡ Active → IsBoard words views
board_of words views h id v at life =
    ⊎_elim (λ (alone : views ≡ fresh words ∷ []). absurd (none_active id (subst (λ (z : List View). get_elem? z id ≡ some v) alone at))) (λ (b : IsBoard words views). b) h
  where
    none_active : (id : ℕ) → get_elem? (fresh words ∷ []) id ≡ some v → ⊥
    none_active zero e = let same : Fresh ≡ Active = ap (λ (z : View). z.life) (some-injective _ _ e) ∙ life in cc
    none_active (suc id) e = some-ne-none v (sym e)

live : (v : View) → v.life ≡ Active → seat_of v ≡ Live v.seen
live v life = ap (λ l. seat_by l v.seen) life

stands : {words : List ℕ} {views : List View} (b : IsBoard words views) (id : ℕ) (v : View) → get_elem? views id ≡ some v → v.life ≡ Active → HasSeen b.board id v.seen
stands b id v at life = subst (λ (z : List SeatState). get_elem? z id ≡ some (Live v.seen)) b.seats_are (at_map seat_of _ id v at ∙ ap some (live v life))

kept : {words : List ℕ} {views : List View} (b : IsBoard words views) → IsKept (opening b.starts b.caps) b.board
kept b = run_keeps _ (opening_within b.starts b.caps b.opens) b.steps b.board b.run

-- one step more
next : {words : List ℕ} {views : List View} (b : IsBoard words views) (x : Step) (t : Machine) → Takes b.board x t → (words' : List ℕ) (views' : List View)
    → words' ≡ t.claims ∷ t.words → map seat_of views' ≡ t.seats
    → ((id : ℕ) (v : View) → get_elem? views' id ≡ some v → Belongs b.starts b.caps v.life v)
    → (new : IsBoard words' views') × Takes b.board x new.board
next b x t s words' views' w v agree = (
  record {
    starts = b.starts;
    caps = b.caps;
    opens = b.opens;
    steps = b.steps ++ x ∷ [];
    board = t;
    run = run_snoc _ b.steps b.board t x b.run s;
    words_are = w;
    seats_are = v;
    agree = agree;
  },
  s,
)

goes : {words : List ℕ} {views : List View} (b : IsBoard words views) (x : Step) (t : Machine) → Takes b.board x t → (words' : List ℕ) (views' : List View)
    → words' ≡ t.claims ∷ t.words → map seat_of views' ≡ t.seats
    → ((id : ℕ) (v : View) → get_elem? views' id ≡ some v → Belongs b.starts b.caps v.life v)
    → Keeps words' views'
goes b x t s words' views' w v agree = inr (next b x t s words' views' w v agree).0

abbrev Agree : List ℕ → List ℕ → List View → Type 0
Agree starts caps views = (id : ℕ) (v : View) → get_elem? views id ≡ some v → Belongs starts caps v.life v

at_inside : (ss : List SeatState) (i : ℕ) (s : SeatState) → get_elem? ss i ≡ some s → i < length ss
at_inside [] i s e = absurd (some-ne-none s (sym e))
at_inside (x ∷ xs) zero s e = omega arith
at_inside (x ∷ xs) (suc i) s e = let l = at_inside xs i s e in omega arith

-- the step that was taken is one of the machine
one_step : {words : List ℕ} {views : List View} (b : IsBoard words views) (id : ℕ) (v : View) (x : ℕ → Step) (t : Machine) (seen : List ℕ) → get_elem? views id ≡ some v → v.life ≡ Active
    → Takes b.board (x id) t → HasSeen t id seen → IsStep v.starts v.caps x v.seen seen
one_step b id v x t seen at life s after =
    let k = subst (λ (l : Life). Belongs b.starts b.caps l v) life (b.agree id v at) in
    subst (λ (z : List ℕ × List ℕ). IsStep z.0 z.1 x v.seen seen) (λ i. (sym k.0 i, sym k.1 i)) (id, b.steps, b.board, t, b.run, s, stands b id v at life, after)

sees : {words : List ℕ} {views : List View} (b : IsBoard words views) (id : ℕ) (v : View) (seen : List ℕ) → get_elem? views id ≡ some v → v.life ≡ Active → get_elem? (set b.board.seats id (Live seen)) id ≡ some (Live seen)
sees b id v seen at life = set_here b.board.seats id (Live seen) (at_inside b.board.seats id (Live v.seen) (stands b id v at life))

agree_set : (starts caps : List ℕ) (views : List View) (id : ℕ) (w : View) → Agree starts caps views → Belongs starts caps w.life w → Agree starts caps (set views id w)
agree_set starts caps views id w others mine j u e =
    ⊎_elim (λ (h : (j ≡ id) × (w ≡ u)). subst (λ (z : View). Belongs starts caps z.life z) h.1 mine)
    (λ (h : (j ≢ id) × (get_elem? views j ≡ some u)). others j u h.1) (at_set views id j w u e)

-- a live seat has the board's words at the start and its caps
known : {words : List ℕ} {views : List View} (b : IsBoard words views) (id : ℕ) (v : View) → get_elem? views id ≡ some v → v.life ≡ Active → (v.starts ≡ b.starts) × (v.caps ≡ b.caps)
known b id v at life = subst (λ (l : Life). Belongs b.starts b.caps l v) life (b.agree id v at)

belongs : (starts caps : List ℕ) (v : View) → v.life ≡ Active → (v.starts ≡ starts) × (v.caps ≡ caps) → Belongs starts caps v.life v
belongs starts caps v life h = subst (λ (l : Life). Belongs starts caps l v) (sym life) h

seats_set : (views : List View) (seats : List SeatState) (id : ℕ) (w : View) (s : SeatState) → map seat_of views ≡ seats → seat_of w ≡ s → map seat_of (set views id w) ≡ set seats id s
seats_set views seats id w s e f = map-set seat_of views id w ∙ λ i. set (e i) id (f i)

words_again : (words : List ℕ) (i : ℕ) → i < length words → set words i (get_or words i 0) ≡ words
words_again [] i h = refl
words_again (x ∷ xs) zero h = refl
words_again (x ∷ xs) (suc i) h = ap (λ (z : List ℕ). x ∷ z) (words_again xs i (omega arith))

-- a claim
pub claims : (slots id : ℕ) (me : Sat) → me.0.life ≡ Active → Allows rule slots id me 0 (λ n. (n + 1) % 2 ^ 64) (HasClaimed (step slots 0 1 0 none) me)
claims slots id me life s h _ at _ =
    let b = board_of s.words s.views h id me.0 at life in
    let m = b.board in
    let n = get_or s.words 0 0 in
    let here : n ≡ m.claims = ap (λ (z : List ℕ). get_or z 0 0) b.words_are in
    let next = (n + 1) % 2 ^ 64 in (
      me.0,
      keeps,
      tt,
      goes b (Claim id m.claims) record m { claims = (m.claims + 1) % 2 ^ 64 } (me.0.seen, stands b id me.0 at life, refl, refl) (set s.words 0 next) (set s.views id me.0)
          ((λ i. set (b.words_are i) 0 ((here i + 1) % 2 ^ 64)))
          (ap (map seat_of) (set_again s.views id me.0 at) ∙ b.seats_are)
          (subst (Agree b.starts b.caps) (sym (set_again s.views id me.0 at)) b.agree),
      (refl, one_step b id me.0 (λ a. Claim a n) record m { claims = (m.claims + 1) % 2 ^ 64 } me.0.seen at life (me.0.seen, stands b id me.0 at life, here, refl) (stands b id me.0 at life)),
    )

-- what a live seat has seen, in its board
record Sits {words : List ℕ} {views : List View} (b : IsBoard words views) (v : View) (i : ℕ) : Type 0 where
  pub inside : i < length b.board.words
  pub low : get_or v.seen i 0 ≤ get_or b.board.words i 0
  pub high : get_or b.board.words i 0 ≤ get_or v.caps i 0
  pub caps : get_or b.board.caps i 0 ≡ get_or v.caps i 0

sits : {words : List ℕ} {views : List View} (b : IsBoard words views) (id : ℕ) (v : View) (i : ℕ) → get_elem? views id ≡ some v → v.life ≡ Active → i < length v.seen → Sits b v i
sits b id v i at life l =
    let k = kept b in
    let mine = (k.within.seen id v.seen (stands b id v at life)).1 in
    let long = mine.long in
    let agree = known b id v at life in
    let same : get_or b.board.caps i 0 ≡ get_or v.caps i 0 = ap (λ (z : List ℕ). get_or z i 0) (k.caps ∙ sym agree.1) in
    record { inside = omega arith; low = mine.each i; high = subst (λ (z : ℕ). get_or b.board.words i 0 ≤ z) same (k.within.high.each i); caps = same }

-- the seat that steps has seen something, and the others know what they knew
agree_seen : {words : List ℕ} {views : List View} (b : IsBoard words views) (id : ℕ) (v : View) (i n : ℕ) → get_elem? views id ≡ some v → v.life ≡ Active → Agree b.starts b.caps (set views id (seeing v i n))
agree_seen b id v i n at life = agree_set b.starts b.caps _ id (seeing v i n) b.agree (belongs b.starts b.caps (seeing v i n) life (known b id v at life))

-- a load
loads_at : (slots id : ℕ) (me : Sat) (i : ℕ) → me.0.life ≡ Active → i < length me.0.seen → Allows rule slots id me (suc i) (λ n. n) (HasLoaded (step slots (suc i) 0 0 none) me)
loads_at slots id me i life l s h _ at _ =
    let b = board_of s.words s.views h id me.0 at life in
    let m = b.board in
    let v = me.0 in
    let n = get_or s.words (suc i) 0 in
    let f = sits b id v i at life l in
    let here : n ≡ get_or m.words i 0 = ap (λ (z : List ℕ). get_or z (suc i) 0) b.words_are in
    let inside : suc i < length s.words = (let w = ap (λ (z : List ℕ). length z) b.words_are in let k = f.inside in omega arith) in
    let still = words_again s.words (suc i) inside in (
      seeing v i n,
      keeps,
      tt,
      goes b (Load id i n) record m { seats = set m.seats id (Live (set v.seen i n)) } (v.seen, stands b id v at life, f.inside, here, refl) (set s.words (suc i) n) (set s.views id (seeing v i n))
          (still ∙ b.words_are)
          (seats_set s.views m.seats id (seeing v i n) (Live (set v.seen i n)) b.seats_are (live (seeing v i n) life))
          (agree_seen b id v i n at life),
      λ k e.
          let same : i ≡ k = omega arith in
          subst (λ (z : ℕ). (◌≡◌ {A = Sat} (seeing v i n, me.1) (seeing v z n, me.1)) × (get_or v.seen z 0 ≤ n) × (n ≤ get_or v.caps z 0) × IsStep v.starts v.caps (λ a. Load a z n) v.seen (set v.seen i n)) same
          (refl, subst (λ (z : ℕ). get_or v.seen i 0 ≤ z) (sym here) f.low, subst (λ (z : ℕ). z ≤ get_or v.caps i 0) (sym here) f.high, one_step b id v (λ a. Load a i n) record m { seats = set m.seats id (Live (set v.seen i n)) } (set v.seen i n) at life (v.seen, stands b id v at life, f.inside, here, refl) (sees b id v (set v.seen i n) at life)),
    )

pub loads : (slots id : ℕ) (me : Sat) (i j : ℕ) → suc i ≡ j → me.0.life ≡ Active → i < length me.0.seen → Allows rule slots id me j (λ n. n) (HasLoaded (step slots j 0 0 none) me)
loads slots id me i j e life l = subst (λ (z : ℕ). Allows rule slots id me z (λ n. n) (HasLoaded (step slots z 0 0 none) me)) e (loads_at slots id me i life l)

-- a raise
raises_at : (slots id : ℕ) (me : Sat) (i u : ℕ) → me.0.life ≡ Active → i < length me.0.seen → u ≤ get_or me.0.caps i 0 → Allows rule slots id me (suc i) (λ n. max n u) (HasRaised (step slots (suc i) u 0 none) me)
raises_at slots id me i u life l may s h _ at _ =
    let b = board_of s.words s.views h id me.0 at life in
    let m = b.board in
    let v = me.0 in
    let n = get_or s.words (suc i) 0 in
    let f = sits b id v i at life l in
    let here : n ≡ get_or m.words i 0 = ap (λ (z : List ℕ). get_or z (suc i) 0) b.words_are in
    let x = max n u in
    let low = f.low in
    let high = f.high in
    let caps = f.caps in
    let y = max (get_or m.words i 0) u in
    let t = record m { words = set m.words i y; seats = set m.seats id (Live (set v.seen i y)) } in
    let own : IsStep v.starts v.caps (λ a. Raise a i u) v.seen (set v.seen i y) = one_step b id v (λ a. Raise a i u) t (set v.seen i y) at life (v.seen, stands b id v at life, f.inside, (omega arith), refl) (sees b id v (set v.seen i y) at life) in
    let done_step : IsStep v.starts v.caps (λ a. Raise a i u) v.seen (set v.seen i x) = subst (λ (k : ℕ). IsStep v.starts v.caps (λ a. Raise a i u) v.seen (set v.seen i (max k u))) (sym here) own in (
      seeing v i x,
      keeps,
      tt,
      goes b (Raise id i u) record m { words = set m.words i (max (get_or m.words i 0) u); seats = set m.seats id (Live (set v.seen i (max (get_or m.words i 0) u))) }
          (v.seen, stands b id v at life, f.inside, (omega arith), refl) (set s.words (suc i) x) (set s.views id (seeing v i x))
          (λ k. set (b.words_are k) (suc i) (max (here k) u))
          (seats_set s.views m.seats id (seeing v i x) (Live (set v.seen i (max (get_or m.words i 0) u))) b.seats_are (live (seeing v i x) life ∙ λ k. Live (set v.seen i (max (here k) u))))
          (agree_seen b id v i x at life),
      λ k e.
          let same : i ≡ k = omega arith in
          subst (λ (z : ℕ). (◌≡◌ {A = Sat} (seeing v i x, me.1) (seeing v z x, me.1)) × (get_or v.seen z 0 ≤ x) × (x ≤ get_or v.caps z 0) × IsStep v.starts v.caps (λ a. Raise a z u) v.seen (set v.seen i x)) same
          (refl, omega arith, omega arith, done_step),
    )

pub raises : (slots id : ℕ) (me : Sat) (i j u : ℕ) → suc i ≡ j → me.0.life ≡ Active → i < length me.0.seen → u ≤ get_or me.0.caps i 0 → Allows rule slots id me j (λ n. max n u) (HasRaised (step slots j u 0 none) me)
raises slots id me i j u e life l may = subst (λ (z : ℕ). Allows rule slots id me z (λ n. max n u) (HasRaised (step slots z u 0 none) me)) e (raises_at slots id me i u life l may)

-- a split
pub splits_step : SplitsAreSteps
splits_step words views b id v at life =
    let m = b.board in
    let again = set_again views id v at in
    subst (λ (z : List View). (new : IsBoard words (z ++ v ∷ [])) × Takes b.board (Split id) new.board) (sym again)
    (next b (Split id) record m { seats = m.seats ++ Live v.seen ∷ [] } (v.seen, stands b id v at life, refl) words (views ++ v ∷ []) b.words_are
    (map-append seat_of views (v ∷ []) ∙ λ i. b.seats_are i ++ live v life i ∷ [])
    (λ j u e. ⊎_elim (λ (old : get_elem? views j ≡ some u). b.agree j u old) (λ (new : v ≡ u). subst (λ (z : View). Belongs b.starts b.caps z.life z) new (b.agree id v at)) (at_snoc views v u j e)))

pub splits : (id : ℕ) (v : View) → v.life ≡ Active → Splits rule id v v v
splits id v life s h at = inr (splits_step s.words s.views (board_of s.words s.views h id v at life) id v at life).0

-- a join
pub joins_step : JoinsAreSteps
joins_step words views b id other v w at life was life' apart =
    let m = b.board in
    let x = joined v w in
    next b (Join other id) record m { seats = set (set m.seats id (Live (greater v.seen w.seen))) other Spent }
    (w.seen, v.seen, stands b other w was life', stands b id v at life, apart, refl) words (set (set views id x) other done) b.words_are
    (seats_set (set views id x) (set m.seats id (Live (greater v.seen w.seen))) other done Spent (seats_set views m.seats id x (Live (greater v.seen w.seen)) b.seats_are (live x life)) refl)
    (agree_set b.starts b.caps (set views id x) other done (agree_set b.starts b.caps views id x b.agree (belongs b.starts b.caps x life (known b id v at life))) tt)

pub joins : (id other : ℕ) (v w : View) → v.life ≡ Active → w.life ≡ Active → Joins rule id v other w (joined v w) done
joins id other v w life life' s h at apart at' =
    let was : get_elem? s.views other ≡ some w = sym (set_else s.views id other (joined v w) apart) ∙ at' in
    inr (joins_step s.words s.views (board_of s.words s.views h id v at life) id other v w at life was life' apart).0

-- the opening step
abbrev tail : List ℕ → List ℕ
tail [] = []
tail (x ∷ xs) = xs

not_fresh : (starts caps : List ℕ) (l : Life) (v : View) → Fresh ≡ l → Belongs starts caps l v → ⊥
not_fresh starts caps l v e h = subst (λ (z : Life). Belongs starts caps z v) (sym e) h

unshared : (words : List ℕ) (views : List View) (ws : List ℕ) → Keeps words views → get_elem? views 0 ≡ some (fresh ws) → (views ≡ fresh words ∷ []) × (words ≡ ws)
unshared words views ws h at =
    ⊎_elim
    (λ (alone : views ≡ fresh words ∷ []). (alone, ap (λ (z : View). z.starts) (some-injective _ _ (subst (λ (z : List View). get_elem? z 0 ≡ some (fresh ws)) alone at))))
    (λ (b : IsBoard words views). absurd (b.agree 0 (fresh ws) at)) h

pub opens : (slots : ℕ) (caps : List ℕ) (starts : List ℕ) → AreAtMost starts caps → Allows rule slots 0 (fresh (0 ∷ starts), []) 0 (λ n. n) (λ n m. HasOpened caps (fresh (0 ∷ starts), []) m)
opens slots caps starts fits s h _ at _ =
    let u = unshared s.words s.views (0 ∷ starts) h at in
    let w = active starts caps starts in
    let P : List ℕ → List View → Type 0 = λ words views. Keeps (set words 0 (get_or words 0 0)) (set views 0 w) in (
      w,
      keeps,
      tt,
      subst (λ (z : List ℕ × List View). P z.0 z.1) (λ i. (sym u.1 i, (sym u.0 i)))
          (inr
          record {
            starts = starts;
            caps = caps;
            opens = fits;
            steps = [];
            board = opening starts caps;
            run = refl;
            words_are = refl;
            seats_are = refl;
            agree = one;
          }),
      λ starts' e fits'. let same : starts ≡ starts' = ap (λ (z : View). tail z.starts) e in λ i. (active (same i) caps (same i), []),
    )
  where
    one : (id : ℕ) (v : View) → get_elem? (active starts caps starts ∷ []) id ≡ some v → Belongs starts caps v.life v
    one zero v e = subst (λ (z : View). Belongs starts caps z.life z) (some-injective _ _ e) (refl, refl)
    one (suc id) v e = absurd (some-ne-none v (sym e))

-- what a closed table has
at_get : (xs : List ℕ) (i n : ℕ) → get_elem? xs i ≡ some n → get_or xs i 0 ≡ n
at_get [] i n e = absurd (some-ne-none n (sym e))
at_get (x ∷ xs) zero n e = some-injective x n e
at_get (x ∷ xs) (suc i) n e = at_get xs i n e

-- the words that a live seat closes with
pub closes : (id : ℕ) (v : View) (ws out : List ℕ) (xs : List (Unit {0})) → v.life ≡ Active → Final (Seen rule id v) ws xs → length v.seen ≡ length v.caps → length out ≡ length v.caps
    → ((i : ℕ) → i < length out → get_elem? ws (i + 1) ≡ some (get_or out i 0))
    → IsClosing v.starts v.caps v.seen out × ((i : ℕ) → i < length v.caps → (get_or v.seen i 0 ≤ get_or out i 0) × (get_or out i 0 ≤ get_or v.caps i 0))
closes id v ws out xs life f long room found =
    let s = f.0 in
    let b = board_of s.words s.views f.1.0 id v f.1.1 life in
    let m = b.board in
    let here = stands b id v f.1.1 life in
    let agree = known b id v f.1.1 life in
    let seen = ((kept b).within.seen id v.seen here).1.long in
    let told : (i : ℕ) → i < length out → get_or out i 0 ≡ get_or m.words i 0 =
    λ i l.
    let found' : get_elem? ws (suc i) ≡ some (get_or out i 0) = subst (λ (z : ℕ). get_elem? ws z ≡ some (get_or out i 0)) (add-one i) (found i l) in
    sym (at_get ws (suc i) (get_or out i 0) found') ∙ ap (λ (z : List ℕ). get_or z (suc i) 0) (sym f.2 ∙ b.words_are) in
    let same : out ≡ m.words = ext_get_or 0 out m.words (omega arith) told in (
      subst (λ (z : List ℕ × List ℕ). IsClosing z.0 z.1 v.seen out) (λ i. (sym agree.0 i, sym agree.1 i))
          (id, b.steps, m, record m { seats = all_spent m.seats }, b.run, (v.seen, here, same, refl), here),
      λ i l.
          let k = sits b id v i f.1.1 life (omega arith) in
          subst (λ (z : ℕ). (get_or v.seen i 0 ≤ z) × (z ≤ get_or v.caps i 0)) (sym (told i (omega arith))) (k.low, k.high),
    )

pub opens_here : (slots id : ℕ) (me : Sat) (named caps starts : List ℕ) → id ≡ 0 → me ≡ (fresh (0 ∷ starts), []) → named ≡ caps → AreAtMost starts caps
    → Allows rule slots id me 0 (λ n. n) (λ n m. HasOpened named me m)
opens_here slots id me named caps starts first is same fits =
    subst (λ (z : ℕ × Sat × List ℕ). Allows rule slots z.0 z.1 0 (λ n. n) (λ n m. HasOpened z.2 z.1 m)) (λ i. (sym first i, sym is i, sym same i)) (opens slots caps starts fits)
