-- What the search for the longest chains keeps.
use Rattle.std.proofs.Common.{◌≡◌, ◌≢◌, ℕ, zero, suc, ◌+◌, ◌-◌, ◌<◌, ◌≤◌, max, Bool, true, false, nat_lt, List, length, take, Option, Some, None, option_map, is_none, slice_index_or, slice_set, [], ◌∷◌, ◌++◌, ◌⊎◌, inl, inr, refl, sym, subst, ◌∙◌, ap, arith, length-append}
use Rattle.std.specs.List.{sum_by}
use Rattle.std.proofs.lemmas.Bool.{ltb-true, ltb-false, cases_Bool, true≢false}
use Rattle.std.proofs.lemmas.List.{take_all}
use Rattle.std.proofs.lemmas.List.Sums.{sum_by-cons, sum_by_push}
use Rattle.cpa_draft.specs.First.{first_place}
use Rattle.cpa_draft.specs.declared.links.Link.{Link}
use Rattle.cpa_draft.specs.declared.links.Link.TheVariants as link
use Rattle.cpa_draft.specs.declared.chains.Mark.{Mark}
use Rattle.cpa_draft.specs.declared.chains.Mark.TheVariants.{New, Open, Known}
use Rattle.cpa_draft.specs.declared.chains.Visit.{Visit}
use Rattle.cpa_draft.specs.declared.chains.Next.{Next}
use Rattle.cpa_draft.specs.declared.chains.Next.TheVariants.{Done, Endless, Chain, Unknown}
use Rattle.cpa_draft.specs.Chains.{link_step, links_step, chain_within, first_longer}
use Rattle.cpa_draft.specs.Search.{AreWithin, known_of, known_count, KnowsChains, NoneOpen, StayKnown, IsKnown, AreAllKnown, is_longer, next_task, next_link, seen_more, new_visit}
use Rattle.cpa_draft.proofs.ChainLaws.{links_step-none, links_step-push, links_step-more, links_step-some, chain_within-exact, chain_within-most, chain_within-short}
use Rattle.cpa_draft.proofs.FirstLemmas.{first_place-agree}
use Rattle.cpa_draft.proofs.ListLaws.{get_or-any}

-- marks that differ
is_new : Mark → Bool
is_new New = true
is_new _ = false

is_open : Mark → Bool
is_open (Open k) = true
is_open _ = false

number_of : Mark → ℕ
number_of New = 0
number_of (Open k) = k
number_of (Known n) = n

pub new-open : (k : ℕ) → New ≡ Open k → ⊥
unfolding is_new
new-open k e = true≢false (ap is_new e)

pub new-known : (n : ℕ) → New ≡ Known n → ⊥
unfolding is_new
new-known n e = true≢false (ap is_new e)

pub open-known : (k n : ℕ) → Open k ≡ Known n → ⊥
unfolding is_open
open-known k n e = true≢false (ap is_open e)

same-open : (k m : ℕ) → Open k ≡ Open m → k ≡ m
unfolding number_of
same-open k m e = ap number_of e

same-known : (k m : ℕ) → Known k ≡ Known m → k ≡ m
unfolding number_of
same-known k m e = ap number_of e

-- what activators give that differ
is_endless : Next → Bool
is_endless Endless = true
is_endless _ = false

is_chain : Next → Bool
is_chain (Chain n) = true
is_chain _ = false

is_unknown : Next → Bool
is_unknown (Unknown j) = true
is_unknown _ = false

amount_of : Next → ℕ
amount_of (Chain n) = n
amount_of (Unknown j) = j
amount_of _ = 0

chain-endless : (n : ℕ) → Chain n ≡ Endless → ⊥
unfolding is_chain
chain-endless n e = true≢false (ap is_chain e)

unknown-endless : (j : ℕ) → Unknown j ≡ Endless → ⊥
unfolding is_unknown
unknown-endless j e = true≢false (ap is_unknown e)

endless-chain : (n : ℕ) → Endless ≡ Chain n → ⊥
unfolding is_endless
endless-chain n e = true≢false (ap is_endless e)

unknown-chain : (j n : ℕ) → Unknown j ≡ Chain n → ⊥
unfolding is_unknown
unknown-chain j n e = true≢false (ap is_unknown e)

endless-unknown : (j : ℕ) → Endless ≡ Unknown j → ⊥
unfolding is_endless
endless-unknown j e = true≢false (ap is_endless e)

chain-unknown : (n j : ℕ) → Chain n ≡ Unknown j → ⊥
unfolding is_chain
chain-unknown n j e = true≢false (ap is_chain e)

same-chain : (n m : ℕ) → Chain n ≡ Chain m → n ≡ m
unfolding amount_of
same-chain n m e = ap amount_of e

same-unknown : (i j : ℕ) → Unknown i ≡ Unknown j → i ≡ j
unfolding amount_of
same-unknown i j e = ap amount_of e

abbrev pub is_done : Next → Bool
is_done Done = true
is_done _ = false

done-other : (next : Next) → is_done next ≡ false → next ≡ Done → ⊥
done-other next other e = true≢false (sym (ap is_done e) ∙ other)

-- a list with one entry changed
pub set_cases : {X : Type 0} (xs : List X) (i : ℕ) (v : X) (j : ℕ) (d : X) → i < length xs
    → ((j ≡ i) × (slice_index_or (slice_set xs i v) j d ≡ v)) ⊎ ((j ≢ i) × (slice_index_or (slice_set xs i v) j d ≡ slice_index_or xs j d))
set_cases [] i v j d h = absurd (omega arith)
set_cases (x ∷ xs) zero v zero d h = inl (refl, refl)
set_cases (x ∷ xs) zero v (suc j) d h = inr (λ e. absurd (omega arith), refl)
set_cases (x ∷ xs) (suc i) v zero d h = inr (λ e. absurd (omega arith), refl)
set_cases (x ∷ xs) (suc i) v (suc j) d h = elim (set_cases xs i v j d (omega arith)) [
  | inl (same, is) ↦ inl (ap suc same, is)
  | inr (other, is) ↦ inr (λ e. other (omega arith), is)
]

length-set : {X : Type 0} (xs : List X) (i : ℕ) (v : X) → length (slice_set xs i v) ≡ length xs
length-set [] i v = refl
length-set (x ∷ xs) zero v = refl
length-set (x ∷ xs) (suc i) v = ap suc (length-set xs i v)

count-set : (marks : List Mark) (i : ℕ) (m : Mark) → i < length marks → known_count (slice_set marks i m) + known_of (slice_index_or marks i New) ≡ known_count marks + known_of m
count-set [] i m h = absurd (omega arith)
count-set (x ∷ xs) zero m h = omega (arith, sum_by-cons known_of x xs, sum_by-cons known_of m xs)
count-set (x ∷ xs) (suc i) m h = omega (arith, sum_by-cons known_of x xs, sum_by-cons known_of x (slice_set xs i m), count-set xs i m (omega arith))

pub count-most : (marks : List Mark) → known_count marks ≤ length marks
count-most [] = omega arith
count-most (x ∷ xs) = let one : known_of x ≤ 1 = most x in omega (arith, sum_by-cons known_of x xs, count-most xs)
  where
    most : (m : Mark) → known_of m ≤ 1
    most New = omega arith
    most (Open k) = omega arith
    most (Known n) = omega arith

-- the visits from the first that waits to the last, which is under way
abbrev pub at : List Visit → Visit → ℕ → Visit
at below top k = slice_index_or below k top

at-last : (below : List Visit) (top : Visit) → at below top (length below) ≡ top
at-last [] top = refl
at-last (v ∷ vs) top = at-last vs top

pub at-task : (below : List Visit) (v w : Visit) (k : ℕ) → v.task ≡ w.task → (at below v k).task ≡ (at below w k).task
at-task [] v w k same = same
at-task (x ∷ xs) v w zero same = refl
at-task (x ∷ xs) v w (suc k) same = at-task xs v w k same

pub at-push : (below : List Visit) (top v : Visit) (k : ℕ) → k ≤ length below → at (below ++ top ∷ []) v k ≡ at below top k
at-push [] top v zero h = refl
at-push [] top v (suc k) h = absurd (omega arith)
at-push (x ∷ xs) top v zero h = refl
at-push (x ∷ xs) top v (suc k) h = at-push xs top v k (omega arith)

at-pushed : (below : List Visit) (top v : Visit) → at (below ++ top ∷ []) v (suc (length below)) ≡ v
at-pushed [] top v = refl
at-pushed (x ∷ xs) top v = at-pushed xs top v

-- what holds of those that wait and of the last holds of each
each-at : (P : ℕ → Visit → Type 0) (below : List Visit) (top : Visit) → ((k : ℕ) → k < length below → P k (at below top k)) → P (length below) top
    → (k : ℕ) → k ≤ length below → P k (at below top k)
each-at P below top each last k h = elim (cases_Bool (nat_lt k (length below))) [
  | inl more ↦ each k (ltb-true _ _ more)
  | inr less ↦ let same : k ≡ length below = omega (arith, ltb-false _ _ less) in rw (same, at-last below top) last
]

-- an activator of a task's
abbrev pub link_at : List (List Link) → ℕ → ℕ → Link
link_at links task k = slice_index_or (slice_index_or links task []) k link.Source

there : (ls : List Link) (k j : ℕ) → slice_index_or ls k link.Source ≡ link.Task j → k < length ls
there [] k j e = absurd (source-task j e)
  where
    is_source : Link → Bool
    is_source link.Source = true
    is_source _ = false

    source-task : (j : ℕ) → link.Source ≡ link.Task j → ⊥
    source-task j e = true≢false (ap is_source e)
there (l ∷ ls) zero j e = omega arith
there (l ∷ ls) (suc k) j e = omega (arith, there ls k j e)

-- A task that waits at place k has the longest chain over the activators that were looked at.
pub record IsVisit (links : List (List Link)) (marks : List Mark) (k : ℕ) (v : Visit) : Type 0 where
  pub there : v.task < length links
  pub waits : slice_index_or marks v.task New ≡ Open k
  pub longest : links_step (take v.seen (slice_index_or links v.task [])) (chain_within links (v.longest - 1)) ≡ Some v.longest
  pub few : v.longest ≤ known_count marks + 1

-- The tasks that wait are those that are marked so, and each waits for the next.
pub record IsWalk (links : List (List Link)) (marks : List Mark) (below : List Visit) (top : Visit) : Type 0 where
  pub count : length marks ≡ length links
  pub known : KnowsChains links marks
  pub visits : (k : ℕ) → k ≤ length below → IsVisit links marks k (at below top k)
  pub waits : (j k : ℕ) → slice_index_or marks j New ≡ Open k → (k ≤ length below) × ((at below top k).task ≡ j)
  pub leads : (k : ℕ) → k < length below → link_at links (at below top k).task (at below top k).seen ≡ link.Task (at below top (suc k)).task

pub top_visit : (links : List (List Link)) (marks : List Mark) (below : List Visit) (top : Visit) → IsWalk links marks below top → IsVisit links marks (length below) top
top_visit links marks below top w = rw (at-last below top) at (w.visits (length below) (omega arith))

-- where the last leads to no source, none does
lost_step : (marks : List Mark) (l : Link) (f : ℕ → Option ℕ) → next_link marks l ≡ Endless → ((j k : ℕ) → slice_index_or marks j New ≡ Open k → f j ≡ None) → link_step l f ≡ None
lost_step marks link.Nothing f e lost = refl
lost_step marks link.Source f e lost = absurd (chain-endless 1 e)
lost_step marks (link.Task j) f e lost = by (slice_index_or marks j New) refl e
  where
    by : (m : Mark) → slice_index_or marks j New ≡ m → next_task j m ≡ Endless → option_map suc (f j) ≡ None
    by New at e = absurd (unknown-endless j e)
    by (Open k) at e = rw (lost j k at) refl
    by (Known n) at e = absurd (chain-endless (n + 1) e)

pub walk-endless : (links : List (List Link)) (marks : List Mark) (below : List Visit) (top : Visit) → IsWalk links marks below top
    → top.seen < length (slice_index_or links top.task []) → next_link marks (link_at links top.task top.seen) ≡ Endless
    → (n k : ℕ) → k ≤ length below → chain_within links n (at below top k).task ≡ None
unfolding chain_within
walk-endless links marks below top w less lost zero k h = refl
walk-endless links marks below top w less lost (suc n) k h =
    each-at (λ k v. links_step (slice_index_or links v.task []) (chain_within links n) ≡ None) below top
    (λ k h. let leads = w.leads k h in
    links_step-none (slice_index_or links (at below top k).task []) (chain_within links n) (at below top k).seen link.Source
    (there _ _ _ leads)
    (rw (leads, walk-endless links marks below top w less lost n (suc k) (omega arith)) refl))
    (links_step-none (slice_index_or links top.task []) (chain_within links n) top.seen link.Source less
    (lost_step marks (link_at links top.task top.seen) (chain_within links n) lost
    (λ j k is. let o = w.waits j k is in rw (o.1) at (walk-endless links marks below top w less lost n k o.0))))
    k h

-- one activator more
chain_step : (links : List (List Link)) (marks : List Mark) (l : Link) (c m : ℕ) → KnowsChains links marks → next_link marks l ≡ Chain c → c ≤ m + 1
    → (link_step l (chain_within links m) ≡ Some c) × (c ≤ known_count marks + 1)
chain_step links marks link.Nothing c m known e h = absurd (endless-chain c e)
chain_step links marks link.Source c m known e h = let p : 1 ≡ c = same-chain 1 c e in (ap Some p, omega arith)
chain_step links marks (link.Task j) c m known e h = by (slice_index_or marks j New) refl e
  where
    by : (mark : Mark) → slice_index_or marks j New ≡ mark → next_task j mark ≡ Chain c → (option_map suc (chain_within links m j) ≡ Some c) × (c ≤ known_count marks + 1)
    by New at e = absurd (unknown-chain j c e)
    by (Open k) at e = absurd (endless-chain c e)
    by (Known n) at e =
        let p : n + 1 ≡ c = same-chain (n + 1) c e in
        let is = known j n at in
        (rw (chain_within-exact links n m j n is.0 (omega arith)) (ap Some (omega arith)), omega (arith, is.1))

pub walk-seen : (links : List (List Link)) (marks : List Mark) (below : List Visit) (top : Visit) (c : ℕ) → IsWalk links marks below top
    → top.seen < length (slice_index_or links top.task []) → next_link marks (link_at links top.task top.seen) ≡ Chain c → IsWalk links marks below (seen_more top c)
walk-seen links marks below top c w less is =
    let last = top_visit links marks below top w in
    let some = links_step-some (take top.seen (slice_index_or links top.task [])) (chain_within links (top.longest - 1)) top.longest last.longest in
    let most : max top.longest c ≡ (max top.longest c - 1) + 1 = omega arith in
    let step = chain_step links marks (link_at links top.task top.seen) c (max top.longest c - 1) w.known is (omega arith) in
    let before : links_step (take top.seen (slice_index_or links top.task [])) (chain_within links (max top.longest c - 1)) ≡ Some top.longest =
    links_step-more (take top.seen (slice_index_or links top.task [])) (chain_within links (top.longest - 1)) (chain_within links (max top.longest c - 1)) top.longest
    (λ j d e. chain_within-exact links (top.longest - 1) (max top.longest c - 1) j d e (omega (arith, chain_within-most links (top.longest - 1) j d e)))
    last.longest in
    record {
      count = w.count;
      known = w.known;
      visits = each-at (IsVisit links marks) below (seen_more top c)
          (λ k h. rw (get_or-any below k (seen_more top c) top h) (w.visits k (omega arith)))
          (record {
            there = last.there;
            waits = last.waits;
            longest = links_step-push (slice_index_or links top.task []) (chain_within links (max top.longest c - 1)) top.seen link.Source less ∙ rw (before, step.0) refl;
            few = omega (arith, last.few, step.1);
          });
      waits = λ j k is. (((w.waits j k is).0), at-task below (seen_more top c) top k refl ∙ (w.waits j k is).1);
      leads = λ k h. rw (get_or-any below k (seen_more top c) top h) (w.leads k h ∙ ap link.Task (sym (at-task below (seen_more top c) top (suc k) refl)));
    }

-- one task more
pub unknown_link : (marks : List Mark) (l : Link) (j : ℕ) → next_link marks l ≡ Unknown j → (l ≡ link.Task j) × (slice_index_or marks j New ≡ New)
unknown_link marks link.Nothing j e = absurd (endless-unknown j e)
unknown_link marks link.Source j e = absurd (chain-unknown 1 j e)
unknown_link marks (link.Task i) j e = by (slice_index_or marks i New) refl e
  where
    by : (mark : Mark) → slice_index_or marks i New ≡ mark → next_task i mark ≡ Unknown j → (link.Task i ≡ link.Task j) × (slice_index_or marks j New ≡ New)
    by New at e = let p : i ≡ j = same-unknown i j e in (ap link.Task p, rw (← p) at)
    by (Open k) at e = absurd (endless-unknown j e)
    by (Known n) at e = absurd (chain-unknown (n + 1) j e)

pub unknown_within : (links : List (List Link)) (marks : List Mark) (i k j : ℕ) → AreWithin links → next_link marks (link_at links i k) ≡ Unknown j → j < length links
unknown_within links marks i k j within e = within i k j (unknown_link marks (link_at links i k) j e).0

pub KnowsChains-new : (links : List (List Link)) (marks : List Mark) (j k : ℕ) → j < length marks → slice_index_or marks j New ≡ New → KnowsChains links marks
    → KnowsChains links (slice_set marks j (Open k))
KnowsChains-new links marks j k h new known =
    let count : known_count (slice_set marks j (Open k)) ≡ known_count marks = let s = count-set marks j (Open k) h in let s : _ = rw new at s in omega arith in
    λ i n is. elim (set_cases marks j (Open k) i New h) [
      | inl (same, opened) ↦ absurd (open-known k n (sym opened ∙ is))
      | inr (other, stays) ↦ rw count (known i n (sym stays ∙ is))
    ]

pub walk-opened : (links : List (List Link)) (marks : List Mark) (below : List Visit) (top : Visit) (j : ℕ) → IsWalk links marks below top → AreWithin links
    → next_link marks (link_at links top.task top.seen) ≡ Unknown j → IsWalk links (slice_set marks j (Open (length below + 1))) (below ++ top ∷ []) (new_visit j)
walk-opened links marks below top j w within is =
    let unknown = unknown_link marks (link_at links top.task top.seen) j is in
    let less : j < length marks = omega (arith, w.count, unknown_within links marks top.task top.seen j within is) in
    let marked = slice_set marks j (Open (length below + 1)) in
    let count : known_count marked ≡ known_count marks = let s = count-set marks j (Open (length below + 1)) less in let s : _ = rw unknown.1 at s in omega arith in
    let more : length (below ++ top ∷ []) ≡ length below + 1 = length-append below (top ∷ []) in
    let each = λ (k : ℕ) (h : k ≤ length below). waiting k h less count unknown.1 in
    record {
      count = length-set marks j (Open (length below + 1)) ∙ w.count;
      known = KnowsChains-new links marks j (length below + 1) less unknown.1 w.known;
      visits = each-at (IsVisit links marked) (below ++ top ∷ []) (new_visit j)
          (λ k h. rw (at-push below top (new_visit j) k (omega arith)) (each k (omega arith)))
          (rw more (record {
            there = omega (arith, w.count);
            waits = elim (set_cases marks j (Open (length below + 1)) j New less) [
              | inl (same, opened) ↦ opened
              | inr (other, stays) ↦ absurd (other refl)
            ];
            longest = refl;
            few = omega arith;
          }));
      waits = λ i k is. elim (set_cases marks j (Open (length below + 1)) i New less) [
        | inl (same, opened) ↦
            let k_is : length below + 1 ≡ k = same-open _ k (sym opened ∙ is) in
            let k_suc : k ≡ suc (length below) = omega arith in
            (omega arith, rw (k_suc, at-pushed below top (new_visit j)) (sym same))
        | inr (other, stays) ↦
            let o = w.waits i k (sym stays ∙ is) in
            (omega (arith, o.0), rw (at-push below top (new_visit j) k o.0) o.1)
      ];
      leads = λ k h. lead k (omega arith) unknown.0;
    }
  where
    waiting : (k : ℕ) → k ≤ length below → j < length marks → known_count (slice_set marks j (Open (length below + 1))) ≡ known_count marks → slice_index_or marks j New ≡ New
        → IsVisit links (slice_set marks j (Open (length below + 1))) k (at below top k)
    waiting k h less count new =
        let v = w.visits k h in
        record {
          there = v.there;
          waits = elim (set_cases marks j (Open (length below + 1)) (at below top k).task New less) [
            | inl (same, opened) ↦ absurd (new-open k (sym new ∙ rw (← same) v.waits))
            | inr (other, stays) ↦ stays ∙ v.waits
          ];
          longest = v.longest;
          few = rw count v.few;
        }

    lead : (k : ℕ) → k ≤ length below → link_at links top.task top.seen ≡ link.Task j
        → link_at links (at (below ++ top ∷ []) (new_visit j) k).task (at (below ++ top ∷ []) (new_visit j) k).seen ≡ link.Task (at (below ++ top ∷ []) (new_visit j) (suc k)).task
    lead k h to = elim (cases_Bool (nat_lt k (length below))) [
      | inl more ↦
          let less = ltb-true _ _ more in
          rw (at-push below top (new_visit j) k h, at-push below top (new_visit j) (suc k) (omega arith)) (w.leads k less)
      | inr not_more ↦
          let same : k ≡ length below = omega (arith, ltb-false _ _ not_more) in
          rw (at-push below top (new_visit j) k h, same, at-last below top, at-pushed below top (new_visit j)) to
    ]

-- a task that is done
settled_count : (marks : List Mark) (i k n : ℕ) → i < length marks → slice_index_or marks i New ≡ Open k → known_count (slice_set marks i (Known n)) ≡ known_count marks + 1
settled_count marks i k n h is = let s = count-set marks i (Known n) h in let s : _ = rw is at s in omega arith

pub settled-known : (links : List (List Link)) (marks : List Mark) (below : List Visit) (top : Visit) → IsWalk links marks below top
    → length (slice_index_or links top.task []) ≤ top.seen → KnowsChains links (slice_set marks top.task (Known top.longest))
unfolding chain_within
settled-known links marks below top w all =
    let last = top_visit links marks below top w in
    let less : top.task < length marks = omega (arith, w.count, last.there) in
    let count = settled_count marks top.task (length below) top.longest less last.waits in
    λ i n is. elim (set_cases marks top.task (Known top.longest) i New less) [
      | inl (same, known) ↦
          let amount : top.longest ≡ n = same-known top.longest n (sym known ∙ is) in
          (rw (← amount, same) (own last), omega (arith, last.few))
      | inr (other, stays) ↦
          let old = w.known i n (sym stays ∙ is) in
          (old.0, omega (arith, old.1))
    ]
  where
    own : IsVisit links marks (length below) top → chain_within links top.longest top.task ≡ Some top.longest
    own last =
        let some = links_step-some (take top.seen (slice_index_or links top.task [])) (chain_within links (top.longest - 1)) top.longest last.longest in
        let more : top.longest ≡ suc (top.longest - 1) = omega arith in
        let whole : take top.seen (slice_index_or links top.task []) ≡ slice_index_or links top.task [] = take_all top.seen (slice_index_or links top.task []) all in
        subst (λ m. chain_within links m top.task ≡ Some top.longest) (sym more) (rw whole at last.longest)

pub settled-none_open : (links : List (List Link)) (marks : List Mark) (top : Visit) → IsWalk links marks [] top → NoneOpen (slice_set marks top.task (Known top.longest))
settled-none_open links marks top w =
    let last = top_visit links marks [] top w in
    let less : top.task < length marks = omega (arith, w.count, last.there) in
    λ i k is. elim (set_cases marks top.task (Known top.longest) i New less) [
      | inl (same, known) ↦ open-known k top.longest (sym is ∙ known)
      | inr (other, stays) ↦ other (sym (w.waits i k (sym stays ∙ is)).1)
    ]

pub settled-own : (links : List (List Link)) (marks : List Mark) (top : Visit) (first : ℕ) → IsWalk links marks [] top → top.task ≡ first
    → IsKnown (slice_index_or (slice_set marks top.task (Known top.longest)) first New)
settled-own links marks top first w same =
    let last = top_visit links marks [] top w in
    let less : top.task < length marks = omega (arith, w.count, last.there) in
    elim (set_cases marks top.task (Known top.longest) first New less) [
      | inl (is, known) ↦ (top.longest, known)
      | inr (other, stays) ↦ absurd (other (sym same))
    ]

pub walk-settled : (links : List (List Link)) (marks : List Mark) (below : List Visit) (under top : Visit) → IsWalk links marks (below ++ under ∷ []) top
    → length (slice_index_or links top.task []) ≤ top.seen → IsWalk links (slice_set marks top.task (Known top.longest)) below under
walk-settled links marks below under top w all =
    let last = top_visit links marks (below ++ under ∷ []) top w in
    let less : top.task < length marks = omega (arith, w.count, last.there) in
    let more : length (below ++ under ∷ []) ≡ length below + 1 = length-append below (under ∷ []) in
    let count = settled_count marks top.task (length (below ++ under ∷ [])) top.longest less last.waits in
    record {
      count = length-set marks top.task (Known top.longest) ∙ w.count;
      known = settled-known links marks (below ++ under ∷ []) top w all;
      visits = λ k h. waiting k h less count more last;
      waits = λ i k is. elim (set_cases marks top.task (Known top.longest) i New less) [
        | inl (same, known) ↦ absurd (open-known k top.longest (sym is ∙ known))
        | inr (other, stays) ↦ still i k (w.waits i k (sym stays ∙ is)) other more
      ];
      leads = λ k h. rw (at-push below under top k (omega arith), at-push below under top (suc k) (omega arith)) at (w.leads k (omega arith));
    }
  where
    waiting : (k : ℕ) → k ≤ length below → top.task < length marks → known_count (slice_set marks top.task (Known top.longest)) ≡ known_count marks + 1
        → length (below ++ under ∷ []) ≡ length below + 1 → IsVisit links marks (length (below ++ under ∷ [])) top
        → IsVisit links (slice_set marks top.task (Known top.longest)) k (at below under k)
    waiting k h less count more last =
        let v : IsVisit links marks k (at below under k) = rw (at-push below under top k h) at (w.visits k (omega arith)) in
        record {
          there = v.there;
          waits = elim (set_cases marks top.task (Known top.longest) (at below under k).task New less) [
            | inl (same, known) ↦
                let e : k ≡ length (below ++ under ∷ []) = same-open k _ (sym v.waits ∙ rw same last.waits) in
                absurd (omega arith)
            | inr (other, stays) ↦ stays ∙ v.waits
          ];
          longest = v.longest;
          few = omega (arith, v.few);
        }

    still : (i k : ℕ) → (k ≤ length (below ++ under ∷ [])) × ((at (below ++ under ∷ []) top k).task ≡ i) → i ≢ top.task → length (below ++ under ∷ []) ≡ length below + 1
        → (k ≤ length below) × ((at below under k).task ≡ i)
    still i k o other more = elim (cases_Bool (nat_lt (length below) k)) [
      | inl past ↦
          let p : length below < k = ltb-true _ _ past in
          let same : k ≡ length (below ++ under ∷ []) = omega (arith, o.0) in
          absurd (other (sym (rw (same, at-last (below ++ under ∷ []) top) at o.1)))
      | inr not_past ↦
          let h : k ≤ length below = ltb-false _ _ not_past in
          (h, rw (at-push below under top k h) at o.1)
    ]

-- what is known stays known
pub StayKnown-set : (old marks : List Mark) (i : ℕ) (m : Mark) → i < length marks → ((n : ℕ) → slice_index_or marks i New ≡ Known n → ⊥) → StayKnown old marks → StayKnown old (slice_set marks i m)
StayKnown-set old marks i m h unknown stay = λ j n is. elim (set_cases marks i m j New h) [
  | inl (same, _) ↦ absurd (unknown n (rw same at (stay j n is)))
  | inr (other, stays) ↦ stays ∙ stay j n is
]

-- What is left to do: each task that is new has to be opened, and of each that waits the rest has to be looked at.
abbrev weight : Mark → List Link → ℕ
weight New ls = length ls + 2
weight (Open k) ls = 0
weight (Known n) ls = 0

abbrev new_work : List (List Link) → List Mark → ℕ
new_work [] marks = 0
new_work (l ∷ ls) [] = 0
new_work (l ∷ ls) (m ∷ ms) = weight m l + new_work ls ms

abbrev left_of : List (List Link) → Visit → ℕ
left_of links v = (length (slice_index_or links v.task []) - v.seen) + 1

abbrev pub work : List (List Link) → List Mark → List Visit → Visit → ℕ
work links marks below top = new_work links marks + (sum_by (left_of links) below + left_of links top)

work-set : (links : List (List Link)) (marks : List Mark) (i : ℕ) (m : Mark) → i < length marks → length marks ≡ length links
    → new_work links (slice_set marks i m) + weight (slice_index_or marks i New) (slice_index_or links i []) ≡ new_work links marks + weight m (slice_index_or links i [])
work-set links [] i m h count = absurd (omega arith)
work-set [] (x ∷ xs) i m h count = absurd (omega arith)
work-set (l ∷ ls) (x ∷ xs) zero m h count = omega arith
work-set (l ∷ ls) (x ∷ xs) (suc i) m h count = omega (arith, work-set ls xs i m (omega arith) (omega arith))

pub work-seen : (links : List (List Link)) (marks : List Mark) (below : List Visit) (top : Visit) (c : ℕ) → top.seen < length (slice_index_or links top.task [])
    → work links marks below (seen_more top c) < work links marks below top
work-seen links marks below top c less = omega arith

pub work-opened : (links : List (List Link)) (marks : List Mark) (below : List Visit) (top : Visit) (j k : ℕ) → j < length marks → length marks ≡ length links → slice_index_or marks j New ≡ New
    → work links (slice_set marks j (Open k)) (below ++ top ∷ []) (new_visit j) < work links marks below top
work-opened links marks below top j k less count new =
    let s = work-set links marks j (Open k) less count in
    let s : _ = rw new at s in
    omega (arith, sum_by_push (left_of links) below top)

pub work-settled : (links : List (List Link)) (marks : List Mark) (below : List Visit) (under top : Visit) (k n : ℕ) → top.task < length marks → length marks ≡ length links
    → slice_index_or marks top.task New ≡ Open k → work links (slice_set marks top.task (Known n)) below under < work links marks (below ++ under ∷ []) top
work-settled links marks below under top k n less count waits =
    let s = work-set links marks top.task (Known n) less count in
    let s : _ = rw waits at s in
    omega (arith, sum_by_push (left_of links) below under)

-- the first task
pub walk-first : (links : List (List Link)) (marks : List Mark) (first : ℕ) → length marks ≡ length links → KnowsChains links marks → NoneOpen marks → first < length links
    → slice_index_or marks first New ≡ New → IsWalk links (slice_set marks first (Open 0)) [] (new_visit first)
walk-first links marks first count known none_open less new =
    let below : first < length marks = omega arith in
    record {
      count = length-set marks first (Open 0) ∙ count;
      known = KnowsChains-new links marks first 0 below new known;
      visits = λ k h. record {
        there = less;
        waits = elim (set_cases marks first (Open 0) first New below) [
          | inl (same, opened) ↦ opened ∙ ap Open (omega arith)
          | inr (other, stays) ↦ absurd (other refl)
        ];
        longest = refl;
        few = omega arith;
      };
      waits = λ j k is. elim (set_cases marks first (Open 0) j New below) [
        | inl (same, opened) ↦ let k_is : 0 ≡ k = same-open 0 k (sym opened ∙ is) in (omega arith, sym same)
        | inr (other, stays) ↦ absurd (none_open j k (sym stays ∙ is))
      ];
      leads = λ k h. absurd (omega arith);
    }

-- the first too long chain, where all are known
pub first_longer-known : (links : List (List Link)) (marks : List Mark) (n : ℕ) → KnowsChains links marks → AreAllKnown links marks → length marks ≡ length links
    → first_place (λ k mark. is_longer n mark) marks ≡ first_longer links n
unfolding first_longer
first_longer-known links marks n known all count =
    first_place-agree (λ k mark. is_longer n mark) (λ i _. is_none (chain_within links n i)) marks links count
    (λ k d e below. let is = all k (omega arith) in agree k is.0 (slice_index_or marks k d) (get_or-any marks k d New below ∙ is.1) (known k is.0 is.1).0)
  where
    agree : (i d : ℕ) (mark : Mark) → mark ≡ Known d → chain_within links d i ≡ Some d → is_longer n mark ≡ is_none (chain_within links n i)
    agree i d mark is chain = elim (cases_Bool (nat_lt n d)) [
      | inl more ↦ rw (is, more, chain_within-short links d n i d chain (ltb-true _ _ more))
      | inr less ↦ rw (is, less, chain_within-exact links d n i d chain (ltb-false _ _ less))
    ]

-- the activator that is looked at, and that there is one
next_link-done : (marks : List Mark) (l : Link) → next_link marks l ≡ Done → ⊥
next_link-done marks link.Nothing e = done-other Endless refl e
next_link-done marks link.Source e = done-other (Chain 1) refl e
next_link-done marks (link.Task j) e = by (slice_index_or marks j New) e
  where
    by : (m : Mark) → next_task j m ≡ Done → ⊥
    by New e = done-other (Unknown j) refl e
    by (Open k) e = done-other Endless refl e
    by (Known n) e = done-other (Chain (n + 1)) refl e

pub looked_at : (links : List (List Link)) (marks : List Mark) (task seen : ℕ) (ls : List Link) (next : Next) → ls ≡ slice_index_or links task []
    → (seen < length ls → next ≡ next_link marks (slice_index_or ls seen link.Source)) → (length ls ≤ seen → next ≡ Done) → is_done next ≡ false
    → (seen < length (slice_index_or links task [])) × (next_link marks (link_at links task seen) ≡ next)
looked_at links marks task seen ls next is here past other = elim (cases_Bool (nat_lt seen (length ls))) [
  | inl more ↦ let less : seen < length ls = ltb-true _ _ more in (rw (← is) less, rw (← is) (sym (here less)))
  | inr not_more ↦ absurd (done-other next other (past (ltb-false _ _ not_more)))
]

pub all_seen : (links : List (List Link)) (marks : List Mark) (task seen : ℕ) (ls : List Link) → ls ≡ slice_index_or links task []
    → (seen < length ls → Done ≡ next_link marks (slice_index_or ls seen link.Source)) → length (slice_index_or links task []) ≤ seen
all_seen links marks task seen ls is here = elim (cases_Bool (nat_lt seen (length ls))) [
  | inl more ↦ absurd (next_link-done marks _ (sym (here (ltb-true _ _ more))))
  | inr not_more ↦ rw (← is) (ltb-false _ _ not_more)
]

-- a task that is known leads to sources
pub known-sourced : (links : List (List Link)) (marks : List Mark) (i : ℕ) → KnowsChains links marks → length marks ≡ length links → IsKnown (slice_index_or marks i New)
    → is_none (chain_within links (length links) i) ≡ false
known-sourced links marks i known count is =
    let chain = known i is.0 is.1 in
    rw (chain_within-exact links is.0 (length links) i is.0 chain.0 (omega (arith, chain.1, count-most marks))) refl

-- those before and this one are known
pub stays-noted : (old new : List Mark) (n : ℕ) → StayKnown old new → ((i : ℕ) → i < n → IsKnown (slice_index_or old i New)) → IsKnown (slice_index_or new n New)
    → (i : ℕ) → i < n + 1 → IsKnown (slice_index_or new i New)
stays-noted old new n stay before here i h = elim (cases_Bool (nat_lt i n)) [
  | inl less ↦ let was = before i (ltb-true _ _ less) in (was.0, stay i was.0 was.1)
  | inr not_less ↦ let same : n ≡ i = omega (arith, ltb-false _ _ not_less) in rw (← same) here
]
