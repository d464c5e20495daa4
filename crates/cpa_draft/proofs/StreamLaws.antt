-- Counting streams.
use Rattle.std.proofs.Common.{◌≡◌, ℕ, zero, suc, ◌+◌, ◌<◌, ◌≤◌, min, ◌||◌, true, nat_le, nat_lt, List, [], ◌∷◌, map, length, take, replicate, slice_index_or, get_or, inl, inr, refl, sym, ◌∙◌, ap, arith}
use Rattle.std.specs.List.{list_all, sum_by}
use Rattle.std.proofs.lemmas.Bool.{ltb-true, ltb-false, leb-true, le-ltb, cases_Bool, lt-ltb, and_parts}
use Rattle.std.proofs.lemmas.List.{take_more}
use Rattle.std.proofs.lemmas.List.Sums.{sum_by-cons, sum_by_push}
use Rattle.cpa_draft.specs.DraftLists.{DraftLists}
use Rattle.cpa_draft.specs.declared.draft.DraftTask.{DraftTask}
use Rattle.cpa_draft.specs.declared.links.Link.{Link}
use Rattle.cpa_draft.specs.declared.links.Link.TheVariants.{Nothing, Source, Task}
use Rattle.cpa_draft.specs.Names.{links_of}
use Rattle.cpa_draft.specs.Chains.{count_step, stream_count_within}
use Rattle.cpa_draft.specs.Refusals.{has_double, is_misfed}
use Rattle.cpa_draft.specs.Search.{capped_streams, AreStreams, TellsTooMany}

-- one activator more
pub capped-push : (counts : List ℕ) (ls : List Link) (k : ℕ) (x : Link) → k < length ls
    → capped_streams counts (take (k + 1) ls) ≡ min 33 (capped_streams counts (take k ls) + count_step (slice_index_or ls k x) (λ j. slice_index_or counts j 0))
capped-push counts ls k x h =
    rw (take_more ls k x h, sum_by_push (λ l. count_step l (λ j. slice_index_or counts j 0)) (take k ls) (get_or ls k x)) (omega arith)

-- numbers up to one more than may give a sum up to that
capped_step : (counts : List ℕ) (g : ℕ → ℕ) (l : Link) → ((j : ℕ) → slice_index_or counts j 0 ≡ min 33 (g j)) → count_step l (λ j. slice_index_or counts j 0) ≡ min 33 (count_step l g)
capped_step counts g Nothing each = omega arith
capped_step counts g Source each = omega arith
capped_step counts g (Task j) each = each j

capped-sum : (counts : List ℕ) (g : ℕ → ℕ) (ls : List Link) → ((j : ℕ) → slice_index_or counts j 0 ≡ min 33 (g j)) → capped_streams counts ls ≡ min 33 (sum_by (λ l. count_step l g) ls)
capped-sum counts g [] each = refl
capped-sum counts g (l ∷ ls) each =
    omega (arith, sum_by-cons (λ l. count_step l (λ j. slice_index_or counts j 0)) l ls, sum_by-cons (λ l. count_step l g) l ls, capped_step counts g l each, capped-sum counts g ls each)

-- over no task there is none
pub streams-none : (links : List (List Link)) (n : ℕ) → AreStreams links 0 (replicate n 0)
unfolding stream_count_within
streams-none links n i = by n i
  where
    by : (n i : ℕ) → ◌≡◌ {A = ℕ} (slice_index_or (replicate n 0) i 0) 0
    by zero i = refl
    by (suc n) zero = refl
    by (suc n) (suc i) = by n i

-- over one task more
pub streams-next : (links : List (List Link)) (n : ℕ) (counts : List ℕ) → AreStreams links n counts → AreStreams links (n + 1) (map (capped_streams counts) links)
unfolding stream_count_within
streams-next links n counts are i =
    image links i ∙ capped-sum counts (stream_count_within links n) (slice_index_or links i []) are ∙ (let p : n + 1 ≡ suc n = omega arith in rw p refl)
  where
    image : (ls : List (List Link)) (i : ℕ) → slice_index_or (map (capped_streams counts) ls) i 0 ≡ capped_streams counts (slice_index_or ls i [])
    image [] i = refl
    image (l ∷ ls) zero = refl
    image (l ∷ ls) (suc i) = image ls i

-- whether they are too many shows by them
over-capped : (n m : ℕ) → m ≡ min 33 n → nat_lt 32 m ≡ nat_lt 32 n
over-capped n m is = elim (cases_Bool (nat_lt 32 n)) [
  | inl more ↦ let p : 32 < n = ltb-true _ _ more in let q : 32 < m = omega arith in lt-ltb _ _ q ∙ sym more
  | inr less ↦ let p : n ≤ 32 = ltb-false _ _ less in let q : m ≡ n = omega arith in rw q refl
]

pub tells-counted : (links : List (List Link)) (counts : List ℕ) → AreStreams links 32 counts → TellsTooMany links counts
tells-counted links counts are i = over-capped (stream_count_within links 32 i) (slice_index_or counts i 0) (are i)

-- where no task has two activators, each has one stream at most
few-links : (ls : List (List Link)) → list_all (λ ls. nat_le (length ls) 1) ls ≡ true → (i : ℕ) → length (slice_index_or ls i []) ≤ 1
few-links [] all i = omega arith
few-links (l ∷ ls) all zero = leb-true _ _ (and_parts (nat_le (length l) 1) (list_all (λ ls. nat_le (length ls) 1) ls) all).0
few-links (l ∷ ls) all (suc i) = few-links ls (and_parts (nat_le (length l) 1) (list_all (λ ls. nat_le (length ls) 1) ls) all).1 i

few-streams : (ls : List Link) (f : ℕ → ℕ) → ((j : ℕ) → f j ≤ 1) → length ls ≤ 1 → sum_by (λ l. count_step l f) ls ≤ 1
few-streams [] f each less = omega arith
few-streams (Nothing ∷ []) f each less = omega arith
few-streams (Source ∷ []) f each less = omega arith
few-streams ((Task j) ∷ []) f each less = omega (arith, each j)
few-streams (l ∷ m ∷ ls) f each less = absurd (omega arith)

one-stream : (links : List (List Link)) → list_all (λ ls. nat_le (length ls) 1) links ≡ true → (n i : ℕ) → stream_count_within links n i ≤ 1
unfolding stream_count_within
one-stream links each zero i = omega arith
one-stream links each (suc n) i = few-streams (slice_index_or links i []) (stream_count_within links n) (one-stream links each n) (few-links links each i)

pub tells-none : (links : List (List Link)) → list_all (λ ls. nat_le (length ls) 1) links ≡ true → TellsTooMany links []
tells-none links each i = sym (le-ltb 32 (stream_count_within links 32 i) (omega (arith, one-stream links each 32 i)))

pub misfed-told : (d : DraftLists) (i : ℕ) (t : DraftTask) (count : ℕ) → nat_lt 32 count ≡ nat_lt 32 (stream_count_within (links_of d) 32 i)
    → ((nat_le (length t.after) 0 || has_double t.after) || nat_lt 32 count) ≡ is_misfed d i t
misfed-told d i t count is = ap (λ b. (nat_le (length t.after) 0 || has_double t.after) || b) is
