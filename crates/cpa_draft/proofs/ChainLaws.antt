-- Following activators along chains.
use Rattle.std.proofs.Common.{◌≡◌, ℕ, zero, suc, ◌+◌, ◌<◌, ◌≤◌, max, List, length, take, Option, Some, None, option_map, slice_index_or, [], ◌∷◌, ◌⊎◌, inl, inr, refl, sym, ◌∙◌, ap, arith}
use Rattle.std.specs.List.{fold}
use Rattle.std.proofs.lemmas.Option.{none-some, same_Some}
use Rattle.cpa_draft.specs.declared.links.Link.{Link}
use Rattle.cpa_draft.specs.declared.links.Link.TheVariants.{Nothing, Source, Task}
use Rattle.cpa_draft.specs.Chains.{link_step, longer, links_step, chain_within}

-- a chain of at most d tasks
abbrev pub UpTo : Option ℕ → ℕ → Type 0
UpTo o d = (e : ℕ) × (o ≡ Some e) × (e ≤ d)

UpTo-more : (o : Option ℕ) (d e : ℕ) → d ≤ e → UpTo o d → UpTo o e
UpTo-more o d e h u = (u.0, u.1, omega (arith, u.2))

UpTo-some : (x d : ℕ) → UpTo (Some x) d → x ≤ d
UpTo-some x d u = let p : x ≡ u.0 = same_Some x u.0 u.1 in omega (arith, u.2)

longer_parts : (a b : Option ℕ) (d : ℕ) → longer a b ≡ Some d → UpTo a d × UpTo b d
longer_parts None b d e = absurd (none-some d e)
longer_parts (Some x) None d e = absurd (none-some d e)
longer_parts (Some x) (Some y) d e = let p : max x y ≡ d = same_Some (max x y) d e in ((x, refl, omega arith), (y, refl, omega arith))

-- the longest over some activators, one after the other
abbrev pub over : Option ℕ → List Link → (ℕ → Option ℕ) → Option ℕ
over longest ls deeper = fold (λ longest l. longer longest (link_step l deeper)) longest ls

-- each of them is no longer
pub over_parts : (ls : List Link) (f : ℕ → Option ℕ) (o : Option ℕ) (d : ℕ) → over o ls f ≡ Some d
    → UpTo o d × ((k : ℕ) (x : Link) → k < length ls → UpTo (link_step (slice_index_or ls k x) f) d)
over_parts [] f o d e = ((d, e, omega arith), λ k x h. absurd (omega arith))
over_parts (l ∷ ls) f o d e =
    let rest = over_parts ls f (longer o (link_step l f)) d e in
    let here = longer_parts o (link_step l f) rest.0.0 rest.0.1 in
    (UpTo-more o _ d rest.0.2 here.0, λ k x h. place k x h (UpTo-more (link_step l f) _ d rest.0.2 here.1) rest.1)
  where
    place : (k : ℕ) (x : Link) → k < length (l ∷ ls) → UpTo (link_step l f) d → ((k : ℕ) (x : Link) → k < length ls → UpTo (link_step (slice_index_or ls k x) f) d)
        → UpTo (link_step (slice_index_or (l ∷ ls) k x) f) d
    place zero x h here rest = here
    place (suc k) x h here rest = rest k x (omega arith)

-- where each is as long by another walk, so is the longest
pub over_agree : (ls : List Link) (f g : ℕ → Option ℕ) (o : Option ℕ)
    → ((k : ℕ) (x : Link) → k < length ls → link_step (slice_index_or ls k x) f ≡ link_step (slice_index_or ls k x) g) → over o ls f ≡ over o ls g
over_agree [] f g o each = refl
over_agree (l ∷ ls) f g o each =
    ap (λ p. over (longer o p) ls f) (each 0 l (omega arith))
    ∙ over_agree ls f g (longer o (link_step l g)) (λ k x h. each (suc k) x (omega arith))

-- and where each is at most n, so is the longest
longer_most : (a b : Option ℕ) (n : ℕ) → ((e : ℕ) → a ≡ Some e → e ≤ n) → ((e : ℕ) → b ≡ Some e → e ≤ n) → (d : ℕ) → longer a b ≡ Some d → d ≤ n
longer_most None b n most more d e = absurd (none-some d e)
longer_most (Some x) None n most more d e = absurd (none-some d e)
longer_most (Some x) (Some y) n most more d e = let p : max x y ≡ d = same_Some (max x y) d e in omega (arith, most x refl, more y refl)

over_most : (ls : List Link) (f : ℕ → Option ℕ) (o : Option ℕ) (n : ℕ) → ((e : ℕ) → o ≡ Some e → e ≤ n)
    → ((k : ℕ) (x : Link) → k < length ls → (e : ℕ) → link_step (slice_index_or ls k x) f ≡ Some e → e ≤ n) → (d : ℕ) → over o ls f ≡ Some d → d ≤ n
over_most [] f o n most each d e = most d e
over_most (l ∷ ls) f o n most each d e =
    over_most ls f (longer o (link_step l f)) n
    (longer_most o (link_step l f) n most (each 0 l (omega arith)))
    (λ k x h. each (suc k) x (omega arith)) d e

-- the longest is one of them
longer_one : (a b : Option ℕ) (d : ℕ) → longer a b ≡ Some d → (a ≡ Some d) ⊎ (b ≡ Some d)
longer_one None b d e = absurd (none-some d e)
longer_one (Some x) None d e = absurd (none-some d e)
longer_one (Some x) (Some y) d e = by (max_one x y)
  where
    p : max x y ≡ d
    p = same_Some (max x y) d e

    max_one : (x y : ℕ) → (max x y ≡ x) ⊎ (max x y ≡ y)
    max_one zero y = inr (omega arith)
    max_one (suc x) zero = inl (omega arith)
    max_one (suc x) (suc y) = elim (max_one x y) [
      | inl h ↦ inl (omega arith)
      | inr h ↦ inr (omega arith)
    ]

    by : (max x y ≡ x) ⊎ (max x y ≡ y) → (Some x ≡ Some d) ⊎ (Some y ≡ Some d)
    by (inl h) = inl (ap Some (sym h ∙ p))
    by (inr h) = inr (ap Some (sym h ∙ p))

abbrev pub AnyIs : List Link → (ℕ → Option ℕ) → ℕ → Type 0
AnyIs ls f d = (k : ℕ) × (k < length ls) × (link_step (slice_index_or ls k Nothing) f ≡ Some d)

pub over_one : (ls : List Link) (f : ℕ → Option ℕ) (o : Option ℕ) (d : ℕ) → over o ls f ≡ Some d → (o ≡ Some d) ⊎ AnyIs ls f d
over_one [] f o d e = inl e
over_one (l ∷ ls) f o d e = by (over_one ls f (longer o (link_step l f)) d e)
  where
    here : (o ≡ Some d) ⊎ (link_step l f ≡ Some d) → (o ≡ Some d) ⊎ AnyIs (l ∷ ls) f d
    here (inl e) = inl e
    here (inr e) = inr (0, omega arith, e)

    by : (longer o (link_step l f) ≡ Some d) ⊎ AnyIs ls f d → (o ≡ Some d) ⊎ AnyIs (l ∷ ls) f d
    by (inl e) = here (longer_one o (link_step l f) d e)
    by (inr any) = inr (suc any.0, omega (arith, any.1), any.2)

-- none has an end where one has none
pub links_step-none : (ls : List Link) (f : ℕ → Option ℕ) (k : ℕ) (x : Link) → k < length ls → link_step (slice_index_or ls k x) f ≡ None → links_step ls f ≡ None
links_step-none ls f k x h none = by (links_step ls f) refl
  where
    by : (o : Option ℕ) → links_step ls f ≡ o → o ≡ None
    by None at = refl
    by (Some d) at = let u = (over_parts ls f (Some 1) d at).1 k x h in absurd (none-some u.0 (sym none ∙ u.1))

-- one activator more
pub links_step-push : (ls : List Link) (f : ℕ → Option ℕ) (k : ℕ) (x : Link) → k < length ls → links_step (take (k + 1) ls) f ≡ longer (links_step (take k ls) f) (link_step (slice_index_or ls k x) f)
links_step-push ls f k x h = over-push ls (Some 1) k h
  where
    over-push : (ls : List Link) (o : Option ℕ) (k : ℕ) → k < length ls → over o (take (k + 1) ls) f ≡ longer (over o (take k ls) f) (link_step (slice_index_or ls k x) f)
    over-push [] o k h = absurd (omega arith)
    over-push (l ∷ ls) o zero h = refl
    over-push (l ∷ ls) o (suc k) h = let p : suc k + 1 ≡ suc (k + 1) = omega arith in rw p (over-push ls (longer o (link_step l f)) k (omega arith))

-- a longer walk finds the same
step_more : (o : Link) (f g : ℕ → Option ℕ) (e : ℕ) → ((j d : ℕ) → f j ≡ Some d → g j ≡ Some d) → link_step o f ≡ Some e → link_step o f ≡ link_step o g
step_more Nothing f g e more is = refl
step_more Source f g e more is = refl
step_more (Task j) f g e more is = by (f j) refl
  where
    by : (o : Option ℕ) → f j ≡ o → option_map suc (f j) ≡ option_map suc (g j)
    by None at = absurd (none-some e (rw at at is))
    by (Some x) at = rw (at, more j x at)

pub links_step-more : (ls : List Link) (f g : ℕ → Option ℕ) (d : ℕ) → ((j d : ℕ) → f j ≡ Some d → g j ≡ Some d) → links_step ls f ≡ Some d → links_step ls g ≡ Some d
links_step-more ls f g d more e =
    let parts = (over_parts ls f (Some 1) d e).1 in
    sym (over_agree ls f g (Some 1) (λ k x h. step_more _ f g (parts k x h).0 more (parts k x h).1)) ∙ e

pub chain_within-more : (links : List (List Link)) (n i d : ℕ) → chain_within links n i ≡ Some d → chain_within links (suc n) i ≡ Some d
unfolding chain_within
chain_within-more links zero i d e = absurd (none-some d e)
chain_within-more links (suc n) i d e = links_step-more (slice_index_or links i []) (chain_within links n) (chain_within links (suc n)) d (chain_within-more links n) e

-- a chain has some tasks
pub links_step-some : (ls : List Link) (f : ℕ → Option ℕ) (d : ℕ) → links_step ls f ≡ Some d → 1 ≤ d
links_step-some ls f d e = UpTo-some 1 d (over_parts ls f (Some 1) d e).0

pub chain_within-some : (links : List (List Link)) (n i d : ℕ) → chain_within links n i ≡ Some d → 1 ≤ d
unfolding chain_within
chain_within-some links zero i d e = absurd (none-some d e)
chain_within-some links (suc n) i d e = links_step-some (slice_index_or links i []) (chain_within links n) d e

-- a walk as long as the chain finds it
step_exact : (o : Link) (f g : ℕ → Option ℕ) (e m : ℕ) → ((j d : ℕ) → f j ≡ Some d → d ≤ m → g j ≡ Some d) → link_step o f ≡ Some e → e ≤ suc m → link_step o f ≡ link_step o g
step_exact Nothing f g e m each is h = refl
step_exact Source f g e m each is h = refl
step_exact (Task j) f g e m each is h = by (f j) refl
  where
    by : (o : Option ℕ) → f j ≡ o → option_map suc (f j) ≡ option_map suc (g j)
    by None at = absurd (none-some e (rw at at is))
    by (Some x) at = let p : suc x ≡ e = same_Some (suc x) e (rw at at is) in rw (at, each j x at (omega arith))

pub links_step-exact : (ls : List Link) (f g : ℕ → Option ℕ) (d m : ℕ) → ((j d : ℕ) → f j ≡ Some d → d ≤ m → g j ≡ Some d) → links_step ls f ≡ Some d → d ≤ suc m → links_step ls g ≡ Some d
links_step-exact ls f g d m each e h =
    let parts = (over_parts ls f (Some 1) d e).1 in
    sym (over_agree ls f g (Some 1) (λ k x less. step_exact _ f g (parts k x less).0 m each (parts k x less).1 (omega (arith, (parts k x less).2)))) ∙ e

pub chain_within-exact : (links : List (List Link)) (n m i d : ℕ) → chain_within links n i ≡ Some d → d ≤ m → chain_within links m i ≡ Some d
unfolding chain_within
chain_within-exact links zero m i d e h = absurd (none-some d e)
chain_within-exact links (suc n) zero i d e h = let some = chain_within-some links (suc n) i d e in absurd (omega arith)
chain_within-exact links (suc n) (suc m) i d e h =
    links_step-exact (slice_index_or links i []) (chain_within links n) (chain_within links m) d m (λ j d e h. chain_within-exact links n m j d e h) e h

-- and is no longer than its limit
step_most : (o : Link) (f : ℕ → Option ℕ) (n e : ℕ) → ((j d : ℕ) → f j ≡ Some d → d ≤ n) → link_step o f ≡ Some e → e ≤ suc n
step_most Nothing f n e more is = absurd (none-some e is)
step_most Source f n e more is = let p : 1 ≡ e = same_Some 1 e is in omega arith
step_most (Task j) f n e more is = by (f j) (more j) is
  where
    by : (o : Option ℕ) → ((d : ℕ) → o ≡ Some d → d ≤ n) → option_map suc o ≡ Some e → e ≤ suc n
    by None most is = absurd (none-some e is)
    by (Some x) most is = let p : suc x ≡ e = same_Some (suc x) e is in omega (arith, most x refl)

pub chain_within-most : (links : List (List Link)) (n i d : ℕ) → chain_within links n i ≡ Some d → d ≤ n
unfolding chain_within
chain_within-most links zero i d e = absurd (none-some d e)
chain_within-most links (suc n) i d e =
    over_most (slice_index_or links i []) (chain_within links n) (Some 1) (suc n)
    (λ e is. let p : 1 ≡ e = same_Some 1 e is in omega arith)
    (λ k x h e is. step_most _ (chain_within links n) n e (chain_within-most links n) is) d e

-- a chain that is longer than a walk isn't met by it
pub chain_within-short : (links : List (List Link)) (n m i d : ℕ) → chain_within links n i ≡ Some d → m < d → chain_within links m i ≡ None
chain_within-short links n m i d e h = by (chain_within links m i) refl
  where
    by : (o : Option ℕ) → chain_within links m i ≡ o → o ≡ None
    by None at = refl
    by (Some x) at =
        let p : x ≤ m = chain_within-most links m i x at in
        let q : chain_within links n i ≡ Some x = chain_within-exact links m n i x at (omega (arith, chain_within-most links n i d e)) in
        let r : d ≡ x = same_Some d x (sym e ∙ q) in absurd (omega arith)

-- an activator that is a task has a shorter chain
step_next : (o : Link) (f : ℕ → Option ℕ) (j d : ℕ) → o ≡ Task j → UpTo (link_step o f) d → (e : ℕ) × (f j ≡ Some e) × (e < d)
step_next o f j d is u = by (f j) refl (rw is at u.1)
  where
    by : (p : Option ℕ) → f j ≡ p → option_map suc (f j) ≡ Some u.0 → (e : ℕ) × (f j ≡ Some e) × (e < d)
    by None at e = absurd (none-some u.0 (rw at at e))
    by (Some x) at e = let p : suc x ≡ u.0 = same_Some (suc x) u.0 (rw at at e) in (x, at, omega (arith, u.2))

pub chain_within-next : (links : List (List Link)) (n i k j d : ℕ) (x : Link) → chain_within links n i ≡ Some d → k < length (slice_index_or links i [])
    → slice_index_or (slice_index_or links i []) k x ≡ Task j → (e : ℕ) × (chain_within links n j ≡ Some e) × (e < d)
unfolding chain_within
chain_within-next links zero i k j d x e h is = absurd (none-some d e)
chain_within-next links (suc n) i k j d x e h is =
    let next = step_next _ (chain_within links n) j d is ((over_parts (slice_index_or links i []) (chain_within links n) (Some 1) d e).1 k x h) in
    (next.0, chain_within-more links n j next.0 next.1, next.2)

-- and no activator is nothing
pub chain_within-nothing : (links : List (List Link)) (n i k d : ℕ) (x : Link) → chain_within links n i ≡ Some d → k < length (slice_index_or links i [])
    → slice_index_or (slice_index_or links i []) k x ≡ Nothing → ⊥
unfolding chain_within
chain_within-nothing links zero i k d x e h is = absurd (none-some d e)
chain_within-nothing links (suc n) i k d x e h is =
    let u = (over_parts (slice_index_or links i []) (chain_within links n) (Some 1) d e).1 k x h in
    none-some u.0 (rw is at u.1)

-- a chain of several tasks goes on by some activator
abbrev pub GoesOn : List Link → (ℕ → Option ℕ) → ℕ → Type 0
GoesOn ls chain d = (k : ℕ) × (j : ℕ) × (k < length ls) × (slice_index_or ls k Nothing ≡ Task j) × (chain j ≡ Some d)

pub chain_within-on : (links : List (List Link)) (n i m : ℕ) → chain_within links n i ≡ Some (suc (suc m)) → GoesOn (slice_index_or links i []) (chain_within links n) (suc m)
unfolding chain_within
chain_within-on links zero i m e = absurd (none-some _ e)
chain_within-on links (suc n) i m e = first (over_one (slice_index_or links i []) (chain_within links n) (Some 1) (suc (suc m)) e)
  where
    task : (k : ℕ) → k < length (slice_index_or links i []) → (l : Link) → slice_index_or (slice_index_or links i []) k Nothing ≡ l → link_step l (chain_within links n) ≡ Some (suc (suc m)) → GoesOn (slice_index_or links i []) (chain_within links (suc n)) (suc m)
    task k h Nothing at is = absurd (none-some _ is)
    task k h Source at is = let p : 1 ≡ suc (suc m) = same_Some 1 (suc (suc m)) is in absurd (omega arith)
    task k h (Task j) at is = by (chain_within links n j) refl is
      where
        by : (o : Option ℕ) → chain_within links n j ≡ o → option_map suc o ≡ Some (suc (suc m)) → GoesOn (slice_index_or links i []) (chain_within links (suc n)) (suc m)
        by None found is = absurd (none-some _ is)
        by (Some x) found is =
            let p : suc x ≡ suc (suc m) = same_Some (suc x) (suc (suc m)) is in
            let q : x ≡ suc m = omega arith in
            (k, j, h, at, chain_within-more links n j (suc m) (found ∙ ap Some q))

    first : (Some 1 ≡ Some (suc (suc m))) ⊎ AnyIs (slice_index_or links i []) (chain_within links n) (suc (suc m)) → GoesOn (slice_index_or links i []) (chain_within links (suc n)) (suc m)
    first (inl is) = let p : 1 ≡ suc (suc m) = same_Some 1 (suc (suc m)) is in absurd (omega arith)
    first (inr any) = task any.0 any.1 _ refl any.2
