-- The longest chain over some activators.
use Rattle.std.proofs.Common.{◌≡◌, ℕ, zero, suc, ◌≤◌, max, List, [], ◌∷◌, All, Option, Some, None, IsSome, option_map, refl, arith}
use Rattle.std.specs.List.{fold}
use Rattle.std.proofs.lemmas.Bool.{false≢true}
use Rattle.std.proofs.lemmas.Option.{none-some, same_Some}
use Rattle.cpa_draft.specs.Chains.{longer}
use Rattle.cpa_model.specs.declared.entries.Activator.{Activator}
use Rattle.cpa_model.specs.declared.entries.Activator.TheVariants.{Source, Task}
use Rattle.cpa_model.specs.Chains.{chain_step}

-- the longest over some activators and a chain before them
abbrev pub longest_from : Option ℕ → List Activator → (ℕ → Option ℕ) → Option ℕ
longest_from from many deeper = fold (λ longest a. longer longest (chain_step a deeper)) from many

-- a chain that has an end, of at most so many tasks
pub record IsWithin (o : Option ℕ) (most : ℕ) : Type 0 where
  pub count : ℕ
  pub found : o ≡ Some count
  pub few : count ≤ most

pub within-more : (o : Option ℕ) (most more : ℕ) → most ≤ more → IsWithin o most → IsWithin o more
within-more o most more less w = record { count = w.count; found = w.found; few = omega (arith, w.few) }

pub within-some : (o : Option ℕ) (most : ℕ) → IsWithin o most → IsSome o
within-some o most w = rw w.found refl

pub some-within : (o : Option ℕ) → IsSome o → (count : ℕ) × (o ≡ Some count)
some-within None some = absurd (false≢true some)
some-within (Some n) some = (n, refl)

-- two chains, of which one is as long as the longer
longer-left : (a b : Option ℕ) (most : ℕ) → IsWithin (longer a b) most → IsWithin a most
longer-left None b most w = absurd (none-some w.count w.found)
longer-left (Some n) None most w = absurd (none-some w.count w.found)
longer-left (Some n) (Some m) most w = let same : max n m ≡ w.count = same_Some (max n m) w.count w.found in record { count = n; found = refl; few = omega (arith, w.few) }

longer-right : (a b : Option ℕ) (most : ℕ) → IsWithin (longer a b) most → IsWithin b most
longer-right None b most w = absurd (none-some w.count w.found)
longer-right (Some n) None most w = absurd (none-some w.count w.found)
longer-right (Some n) (Some m) most w = let same : max n m ≡ w.count = same_Some (max n m) w.count w.found in record { count = m; found = refl; few = omega (arith, w.few) }

longer-both : (a b : Option ℕ) (most : ℕ) → IsWithin a most → IsWithin b most → IsWithin (longer a b) most
longer-both None b most v w = absurd (none-some v.count v.found)
longer-both (Some n) None most v w = absurd (none-some w.count w.found)
longer-both (Some n) (Some m) most v w =
    let left : n ≡ v.count = same_Some n v.count v.found in
    let right : m ≡ w.count = same_Some m w.count w.found in
    record { count = max n m; found = refl; few = omega (arith, v.few, w.few) }

-- each chain is within the longest
pub longest-start : (from : Option ℕ) (many : List Activator) (f : ℕ → Option ℕ) (most : ℕ) → IsWithin (longest_from from many f) most → IsWithin from most
longest-start from [] f most w = w
longest-start from (a ∷ many) f most w = longer-left from (chain_step a f) most (longest-start (longer from (chain_step a f)) many f most w)

pub longest-each : (from : Option ℕ) (many : List Activator) (f : ℕ → Option ℕ) (most : ℕ) → IsWithin (longest_from from many f) most → All (λ a. IsWithin (chain_step a f) most) many
longest-each from [] f most w k a less = absurd (omega arith)
longest-each from (b ∷ many) f most w zero a less = longer-right from (chain_step b f) most (longest-start (longer from (chain_step b f)) many f most w)
longest-each from (b ∷ many) f most w (suc k) a less = longest-each (longer from (chain_step b f)) many f most w k a (omega arith)

-- and the longest is within what all are
pub longest-all : (from : Option ℕ) (many : List Activator) (f : ℕ → Option ℕ) (most : ℕ) → IsWithin from most → All (λ a. IsWithin (chain_step a f) most) many → IsWithin (longest_from from many f) most
longest-all from [] f most w each = w
longest-all from (a ∷ many) f most w each =
    longest-all (longer from (chain_step a f)) many f most (longer-both from (chain_step a f) most w (each 0 a (omega arith))) (λ k b less. each (suc k) b (omega arith))

-- a chain that has an end has one where more ends are known
map_some : {X Y : Type 0} (f : X → Y) (o p : Option X) (y : Y) → ((x : X) → o ≡ Some x → p ≡ Some x) → option_map f o ≡ Some y → option_map f p ≡ Some y
map_some f None p y more e = absurd (none-some y e)
map_some f (Some x) p y more e = rw (more x refl) e

pub step_more : (a : Activator) (f g : ℕ → Option ℕ) (d : ℕ) → ((j d : ℕ) → f j ≡ Some d → g j ≡ Some d) → chain_step a f ≡ Some d → chain_step a g ≡ Some d
step_more (Source k) f g d more e = e
step_more (Task j) f g d more e = map_some suc (f j.0) (g j.0) d (more j.0) e

pub longest_more : (from : Option ℕ) (many : List Activator) (f g : ℕ → Option ℕ) (d : ℕ) → ((j d : ℕ) → f j ≡ Some d → g j ≡ Some d) → longest_from from many f ≡ Some d → longest_from from many g ≡ Some d
longest_more from [] f g d more e = e
longest_more from (a ∷ many) f g d more e =
    let w = longest-each from (a ∷ many) f d (record { count = d; found = e; few = omega arith }) 0 a (omega arith) in
    let old = w.found in
    let new = step_more a f g w.count more w.found in
    rw new (longest_more (longer from (Some w.count)) many f g d more (rw old at e))

-- a task that leads on has a chain of one less
pub step-back : (j : ℕ) (f : ℕ → Option ℕ) (most : ℕ) → IsWithin (option_map suc (f j)) (suc most) → IsWithin (f j) most
step-back j f most w = by (f j) w.found
  where
    by : (o : Option ℕ) → option_map suc o ≡ Some w.count → IsWithin o most
    by None e = absurd (none-some w.count e)
    by (Some n) e = let same : suc n ≡ w.count = same_Some (suc n) w.count e in record { count = n; found = refl; few = omega (arith, w.few) }
