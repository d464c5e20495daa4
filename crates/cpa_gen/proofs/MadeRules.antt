-- Each generated system keeps the rules of systems.
use Rattle.std.proofs.Common.{◌≡◌, ◌≢◌, ◌<◌, ◌≤◌, ℕ, zero, suc, ◌+◌, ◌-◌, ◌*◌, ◌/◌, ◌%◌, ◌⊎◌, inl, inr, List, [], ◌∷◌, ◌++◌, length, slice_index_or, All, Bool, true, false, codes, if◌then◌else◌, nat_lt, Option, Some, IsSome, unwrap_or, max, refl, ap, ap₂, ◌∙◌, sym, subst, arith, rules}
use Rattle.std.specs.Prelude.{◌==◌}
use Rattle.std.specs.List.{flat_map, list_any}
use Rattle.std.proofs.lemmas.Bool.{cases_lt, eq-eqb, false≢true, or_left}
use Rattle.std.proofs.lemmas.List.{append-nil}
use Rattle.std.proofs.lemmas.List.Elements.{All-nil, All-cons}
use Rattle.std.proofs.Math.Nat.{mod-lt}
use Rattle.cpa_units.specs.Name.{is_name}
use Rattle.cpa_units.specs.declared.limits.Size.TheVariants.{Small}
use Rattle.cpa_units.specs.declared.places.TaskId.{TaskId}
use Rattle.cpa_units.specs.declared.places.ResId.{ResId}
use Rattle.cpa_model.specs.declared.entries.Resource.{Resource}
use Rattle.cpa_model.specs.declared.entries.Source.{Source}
use Rattle.cpa_model.specs.declared.entries.Task.{Task}
use Rattle.cpa_model.specs.declared.entries.Path.{Path}
use Rattle.cpa_model.specs.declared.entries.Kind.TheVariants as kind
use Rattle.cpa_model.specs.declared.entries.Activator.{Activator}
use Rattle.cpa_model.specs.declared.entries.Activator.TheVariants as activator
use Rattle.cpa_model.specs.declared.entries.Turn.TheVariants as turn
use Rattle.cpa_model.specs.Chains.{activators, chain_steps, depth_within, streams_step, streams_within}
use Rattle.cpa_model.specs.SystemLists.{SystemLists, is_task, no_resource, no_task, priority_of, resource_at, task_at}
use Rattle.cpa_model.proofs.SystemLaws.{tick-fits}
use Rattle.cpa_model.proofs.LockLaws.{no_locks-fit}
use Rattle.cpa_model.specs.Locks.{uses_lock}
use Rattle.cpa_model.specs.Rules.{AllDiffer, HaveLocksTogether, HaveOwnPriorities, IsActivator, IsLinked, IsPath, IsResource, IsSized, IsSizedResource, IsSizedSource, IsSizedTask, IsSource, IsSystem, IsTask, HasShortClock, TurnFits, activity_names}
use Rattle.std.proofs.lemmas.Option.{none-some}
use Rattle.cpa_draft.specs.Refusals.{has_clock_name}
use Rattle.cpa_model.specs.Clocks.{clock_name}
use Rattle.cpa_gen.specs.declared.chains.Chain.{Chain}
use Rattle.cpa_gen.specs.Chains.{IsChain, chain_at, no_chain}
use Rattle.cpa_gen.specs.MadeSystems.{buses, chain_of, made_path, made_resource, made_source, made_system, numbered, processors, task_made, task_of_chain}
use Rattle.cpa_gen.proofs.ListLaws.{all_table, map_table, pairs_append, pairs_table, same_table, table, table_at, table_length}
use Rattle.cpa_gen.proofs.MadeNumbers.{chain_fits, few_buses, few_processors, place_is, some_buses, some_processors, third, thirds}
use Rattle.cpa_gen.proofs.Names.{bus_named, ended_same, first_named, frame_named, last_named, letters_same, path_named, plain_same, processor_named, source_named}

-- the lists of a generated system
abbrev pub lists : ℕ → ℕ → SystemLists
lists number size = record {
  size = Small;
  resources = table (made_resource size) (processors size + buses size);
  sources = table (λ k. made_source k (chain_of number size k)) size;
  tasks = table (task_made number size) (3 * size);
  paths = table (λ k. made_path k (chain_of number size k)) size;
}

pub lists_are : (number size : ℕ) → made_system number size ≡ lists number size
unfolding made_system
lists_are number size = refl

-- resources

abbrev resource_if : Bool → ℕ → ℕ → Resource
resource_if b size r =
    if b then record { name = numbered (codes "p") r []; kind = kind.Preemptive; limit = 1000000 }
    else record { name = numbered (codes "b") (r - processors size) []; kind = kind.Can 2; limit = 1000000 }

resource_fits : (b : Bool) (size r : ℕ) → IsResource (resource_if b size r)
resource_fits true size r = record { some_limit = omega arith; limit = omega arith; kind_fits = tt }
resource_fits false size r = record { some_limit = omega arith; limit = omega arith; kind_fits = (omega arith, omega arith) }

resource_small : (b : Bool) (size r : ℕ) → IsSizedResource Small (resource_if b size r)
resource_small true size r = (omega arith, omega arith, refl)
resource_small false size r = (omega arith, omega arith, refl)

resource_named : (b : Bool) (size r : ℕ) → r < 128 → is_name (resource_if b size r).name ≡ true
resource_named true size r l = processor_named r l
resource_named false size r l = bus_named (r - processors size) (omega (arith, l))

low : (size r : ℕ) → r < processors size → nat_lt r (processors size) ≡ true
low size r l = search (rules, arith)

high : (size r : ℕ) → processors size ≤ r → nat_lt r (processors size) ≡ false
high size r l = search (rules, arith)

pub low_resource : (size r : ℕ) → r < processors size → made_resource size r ≡ resource_if true size r
low_resource size r l = ap (λ b. resource_if b size r) (low size r l)

pub high_resource : (size r : ℕ) → processors size ≤ r → made_resource size r ≡ resource_if false size r
high_resource size r l = ap (λ b. resource_if b size r) (high size r l)

resources_differ : (size i j : ℕ) → size ≤ 128 → i < j → j < processors size + buses size → (made_resource size i).name ≢ (made_resource size j).name
resources_differ size i j few l m e = by_kinds (cases_lt i (processors size)) (cases_lt j (processors size))
  where
    limit : j < 128
    limit = omega (arith, m, few_processors size few, few_buses size few)

    by_kinds : (i < processors size) ⊎ (processors size ≤ i) → (j < processors size) ⊎ (processors size ≤ j) → ⊥
    by_kinds (inl t) (inl u) =
        let same : numbered (codes "p") i [] ≡ numbered (codes "p") j [] = sym (ap (λ (r : Resource). r.name) (low_resource size i t)) ∙ e ∙ ap (λ (r : Resource). r.name) (low_resource size j u) in
        omega (arith, plain_same 112 i j (omega (arith, l, limit)) limit same, l)
    by_kinds (inl t) (inr u) =
        let same : numbered (codes "p") i [] ≡ numbered (codes "b") (j - processors size) [] =
        sym (ap (λ (r : Resource). r.name) (low_resource size i t)) ∙ e ∙ ap (λ (r : Resource). r.name) (high_resource size j u) in
        omega (arith, letters_same 112 98 i (j - processors size) [] [] same)
    by_kinds (inr t) (inl u) = omega (arith, t, u, l)
    by_kinds (inr t) (inr u) =
        let same : numbered (codes "b") (i - processors size) [] ≡ numbered (codes "b") (j - processors size) [] =
        sym (ap (λ (r : Resource). r.name) (high_resource size i t)) ∙ e ∙ ap (λ (r : Resource). r.name) (high_resource size j u) in
        omega (arith, plain_same 98 (i - processors size) (j - processors size) (omega (arith, l, limit)) (omega (arith, limit)) same, t, u, l)

-- sources and paths

source_fits : (number size k : ℕ) → 0 < size → IsSource (made_source k (chain_of number size k))
source_fits number size k l =
    let c = chain_fits number size k l in
    record { some_period = c.some_period; period = omega (arith, c.period); jitter = omega (arith, c.jitter); distance = omega arith; offset = λ o e. absurd (none-some o e) }

-- tasks

places_same : (i t k : ℕ) → i ≡ 3 * k + t → t < 3 → (i % 3 ≡ t) × (i / 3 ≡ k)
places_same i t k e l = (omega (arith, e, l), omega (arith, e, l))

-- the tasks of a chain, by their places
pub task_there : (number size i t k : ℕ) → i ≡ 3 * k + t → t < 3 → k < size → task_at (lists number size) i ≡ task_of_chain t size k (chain_of number size k)
task_there number size i t k e l m =
    let p = places_same i t k e l in
    table_at (task_made number size) (3 * size) i no_task (omega (arith, e, l, m)) ∙ ap₂ (λ u q. task_of_chain u size q (chain_of number size q)) p.0 p.1

resource_there : (number size r : ℕ) → r < processors size + buses size → resource_at (lists number size) r ≡ made_resource size r
resource_there number size r l = table_at (made_resource size) (processors size + buses size) r no_resource l

kind_low : (number size r : ℕ) → r < processors size → (resource_at (lists number size) r).kind ≡ kind.Preemptive
kind_low number size r l = ap (λ (x : Resource). x.kind) (resource_there number size r (omega (arith, l)) ∙ low_resource size r l)

kind_high : (number size r : ℕ) → processors size ≤ r → r < processors size + buses size → (resource_at (lists number size) r).kind ≡ kind.Can 2
kind_high number size r l m = ap (λ (x : Resource). x.kind) (resource_there number size r m ∙ high_resource size r l)

-- a list of one
alone : {X : Type 0} (P : X → Type 0) (x : X) → P x → All P (x ∷ [])
alone P x h = All-cons P x [] h (All-nil P)

task_fits : (number size t k : ℕ) → size ≤ 128 → t < 3 → k < size → IsTask (lists number size) (task_of_chain t size k (chain_of number size k))
task_fits number size zero k few l m =
    let c = chain_fits number size k (omega (arith, m)) in
    let on : k % processors size < processors size = mod-lt k (some_processors size (omega (arith, m))) in
    record {
      placed = omega (arith, on, table_length (made_resource size) (processors size + buses size));
      some = omega arith;
      activated = alone (IsActivator (lists number size)) _ (omega (arith, m, table_length (λ k. made_source k (chain_of number size k)) size));
      different = λ i j d less within. absurd (omega (arith, less, within));
      some_best = omega (arith, c.some_first);
      ordered = omega arith;
      worst = omega (arith, c.first);
      turn_fits = subst (λ x. TurnFits x (turn.Priority (2 * k))) (sym (kind_low number size (k % processors size) on)) (omega (arith, m, few));
      region_fits = tick-fits (resource_at (lists number size) (k % processors size)).kind;
      locks_fit = no_locks-fit (resource_at (lists number size) (k % processors size)).kind 1;
    }
task_fits number size (suc zero) k few l m =
    let c = chain_fits number size k (omega (arith, m)) in
    let on : k % buses size < buses size = mod-lt k (some_buses size (omega (arith, m))) in
    record {
      placed = omega (arith, on, table_length (made_resource size) (processors size + buses size));
      some = omega arith;
      activated = alone (IsActivator (lists number size)) _ (omega (arith, m, table_length (task_made number size) (3 * size)));
      different = λ i j d less within. absurd (omega (arith, less, within));
      some_best = omega arith;
      ordered = omega arith;
      worst = omega (arith, c.payload);
      turn_fits = subst (λ x. TurnFits x (turn.Priority k)) (sym (kind_high number size (processors size + k % buses size) (omega arith) (omega (arith, on)))) (omega (arith, m, few));
      region_fits = tick-fits (resource_at (lists number size) (processors size + k % buses size)).kind;
      locks_fit = no_locks-fit (resource_at (lists number size) (processors size + k % buses size)).kind 1;
    }
task_fits number size (suc (suc zero)) k few l m =
    let c = chain_fits number size k (omega (arith, m)) in
    record {
      placed = omega (arith, c.processor, table_length (made_resource size) (processors size + buses size));
      some = omega arith;
      activated = alone (IsActivator (lists number size)) _ (omega (arith, m, table_length (task_made number size) (3 * size)));
      different = λ i j d less within. absurd (omega (arith, less, within));
      some_best = omega (arith, c.some_last);
      ordered = omega arith;
      worst = omega (arith, c.last);
      turn_fits = subst (λ x. TurnFits x (turn.Priority (2 * k + 1))) (sym (kind_low number size (chain_of number size k).processor c.processor)) (omega (arith, m, few));
      region_fits = tick-fits (resource_at (lists number size) (chain_of number size k).processor).kind;
      locks_fit = no_locks-fit (resource_at (lists number size) (chain_of number size k).processor).kind 1;
    }
task_fits number size (suc (suc (suc t))) k few l m = absurd (omega (arith, l))

task_small : (number size t k : ℕ) → t < 3 → k < size → IsSizedTask Small (task_of_chain t size k (chain_of number size k))
task_small number size zero k l m = let c = chain_fits number size k (omega (arith, m)) in record { worst = omega (arith, c.first); slot = omega arith; region = omega arith }
task_small number size (suc zero) k l m = let c = chain_fits number size k (omega (arith, m)) in record { worst = omega (arith, c.payload); slot = omega arith; region = omega arith }
task_small number size (suc (suc zero)) k l m = let c = chain_fits number size k (omega (arith, m)) in record { worst = omega (arith, c.last); slot = omega arith; region = omega arith }
task_small number size (suc (suc (suc t))) k l m = absurd (omega (arith, l))

task_named : (size t k : ℕ) (c : Chain) → k < 128 → is_name (task_of_chain t size k c).name ≡ true
task_named size zero k c l = first_named k l
task_named size (suc zero) k c l = frame_named k l
task_named size (suc (suc t)) k c l = last_named k l

-- names of tasks tell the chain and the place in it
tasks_named_same : (size t u k m : ℕ) (c d : Chain) → t < 3 → u < 3 → k < 128 → m < 128 → (task_of_chain t size k c).name ≡ (task_of_chain u size m d).name → (k ≡ m) × (t ≡ u)
tasks_named_same size zero zero k m c d l n o p e = ((ended_same 116 k m 97 97 o p e).0, refl)
tasks_named_same size zero (suc zero) k m c d l n o p e = absurd (omega (arith, (ended_same 116 k m 97 102 o p e).1))
tasks_named_same size zero (suc (suc u)) k m c d l n o p e = absurd (omega (arith, (ended_same 116 k m 97 98 o p e).1))
tasks_named_same size (suc zero) zero k m c d l n o p e = absurd (omega (arith, (ended_same 116 k m 102 97 o p e).1))
tasks_named_same size (suc zero) (suc zero) k m c d l n o p e = ((ended_same 116 k m 102 102 o p e).0, refl)
tasks_named_same size (suc zero) (suc (suc u)) k m c d l n o p e = absurd (omega (arith, (ended_same 116 k m 102 98 o p e).1))
tasks_named_same size (suc (suc t)) zero k m c d l n o p e = absurd (omega (arith, (ended_same 116 k m 98 97 o p e).1))
tasks_named_same size (suc (suc t)) (suc zero) k m c d l n o p e = absurd (omega (arith, (ended_same 116 k m 98 102 o p e).1))
tasks_named_same size (suc (suc t)) (suc (suc u)) k m c d l n o p e =
    ((ended_same 116 k m 98 98 o p e).0, (let same : suc (suc t) ≡ suc (suc u) = omega (arith, l, n) in same))

-- no task has the name of a source
task_or_source : (size t k m : ℕ) (c : Chain) → numbered (codes "s") m [] ≢ (task_of_chain t size k c).name
task_or_source size zero k m c e = omega (arith, letters_same 115 116 m k [] (codes "a") e)
task_or_source size (suc zero) k m c e = omega (arith, letters_same 115 116 m k [] (codes "f") e)
task_or_source size (suc (suc t)) k m c e = omega (arith, letters_same 115 116 m k [] (codes "b") e)

-- tasks of one resource have priorities of their own
apart : (p q n : ℕ) → p ≢ q → turn.Priority p ≡ turn.Priority n → turn.Priority q ≡ turn.Priority n → ⊥
apart p q n d e f = d (ap priority_of e ∙ sym (ap priority_of f))

elsewhere : {P : Type 0} (a b : ℕ) → a < b ⊎ b < a → ◌≡◌ {A = ResId} (record { 0 = a }) (record { 0 = b }) → P
elsewhere a b l e = absurd (none l (ap (λ (r : ResId). r.0) e))
  where
    none : a < b ⊎ b < a → a ≡ b → ⊥
    none (inl l) e = omega (arith, l, e)
    none (inr l) e = omega (arith, l, e)

priorities_differ : (size t u k m : ℕ) (c d : Chain) → t < 3 → u < 3 → k < size → m < size → c.processor < processors size → d.processor < processors size
    → 3 * k + t < 3 * m + u → HaveOwnPriorities (task_of_chain t size k c) (task_of_chain u size m d)
priorities_differ size zero zero k m c d l n o p x y less same number e f = apart (2 * k) (2 * m) number (λ g. omega (arith, g, less)) e f
priorities_differ size zero (suc zero) k m c d l n o p x y less same number e f =
    elsewhere (k % processors size) (processors size + m % buses size) (inl (omega (arith, mod-lt k (some_processors size (omega (arith, o)))))) same
priorities_differ size zero (suc (suc u)) k m c d l n o p x y less same number e f = apart (2 * k) (2 * m + 1) number (λ g. omega (arith, g)) e f
priorities_differ size (suc zero) zero k m c d l n o p x y less same number e f =
    elsewhere (processors size + k % buses size) (m % processors size) (inr (omega (arith, mod-lt m (some_processors size (omega (arith, o)))))) same
priorities_differ size (suc zero) (suc zero) k m c d l n o p x y less same number e f = apart k m number (λ g. omega (arith, g, less)) e f
priorities_differ size (suc zero) (suc (suc u)) k m c d l n o p x y less same number e f =
    elsewhere (processors size + k % buses size) d.processor (inr (omega (arith, y))) same
priorities_differ size (suc (suc t)) zero k m c d l n o p x y less same number e f = apart (2 * k + 1) (2 * m) number (λ g. omega (arith, g)) e f
priorities_differ size (suc (suc t)) (suc zero) k m c d l n o p x y less same number e f =
    elsewhere c.processor (processors size + m % buses size) (inl (omega (arith, x))) same
priorities_differ size (suc (suc t)) (suc (suc u)) k m c d l n o p x y less same number e f = apart (2 * k + 1) (2 * m + 1) number (λ g. omega (arith, g, less, l, n)) e f

-- no task uses a lock
unlocked : {P : Type 0} (size t k : ℕ) (c : Chain) (lock : List ℕ) → uses_lock lock (task_of_chain t size k c) ≡ true → P
unlocked size zero k c lock e = absurd (false≢true e)
unlocked size (suc zero) k c lock e = absurd (false≢true e)
unlocked size (suc (suc t)) k c lock e = absurd (false≢true e)

-- paths

path_linked : (number size k : ℕ) → k < size → IsLinked (lists number size) (record { 0 = 3 * k } ∷ record { 0 = 3 * k + 1 } ∷ record { 0 = 3 * k + 2 } ∷ [])
path_linked number size k l zero m =
    ap (λ (t : Task). list_any (is_task (3 * k)) t.after) (task_there number size (3 * k + 1) 1 k refl (omega arith) l)
    ∙ or_left (3 * k == 3 * k) false (eq-eqb (3 * k) (3 * k) refl)
path_linked number size k l (suc zero) m =
    ap (λ (t : Task). list_any (is_task (3 * k + 1)) t.after) (task_there number size (3 * k + 2) 2 k refl (omega arith) l)
    ∙ or_left (3 * k + 1 == 3 * k + 1) false (eq-eqb (3 * k + 1) (3 * k + 1) refl)
path_linked number size k l (suc (suc j)) m = absurd (omega (arith, m))

path_there : (size k : ℕ) → k < size → All (λ (t : TaskId). t.0 < 3 * size) (record { 0 = 3 * k } ∷ record { 0 = 3 * k + 1 } ∷ record { 0 = 3 * k + 2 } ∷ [])
path_there size k l zero d m = omega (arith, l)
path_there size k l (suc zero) d m = omega (arith, l)
path_there size k l (suc (suc zero)) d m = omega (arith, l)
path_there size k l (suc (suc (suc j))) d m = absurd (omega (arith, m))

path_fits : (number size k : ℕ) → k < size → IsPath (lists number size) (made_path k (chain_of number size k))
path_fits number size k l =
    let c = chain_fits number size k (omega (arith, l)) in
    record {
      some = omega arith;
      there = subst (λ n. All (λ (t : TaskId). t.0 < n) (made_path k (chain_of number size k)).tasks) (sym (table_length (task_made number size) (3 * size))) (path_there size k l);
      linked = path_linked number size k l;
      deadline = λ d e.
          let same : (chain_of number size k).period ≡ d = ap (λ o. unwrap_or o 0) e in (omega (arith, same, c.some_period), omega (arith, same, c.period));
    }

-- chains

link_there : (number size i t k : ℕ) → i ≡ 3 * k + t → t < 3 → k < size
    → slice_index_or (activators (lists number size).tasks) i [] ≡ (task_of_chain t size k (chain_of number size k)).after
link_there number size i t k e l m =
    let p = places_same i t k e l in
    ap (λ (xs : List (List Activator)). slice_index_or xs i []) (map_table (λ (t : Task). t.after) (task_made number size) (3 * size))
    ∙ table_at (λ i. (task_made number size i).after) (3 * size) i [] (omega (arith, e, l, m))
    ∙ ap₂ (λ u q. (task_of_chain u size q (chain_of number size q)).after) p.0 p.1

abbrev links : ℕ → ℕ → List (List Activator)
links number size = activators (lists number size).tasks

-- a task that one other activates
one_deeper : (f : ℕ → Option ℕ) (j : TaskId) (d : ℕ) → f j.0 ≡ Some d → chain_steps (activator.Task j ∷ []) f ≡ Some (max 1 (suc d))
one_deeper f j d e = rw e refl

first_depth : (number size i k n : ℕ) → i ≡ 3 * k + 0 → k < size → depth_within (links number size) (suc n) i ≡ Some 1
unfolding depth_within
first_depth number size i k n e l = ap (λ them. chain_steps them (depth_within (links number size) n)) (link_there number size i 0 k e (omega arith) l)

frame_depth : (number size i k n : ℕ) → i ≡ 3 * k + 1 → k < size → depth_within (links number size) (suc (suc n)) i ≡ Some 2
unfolding depth_within
frame_depth number size i k n e l =
    ap (λ them. chain_steps them (depth_within (links number size) (suc n))) (link_there number size i 1 k e (omega arith) l)
    ∙ one_deeper (depth_within (links number size) (suc n)) (record { 0 = 3 * k }) 1 (first_depth number size (3 * k) k n (omega arith) l)

last_depth : (number size i k n : ℕ) → i ≡ 3 * k + 2 → k < size → depth_within (links number size) (suc (suc (suc n))) i ≡ Some 3
unfolding depth_within
last_depth number size i k n e l =
    ap (λ them. chain_steps them (depth_within (links number size) (suc (suc n)))) (link_there number size i 2 k e (omega arith) l)
    ∙ one_deeper (depth_within (links number size) (suc (suc n))) (record { 0 = 3 * k + 1 }) 2 (frame_depth number size (3 * k + 1) k n refl l)

some_depth : (number size i t k n : ℕ) → i ≡ 3 * k + t → t < 3 → k < size → IsSome (depth_within (links number size) (suc (suc (suc n))) i)
some_depth number size i zero k n e l m = search (rules, first_depth number size i k (suc (suc n)) e m)
some_depth number size i (suc zero) k n e l m = search (rules, frame_depth number size i k (suc n) e m)
some_depth number size i (suc (suc zero)) k n e l m = search (rules, last_depth number size i k n e m)
some_depth number size i (suc (suc (suc t))) k n e l m = absurd (omega (arith, l))

-- streams

first_streams : (number size i k n : ℕ) → i ≡ 3 * k + 0 → k < size → length (streams_within (links number size) (suc n) i) ≡ 1
unfolding streams_within
first_streams number size i k n e l =
    ap (λ them. length (flat_map (λ (a : Activator). streams_step a (streams_within (links number size) n)) them)) (link_there number size i 0 k e (omega arith) l)

frame_streams : (number size i k n : ℕ) → i ≡ 3 * k + 1 → k < size → length (streams_within (links number size) (suc (suc n)) i) ≡ 1
unfolding streams_within
frame_streams number size i k n e l =
    ap (λ them. length (flat_map (λ (a : Activator). streams_step a (streams_within (links number size) (suc n))) them)) (link_there number size i 1 k e (omega arith) l)
    ∙ ap length (append-nil (streams_within (links number size) (suc n) (3 * k)))
    ∙ first_streams number size (3 * k) k n (omega arith) l

last_streams : (number size i k n : ℕ) → i ≡ 3 * k + 2 → k < size → length (streams_within (links number size) (suc (suc (suc n))) i) ≡ 1
unfolding streams_within
last_streams number size i k n e l =
    ap (λ them. length (flat_map (λ (a : Activator). streams_step a (streams_within (links number size) (suc (suc n)))) them)) (link_there number size i 2 k e (omega arith) l)
    ∙ ap length (append-nil (streams_within (links number size) (suc (suc n)) (3 * k + 1)))
    ∙ frame_streams number size (3 * k + 1) k n refl l

few_streams : (number size i t k n : ℕ) → i ≡ 3 * k + t → t < 3 → k < size → length (streams_within (links number size) (suc (suc (suc n))) i) ≤ 32
few_streams number size i zero k n e l m = omega (arith, first_streams number size i k (suc (suc n)) e m)
few_streams number size i (suc zero) k n e l m = omega (arith, frame_streams number size i k (suc n) e m)
few_streams number size i (suc (suc zero)) k n e l m = omega (arith, last_streams number size i k n e m)
few_streams number size i (suc (suc (suc t))) k n e l m = absurd (omega (arith, l))

-- all rules

names_differ : (number size : ℕ) → size ≤ 128 → AllDiffer (activity_names (lists number size))
names_differ number size few =
    let sources = map_table (λ (r : Source). r.name) (λ k. made_source k (chain_of number size k)) size in
    let tasks = map_table (λ (t : Task). t.name) (task_made number size) (3 * size) in
    subst AllDiffer (sym (ap₂ (λ a b. a ++ b) sources tasks)) (pairs_append (λ a b. a ≢ b) (λ k. numbered (codes "s") k []) (λ i. (task_made number size i).name) size (3 * size)
    (λ i j l m e. omega (arith, plain_same 115 i j (omega (arith, l, m, few)) (omega (arith, m, few)) e, l))
    (λ i j l m e. task_pair i j l m (tasks_named_same size (i % 3) (j % 3) (i / 3) (j / 3) (chain_of number size (i / 3)) (chain_of number size (j / 3)) (thirds i) (thirds j)
    (omega (arith, third size i (omega (arith, l, m)), few)) (omega (arith, third size j m, few)) e))
    (λ i j l m e. task_or_source size (j % 3) (j / 3) i (chain_of number size (j / 3)) e))
  where
    task_pair : (i j : ℕ) → i < j → j < 3 * size → ((i / 3 ≡ j / 3) × (i % 3 ≡ j % 3)) → ⊥
    task_pair i j l m p = omega (arith, l, p.0, p.1, place_is i, place_is j)

-- it is small
lists_sized : (number size : ℕ) → size ≤ 128 → IsSized (lists number size)
lists_sized number size few = record {
  resources = omega (arith, table_length (made_resource size) (processors size + buses size), few_processors size few, few_buses size few);
  sources = omega (arith, table_length (λ k. made_source k (chain_of number size k)) size, few);
  tasks = omega (arith, table_length (task_made number size) (3 * size), few);
  paths = omega (arith, table_length (λ k. made_path k (chain_of number size k)) size, few);
  limits = all_table (IsSizedResource Small) (made_resource size) (processors size + buses size) (λ r l. resource_small (nat_lt r (processors size)) size r);
  arrivals = all_table (IsSizedSource Small) (λ k. made_source k (chain_of number size k)) size (λ k l. (refl, refl));
  times = all_table (IsSizedTask Small) (task_made number size) (3 * size) (λ i l. task_small number size (i % 3) (i / 3) (thirds i) (third size i l));
}

pub lists_keep_rules : (number size : ℕ) → size ≤ 128 → IsSystem (lists number size)
lists_keep_rules number size few = record {
  sized = lists_sized number size few;
  few_resources = omega (arith, table_length (made_resource size) (processors size + buses size), few_processors size few, few_buses size few);
  few_sources = omega (arith, table_length (λ k. made_source k (chain_of number size k)) size, few);
  few_tasks = omega (arith, table_length (task_made number size) (3 * size), few);
  few_paths = omega (arith, table_length (λ k. made_path k (chain_of number size k)) size, few);
  resources = all_table IsResource (made_resource size) (processors size + buses size) (λ r l. resource_fits (nat_lt r (processors size)) size r);
  sources = all_table IsSource (λ k. made_source k (chain_of number size k)) size (λ k l. source_fits number size k (omega (arith, l)));
  tasks = all_table (IsTask (lists number size)) (task_made number size) (3 * size) (λ i l. task_fits number size (i % 3) (i / 3) few (thirds i) (third size i l));
  paths = all_table (IsPath (lists number size)) (λ k. made_path k (chain_of number size k)) size (λ k l. path_fits number size k l);
  chains = λ i l.
      let there : i < 3 * size = rw (table_length (task_made number size) (3 * size)) at l in
      some_depth number size i (i % 3) (i / 3) 29 (place_is i) (thirds i) (third size i there);
  streams = λ i l.
      let there : i < 3 * size = rw (table_length (task_made number size) (3 * size)) at l in
      few_streams number size i (i % 3) (i / 3) 29 (place_is i) (thirds i) (third size i there);
  resources_named = all_table (λ (r : Resource). is_name r.name ≡ true) (made_resource size) (processors size + buses size)
      (λ r l. resource_named (nat_lt r (processors size)) size r (omega (arith, l, few_processors size few, few_buses size few)));
  sources_named = all_table (λ (r : Source). is_name r.name ≡ true) (λ k. made_source k (chain_of number size k)) size (λ k l. source_named k (omega (arith, l, few)));
  clocks_named = all_table (λ (r : Source). has_clock_name (clock_name r.on_clock) ≡ true) (λ k. made_source k (chain_of number size k)) size (λ k l. refl);
  clocks = all_table (HasShortClock (lists number size)) (λ k. made_source k (chain_of number size k)) size (λ k l o e. absurd (none-some o e));
  tasks_named = all_table (λ (t : Task). is_name t.name ≡ true) (task_made number size) (3 * size)
      (λ i l. task_named size (i % 3) (i / 3) (chain_of number size (i / 3)) (omega (arith, third size i l, few)));
  paths_named = all_table (λ (p : Path). is_name p.name ≡ true) (λ k. made_path k (chain_of number size k)) size (λ k l. path_named k (omega (arith, l, few)));
  resource_names = subst AllDiffer (sym (map_table (λ (r : Resource). r.name) (made_resource size) (processors size + buses size)))
      (pairs_table (λ a b. a ≢ b) (λ r. (made_resource size r).name) (processors size + buses size) (λ i j l m. resources_differ size i j few l m));
  activity_names = names_differ number size few;
  path_names = subst AllDiffer (sym (map_table (λ (p : Path). p.name) (λ k. made_path k (chain_of number size k)) size))
      (pairs_table (λ a b. a ≢ b) (λ k. numbered (codes "c") k []) size (λ i j l m e. omega (arith, plain_same 99 i j (omega (arith, l, m, few)) (omega (arith, m, few)) e, l)));
  priorities = pairs_table HaveOwnPriorities (task_made number size) (3 * size) (λ i j l m.
      let some : 0 < size = omega (arith, m) in
      priorities_differ size (i % 3) (j % 3) (i / 3) (j / 3) (chain_of number size (i / 3)) (chain_of number size (j / 3)) (thirds i) (thirds j)
      (third size i (omega (arith, l, m))) (third size j m) (chain_fits number size (i / 3) some).processor (chain_fits number size (j / 3) some).processor
      (omega (arith, place_is i, place_is j, l)));
  locks = pairs_table HaveLocksTogether (task_made number size) (3 * size) (λ i j l m lock first second. unlocked size (i % 3) (i / 3) (chain_of number size (i / 3)) lock first);
}

pub made_systems_keep_rules : (number size : ℕ) → size ≤ 128 → IsSystem (made_system number size)
made_systems_keep_rules number size few = subst IsSystem (sym (lists_are number size)) (lists_keep_rules number size few)

-- what is put together from the chains

pub chains_counted : (number size : ℕ) (cs : List Chain) → cs ≡ table (chain_of number size) size → length cs ≡ size
chains_counted number size cs e = ap length e ∙ table_length (chain_of number size) size

pub chains_fit : (number size : ℕ) (cs : List Chain) → size ≤ 128 → cs ≡ table (chain_of number size) size → All IsChain cs
chains_fit number size cs few e = subst (All IsChain) (sym e) (all_table IsChain (chain_of number size) size (λ k l.
    let c = chain_fits number size k (omega (arith, l)) in record { payload = omega (arith, c.payload); processor = omega (arith, c.processor, few_processors size few) }))

chain_there : (number size k : ℕ) (cs : List Chain) → cs ≡ table (chain_of number size) size → k < size → chain_at cs k ≡ chain_of number size k
chain_there number size k cs e l = ap (λ xs. chain_at xs k) e ∙ table_at (chain_of number size) size k no_chain l

pub assembled : (number size : ℕ) (cs : List Chain) (rs : List Resource) (ss : List Source) (ts : List Task) (ps : List Path) → cs ≡ table (chain_of number size) size
    → rs ≡ table (made_resource size) (processors size + buses size) → ss ≡ table (λ k. made_source k (chain_at cs k)) (length cs)
    → ts ≡ table (λ i. task_of_chain (i % 3) (length cs) (i / 3) (chain_at cs (i / 3))) (3 * length cs) → ps ≡ table (λ k. made_path k (chain_at cs k)) (length cs)
    → record { size = Small; resources = rs; sources = ss; tasks = ts; paths = ps } ≡ made_system number size
assembled number size cs rs ss ts ps e er es et ep =
    let n = chains_counted number size cs e in
    let sources = es ∙ ap (λ m. table (λ k. made_source k (chain_at cs k)) m) n ∙ same_table (λ k. made_source k (chain_at cs k)) (λ k. made_source k (chain_of number size k)) size
    (λ k l. ap (made_source k) (chain_there number size k cs e l)) in
    let tasks = et ∙ ap (λ m. table (λ i. task_of_chain (i % 3) m (i / 3) (chain_at cs (i / 3))) (3 * m)) n
    ∙ same_table (λ i. task_of_chain (i % 3) size (i / 3) (chain_at cs (i / 3))) (task_made number size) (3 * size)
    (λ i l. ap (task_of_chain (i % 3) size (i / 3)) (chain_there number size (i / 3) cs e (third size i l))) in
    let paths = ep ∙ ap (λ m. table (λ k. made_path k (chain_at cs k)) m) n ∙ same_table (λ k. made_path k (chain_at cs k)) (λ k. made_path k (chain_of number size k)) size
    (λ k l. ap (made_path k) (chain_there number size k cs e l)) in
    ap₂ (λ a b. record { size = Small; resources = a; sources = b; tasks = ts; paths = ps }) er sources
    ∙ ap₂ (λ a b. record { size = Small; resources = (lists number size).resources; sources = (lists number size).sources; tasks = a; paths = b }) tasks paths
    ∙ sym (lists_are number size)
