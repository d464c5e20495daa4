-- What a draft has to which no reason applies, and that it is all.
use Rattle.std.proofs.Common.{◌≡◌, ℕ, ◌≤◌, Bool, true, false, not, ◌||◌, ◌&&◌, nat_le, nat_lt, List, [], ◌∷◌, length, slice_index_or, take, All, Option, Some, None, is_none, refl, sym, ap, ◌∙◌, arith, inl, inr}
use Rattle.std.specs.List.{list_all, list_any, filter_map}
use Rattle.std.proofs.lemmas.Bool.{and_parts, true≢false, le-leb, leb-true, ltb-true, ltb-false, cases_Bool, false_from_ne_true}
use Rattle.std.proofs.lemmas.Option.{none-some}
use Rattle.cpa_units.specs.Name.{is_name}
use Rattle.cpa_units.specs.Sizes.{most_resources, most_sources, most_tasks, most_paths}
use Rattle.cpa_draft.specs.First.{first_place, first_known}
use Rattle.cpa_draft.specs.Names.{source_names, resource_names, place_of, kind_of, link_of, links_of, is_nothing, is_task}
use Rattle.cpa_draft.specs.Chains.{first_longer}
use Rattle.cpa_draft.specs.DraftLists.{DraftLists}
use Rattle.cpa_draft.specs.declared.draft.DraftResource.{DraftResource}
use Rattle.cpa_draft.specs.declared.draft.DraftSource.{DraftSource}
use Rattle.cpa_draft.specs.declared.draft.DraftTask.{DraftTask}
use Rattle.cpa_draft.specs.declared.draft.DraftPath.{DraftPath}
use Rattle.cpa_draft.specs.declared.refusal.Part.{Part}
use Rattle.cpa_draft.specs.declared.refusal.Refusal.{Refusal}
use Rattle.cpa_draft.specs.Refusals.{◌or_else◌, refusal_at, first_with, out_of_range, no_name, known_name, unknown_name, endless, long_chain, known_priority, misfit, crossed, unlinked, too_many, misfed, is_misfed, too_long_clock, mislocked, is_mislocked, has_clock_name, have_lock_names, by_own_names, by_links, by_chains, by_kinds, first_refusal, resource_fits, source_fits, task_fits, path_fits, rank_of, is_taken, resource_misfits, task_misfits, is_crossed, is_linked}
use Rattle.cpa_draft.specs.Clocks.{is_overlong, IsTicking}
use Rattle.cpa_draft.proofs.ClockSources.{short-clocks, unmarked-clocks, fits-ticks}
use Rattle.cpa_draft.proofs.FirstLemmas.{none_marked, all_unmarked}
use Rattle.cpa_draft.proofs.ListLaws.{not-false}

-- what no reason gives, entry by entry
pub record IsUnrefused (d : DraftLists) : Type 0 where
  pub resources_fit : All (λ r. resource_fits d.size r ≡ true) d.resources
  pub sources_fit : All (λ r. source_fits d.size r ≡ true) d.sources
  pub tasks_fit : All (λ t. task_fits d.size t ≡ true) d.tasks
  pub paths_fit : All (λ p. path_fits d.size p ≡ true) d.paths
  pub resources_named : All (λ (r : DraftResource). is_name r.name ≡ true) d.resources
  pub sources_named : All (λ (r : DraftSource). is_name r.name ≡ true) d.sources
  pub clocks_named : All (λ (r : DraftSource). has_clock_name r.clock ≡ true) d.sources
  pub tasks_named : All (λ (t : DraftTask). is_name t.name ≡ true) d.tasks
  pub locks_named : All (λ (t : DraftTask). have_lock_names t.locks ≡ true) d.tasks
  pub paths_named : All (λ (p : DraftPath). is_name p.name ≡ true) d.paths
  pub new_resources : first_known (λ (r : DraftResource). r.name) [] d.resources ≡ None
  pub new_sources : first_known (λ (r : DraftSource). r.name) [] d.sources ≡ None
  pub new_tasks : first_known (λ (t : DraftTask). t.name) (source_names d) d.tasks ≡ None
  pub new_paths : first_known (λ (p : DraftPath). p.name) [] d.paths ≡ None
  pub tasks_know : All (λ (t : DraftTask). (is_none (place_of (resource_names d) t.on) || list_any (λ name. is_nothing (link_of d name)) t.after) ≡ false) d.tasks
  pub paths_know : All (λ (p : DraftPath). list_all (λ name. is_task (link_of d name)) p.tasks ≡ true) d.paths
  pub sourced : first_longer (links_of d) (length d.tasks) ≡ None
  pub short : first_longer (links_of d) 32 ≡ None
  pub ranks : first_place (λ k t. is_taken (rank_of d t) (filter_map (rank_of d) (take k d.tasks))) d.tasks ≡ None
  pub resources_suit : All (λ r. resource_misfits r ≡ false) d.resources
  pub tasks_suit : All (λ (t : DraftTask). task_misfits (kind_of d t.on) t ≡ false) d.tasks
  pub ordered : All (λ t. is_crossed t ≡ false) d.tasks
  pub linked : All (λ (p : DraftPath). (nat_le (length p.tasks) 0 || not (is_linked d p.tasks)) ≡ false) d.paths
  pub few_resources : length d.resources ≤ most_resources d.size
  pub few_sources : length d.sources ≤ most_sources d.size
  pub few_tasks : length d.tasks ≤ most_tasks d.size
  pub few_paths : length d.paths ≤ most_paths d.size
  pub fed : first_place (is_misfed d) d.tasks ≡ None
  pub short_clocks : All (λ (r : DraftSource). is_overlong r.clock d.sources ≡ false) d.sources
  pub locked : first_place (is_mislocked d) d.tasks ≡ None

or_none : {X : Type 0} (a b : Option X) → (a or_else b) ≡ None → (a ≡ None) × (b ≡ None)
or_none None b e = (refl, e)
or_none (Some x) b e = absurd (none-some x (sym e))

none_or : {X : Type 0} (a b : Option X) → a ≡ None → b ≡ None → (a or_else b) ≡ None
none_or a b e f = rw (e, f)

at_none : (reason : ℕ) (part : Part) (o : Option ℕ) → refusal_at reason part o ≡ None → o ≡ None
at_none reason part None e = refl
at_none reason part (Some k) e = absurd (none-some _ (sym e))

none_at : (reason : ℕ) (part : Part) (o : Option ℕ) → o ≡ None → refusal_at reason part o ≡ None
none_at reason part o e = rw e

-- four parts
record Four (a b c e : Option Refusal) : Type 0 where
  pub first : a ≡ None
  pub second : b ≡ None
  pub third : c ≡ None
  pub fourth : e ≡ None

four : (a b c e : Option Refusal) → (a or_else b or_else c or_else e) ≡ None → Four a b c e
four a b c e h =
    let x = or_none _ e h in
    let y = or_none _ c x.0 in
    let z = or_none a b y.0 in
    record { first = z.0; second = z.1; third = y.1; fourth = x.1 }

from_four : (a b c e : Option Refusal) → Four a b c e → (a or_else b or_else c or_else e) ≡ None
from_four a b c e f = none_or _ e (none_or _ c (none_or a b f.first f.second) f.third) f.fourth

-- a test of the entries alone
fails : {X : Type 0} (reason : ℕ) (part : Part) (marks : X → Bool) (xs : List X) → first_with reason part marks xs ≡ None → All (λ x. marks x ≡ false) xs
fails reason part marks xs e = λ k x less. none_marked (λ k x. marks x) xs k x (at_none reason part _ e) less

passes : {X : Type 0} (reason : ℕ) (part : Part) (marks : X → Bool) (xs : List X) → first_with reason part (λ x. not (marks x)) xs ≡ None → All (λ x. marks x ≡ true) xs
passes reason part marks xs e = λ k x less. not-false _ (fails reason part (λ x. not (marks x)) xs e k x less)

from_fails : {X : Type 0} (reason : ℕ) (part : Part) (marks : X → Bool) (xs : List X) → All (λ x. marks x ≡ false) xs → first_with reason part marks xs ≡ None
from_fails reason part marks xs each = none_at reason part _ (all_unmarked (λ k x. marks x) xs each)

from_passes : {X : Type 0} (reason : ℕ) (part : Part) (marks : X → Bool) (xs : List X) → All (λ x. marks x ≡ true) xs → first_with reason part (λ x. not (marks x)) xs ≡ None
from_passes reason part marks xs each = from_fails reason part (λ x. not (marks x)) xs (λ k x less. ap not (each k x less))

-- at most n entries, where none at place n or later stands
few : {X : Type 0} (n : ℕ) (xs : List X) → first_place (λ k x. nat_le n k) xs ≡ None → length xs ≤ n
few n [] e = omega arith
few n (x ∷ xs) e = elim (cases_Bool (nat_lt n (length (x ∷ xs)))) [
  | inl more ↦ absurd (true≢false (sym (le-leb n n (omega arith)) ∙ none_marked (λ k y. nat_le n k) (x ∷ xs) n x e (ltb-true _ _ more)))
  | inr less ↦ omega (arith, ltb-false _ _ less)
]

from_few : {X : Type 0} (n : ℕ) (xs : List X) → length xs ≤ n → first_place (λ k x. nat_le n k) xs ≡ None
from_few n xs less = all_unmarked (λ k x. nat_le n k) xs (λ k d below. false_from_ne_true _ (λ past. absurd (omega (arith, leb-true _ _ past))))

pub unrefused : (d : DraftLists) → first_refusal d ≡ None → IsUnrefused d
unfolding first_refusal out_of_range no_name known_name unknown_name endless long_chain known_priority misfit crossed unlinked too_many misfed too_long_clock mislocked
unrefused d h =
    let x = or_none _ (mislocked d) h in
    let y = or_none _ (too_long_clock d) x.0 in
    let z = or_none _ (misfed d) y.0 in
    let a = or_none _ (too_many d) z.0 in
    let b = or_none _ (by_kinds d) a.0 in
    let c = or_none _ (by_links d) b.0 in
    let e = or_none (out_of_range d) (by_own_names d) c.0 in
    let range = four _ _ _ _ e.0 in
    let g = or_none (no_name d) (known_name d) e.1 in
    let form = four _ _ _ _ g.0 in
    let named = passes 3 _ (λ (r : DraftSource). is_name r.name && has_clock_name r.clock) d.sources form.second in
    let task_named = passes 3 _ (λ (t : DraftTask). is_name t.name && have_lock_names t.locks) d.tasks form.third in
    let fit = passes 2 _ (source_fits d.size) d.sources range.second in
    let known = four _ _ _ _ g.1 in
    let f = or_none (unknown_name d) (by_chains d) c.1 in
    let unknown = or_none _ _ f.0 in
    let chain = or_none (endless d) (long_chain d) f.1 in
    let kind = four (known_priority d) (misfit d) (crossed d) (unlinked d) b.1 in
    let suit = or_none _ _ kind.second in
    let many = four _ _ _ _ a.1 in
    record {
      resources_fit = passes 2 _ (resource_fits d.size) d.resources range.first;
      sources_fit = fit;
      tasks_fit = passes 2 _ (task_fits d.size) d.tasks range.third;
      paths_fit = passes 2 _ (path_fits d.size) d.paths range.fourth;
      resources_named = passes 3 _ (λ (r : DraftResource). is_name r.name) d.resources form.first;
      sources_named = λ k d less. (and_parts _ _ (named k d less)).0;
      clocks_named = λ k d less. (and_parts _ _ (named k d less)).1;
      tasks_named = λ k d less. (and_parts _ _ (task_named k d less)).0;
      locks_named = λ k d less. (and_parts _ _ (task_named k d less)).1;
      paths_named = passes 3 _ (λ (p : DraftPath). is_name p.name) d.paths form.fourth;
      new_resources = at_none 4 _ _ known.first;
      new_sources = at_none 4 _ _ known.second;
      new_tasks = at_none 4 _ _ known.third;
      new_paths = at_none 4 _ _ known.fourth;
      tasks_know = fails 5 _ (λ (t : DraftTask). is_none (place_of (resource_names d) t.on) || list_any (λ name. is_nothing (link_of d name)) t.after) d.tasks unknown.0;
      paths_know = passes 5 _ (λ (p : DraftPath). list_all (λ name. is_task (link_of d name)) p.tasks) d.paths unknown.1;
      sourced = at_none 6 _ _ chain.0;
      short = at_none 7 _ _ chain.1;
      ranks = at_none 8 _ _ kind.first;
      resources_suit = fails 9 _ resource_misfits d.resources suit.0;
      tasks_suit = fails 9 _ (λ (t : DraftTask). task_misfits (kind_of d t.on) t) d.tasks suit.1;
      ordered = fails 10 _ is_crossed d.tasks kind.third;
      linked = fails 11 _ (λ (p : DraftPath). nat_le (length p.tasks) 0 || not (is_linked d p.tasks)) d.paths kind.fourth;
      few_resources = few (most_resources d.size) d.resources (at_none 12 _ _ many.first);
      few_sources = few (most_sources d.size) d.sources (at_none 12 _ _ many.second);
      few_tasks = few (most_tasks d.size) d.tasks (at_none 12 _ _ many.third);
      few_paths = few (most_paths d.size) d.paths (at_none 12 _ _ many.fourth);
      fed = at_none 14 _ _ z.1;
      short_clocks = short-clocks d.sources (λ k r less. fits-ticks d.size (slice_index_or d.sources k r) (fit k r less)) (at_none 15 _ _ y.1);
      locked = at_none 16 _ _ x.1;
    }

pub not_refused : (d : DraftLists) → IsUnrefused d → first_refusal d ≡ None
unfolding first_refusal out_of_range no_name known_name unknown_name endless long_chain known_priority misfit crossed unlinked too_many misfed too_long_clock mislocked
not_refused d u =
    none_or _ (mislocked d)
    (none_or _ (too_long_clock d)
    (none_or _ (misfed d)
    (none_or _ (too_many d)
    (none_or _ (by_kinds d)
    (none_or _ (by_links d)
    (none_or (out_of_range d) (by_own_names d)
    (from_four _ _ _ _ (record {
      first = from_passes 2 _ (resource_fits d.size) d.resources u.resources_fit;
      second = from_passes 2 _ (source_fits d.size) d.sources u.sources_fit;
      third = from_passes 2 _ (task_fits d.size) d.tasks u.tasks_fit;
      fourth = from_passes 2 _ (path_fits d.size) d.paths u.paths_fit;
    }))
    (none_or (no_name d) (known_name d)
    (from_four _ _ _ _ (record {
      first = from_passes 3 _ (λ (r : DraftResource). is_name r.name) d.resources u.resources_named;
      second = from_passes 3 _ (λ (r : DraftSource). is_name r.name && has_clock_name r.clock) d.sources (λ k r less. rw (u.sources_named k r less, u.clocks_named k r less) refl);
      third = from_passes 3 _ (λ (t : DraftTask). is_name t.name && have_lock_names t.locks) d.tasks (λ k t less. rw (u.tasks_named k t less, u.locks_named k t less) refl);
      fourth = from_passes 3 _ (λ (p : DraftPath). is_name p.name) d.paths u.paths_named;
    }))
    (from_four _ _ _ _ (record {
      first = none_at 4 _ _ u.new_resources;
      second = none_at 4 _ _ u.new_sources;
      third = none_at 4 _ _ u.new_tasks;
      fourth = none_at 4 _ _ u.new_paths;
    }))))
    (none_or (unknown_name d) (by_chains d)
    (none_or _ _
    (from_fails 5 _ (λ (t : DraftTask). is_none (place_of (resource_names d) t.on) || list_any (λ name. is_nothing (link_of d name)) t.after) d.tasks u.tasks_know)
    (from_passes 5 _ (λ (p : DraftPath). list_all (λ name. is_task (link_of d name)) p.tasks) d.paths u.paths_know))
    (none_or (endless d) (long_chain d) (none_at 6 _ _ u.sourced) (none_at 7 _ _ u.short))))
    (from_four (known_priority d) (misfit d) (crossed d) (unlinked d) (record {
      first = none_at 8 _ _ u.ranks;
      second = none_or _ _ (from_fails 9 _ resource_misfits d.resources u.resources_suit) (from_fails 9 _ (λ (t : DraftTask). task_misfits (kind_of d t.on) t) d.tasks u.tasks_suit);
      third = from_fails 10 _ is_crossed d.tasks u.ordered;
      fourth = from_fails 11 _ (λ (p : DraftPath). nat_le (length p.tasks) 0 || not (is_linked d p.tasks)) d.paths u.linked;
    })))
    (from_four _ _ _ _ (record {
      first = none_at 12 _ _ (from_few (most_resources d.size) d.resources u.few_resources);
      second = none_at 12 _ _ (from_few (most_sources d.size) d.sources u.few_sources);
      third = none_at 12 _ _ (from_few (most_tasks d.size) d.tasks u.few_tasks);
      fourth = none_at 12 _ _ (from_few (most_paths d.size) d.paths u.few_paths);
    })))
    (none_at 14 _ _ u.fed))
    (none_at 15 _ _ (unmarked-clocks d.sources (λ k r less. fits-ticks d.size (slice_index_or d.sources k r) (u.sources_fit k r less)) u.short_clocks)))
    (none_at 16 _ _ u.locked)

-- the periods are in their range where reason 2 doesn't apply
pub ticking : (d : DraftLists) → out_of_range d ≡ None → All IsTicking d.sources
unfolding out_of_range
ticking d h =
    let range = four _ _ _ _ h in
    let fit = passes 2 _ (source_fits d.size) d.sources range.second in
    λ k r less. fits-ticks d.size (slice_index_or d.sources k r) (fit k r less)
