-- An edit that isn't refused spares what it doesn't touch, and touches resources that are there.
use Rattle.std.proofs.Common.{◌≡◌, ℕ, ◌<◌, ◌&&◌, ◌==◌, ◌↔◌, nat_le, not, length, Bool, true, false, List, [], ◌∷◌, Option, Some, None, Result, Ok, Err, refl, sym, ap, ◌∙◌, inl, inr, subst, option_map, unwrap_or, zero-add, arith}
use Rattle.std.specs.Prelude.{is_none, position}
use Rattle.std.specs.Str.{bytes_eq}
use Rattle.std.specs.List.{list_any}
use Rattle.std.proofs.lemmas.Bool.{cases_Bool, false≢true, leb-true, eq-eqb, eqb-true, and_parts, or_parts, or_cases, or_left, or_right}
use Rattle.std.proofs.lemmas.List.Folds.{Any-from_list_any}
use Rattle.std.proofs.lemmas.List.FromFn.{length-range_with_len, get_or-range_with_len}
use Rattle.std.proofs.lemmas.List.Quantifiers.{position-Some}
use Rattle.cpa_units.specs.Sets.{holds, Members}
use Rattle.cpa_units.specs.declared.places.ResId.{ResId}
use Rattle.cpa_units.specs.declared.places.SourceId.{SourceId}
use Rattle.cpa_units.specs.declared.places.TaskId.{TaskId}
use Rattle.cpa_model.specs.declared.entries.Resource.{Resource}
use Rattle.cpa_model.specs.declared.entries.Path.{Path}
use Rattle.cpa_model.specs.declared.entries.Source.{Source}
use Rattle.cpa_model.specs.Clocks.{is_clocked}
use Rattle.cpa_model.specs.declared.entries.Task.{Task}
use Rattle.cpa_model.specs.declared.entries.Turn.TheVariants as turn
use Rattle.cpa_model.specs.SystemLists.{SystemLists, task_at, source_at, task_places, tasks_on, is_on, is_fed_by, is_activated_by, resource_named, source_named, task_named, no_task, no_resource}
use Rattle.cpa_model.specs.Rules.{IsSystem, IsTask}
use Rattle.cpa_edit.specs.declared.edit.Edit.{Edit}
use Rattle.cpa_edit.specs.declared.edit.Edit.TheVariants.{Exec, Priority, Swap, Slot, Source as SourceEdit, Offset, Add, Remove}
use Rattle.cpa_edit.specs.declared.edit.EditRefusal.{EditRefusal}
use Rattle.cpa_edit.specs.declared.edit.EditFault.{EditFault}
use Rattle.cpa_edit.specs.declared.edit.EditFault.TheVariants.{Refused}
use Rattle.cpa_edit.specs.Named.{resource_place, source_place, task_place, resource_of_task}
use Rattle.cpa_edit.specs.Refused.{names_nothing, misfits, out_of_range, takes_priority, is_crossed, leaves_gap, is_known, is_full, chain_too_long, is_needed, breaks_clock}
use Rattle.cpa_model.specs.Changes.{with_task_at, with_exec, with_turn, with_swapped, with_source, with_offset, without_task}
use Rattle.cpa_edit.specs.Edited.{added_task, change, refusal, edit_result, first_broken, edited, touches}
use Rattle.cpa_edit.proofs.AnyLaws.{any-filter, none-place}
use Rattle.cpa_local.specs.Raising.{IsRaising}
use Rattle.cpa_session.specs.Spared.{place_before, IsSpared}
use Rattle.cpa_session.specs.Editing.{widens, keeps_rhythm, gets_denser, raises, gone_by}
use Rattle.cpa_local.proofs.RaisingChanges.{raising-exec, raising-source, raising-add}
use Rattle.cpa_session.proofs.EditLaws.{in_place-set, in_place-trans, in_place-source, in_place-offset, spared-in_place, same-sources, sent-source, sent-offset, spared-with_task, spared-without}

-- ---- no rule is broken

-- the first rule of several isn't broken, and neither are the others
none-broken : (rule : ℕ × Bool) (later : List (ℕ × Bool)) → first_broken (rule ∷ later) ≡ None → (rule.1 ≡ false) × (first_broken later ≡ None)
none-broken rule later e =
    elim (cases_Bool rule.1) [
      | inl broken ↦ absurd (let some : Some (record { 0 = rule.0 }) ≡ None = sym (rw broken refl) ∙ e in let f : ⊥ = cc in f)
      | inr kept ↦ (kept, rw kept at e)
    ]

-- what an edit that isn't refused makes, and that no rule is broken
pub unrefused : (s t : SystemLists) (e : Edit) → edited s e ≡ Ok t → (change s e ≡ t) × (refusal s e ≡ None)
unfolding edited
unrefused s t e ok = by (refusal s e) ok
  where
    by : (o : Option EditRefusal) → edit_result (change s e) o ≡ Ok t → (change s e ≡ t) × (o ≡ None)
    by None ok = (let it : change s e ≡ t = cc in it, refl)
    by (Some number) ok = absurd (let f : ⊥ = cc in f)

-- six rules of which none is broken, and others
none-of_six : (one two three four five six : ℕ × Bool) (later : List (ℕ × Bool)) → first_broken (one ∷ two ∷ three ∷ four ∷ five ∷ six ∷ later) ≡ None → (one.1 ≡ false) × (six.1 ≡ false)
none-of_six one two three four five six later e =
    let first = none-broken one (two ∷ three ∷ four ∷ five ∷ six ∷ later) e in
    let second = none-broken two (three ∷ four ∷ five ∷ six ∷ later) first.1 in
    let third = none-broken three (four ∷ five ∷ six ∷ later) second.1 in
    let fourth = none-broken four (five ∷ six ∷ later) third.1 in
    let fifth = none-broken five (six ∷ later) fourth.1 in
    let sixth = none-broken six later fifth.1 in
    (first.0, sixth.0)

-- what it names is there, and what it removes isn't needed
allowed : (s t : SystemLists) (e : Edit) → edited s e ≡ Ok t → (names_nothing s e ≡ false) × (leaves_gap s e ≡ false)
unfolding refusal
allowed s t e ok =
    none-of_six (1, names_nothing s e) (2, misfits s e) (3, out_of_range s e) (4, takes_priority s e) (5, is_crossed e) (6, leaves_gap s e)
    ((7, is_known s e) ∷ (8, is_full s e) ∷ (9, chain_too_long s e) ∷ (10, breaks_clock s e) ∷ []) (unrefused s t e ok).1

names-there : (s t : SystemLists) (e : Edit) → edited s e ≡ Ok t → names_nothing s e ≡ false
names-there s t e ok = (allowed s t e ok).0

leaves-none : (s t : SystemLists) (e : Edit) → edited s e ≡ Ok t → leaves_gap s e ≡ false
leaves-none s t e ok = (allowed s t e ok).1

-- ---- what is named is there

place-there : {X Y : Type 0} (p : X → Bool) (xs : List X) (d : X) (id : ℕ → Y) (at : Y → ℕ) (y : Y) → ((k : ℕ) → at (id k) ≡ k) → option_map id (position p xs) ≡ Some y → at y < length xs
place-there p xs d id at y back e = by (position p xs) refl e
  where
    by : (o : Option ℕ) → position p xs ≡ o → option_map id o ≡ Some y → at y < length xs
    by None is e = absurd (let f : ⊥ = cc in f)
    by (Some k) is e =
        let same : id k ≡ y = cc in
        let it = position-Some p xs k d is in
        subst (λ (n : ℕ). n < length xs) (sym (back k) ∙ ap at same) it.0

is_none-false : {X : Type 0} (o : Option X) → is_none o ≡ false → (x : X) × (o ≡ Some x)
is_none-false None e = absurd (let f : ⊥ = cc in f)
is_none-false (Some x) e = (x, refl)

task-there : (s : SystemLists) (name : List ℕ) (id : TaskId) → task_named s name ≡ Some id → id.0 < length s.tasks
task-there s name id e = place-there (λ (u : Task). bytes_eq name u.name) s.tasks no_task (λ k. record { 0 = k }) (λ (id : TaskId). id.0) id (λ k. refl) e

resource-there : (s : SystemLists) (name : List ℕ) (id : ResId) → resource_named s name ≡ Some id → id.0 < length s.resources
resource-there s name id e = place-there (λ (u : Resource). bytes_eq name u.name) s.resources no_resource (λ k. record { 0 = k }) (λ (id : ResId). id.0) id (λ k. refl) e

-- the resource of a task that is named
named-on : (s : SystemLists) (name : List ℕ) → IsSystem s → is_none (task_named s name) ≡ false → resource_of_task s name < length s.resources
named-on s name rules there =
    let it = is_none-false (task_named s name) there in
    let entry : IsTask s (task_at s it.0.0) = rules.tasks it.0.0 no_task (task-there s name it.0 it.1) in
    let at : task_place s name ≡ it.0.0 = ap (λ (o : Option TaskId). (unwrap_or o (record { 0 = 0 })).0) it.1 in
    rw (at, resource_of_task) entry.placed

-- ---- resources that are touched are there

same-place : (r q : ℕ) (s : SystemLists) → (r == q) ≡ true → q < length s.resources → r < length s.resources
same-place r q s e there = let same : r ≡ q = eqb-true r q e in omega arith

-- a resource with a task that a source feeds
fed-there : (s : SystemLists) (name : List ℕ) (r : ℕ) → IsSystem s → list_any (is_fed_by s (source_place s name)) (tasks_on s r) ≡ true → r < length s.resources
fed-there s name r rules on =
    let fed : list_any (λ j. is_on s r j && is_fed_by s (source_place s name) j) (task_places s) ≡ true = sym (any-filter (is_fed_by s (source_place s name)) (is_on s r) (task_places s)) ∙ on in
    let any = Any-from_list_any (λ j. is_on s r j && is_fed_by s (source_place s name) j) (task_places s) fed in
    let less : any.0 < length s.tasks = rw length-range_with_len at any.2 in
    let place : any.0 ≡ any.1 = sym (get_or-range_with_len 0 (length s.tasks) any.0 any.1 less ∙ zero-add any.0) ∙ any.3 in
    let there : any.1 < length s.tasks = omega arith in
    let entry : IsTask s (task_at s any.1) = rules.tasks any.1 no_task there in
    let here : (task_at s any.1).res.0 ≡ r = eqb-true (task_at s any.1).res.0 r (and_parts (is_on s r any.1) (is_fed_by s (source_place s name) any.1) any.4).0 in
    subst (λ (q : ℕ). q < length s.resources) here entry.placed

pub touches-there : (s t : SystemLists) (e : Edit) (r : ℕ) → IsSystem s → edited s e ≡ Ok t → touches s e r ≡ true → r < length s.resources
unfolding touches names_nothing
touches-there s t (Exec task best worst) r rules ok on = same-place r (resource_of_task s task) s on (named-on s task rules (names-there s t (Exec task best worst) ok))
touches-there s t (Priority task number) r rules ok on = same-place r (resource_of_task s task) s on (named-on s task rules (names-there s t (Priority task number) ok))
touches-there s t (Slot task ticks) r rules ok on = same-place r (resource_of_task s task) s on (named-on s task rules (names-there s t (Slot task ticks) ok))
touches-there s t (Remove task) r rules ok on = same-place r (resource_of_task s task) s on (named-on s task rules (names-there s t (Remove task) ok))
touches-there s t (Swap first second) r rules ok on =
    let both = or_parts _ _ (names-there s t (Swap first second) ok) in
    elim (or_cases (r == resource_of_task s second) (r == resource_of_task s first) on) [
      | inl at_second ↦ same-place r (resource_of_task s second) s at_second (named-on s second rules both.1)
      | inr at_first ↦ same-place r (resource_of_task s first) s at_first (named-on s first rules both.0)
    ]
touches-there s t (SourceEdit name period jitter distance) r rules ok on = fed-there s name r rules on
touches-there s t (Offset name offset) r rules ok on = fed-there s name r rules on
touches-there s t (Add name res after best worst number) r rules ok on =
    let both = or_parts _ _ (names-there s t (Add name res after best worst number) ok) in
    let it = is_none-false (resource_named s res) both.0 in
    let at : resource_place s res ≡ it.0.0 = ap (λ (o : Option ResId). (unwrap_or o (record { 0 = 0 })).0) it.1 in
    same-place r (resource_place s res) s on (rw at (resource-there s res it.0 it.1))

-- ---- what is spared

spared-set : (s t : SystemLists) (touched : List Bool) (p : ℕ) (u : Task) → with_task_at s p u ≡ t → u.res ≡ (task_at s p).res → Members touched (task_at s p).res.0 → IsSpared s t touched (place_before None)
spared-set s t touched p u is res on =
    subst (λ (t : SystemLists). IsSpared s t touched (place_before None)) is
    (spared-in_place s (with_task_at s p u) touched (in_place-set s p u touched res on) (λ i less off. same-sources s (with_task_at s p u) (task_at (with_task_at s p u) i).after refl))

spared-swapped : (s : SystemLists) (touched : List Bool) (i j : ℕ) → Members touched (task_at s i).res.0 → Members touched (task_at s j).res.0 → IsSpared s (with_swapped s i j) touched (place_before None)
unfolding with_swapped with_turn
spared-swapped s touched i j on_i on_j =
    let u : Task = record (task_at s i) { turn = (task_at s j).turn } in
    let m : SystemLists = with_task_at s i u in
    let v : Task = record (task_at m j) { turn = (task_at s i).turn } in
    let first = in_place-set s i u touched refl on_i in
    let second = in_place-set m j v touched refl (ap (holds touched) (sym (first.res j)) ∙ on_j) in
    spared-in_place s (with_task_at m j v) touched (in_place-trans s m (with_task_at m j v) touched first second) (λ k less off. same-sources s (with_task_at m j v) (task_at (with_task_at m j v) k).after refl)

-- nothing is activated by a task that isn't needed
needs-none : (s : SystemLists) (gone : TaskId) → is_needed s gone.0 ≡ false → (i : ℕ) → i < length s.tasks → is_activated_by s gone.0 i ≡ false
needs-none s gone off i less =
    let parts = or_parts (list_any (is_activated_by s gone.0) (task_places s)) (list_any (λ (p : Path). list_any (λ (j : TaskId). j.0 == gone.0) p.tasks) s.paths) off in
    none-place (is_activated_by s gone.0) (length s.tasks) i parts.0 less

pub edit-spares : (s t : SystemLists) (e : Edit) (touched : List Bool) → IsSystem s → edited s e ≡ Ok t → ((r : ℕ) → holds touched r ≡ touches s e r) → IsSpared s t touched (place_before (gone_by s e))
unfolding change touches names_nothing leaves_gap with_exec with_turn with_swapped
edit-spares s t (Exec task best worst) touched rules ok set =
    spared-set s t touched (task_place s task) (record (task_at s (task_place s task)) { best = best; worst = worst }) (unrefused s t (Exec task best worst) ok).0 refl
    (set (resource_of_task s task) ∙ eq-eqb (resource_of_task s task) (resource_of_task s task) refl)
edit-spares s t (Priority task number) touched rules ok set =
    spared-set s t touched (task_place s task) (record (task_at s (task_place s task)) { turn = turn.Priority number }) (unrefused s t (Priority task number) ok).0 refl
    (set (resource_of_task s task) ∙ eq-eqb (resource_of_task s task) (resource_of_task s task) refl)
edit-spares s t (Slot task ticks) touched rules ok set =
    spared-set s t touched (task_place s task) (record (task_at s (task_place s task)) { turn = turn.Slot ticks }) (unrefused s t (Slot task ticks) ok).0 refl
    (set (resource_of_task s task) ∙ eq-eqb (resource_of_task s task) (resource_of_task s task) refl)
edit-spares s t (Swap first second) touched rules ok set =
    subst (λ (t : SystemLists). IsSpared s t touched (place_before None)) (unrefused s t (Swap first second) ok).0
    (spared-swapped s touched (task_place s first) (task_place s second)
    (set (resource_of_task s first)
    ∙ or_right (resource_of_task s first == resource_of_task s second) (resource_of_task s first == resource_of_task s first) (eq-eqb (resource_of_task s first) (resource_of_task s first) refl))
    (set (resource_of_task s second)
    ∙ or_left (resource_of_task s second == resource_of_task s second) (resource_of_task s second == resource_of_task s first) (eq-eqb (resource_of_task s second) (resource_of_task s second) refl)))
edit-spares s t (SourceEdit name period jitter distance) touched rules ok set =
    subst (λ (t : SystemLists). IsSpared s t touched (place_before None)) (unrefused s t (SourceEdit name period jitter distance) ok).0
    (spared-in_place s (with_source s (source_place s name) period jitter distance) touched (in_place-source s (source_place s name) period jitter distance touched)
    (sent-source s (source_place s name) touched set period jitter distance))
edit-spares s t (Offset name offset) touched rules ok set =
    subst (λ (t : SystemLists). IsSpared s t touched (place_before None)) (unrefused s t (Offset name offset) ok).0
    (spared-in_place s (with_offset s (source_place s name) offset) touched (in_place-offset s (source_place s name) offset touched)
    (sent-offset s (source_place s name) touched set offset))
edit-spares s t (Add name res after best worst number) touched rules ok set =
    let u = added_task s name res after best worst number in
    subst (λ (t : SystemLists). IsSpared s t touched (place_before None)) (unrefused s t (Add name res after best worst number) ok).0
    (spared-with_task s u touched (set (resource_place s res) ∙ eq-eqb (resource_place s res) (resource_place s res) refl))
edit-spares s t (Remove task) touched rules ok set =
    let it = is_none-false (task_named s task) (names-there s t (Remove task) ok) in
    let at : task_place s task ≡ it.0.0 = ap (λ (o : Option TaskId). (unwrap_or o (record { 0 = 0 })).0) it.1 in
    let needless : is_needed s (task_place s task) ≡ false = leaves-none s t (Remove task) ok in
    let removed : IsSpared s (without_task s it.0.0) touched (place_before (Some it.0)) =
    spared-without s it.0 touched (task-there s task it.0 it.1)
    (ap (λ (p : ℕ). holds touched (task_at s p).res.0) (sym at) ∙ (set (resource_of_task s task) ∙ eq-eqb (resource_of_task s task) (resource_of_task s task) refl))
    (needs-none s it.0 (ap (is_needed s) (sym at) ∙ needless)) in
    rw it.1
    (subst (λ (t : SystemLists). IsSpared s t touched (place_before (Some it.0))) (ap (without_task s) (sym at) ∙ (unrefused s t (Remove task) ok).0) removed)

-- ---- what can only raise

pub raises-none_gone : (s : SystemLists) (e : Edit) → raises s e ≡ true → gone_by s e ≡ None
raises-none_gone s (Exec task best worst) on = refl
raises-none_gone s (Priority task number) on = refl
raises-none_gone s (Swap first second) on = refl
raises-none_gone s (Slot task ticks) on = refl
raises-none_gone s (SourceEdit name period jitter distance) on = refl
raises-none_gone s (Offset name offset) on = refl
raises-none_gone s (Add name res after best worst number) on = refl
raises-none_gone s (Remove task) on = absurd (false≢true on)

raises-exec : (s : SystemLists) (o : Option TaskId) (best worst : ℕ) → widens s o best worst ≡ true → IsRaising s (with_exec s (unwrap_or o (record { 0 = 0 })).0 best worst)
raises-exec s None best worst on = absurd (false≢true on)
raises-exec s (Some task) best worst on =
    let both = and_parts (nat_le best (task_at s task.0).best) (nat_le (task_at s task.0).worst worst) on in
    raising-exec s task.0 best worst (leb-true best (task_at s task.0).best both.0) (leb-true (task_at s task.0).worst worst both.1)

kept-rhythm : (r : Source) (period : ℕ) → keeps_rhythm r period ≡ true → is_clocked r ≡ true → period ≡ r.period
kept-rhythm r period on clocked =
    elim (or_cases (not (is_clocked r)) (period == r.period) on) [
      | inl free ↦ absurd (false≢true (sym (ap not clocked) ∙ free))
      | inr same ↦ eqb-true period r.period same
    ]

raises-source : (s : SystemLists) (o : Option SourceId) (period jitter distance : ℕ) → gets_denser s o period jitter distance ≡ true → IsRaising s (with_source s (unwrap_or o (record { 0 = 0 })).0 period jitter distance)
raises-source s None period jitter distance on = absurd (false≢true on)
raises-source s (Some source) period jitter distance on =
    let k = source.0 in
    let all = and_parts (nat_le period (source_at s k).period && nat_le (source_at s k).jitter jitter && nat_le distance (source_at s k).distance) (keeps_rhythm (source_at s k) period) on in
    let last = and_parts (nat_le period (source_at s k).period && nat_le (source_at s k).jitter jitter) (nat_le distance (source_at s k).distance) all.0 in
    let both = and_parts (nat_le period (source_at s k).period) (nat_le (source_at s k).jitter jitter) last.0 in
    raising-source s k period jitter distance (leb-true period (source_at s k).period both.0) (leb-true (source_at s k).jitter jitter both.1) (leb-true distance (source_at s k).distance last.1)
    (kept-rhythm (source_at s k) period all.1)

pub edit-raises : (s t : SystemLists) (e : Edit) → edited s e ≡ Ok t → raises s e ≡ true → IsRaising s t
unfolding change
edit-raises s t (Exec task best worst) ok on = subst (IsRaising s) (unrefused s t (Exec task best worst) ok).0 (raises-exec s (task_named s task) best worst on)
edit-raises s t (Priority task number) ok on = absurd (false≢true on)
edit-raises s t (Swap first second) ok on = absurd (false≢true on)
edit-raises s t (Slot task ticks) ok on = absurd (false≢true on)
edit-raises s t (SourceEdit name period jitter distance) ok on = subst (IsRaising s) (unrefused s t (SourceEdit name period jitter distance) ok).0 (raises-source s (source_named s name) period jitter distance on)
edit-raises s t (Offset name offset) ok on = absurd (false≢true on)
edit-raises s t (Add name res after best worst number) ok on = subst (IsRaising s) (unrefused s t (Add name res after best worst number) ok).0 (raising-add s (added_task s name res after best worst number))
edit-raises s t (Remove task) ok on = absurd (false≢true on)

-- ---- refusals

abbrev pub refused_with : EditRefusal → Result (Unit {0}) EditFault
refused_with number = Err (Refused number)

-- an edit that breaks a rule is refused with it, and with no other
pub refused-by : (s : SystemLists) (e : Edit) (first : EditRefusal) → refusal s e ≡ Some first → (number : EditRefusal)
    → (refused_with first ≡ refused_with number) ↔ (edited s e ≡ Err number)
unfolding edited
refused-by s e first is number = (
  λ same. let one : first ≡ number = cc in rw is (ap Err one),
  λ made. let one : first ≡ number = (let both : Err first ≡ Err number = sym (rw is refl) ∙ made in cc) in ap refused_with one,
)

-- and one that breaks none isn't
pub unrefused-by : (s : SystemLists) (e : Edit) (r : Result (Unit {0}) EditFault) → refusal s e ≡ None → ((number : EditRefusal) → r ≡ refused_with number → ⊥) → (number : EditRefusal)
    → (r ≡ refused_with number) ↔ (edited s e ≡ Err number)
unfolding edited
unrefused-by s e r is other number = (
  λ same. absurd (other number same),
  λ made. absurd (let both : Ok (change s e) ≡ Err number = sym (rw is refl) ∙ made in let f : ⊥ = cc in f),
)
