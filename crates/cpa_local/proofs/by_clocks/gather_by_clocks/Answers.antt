use Rattle.std.proofs.Common.{◌≡◌, ◌<◌, ◌∙◌, ◌∷◌, [], None, get_or, length, map, take, refl, sym, ap, subst, arith}
use Rattle.std.specs.Prelude.{filter, slice_index_or}
use Rattle.std.proofs.lemmas.List.{get_or_default, length-map, map-append}
use Rattle.cpa_clock.specs.Gathered.{IsGathered, added_rival, anchors_at, own_clock}
use Rattle.cpa_model.specs.declared.entries.Task.{Task}
use Rattle.cpa_model.specs.SystemLists.{task_at, tasks_on, is_higher, places_of}
use Rattle.cpa_model.proofs.SystemLaws.{no_id}
use Rattle.cpa_model.proofs.ResourceTaskLaws.{on-each}
use Rattle.cpa_local.specs.OnClocks.{anchor_list, anchors_of}
use Rattle.cpa_local.specs.Worked.{clocked_rival_by}
use Rattle.cpa_local.proofs.ClockedInputs.{are-cycles, higher-before}
use Rattle.cpa_local.proofs.RivalLaws.{higher-on, passing-more, failing-more, found-all}
use Rattle.cpa_local.proofs.by_clocks.gather_by_clocks.Goals as goal
use Rattle.cpa_local.proofs.by_clocks.gather_by_clocks.Goals.{then-is_higher+in_ok-add, else-is_higher}

pub loop-other-init : goal.loop-other-init
loop-other-init c =
    let s = c.args.system.now in
    let i = c.args.task.0 in
    let own = c.own_clock.ensures ∙ ap (λ os. own_clock c.args.own.now (anchors_at os)) (c.anchors.ensures ∙ c.requires.anchors.anchors i c.requires.there refl) in
    subst (λ clock. IsGathered clock c.args.clocks.now.cycles [] c.begin.new.self) own (c.begin.ensures c.args.clocks.now.cycles)

pub add-requires-clause-cycles : goal.add-requires-clause-cycles
add-requires-clause-cycles c = rw c.cycles.ensures (are-cycles c.args.system.now c.args.clocks.now.cycles c.requires.anchors.cycles c.tasks_on-other-items.ensures.rules)

pub add-requires-clause-input : goal.add-requires-clause-input
add-requires-clause-input c =
    let s = c.args.system.now in
    let ids = c.tasks_on-other-items.result.now in
    let k = c.loop-other.other-index in
    let other = (get_or ids k no_id).0 in
    let there : other < length s.tasks = c.tasks_on-other-items.ensures.there k no_id c.loop-other-test.true in
    let places = c.tasks_on-other-items.ensures.places ∙ ap (λ (t : Task). tasks_on s t.res.0) c.task.ensures.value in
    let on = on-each s (task_at s c.args.task.0).res.0 ids places k no_id c.loop-other-test.true in
    let input = c.index-inputs-other.is ∙ get_or_default c.args.inputs.now other _ None (omega (arith, there, c.requires.long)) in
    let anchors = c.anchors-then-is_higher.ensures ∙ c.requires.anchors.anchors other there on in
    rw (c.cycles.ensures, anchors, input) (c.requires.inputs other there on)

pub add-requires-clause-room : goal.add-requires-clause-room
add-requires-clause-room c =
    let s = c.args.system.now in
    let ids = c.tasks_on-other-items.result.now in
    let k = c.loop-other.other-index in
    let places = c.tasks_on-other-items.ensures.places ∙ ap (λ (t : Task). tasks_on s t.res.0) c.task.ensures.value in
    let count = c.loop-other.invariant.count ∙ length-map (filter (is_higher s c.args.task.0) (places_of (take k ids))) (clocked_rival_by s c.args.inputs.now) in
    let before = higher-before s c.args.task.0 ids k no_id c.requires.there places c.loop-other-test.true (sym c.is_higher.ensures ∙ c.if-is_higher.true) in
    omega (arith, count, before, c.tasks_on-other-items.ensures.rules.few_tasks)

pub loop-other-preserved : goal.loop-other-preserved
loop-other-preserved c =
    let s = c.args.system.now in
    let ids = c.tasks_on-other-items.result.now in
    let k = c.loop-other.other-index in
    let i = c.args.task.0 in
    let other = (get_or ids k no_id).0 in
    let own = own_clock c.args.own.now (anchors_of s i) in
    let f = clocked_rival_by s c.args.inputs.now in
    let before = filter (is_higher s i) (places_of (take k ids)) in
    elim c.if-is_higher.branch [
      | then-is_higher+in_ok-add w ↦
          let there : other < length s.tasks = c.tasks_on-other-items.ensures.there k no_id c.loop-other-test.true in
          let places = c.tasks_on-other-items.ensures.places ∙ ap (λ (t : Task). tasks_on s t.res.0) c.task.ensures.value in
          let on = on-each s (task_at s i).res.0 ids places k no_id c.loop-other-test.true in
          let input = w.index-inputs-other.is ∙ get_or_default c.args.inputs.now other _ None (omega (arith, there, c.requires.long)) in
          let anchors = w.anchors-then-is_higher.ensures ∙ c.requires.anchors.anchors other there on in
          let rival : added_rival w.index-inputs-other.result w.anchors-then-is_higher.result.now w.task-then-is_higher.result.now.worst ≡ f other = rw (input, anchors, w.task-then-is_higher.ensures.value) refl in
          let more = ap (map f) (passing-more (is_higher s i) ids k no_id c.loop-other-test.true (sym c.is_higher.ensures ∙ w.if-is_higher.true)) ∙ map-append f before (other ∷ []) in
          let added = w.in_ok-add.ensures own (map f before) (rw w.cycles.ensures c.loop-other.invariant) in
          rw (w.gathered-is, more) (rw (w.cycles.ensures, rival) at added)
      | else-is_higher w ↦
          rw (w.gathered-is, failing-more (is_higher s i) ids k no_id c.loop-other-test.true (sym c.is_higher.ensures ∙ w.if-is_higher.false)) c.loop-other.invariant
    ]

pub returns : goal.returns
returns c =
    let s = c.args.system.now in
    let i = c.args.task.0 in
    let places = c.tasks_on-other-items.ensures.places ∙ ap (λ (t : Task). tasks_on s t.res.0) c.task.ensures.value in
    subst (λ js. IsGathered (own_clock c.args.own.now (anchors_of s i)) c.args.clocks.now.cycles (map (clocked_rival_by s c.args.inputs.now) js) c.loop-other.gathered)
    (found-all s (task_at s i).res.0 (is_higher s i) c.tasks_on-other-items.result.now c.loop-other.other-index (higher-on s i) places c.loop-other-test.false) c.loop-other.invariant
