use Rattle.std.proofs.Common.{◌≡◌, ◌<◌, ◌+◌, ◌-◌, ◌∙◌, ◌++◌, ◌∷◌, [], ap, subst, arith, refl, sym, length, Bool, true, None, Option, Some}
use Rattle.std.proofs.lemmas.Bool.{true≢false}
use Rattle.std.proofs.lemmas.List.{get_or_default}
use Rattle.cpa_events.specs.declared.stream.Stream.{Stream}
use Rattle.cpa_events.specs.Streams.{stream_later}
use Rattle.cpa_events.specs.Events.{Model}
use Rattle.cpa_model.specs.declared.entries.Activator.TheVariants.{Task as FromTask}
use Rattle.cpa_model.specs.declared.entries.Task.{Task}
use Rattle.cpa_model.specs.SystemLists.{task_at, depth_of}
use Rattle.cpa_model.specs.Streams.{stream_of}
use Rattle.cpa_model.proofs.SystemLaws.{activated-there, depth_of-activated}
use Rattle.cpa_local.specs.Inputs.{joined, input, found_if}
use Rattle.cpa_local.specs.Gathered.{EndsThere, later_of, so_far}
use Rattle.cpa_local.proofs.GatherLaws.{IsSent, gather-start, gather-room, gather-step, walked-task, sent-task, way-room, way-late, known-range, known-jitter, known-room, sent-one}
use Rattle.cpa_local.proofs.gathering.+gather.Goals as goal
use Rattle.cpa_local.proofs.gathering.+gather.Goals.{in-Source, in-Task+in-Within+then-known-place, in-Task+in-Within+else-known-place+in-Sent, in-Task+in-Within+else-known-place+in-Several, in-Task+in-Within+else-known-place+in-Unbounded}

pub loop-after-init : goal.loop-after-init
loop-after-init t c =
    record {
      gathered =
          rw (c.as_slice-after-items.ensures.value, c.task.ensures.value)
          (gather-start c.args.system.now c.args.x.now c.has_rules.ensures c.args.task.0 c.args.way.late c.args.way.least c.requires.there c.args.none c.args.found.now c.requires.room);
      begun = λ some. absurd (omega arith);
    }

pub after-longer-requires-clause-room : goal.after-longer-requires-clause-room
after-longer-requires-clause-room t c =
    let are = c.as_slice-after-items.ensures.value ∙ ap (λ (e : Task). e.after) c.task.ensures.value in
    let after = walked-task c.args.system.now c.args.task.0 c.in-Task.earlier c.as_slice-after-items.result.now c.loop-after.after-index _ are c.loop-after-test.true c.in-Task.is in
    way-room c.args.system.now c.args.x.now c.has_rules.ensures c.requires.vector c.args.task.0 c.in-Task.earlier.0 c.args.way.late c.args.way.least c.in-Within.bound c.requires.there after
    (sym c.get.ensures ∙ c.in-Within.is) c.requires.late

pub put_all-requires-clause-in_range : goal.put_all-requires-clause-in_range
put_all-requires-clause-in_range t c =
    let s = c.args.system.now in
    let are = c.as_slice-after-items.ensures.value ∙ ap (λ (e : Task). e.after) c.task.ensures.value in
    let after = walked-task s c.args.task.0 c.in-Task.earlier c.as_slice-after-items.result.now c.loop-after.after-index _ are c.loop-after-test.true c.in-Task.is in
    let there = activated-there s c.has_rules.ensures c.args.task.0 c.in-Task.earlier.0 c.requires.there after in
    let is_known = c.requires.known c.in-Task.earlier.0 c.if-known-place.true in
    let told = c.index-inputs-place.is ∙ get_or_default c.args.inputs.now c.in-Task.earlier.0 _ None is_known.0 ∙ is_known.1 in
    known-range s c.args.x.now c.has_rules.ensures c.requires.vector c.in-Task.earlier.0 c.args.way.late there c.index-inputs-place.result told

pub put_all-requires-clause-jitter : goal.put_all-requires-clause-jitter
put_all-requires-clause-jitter t c =
    let s = c.args.system.now in
    let are = c.as_slice-after-items.ensures.value ∙ ap (λ (e : Task). e.after) c.task.ensures.value in
    let after = walked-task s c.args.task.0 c.in-Task.earlier c.as_slice-after-items.result.now c.loop-after.after-index _ are c.loop-after-test.true c.in-Task.is in
    let there = activated-there s c.has_rules.ensures c.args.task.0 c.in-Task.earlier.0 c.requires.there after in
    let is_known = c.requires.known c.in-Task.earlier.0 c.if-known-place.true in
    let told = c.index-inputs-place.is ∙ get_or_default c.args.inputs.now c.in-Task.earlier.0 _ None is_known.0 ∙ is_known.1 in
    let late = way-late s c.args.x.now c.has_rules.ensures c.requires.vector c.args.task.0 c.in-Task.earlier.0 c.args.way.late c.args.way.least c.in-Within.bound c.requires.there after
    (sym c.get.ensures ∙ c.in-Within.is) c.requires.late in
    rw (c.after-longer.ensures.late, c.task-in-Task.ensures.value)
    (known-jitter s c.args.x.now c.has_rules.ensures c.requires.vector c.in-Task.earlier.0 (c.args.way.late + (c.in-Within.bound - (task_at s c.in-Task.earlier.0).best)) there c.index-inputs-place.result told late)

pub put_all-requires-clause-room : goal.put_all-requires-clause-room
put_all-requires-clause-room t c =
    let s = c.args.system.now in
    let are = c.as_slice-after-items.ensures.value ∙ ap (λ (e : Task). e.after) c.task.ensures.value in
    let after = walked-task s c.args.task.0 c.in-Task.earlier c.as_slice-after-items.result.now c.loop-after.after-index _ are c.loop-after-test.true c.in-Task.is in
    let there = activated-there s c.has_rules.ensures c.args.task.0 c.in-Task.earlier.0 c.requires.there after in
    let is_known = c.requires.known c.in-Task.earlier.0 c.if-known-place.true in
    let told = c.index-inputs-place.is ∙ get_or_default c.args.inputs.now c.in-Task.earlier.0 _ None is_known.0 ∙ is_known.1 in
    known-room s c.args.x.now c.has_rules.ensures c.requires.vector c.in-Task.earlier.0 c.args.way.late there c.index-inputs-place.result told (length (so_far c.loop-after.first c.loop-after.found))
    (gather-room s c.args.x.now c.has_rules.ensures c.args.task.0 c.args.way.late c.args.way.least c.requires.there c.args.none c.loop-after.first c.args.found.now c.loop-after.found c.as_slice-after-items.result.now c.loop-after.after-index _ _ are c.loop-after-test.true c.in-Task.is c.loop-after.invariant.gathered)

pub loop-after-preserved : goal.loop-after-preserved
loop-after-preserved t c =
    let s = c.args.system.now in
    let are = c.as_slice-after-items.ensures.value ∙ ap (λ (e : Task). e.after) c.task.ensures.value in
    elim c.match-after.branch [
      | in-Source w ↦
          let stream = w.later.ensures.value ∙ ap (stream_later c.args.way.late c.args.way.least) (w.stream-stream.ensures.value ∙ ap stream_of w.source.ensures.value) in
          let sent = ap Some (w.put.ensures ∙ ap (λ (u : Stream). so_far c.loop-after.first c.loop-after.found ++ u ∷ []) stream) in
          record {
            gathered = rw w.found-is (gather-step s c.args.x.now c.has_rules.ensures c.args.task.0 c.args.way.late c.args.way.least c.requires.there c.args.none c.loop-after.first c.args.found.now c.loop-after.found c.as_slice-after-items.result.now c.loop-after.after-index _ _ are c.loop-after-test.true w.in-Source.is c.loop-after.invariant.gathered w.put.new.found sent);
            begun = λ some. refl;
          }
      | in-Task+in-Within+then-known-place w ↦
          let bound_is = sym w.get.ensures ∙ w.in-Within.is in
          let is_known = c.requires.known w.in-Task.earlier.0 w.if-known-place.true in
          let told = w.index-inputs-place.is ∙ get_or_default c.args.inputs.now w.in-Task.earlier.0 _ None is_known.0 ∙ is_known.1 in
          let put = w.put_all.ensures ∙ ap (λ (o : Option Model). joined (Some (so_far c.loop-after.first c.loop-after.found)) (later_of w.after-longer.result.late w.after-longer.result.least o)) told in
          let found = rw (w.after-longer.ensures.late, w.after-longer.ensures.least, w.task-in-Task.ensures.value) at put in
          let sent = sent-task s c.args.x.now c.args.way.late c.args.way.least w.in-Task.earlier c.loop-after.first w.put_all.result c.loop-after.found w.put_all.new.found w.in-Within.bound bound_is found in
          let whole = subst (λ (b : Bool). IsSent s c.args.x.now c.args.way.late c.args.way.least (FromTask w.in-Task.earlier) c.loop-after.first c.loop-after.found b w.put_all.new.found) (sym w.all-is ∙ c.if-not-all.false) sent in
          record {
            gathered = rw w.found-is (gather-step s c.args.x.now c.has_rules.ensures c.args.task.0 c.args.way.late c.args.way.least c.requires.there c.args.none c.loop-after.first c.args.found.now c.loop-after.found c.as_slice-after-items.result.now c.loop-after.after-index _ _ are c.loop-after-test.true w.in-Task.is c.loop-after.invariant.gathered w.put_all.new.found whole);
            begun = λ some. refl;
          }
      | in-Task+in-Within+else-known-place+in-Sent w ↦
          let bound_is = sym w.get.ensures ∙ w.in-Within.is in
          let end = subst (EndsThere s c.args.x.now w.in-Task.earlier.0 w.after-longer.result) w.in-Sent.is w.walk.ensures in
          let put : found_if true w.put-in-Sent.new.found ≡ joined (Some (so_far c.loop-after.first c.loop-after.found)) (later_of w.after-longer.result.late w.after-longer.result.least (input s c.args.x.now w.in-Task.earlier.0)) =
          ap Some w.put-in-Sent.ensures ∙ ap (joined (Some (so_far c.loop-after.first c.loop-after.found))) (sym end.1) in
          let found = rw (w.after-longer.ensures.late, w.after-longer.ensures.least, w.task-in-Task.ensures.value) at put in
          let sent = sent-task s c.args.x.now c.args.way.late c.args.way.least w.in-Task.earlier c.loop-after.first true c.loop-after.found w.put-in-Sent.new.found w.in-Within.bound bound_is found in
          record {
            gathered = rw w.found-is (gather-step s c.args.x.now c.has_rules.ensures c.args.task.0 c.args.way.late c.args.way.least c.requires.there c.args.none c.loop-after.first c.args.found.now c.loop-after.found c.as_slice-after-items.result.now c.loop-after.after-index _ _ are c.loop-after-test.true w.in-Task.is c.loop-after.invariant.gathered w.put-in-Sent.new.found sent);
            begun = λ some. refl;
          }
      | in-Task+in-Within+else-known-place+in-Several w ↦
          let bound_is = sym w.get.ensures ∙ w.in-Within.is in
          let found = rw (w.after-longer.ensures.late, w.after-longer.ensures.least, w.task-in-Task.ensures.value) at (w.gather.ensures ∙ ap (joined (Some (so_far c.loop-after.first c.loop-after.found))) (sym (subst (EndsThere s c.args.x.now w.in-Task.earlier.0 w.after-longer.result) w.in-Several.is w.walk.ensures).same)) in
          let sent = sent-task s c.args.x.now c.args.way.late c.args.way.least w.in-Task.earlier c.loop-after.first w.gather.result c.loop-after.found w.gather.new.found w.in-Within.bound bound_is found in
          let whole = subst (λ (b : Bool). IsSent s c.args.x.now c.args.way.late c.args.way.least (FromTask w.in-Task.earlier) c.loop-after.first c.loop-after.found b w.gather.new.found) (sym w.all-is ∙ c.if-not-all.false) sent in
          record {
            gathered = rw w.found-is (gather-step s c.args.x.now c.has_rules.ensures c.args.task.0 c.args.way.late c.args.way.least c.requires.there c.args.none c.loop-after.first c.args.found.now c.loop-after.found c.as_slice-after-items.result.now c.loop-after.after-index _ _ are c.loop-after-test.true w.in-Task.is c.loop-after.invariant.gathered w.gather.new.found whole);
            begun = λ some. refl;
          }
      | in-Task+in-Within+else-known-place+in-Unbounded w ↦ absurd (true≢false (sym c.if-not-all.false ∙ w.all-is))
    ]

pub walk-requires-clause-late : goal.walk-requires-clause-late
walk-requires-clause-late t c =
    let s = c.args.system.now in
    let are = c.as_slice-after-items.ensures.value ∙ ap (λ (e : Task). e.after) c.task.ensures.value in
    let after = walked-task s c.args.task.0 c.in-Task.earlier c.as_slice-after-items.result.now c.loop-after.after-index _ are c.loop-after-test.true c.in-Task.is in
    let late = way-late s c.args.x.now c.has_rules.ensures c.requires.vector c.args.task.0 c.in-Task.earlier.0 c.args.way.late c.args.way.least c.in-Within.bound c.requires.there after
    (sym c.get.ensures ∙ c.in-Within.is) c.requires.late in
    rw (c.after-longer.ensures.late, c.task-in-Task.ensures.value) late

pub put-requires-in-Sent-clause-room : goal.put-requires-in-Sent-clause-room
put-requires-in-Sent-clause-room t c =
    let s = c.args.system.now in
    let are = c.as_slice-after-items.ensures.value ∙ ap (λ (e : Task). e.after) c.task.ensures.value in
    let after = walked-task s c.args.task.0 c.in-Task.earlier c.as_slice-after-items.result.now c.loop-after.after-index _ are c.loop-after-test.true c.in-Task.is in
    let there = activated-there s c.has_rules.ensures c.args.task.0 c.in-Task.earlier.0 c.requires.there after in
    let room = gather-room s c.args.x.now c.has_rules.ensures c.args.task.0 c.args.way.late c.args.way.least c.requires.there c.args.none c.loop-after.first c.args.found.now c.loop-after.found c.as_slice-after-items.result.now c.loop-after.after-index _ _ are c.loop-after-test.true c.in-Task.is c.loop-after.invariant.gathered in
    let end = subst (EndsThere s c.args.x.now c.in-Task.earlier.0 c.after-longer.result) c.in-Sent.is c.walk.ensures in
    let one = sent-one s c.args.x.now c.has_rules.ensures c.in-Task.earlier.0 c.after-longer.result.late c.after-longer.result.least c.in-Sent.stream there end.1 in
    omega (arith, room, one)

pub gather-requires : goal.gather-requires
gather-requires t c =
    let s = c.args.system.now in
    let are = c.as_slice-after-items.ensures.value ∙ ap (λ (e : Task). e.after) c.task.ensures.value in
    let after = walked-task s c.args.task.0 c.in-Task.earlier c.as_slice-after-items.result.now c.loop-after.after-index _ are c.loop-after-test.true c.in-Task.is in
    let deep = depth_of-activated s c.has_rules.ensures c.args.task.0 c.in-Task.earlier.0 c.requires.there after in
    let room = gather-room s c.args.x.now c.has_rules.ensures c.args.task.0 c.args.way.late c.args.way.least c.requires.there c.args.none c.loop-after.first c.args.found.now c.loop-after.found c.as_slice-after-items.result.now c.loop-after.after-index _ _ are c.loop-after-test.true c.in-Task.is c.loop-after.invariant.gathered in
    let back = subst (EndsThere s c.args.x.now c.in-Task.earlier.0 c.after-longer.result) c.in-Several.is c.walk.ensures in (
      let less : depth_of s c.in-Several.at.0 < t = omega (arith, deep, back.deep, c.decreases) in less,
      (back.there, (c.requires.vector, (c.requires.known, (back.room, (back.small, omega (arith, room, back.long)))))),
    )
