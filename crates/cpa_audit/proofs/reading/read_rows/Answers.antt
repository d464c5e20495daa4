use Rattle.std.proofs.Common.{◌≡◌, ◌∙◌, ◌+◌, ◌++◌, [], ◌∷◌, List, length, ap, sym, arith}
use Rattle.std.proofs.lemmas.List.{length_push}
use Rattle.csv.specs.Records.{fields_of}
use Rattle.cpa_trace.specs.Rows.{rows_left}
use Rattle.cpa_audit.specs.declared.schedule.Segment.{Segment}
use Rattle.cpa_audit.specs.ScheduleReading.{read_from, IsFaultOf}
use Rattle.cpa_trace.proofs.ReadingLaws.{if_err-same}
use Rattle.cpa_audit.proofs.ReadingLaws.{read-end, read-more, read-past, read-refused}
use Rattle.cpa_audit.proofs.reading.read_rows.Goals as goal

pub returns-then-not-branch-clause-ok : goal.returns-then-not-branch-clause-ok
returns-then-not-branch-clause-ok c =
    let none : rows_left c.loop-row.reader ≡ [] = rw c.if-not-branch.true at c.in_ok-next_row.ensures.next in
    sym c.loop-row.invariant.same ∙ read-end c.args.system.now c.loop-row.row c.loop-row.schedule (rows_left c.loop-row.reader) none

pub returns-in_err-segment-clause-err : goal.returns-in_err-segment-clause-err
returns-in_err-segment-clause-err c =
    let next : rows_left c.loop-row.reader ≡ fields_of c.next_row.new.row ∷ rows_left c.next_row.new.reader = rw c.if-not-branch.false at c.in_ok-next_row.ensures.next in
    let refused = read-refused c.args.system.now c.loop-row.row c.loop-row.schedule (rows_left c.loop-row.reader) (fields_of c.next_row.new.row) (rows_left c.next_row.new.reader)
    c.in_err-segment.field-0.0 (omega arith) next c.in_err-segment.ensures.err in
    if_err-same c.from_residual-in_err-segment.result (λ f. IsFaultOf f (read_from c.args.system.now 1 [] (rows_left c.args.reader.now))) c.in_err-segment.field-0.0
    c.from_residual-in_err-segment.ensures.1 (rw c.loop-row.invariant.same at refused)

pub loop-row-preserved : goal.loop-row-preserved
loop-row-preserved c =
    let next : rows_left c.loop-row.reader ≡ fields_of c.next_row.new.row ∷ rows_left c.next_row.new.reader = rw c.if-not-branch.false at c.in_ok-next_row.ensures.next in
    let seg = c.in_ok-segment.segment in
    let pushed : c.push.new.self ≡ c.loop-row.schedule ++ seg ∷ [] = c.in_ok-push.ensures in
    let more = read-more c.args.system.now c.loop-row.row c.loop-row.schedule (rows_left c.loop-row.reader) (fields_of c.next_row.new.row) (rows_left c.next_row.new.reader) seg (omega arith) next c.in_ok-segment.ensures.ok in
    record {
      reading = c.in_ok-next_row.ensures.reading c.if-not-branch.false;
      count = omega (arith, c.loop-row.invariant.count, ap length pushed, length_push c.loop-row.schedule seg);
      same = ap (λ (gs : List Segment). read_from c.args.system.now (c.loop-row.row + 1) gs (rows_left c.next_row.new.reader)) pushed ∙ (more ∙ c.loop-row.invariant.same);
    }

pub returns-then-branch-clause-err : goal.returns-then-branch-clause-err
returns-then-branch-clause-err c =
    let next : rows_left c.loop-row.reader ≡ fields_of c.next_row-2.new.row ∷ rows_left c.next_row-2.new.reader = rw c.if-branch.true at c.in_ok-next_row-2.ensures.next in
    sym c.loop-row.invariant.same ∙ read-past c.args.system.now c.loop-row.row c.loop-row.schedule (rows_left c.loop-row.reader)
    (fields_of c.next_row-2.new.row) (rows_left c.next_row-2.new.reader) (omega arith) next

pub returns-clause-ok : goal.returns-clause-ok
returns-clause-ok c =
    let none : rows_left c.loop-row.reader ≡ [] = rw c.if-branch.false at c.in_ok-next_row-2.ensures.next in
    sym c.loop-row.invariant.same ∙ read-end c.args.system.now c.loop-row.row c.loop-row.schedule (rows_left c.loop-row.reader) none
