use Rattle.std.proofs.Common.{◌∙◌, sym, ap, arith}
use Rattle.csv.specs.Records.{fields_of}
use Rattle.cpa_trace.proofs.EntryLaws.{field-missing, fields-three}
use Rattle.cpa_audit.specs.ScheduleReading.{entry_of}
use Rattle.cpa_audit.proofs.reading.row_of.Goals as goal

pub returns-in_err-get : goal.returns-in_err-get
returns-in_err-get c = absurd (field-missing (fields_of c.args.fields.now) 0 (sym c.len.ensures ∙ c.if-len-ne3.false) (omega arith) (sym c.in_err-get.ensures.value))

pub returns-in_err-get-2 : goal.returns-in_err-get-2
returns-in_err-get-2 c = absurd (field-missing (fields_of c.args.fields.now) 1 (sym c.len.ensures ∙ c.if-len-ne3.false) (omega arith) (sym c.in_err-get-2.ensures.value))

pub returns-in_err-get-3 : goal.returns-in_err-get-3
returns-in_err-get-3 c = absurd (field-missing (fields_of c.args.fields.now) 2 (sym c.len.ensures ∙ c.if-len-ne3.false) (omega arith) (sym c.in_err-get-3.ensures.value))

pub returns : goal.returns
returns c =
    let fields = fields-three (fields_of c.args.fields.now) c.in_ok-get.field-0.now c.in_ok-get-2.field-0.now c.in_ok-get-3.field-0.now (sym c.len.ensures ∙ c.if-len-ne3.false)
    (sym c.in_ok-get.ensures.value) (sym c.in_ok-get-2.ensures.value) (sym c.in_ok-get-3.ensures.value)
    in c.row_by.ensures ∙ sym (ap entry_of fields)
