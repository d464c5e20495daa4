use Rattle.cpa_trace.proofs.reading.enter_bytes.Goals as goal

pub returns-clause-err : goal.returns-clause-err
returns-clause-err c = rw c.rows_of-reader.ensures.rows at c.enter_rows.ensures.err
