use Rattle.cpa_audit.proofs.reading.read_bytes.Goals as goal

pub returns-clause-err : goal.returns-clause-err
returns-clause-err c = rw c.rows_of-reader.ensures.rows at c.read_rows.ensures.err
