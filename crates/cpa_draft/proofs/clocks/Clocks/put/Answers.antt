use Rattle.std.proofs.Common.{◌≡◌, refl}
use Rattle.cpa_draft.proofs.MeasureLaws.{measured-insert, same_bytes}
use Rattle.indexmap.specs.IndexMap.{insert_entry}
use Rattle.cpa_draft.proofs.clocks.Clocks.put.Goals as goal

pub returns : goal.returns
returns c other =
    let entries : c.insert.new.self.entries ≡ insert_entry same_bytes c.self.inside.measures.entries c.in_ok-name.name c.args.measure = c.in_ok-insert.ensures.entries in
    rw (← c.self.view_is, entries, measured-insert, c.in_ok-name.ensures.items) refl
