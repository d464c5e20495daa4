use Rattle.cpa_trace.proofs.NameLaws.{names-added}
use Rattle.cpa_trace.proofs.names.Names.add.Goals as goal

pub returns : goal.returns
returns c =
    let none = rw (← c.self.view_is, ← c.in_ok-name.ensures.items) at c.requires in
    rw (← c.self.view_is, ← c.in_ok-name.ensures.items) (names-added c.self.inside.set.keys c.insert_full.new.self.keys c.in_ok-name.name c.in_ok-insert_full.ensures.keys none)
