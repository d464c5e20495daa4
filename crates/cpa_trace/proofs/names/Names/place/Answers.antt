use Rattle.std.proofs.Common.{◌∙◌, sym, ℕ, Vec, Global}
use Rattle.std.specs.Str.{bytes_eq}
use Rattle.cpa_draft.proofs.Maps.{position-map}
use Rattle.cpa_trace.proofs.names.Names.place.Goals as goal

pub returns : goal.returns
returns c = rw (← c.self.view_is) (c.get_index_of.ensures.index ∙ sym (position-map (bytes_eq c.args.name.now) (λ (v : Vec ℕ Global). v.items) c.self.inside.set.keys))
