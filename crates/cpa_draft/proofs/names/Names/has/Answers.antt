use Rattle.std.proofs.Common.{◌∙◌, sym, ℕ, Vec, Global}
use Rattle.std.specs.Str.{bytes_eq}
use Rattle.cpa_draft.proofs.Maps.{list_any-map}
use Rattle.cpa_draft.proofs.names.Names.has.Goals as goal

pub returns : goal.returns
returns c = rw (← c.self.view_is) (c.contains.ensures ∙ sym (list_any-map (bytes_eq c.args.name.now) (λ (v : Vec ℕ Global). v.items) c.self.inside.set.keys))
