use Rattle.std.proofs.Common.{codes, refl}
use Rattle.toml.specs.View.{view}
use Rattle.cpa_file.specs.Entries.{usual_resource_keys, resource_entry}
use Rattle.cpa_file.proofs.KeyLaws.{tested-absent}
use Rattle.cpa_file.proofs.entries.read_resource.Goals as goal

pub returns-then-has_resource_keys : goal.returns-then-has_resource_keys
unfolding resource_entry
returns-then-has_resource_keys c =
    rw (c.in_ok-name.ensures, c.in_ok-kind.ensures, c.in_ok-limit.ensures, c.in_ok-gap.ensures, c.in_ok-bit.ensures, c.in_ok-rate.ensures, ← c.if-has_resource_keys.ensures)
    refl

pub returns-else-has_resource_keys : goal.returns-else-has_resource_keys
unfolding resource_entry
returns-else-has_resource_keys c =
    rw (c.in_ok-name.ensures, c.in_ok-kind.ensures, c.in_ok-limit.ensures, c.in_ok-gap.ensures, c.in_ok-bit.ensures, c.in_ok-rate.ensures, ← c.if-has_resource_keys.ensures)
    refl

pub optional_integer_unless-requires : goal.optional_integer_unless-requires
optional_integer_unless-requires c = tested-absent usual_resource_keys (codes "rate") (view c.args.value.now) c.has_usual_resource_keys-usual.result c.has_usual_resource_keys-usual.ensures refl
