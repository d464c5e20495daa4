use Rattle.std.proofs.Common.{codes, refl, rules}
use Rattle.toml.specs.View.{view}
use Rattle.cpa_file.specs.Entries.{usual_source_keys, source_fields}
use Rattle.cpa_file.proofs.KeyLaws.{tested-absent}
use Rattle.cpa_file.proofs.entries.read_source_fields.Goals as goal

pub returns-then-has_source_keys : goal.returns-then-has_source_keys
unfolding source_fields
returns-then-has_source_keys c =
    rw (c.in_ok-name.ensures, c.in_ok-period.ensures, c.in_ok-jitter.ensures, c.in_ok-distance.ensures, c.in_ok-sporadic.ensures, c.in_ok-clock.ensures, c.in_ok-offset.ensures, ← c.if-has_source_keys.ensures, c.is_set.ensures)
    (search rules)

pub returns-else-has_source_keys : goal.returns-else-has_source_keys
unfolding source_fields
returns-else-has_source_keys c =
    rw (c.in_ok-name.ensures, c.in_ok-period.ensures, c.in_ok-jitter.ensures, c.in_ok-distance.ensures, c.in_ok-sporadic.ensures, c.in_ok-clock.ensures, c.in_ok-offset.ensures, ← c.if-has_source_keys.ensures)
    refl

pub optional_truth_unless-requires : goal.optional_truth_unless-requires
optional_truth_unless-requires c = tested-absent usual_source_keys (codes "sporadic") (view c.args.value.now) c.has_usual_source_keys-usual.result c.has_usual_source_keys-usual.ensures refl

pub optional_text_unless-requires : goal.optional_text_unless-requires
optional_text_unless-requires c = tested-absent usual_source_keys (codes "clock") (view c.args.value.now) c.has_usual_source_keys-usual.result c.has_usual_source_keys-usual.ensures refl

pub optional_integer_unless-requires : goal.optional_integer_unless-requires
optional_integer_unless-requires c = tested-absent usual_source_keys (codes "offset") (view c.args.value.now) c.has_usual_source_keys-usual.result c.has_usual_source_keys-usual.ensures refl
