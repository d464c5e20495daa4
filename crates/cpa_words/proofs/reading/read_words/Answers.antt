use Rattle.std.proofs.Common.{rules, ap, ◌∙◌, codes, refl, map, string_bytes}
use Rattle.clap.specs.Simple.{App, is_simple, matches_of}
use Rattle.clap.specs.Takes.{takes}
use Rattle.clap.specs.Matches.{found_of}
use Rattle.cpa_words.proofs.ReadWords.{got, reads, reader_is_simple}
use Rattle.cpa_words.proofs.reading.read_words.Goals as goal
use Rattle.cpa_words.proofs.reading.read_words.Goals.{in-OutOfMemory, in_default}

pub returns-in-Ok : goal.returns-in-Ok
returns-in-Ok c operands value i r =
    let words = map string_bytes c.args.words.now in
    let m = c.in-Ok.matches in
    let rows = (c.in-Ok.ensures.matches (ap is_simple c.in_ok-reader.ensures ∙ reader_is_simple)).0 ∙ ap (λ (a : App). matches_of a words) c.in_ok-reader.ensures in
    let all = reads operands value words i r in (
      record { first = c.get_str.result; second = c.get_str-in-Ok.result; third = c.get_str-in-Ok-2.result; workers = c.get_str-in-Ok-3.result },
      refl,
      record {
        first = got (found_of m) _ (codes "first") words _ c.get_str.ensures rows all.first;
        second = got (found_of m) _ (codes "second") words _ c.get_str-in-Ok.ensures rows all.second;
        third = got (found_of m) _ (codes "third") words _ c.get_str-in-Ok-2.ensures rows all.third;
        workers = got (found_of m) _ (codes "workers") words _ c.get_str-in-Ok-3.ensures rows all.workers;
      },
    )

pub returns : goal.returns
returns c operands value i r =
    let words = map string_bytes c.args.words.now in
    let memory = c.in-Err.ensures.passes (ap (λ (a : App). takes a words) c.in_ok-reader.ensures ∙ (reads operands value words i r).taken) in
    search rules
