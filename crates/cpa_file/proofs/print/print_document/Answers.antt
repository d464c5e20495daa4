use Rattle.std.proofs.Common.{◌∙◌, Err, sym, ap, string_bytes}
use Rattle.std.proofs.lemmas.Bool.{true≢false}
use Rattle.std.specs.Str.{IsUtf8}
use Rattle.toml.specs.View.{table_view}
use Rattle.cpa_file.proofs.DocumentLaws.{document_of-read}
use Rattle.cpa_file.proofs.PrintLaws.{shallow, undated}
use Rattle.cpa_file.proofs.print.print_document.Goals as goal

pub returns-in-Ok-clause-printed : goal.returns-in-Ok-clause-printed
returns-in-Ok-clause-printed c =
    let ms = table_view c.in_ok-document.document in
    let bytes = c.as_bytes.ensures.value ∙ c.as_str.ensures.value in
    let utf8 : IsUtf8 (string_bytes c.in-Ok.text) = rw (← bytes) c.as_bytes.ensures.utf8 in
    record {
      members = ms;
      document = rw (c.in_ok-from_slice-in-Ok.ensures.items ∙ bytes) (document_of-read (string_bytes c.in-Ok.text) ms utf8 (c.in-Ok.ensures.reads_back (shallow c.args.system.now ms c.in_ok-document.ensures.value)));
      same = c.in_ok-document.ensures.value;
      layout = rw (c.in_ok-from_slice-in-Ok.ensures.items ∙ bytes) c.in-Ok.ensures.text;
    }

pub unreachable-requires : goal.unreachable-requires
unreachable-requires c =
    let valid = undated c.args.system.now (table_view c.in_ok-document.document) c.in_ok-document.ensures.value in
    true≢false (sym valid ∙ c.in-Err-DateInvalid.ensures.dates.0 (ap Err c.in-Err-DateInvalid.field-0-is))
