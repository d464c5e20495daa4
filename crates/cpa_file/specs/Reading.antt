-- What the bytes of a system file stand for.
use Rattle.std.specs.Prelude.{◌≡◌, ℕ, nat_lt, if◌then◌else◌, List, length, Option, Some, None, Result, Ok, Err}
use Rattle.toml.specs.Data.{Members, table}
use Rattle.cpa_draft.specs.DraftLists.{DraftLists}
use Rattle.cpa_draft.specs.Refusals.{first_refusal}
use Rattle.cpa_draft.specs.declared.refusal.Refusal.{Refusal}
use Rattle.cpa_model.specs.SystemLists.{SystemLists}
use Rattle.cpa_model.specs.Built.{system_of}
use Rattle.cpa_units.specs.Sizes.{most_file}
use Rattle.cpa_file.specs.Document.{document_of, draft_of, size_by}
use Rattle.cpa_file.specs.declared.read.FileRefusal.{FileRefusal}
use Rattle.cpa_file.specs.declared.read.FileRefusal.TheVariants as fault

-- no TOML document, more bytes than the format of a file allows, a refusal, or a system
pub data Reading : Type 0 where
  NotToml : Reading
  TooLong : Reading
  Refused : Refusal → Reading
  Accepted : SystemLists → Reading

-- by the first of reasons 2 to 12, 14 and 15 that applies to a draft
abbrev pub by_refusal : DraftLists → Option Refusal → Reading
by_refusal d None = Accepted (system_of d)
by_refusal d (Some r) = Refused r

-- by the draft, or the refusal with reason 13 or 1
abbrev pub by_draft : Result DraftLists Refusal → Reading
by_draft (Ok d) = by_refusal d (first_refusal d)
by_draft (Err r) = Refused r

abbrev pub by_document : Option Members → Reading
by_document None = NotToml
by_document (Some members) = by_draft (draft_of (table members))

-- what the bytes of a file stand for
unfoldable pub reading_of : List ℕ → Reading
reading_of bytes = by_document (document_of bytes)

-- the same of a file, which has no more bytes than its format allows
unfoldable pub file_reading_of : List ℕ → Reading
file_reading_of bytes = if nat_lt (most_file (size_by (document_of bytes))) (length bytes) then TooLong else reading_of bytes

-- why a file stands for no system; memory may be wanting at any time
abbrev pub IsReadFault : FileRefusal → Reading → Type 0
IsReadFault fault.NotToml reading = reading ≡ NotToml
IsReadFault fault.TooLong reading = reading ≡ TooLong
IsReadFault (fault.Refused r) reading = reading ≡ Refused r
IsReadFault fault.Memory reading = Unit {0}
