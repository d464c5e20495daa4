-- What is known of a system that a file stands for.
use Rattle.std.proofs.Common.{◌≡◌, ℕ, Bool, true, false, cond, nat_lt, List, length, Option, Some, None, Result, Ok, Err, refl, subst}
use Rattle.toml.specs.Data.{Members, Data, table}
use Rattle.cpa_draft.specs.DraftLists.{DraftLists}
use Rattle.cpa_draft.specs.Refusals.{first_refusal}
use Rattle.cpa_draft.specs.declared.refusal.Refusal.{Refusal}
use Rattle.cpa_draft.proofs.UnrefusedLaws.{unrefused}
use Rattle.cpa_model.specs.SystemLists.{SystemLists}
use Rattle.cpa_model.specs.Built.{system_of}
use Rattle.cpa_model.specs.Rules.{IsSystem}
use Rattle.cpa_model.proofs.BuiltLaws.{system-kept}
use Rattle.cpa_units.specs.Sizes.{most_file}
use Rattle.cpa_file.specs.Document.{document_of, draft_of, size_by}
use Rattle.cpa_file.specs.Reading.{Reading, TooLong, Accepted, reading_of, file_reading_of, by_document, by_draft, by_refusal}
use Rattle.cpa_file.proofs.EntryLaws.{draft-executions}

same_system : (s t : SystemLists) → Accepted s ≡ Accepted t → s ≡ t
same_system s t e = cc

of-refusal : (x : Data) (d : DraftLists) (o : Option Refusal) (s : SystemLists) → draft_of x ≡ Ok d → first_refusal d ≡ o → by_refusal d o ≡ Accepted s → IsSystem s
of-refusal x d None s read free e = subst IsSystem (same_system (system_of d) s e) (system-kept d (unrefused d free) (draft-executions x d read))
of-refusal x d (Some r) s read free e = cc

of-draft : (x : Data) (r : Result DraftLists Refusal) (s : SystemLists) → draft_of x ≡ r → by_draft r ≡ Accepted s → IsSystem s
of-draft x (Ok d) s read e = of-refusal x d (first_refusal d) s read refl e
of-draft x (Err r) s read e = cc

of-document : (o : Option Members) (s : SystemLists) → by_document o ≡ Accepted s → IsSystem s
of-document None s e = cc
of-document (Some members) s e = of-draft (table members) (draft_of (table members)) s refl e

-- it keeps the rules
pub accepted-is_system : (bytes : List ℕ) (s : SystemLists) → reading_of bytes ≡ Accepted s → IsSystem s
unfolding reading_of
accepted-is_system bytes s e = of-document (document_of bytes) s e

of-length : (long : Bool) (r : Reading) (s : SystemLists) → cond long TooLong r ≡ Accepted s → r ≡ Accepted s
of-length true r s e = cc
of-length false r s e = e

-- nor does the length of a file change the system
pub file-is_system : (bytes : List ℕ) (s : SystemLists) → file_reading_of bytes ≡ Accepted s → IsSystem s
unfolding file_reading_of
file-is_system bytes s e = accepted-is_system bytes s (of-length (nat_lt (most_file (size_by (document_of bytes))) (length bytes)) (reading_of bytes) s e)
