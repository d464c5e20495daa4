-- What is printed stands for the system.
use Rattle.std.proofs.Common.{◌≡◌, ℕ, List, ap, ◌∙◌}
use Rattle.cpa_model.specs.Rules.{IsSystem}
use Rattle.cpa_model.specs.SystemLists.{SystemLists}
use Rattle.cpa_model.proofs.RedraftLaws.{redraft-accepted, redraft-stands}
use Rattle.cpa_file.specs.Document.{draft_of}
use Rattle.cpa_file.specs.Printed.{IsPrinted}
use Rattle.cpa_file.specs.Reading.{Accepted, reading_of, by_draft}
use Rattle.cpa_file.proofs.PrintLaws.{draft_of-printed}

pub printed-reads : (s : SystemLists) (bytes : List ℕ) → IsSystem s → IsPrinted s bytes → reading_of bytes ≡ Accepted s
unfolding reading_of
printed-reads s bytes rules p =
    rw p.document (ap (λ d. by_draft (draft_of d)) p.same ∙ ap by_draft (draft_of-printed s rules) ∙ (rw (redraft-accepted s rules) (ap Accepted (redraft-stands s rules))))
