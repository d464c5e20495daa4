use Rattle.cpa_file.proofs.RoundTripLaws.{printed-reads}
use Rattle.cpa_file.proofs.print.print_system.Goals as goal

pub returns-clause-read_back : goal.returns-clause-read_back
returns-clause-read_back c =
    printed-reads c.args.system.now c.in_ok-print_document.field-0.items c.in_ok-print_document.ensures.rules c.in_ok-print_document.ensures.printed
