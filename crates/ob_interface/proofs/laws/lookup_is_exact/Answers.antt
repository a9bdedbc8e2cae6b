use Rattle.ob_interface.proofs.FoundRows.{found_rows, no_row}
use Rattle.ob_interface.proofs.laws.lookup_is_exact.Goals as goal

pub returns-clause-found : goal.returns-clause-found
returns-clause-found c = λ bytes ts rows of_record name d ordered. found_rows bytes ts rows of_record name ordered d

pub returns-clause-none : goal.returns-clause-none
returns-clause-none c = no_row
