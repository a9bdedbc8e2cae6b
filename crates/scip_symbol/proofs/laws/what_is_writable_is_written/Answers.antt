use Rattle.scip_symbol.proofs.OneWriting.{text_writable}
use Rattle.scip_symbol.proofs.WriteLaws.{are_of_methods, writable_outcome}
use Rattle.scip_symbol.proofs.laws.what_is_writable_is_written.Goals as goal

pub returns : goal.returns
returns c = record { written = writable_outcome; methods_only = are_of_methods; only = λ s text w. text_writable s text w.0 }
