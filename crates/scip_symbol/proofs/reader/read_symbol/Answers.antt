use Rattle.std.proofs.Common.{sym}
use Rattle.scip_symbol.specs.Views.{symbol_model}
use Rattle.scip_symbol.specs.Outcomes.{IsReadOutcome}
use Rattle.scip_symbol.specs.Reading.{local_symbol_of}
use Rattle.scip_symbol.proofs.Answered.{MatchesUnlessMemory-tells}
use Rattle.scip_symbol.proofs.LocalLaws.{local_read}
use Rattle.scip_symbol.proofs.reader.read_symbol.Goals as goal

pub returns-in-Some : goal.returns-in-Some
returns-in-Some c = MatchesUnlessMemory-tells symbol_model c.parse_local_id.result (local_symbol_of c.in-Some.id.now) (IsReadOutcome c.args.text.now) c.parse_local_id.ensures (local_read c.args.text.now c.in-Some.id.now (sym c.in-Some.ensures))
