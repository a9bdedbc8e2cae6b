use Rattle.scip_index.specs.Meaning.{occurrence_fault}
use Rattle.scip_index.proofs.CleanOccurrences.{clean_message}
use Rattle.scip_index.proofs.checked_messages.check_occurrence.Goals as goal

pub returns-then-is_simple_valid_occurrence-clause-clean : goal.returns-then-is_simple_valid_occurrence-clause-clean
returns-then-is_simple_valid_occurrence-clause-clean c = clean_message 2 occurrence_fault c.args.wire.now c.args.payload.now c.if-wire-eq2.true (c.is_simple_valid_occurrence.ensures c.if-is_simple_valid_occurrence.true)
