use Rattle.std.proofs.Common.{sym, ◌∙◌}
use Rattle.proto_wire.specs.Messages.{payload_record}
use Rattle.scip_index.specs.Meaning.{occurrence_fault}
use Rattle.scip_index.proofs.CleanOccurrences.{clean_before, clean_range, clean_symbol, when_clean}
use Rattle.scip_index.proofs.checked_messages.is_simple_valid_occurrence.Goals as goal

pub returns-then-is_ok : goal.returns-then-is_ok
returns-then-is_ok c e =
    let range = payload_record c.in-Some.range c.in-Some.numbers.now in
    let symbol = payload_record c.in-Some-next_compact_record.symbol c.in-Some-next_compact_record.text.now in
    clean_before occurrence_fault _ _ _ _ range c.in-Some.ensures.first (clean_range range c.if-range-ne1.false (when_clean c.check_numbers.result (sym c.is_ok.ensures.value ∙ c.if-is_ok.true) c.check_numbers.ensures.clean))
    (clean_before occurrence_fault _ _ _ _ symbol c.in-Some-next_compact_record.ensures.first (clean_symbol symbol c.if-symbol-ne2.false (when_clean c.check_text.result (sym c.is_ok-then-is_ok.ensures.value ∙ e) c.check_text.ensures.clean))
    (c.is_simple_valid_rest.ensures c.if-not-is_simple_valid_rest.false))
