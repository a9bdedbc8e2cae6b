use Rattle.std.proofs.Common.{List, ap}
use Rattle.std.specs.Prelude.{Option}
use Rattle.proto_wire.specs.declared.fault.WireFault.{WireFault}
use Rattle.proto_wire.specs.Records.{PayloadRecord}
use Rattle.proto_wire.specs.Messages.{payload_record}
use Rattle.index_store.proofs.ShortSymbols.{symbol_second}
use Rattle.index_store.proofs.byte_queries.compact_symbol.Goals as goal

pub returns-in-Bytes : goal.returns-in-Bytes
returns-in-Bytes c =
    symbol_second c.in-Bytes.field-0 (payload_record c.in_ok-range.range c.in_ok-range.field-0-1.now) (payload_record c.in_ok-symbol.symbol c.in_ok-symbol.text.now) _ _ _
    (ap (λ (x : List PayloadRecord × Option WireFault). x.0) c.in_ok-range.ensures.first) (ap (λ (x : List PayloadRecord × Option WireFault). x.0) c.in_ok-symbol.ensures.first)
    c.if-range-eq1.true c.if-symbol-eq2.true c.in-Bytes.is (c.has_no_symbol_record.ensures c.if-has_no_symbol_record.true)
