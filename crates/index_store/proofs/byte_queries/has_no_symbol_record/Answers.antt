use Rattle.std.proofs.Common.{List, ap, sym, ◌∙◌}
use Rattle.std.specs.Prelude.{Option}
use Rattle.std.proofs.lemmas.Bool.{eqb-true}
use Rattle.proto_wire.specs.declared.fault.WireFault.{WireFault}
use Rattle.proto_wire.specs.Records.{PayloadRecord}
use Rattle.proto_wire.specs.Messages.{payload_record}
use Rattle.index_store.proofs.ShortSymbols.{nothing_left, other_left}
use Rattle.index_store.proofs.byte_queries.has_no_symbol_record.Goals as goal

pub returns-then-is_empty : goal.returns-then-is_empty
returns-then-is_empty c e = c.loop.invariant.same ∙ nothing_left _ _ (eqb-true _ _ (sym c.if-is_empty.ensures))

pub loop-preserved : goal.loop-preserved
loop-preserved c = record {
  same = c.loop.invariant.same ∙ other_left (payload_record c.in-Some.wire c.in-Some.field-0-1.now) _ _ (ap (λ (x : List PayloadRecord × Option WireFault). x.0) c.in-Some.ensures.first) c.if-wire-ne2.true;
  within = c.in-Some.ensures.within ∙ c.loop.invariant.within;
}
