use Rattle.std.proofs.Common.{subst, sym}
use Rattle.std.specs.Str.{IsUtf8}
use Rattle.proto_wire.specs.MessageBytes.{records_of}
use Rattle.scip_index.specs.Meaning.{occurrence_of}
use Rattle.index_store.specs.Direct.{symbol_span_model}
use Rattle.index_store.proofs.SymbolLaws.{listed_symbol}
use Rattle.index_store.proofs.symbols.Lines.append_if_definition.Goals as goal

pub append_symbol_span-requires : goal.append_symbol_span-requires
append_symbol_span-requires c = record {
  text = subst IsUtf8 (sym (listed_symbol c.args.with_local (occurrence_of (records_of c.args.occurrence)) (symbol_span_model c.in-Some.symbol_span) (rw c.in-Some.is at c.in_ok-definition_span.ensures))) c.requires.text;
}
