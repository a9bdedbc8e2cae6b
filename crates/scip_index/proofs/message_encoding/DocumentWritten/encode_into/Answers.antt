use Rattle.std.proofs.Common.{append_assoc, rules}
use Rattle.std.specs.Prelude.{FitsSigned}
use Rattle.std.specs.Int.{w32}
use Rattle.std.proofs.lemmas.Int.{to_z-of_z}
use Rattle.std.proofs.lemmas.List.Concat.{flat_map-append}
use Rattle.std.proofs.lemmas.Str.{IsUtf8-string_bytes}
use Rattle.scip_index.specs.Plain.{occurrence_model, symbol_model}
use Rattle.scip_index.specs.Fits.{OccurrenceFits, SymbolFits}
use Rattle.scip_index.specs.Written.{written_occurrence, written_symbol, written_document}
use Rattle.scip_index.proofs.WritingSteps.{all-map, map-after, ok-then}
use Rattle.scip_index.proofs.message_encoding.DocumentWritten.encode_into.Goals as goal

pub returns-clause-bytes : goal.returns-clause-bytes
unfolding written_document
returns-clause-bytes c =
    let d = c.args.self.now in
    let encoding : FitsSigned w32 d.position_encoding = search rules in
    ok-then c.append_number.result c.append_number.ensures.bytes
    (λ e. rw (
      e,
      c.in_ok-append_text-2.ensures,
      c.in_ok-append_messages-2.ensures.bytes,
      c.in_ok-append_messages.ensures.bytes,
      c.in_ok-append_text.ensures,
      c.as_str.ensures.value,
      c.deref.ensures.value,
      c.deref-2.ensures.value,
      c.as_str-2.ensures.value,
      map-after occurrence_model written_occurrence d.occurrences.items,
      map-after symbol_model written_symbol d.symbols.items,
    )
    (simp (flat_map-append, append_assoc, to_z-of_z w32 d.position_encoding encoding)))

pub returns-clause-fits : goal.returns-clause-fits
returns-clause-fits c =
    let d = c.args.self.now in
    ok-then c.append_number.result c.append_number.ensures.bytes
    (λ e. record {
      relative_path = IsUtf8-string_bytes d.relative_path;
      occurrences = all-map OccurrenceFits occurrence_model d.occurrences.items (rw (← c.deref.ensures.value) c.in_ok-append_messages.ensures.fits);
      symbols = all-map SymbolFits symbol_model d.symbols.items (rw (← c.deref-2.ensures.value) c.in_ok-append_messages-2.ensures.fits);
      language = IsUtf8-string_bytes d.language;
      position_encoding = search rules;
    })
