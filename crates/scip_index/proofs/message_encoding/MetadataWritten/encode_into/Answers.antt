use Rattle.std.proofs.Common.{append_assoc, rules}
use Rattle.std.specs.Prelude.{FitsSigned}
use Rattle.std.specs.Int.{w32}
use Rattle.std.proofs.lemmas.Int.{to_z-of_z}
use Rattle.std.proofs.lemmas.List.Concat.{flat_map-append}
use Rattle.std.proofs.lemmas.Str.{IsUtf8-string_bytes}
use Rattle.scip_index.specs.Plain.{tool_model}
use Rattle.scip_index.specs.Fits.{ToolFits}
use Rattle.scip_index.specs.Written.{written_tool, written_metadata}
use Rattle.scip_index.proofs.WritingSteps.{ok-then, option-after, some-map}
use Rattle.scip_index.proofs.message_encoding.MetadataWritten.encode_into.Goals as goal

pub returns-clause-bytes : goal.returns-clause-bytes
unfolding written_metadata
returns-clause-bytes c =
    let m = c.args.self.now in
    let version : FitsSigned w32 m.version = search rules in
    let encoding : FitsSigned w32 m.text_document_encoding = search rules in
    ok-then c.append_number-2.result c.append_number-2.ensures.bytes
    (λ e. rw (
      e,
      c.in_ok-append_text.ensures,
      c.in_ok-append_optional_message.ensures.bytes,
      c.in_ok-append_number.ensures.bytes,
      c.as_str.ensures.value,
      option-after tool_model written_tool m.tool_info,
    )
    (simp (flat_map-append, append_assoc, to_z-of_z w32 m.version version, to_z-of_z w32 m.text_document_encoding encoding)))

pub returns-clause-fits : goal.returns-clause-fits
returns-clause-fits c =
    let m = c.args.self.now in
    ok-then c.append_number-2.result c.append_number-2.ensures.bytes
    (λ e. record {
      version = search rules;
      tool_info = some-map ToolFits tool_model m.tool_info c.in_ok-append_optional_message.ensures.fits;
      project_root = IsUtf8-string_bytes m.project_root;
      text_document_encoding = search rules;
    })
