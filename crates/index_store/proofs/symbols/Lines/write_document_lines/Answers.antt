use Rattle.std.proofs.Common.{◌++◌, ◌∙◌, [], List, ap, append-nil, map, refl, rules, subst}
use Rattle.std.proofs.KnownBytes.{Appends-nil}
use Rattle.std.proofs.lemmas.Result.{err_from_is_err_and}
use Rattle.proto_wire.specs.MessageBytes.{records_of}
use Rattle.proto_wire.specs.Records.{PayloadRecord}
use Rattle.scip_index.specs.Meaning.{occurrence_of}
use Rattle.texts.specs.Places.{writer_style}
use Rattle.byte_sink.proofs.Joining.{front_joined, joined}
use Rattle.index_store.specs.Symbols.{lines_in, lines_of_occurrence, HaveTextSymbols}
use Rattle.index_store.proofs.SymbolLaws.{lines_behind}
use Rattle.index_store.proofs.symbols.Lines.write_document_lines.Goals as goal

pub loop-occurrence-init : goal.loop-occurrence-init
loop-occurrence-init g c = record {
  gathered = ([], refl, ([], append-nil _, Appends-nil _));
  texts = c.requires.text;
  style = refl;
  failures = refl;
  within = refl;
}

pub loop-occurrence-preserved : goal.loop-occurrence-preserved
loop-occurrence-preserved g c =
    let so_far = c.loop-occurrence.invariant.gathered in
    let line = lines_of_occurrence (writer_style c.args.self.now.locations) c.args.with_local c.args.path.now (occurrence_of (records_of c.in-Some.occurrence)) in
    let behind = ap (λ (pss : List (List PayloadRecord)). lines_in (writer_style c.args.self.now.locations) c.args.with_local c.args.path.now (map occurrence_of pss)) c.in-Some.ensures.some in
    record {
      gathered = (so_far.0 ++ line, lines_behind _ so_far.0 _ line _ so_far.1 behind, joined _ _ _ _ so_far.0 line _ _ (so_far.0 ++ line) refl so_far.2 (rw c.loop-occurrence.invariant.style at c.in_ok-write_if_definition.ensures.gathered));
      texts = (subst (λ (pss : List (List PayloadRecord)). HaveTextSymbols (map occurrence_of pss)) c.in-Some.ensures.some c.loop-occurrence.invariant.texts).1;
      style = c.in_ok-write_if_definition.ensures.style ∙ c.loop-occurrence.invariant.style;
      failures = search rules;
      within = search rules;
    }

pub returns-in_err-write_if_definition-clause-error_prefix : goal.returns-in_err-write_if_definition-clause-error_prefix
returns-in_err-write_if_definition-clause-error_prefix g c =
    let p = err_from_is_err_and c.from_residual.result c.from_residual.ensures.1 in
    let so_far = c.loop-occurrence.invariant.gathered in
    let line = lines_of_occurrence (writer_style c.args.self.now.locations) c.args.with_local c.args.path.now (occurrence_of (records_of c.in-Some.occurrence)) in
    let behind = ap (λ (pss : List (List PayloadRecord)). lines_in (writer_style c.args.self.now.locations) c.args.with_local c.args.path.now (map occurrence_of pss)) c.in-Some.ensures.some in
    rw p.1 (front_joined _ _ _ _ so_far.0 line _ _ _ (lines_behind _ so_far.0 _ line _ so_far.1 behind) so_far.2 (rw c.loop-occurrence.invariant.style at c.in_err-write_if_definition.ensures.error_prefix))
