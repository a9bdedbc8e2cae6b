use Rattle.std.proofs.Common.{List, Some, map, sym, ap, ◌∙◌, subst}
use Rattle.ob_emit.specs.Externals.{AreExternalRows, AreExternals}
use Rattle.scip_index.specs.Plain.{symbol_model, SymbolModel}
use Rattle.ob_board.proofs.EntryHanding.{same_documents, same_externals}
use Rattle.ob_board.proofs.indexing.assemble_index.Goals as goal

pub merge_externals-requires : goal.merge_externals-requires
merge_externals-requires c = subst (λ (rows : List SymbolModel). AreExternalRows rows) (sym c.in_ok-documents.ensures.rows) c.requires

pub returns : goal.returns
returns c = record {
  metadata = ap Some c.in_ok-metadata.ensures;
  documents = c.in_ok-documents.ensures.documents ∙ same_documents c.args.entries.items;
  externals = subst (λ (rows : List SymbolModel). AreExternals rows (map symbol_model c.merge_externals.result.items)) (c.in_ok-documents.ensures.rows ∙ same_externals c.args.entries.items) c.merge_externals.ensures;
}
