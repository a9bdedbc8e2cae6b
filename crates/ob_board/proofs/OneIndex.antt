-- A tree has one list of entries, one index, and one list of unresolved identifiers.
use Rattle.std.proofs.Common.{◌≡◌, ℕ, List, [], ◌∷◌, map, refl, sym, ap, ap₂, ◌∙◌, subst, arith}
use Rattle.std.specs.List.{flat_map}
use Rattle.std.proofs.lemmas.Option.{slice_get_within}
use Rattle.ob_emit.proofs.Positions.{position_column}
use Rattle.ob_emit.specs.Documents.{document_of}
use Rattle.ob_emit.specs.Externals.{externals_in, AreExternals}
use Rattle.ob_scan.specs.declared.token.Token.{Token}
use Rattle.ob_scan.specs.Texts.{token_at}
use Rattle.ob_scope.proofs.OneScopes.{each_same, scopes_are_unique}
use Rattle.ob_targets.proofs.OneReferences.{references_are_unique}
use Rattle.ob_view.specs.declared.target.Reference.{Reference}
use Rattle.ob_targets.specs.Refers.{unresolved, AreReferences}
use Rattle.ob_view.specs.World.{world, World}
use Rattle.source_tree.proofs.TreeFiles.{there}
use Rattle.source_tree.specs.declared.source.Source.{Source}
use Rattle.scip_index.specs.Plain.{IndexModel, SymbolModel}
use Rattle.ob_board.specs.Reached.{names, file_model, FileModel}
use Rattle.ob_board.specs.Entries.{AreEntriesOf, IsEntry, EntryModel}
use Rattle.ob_board.specs.Indexes.{AreTreeEntries, IsIndex, IsIndexOf, IsBuiltFrom}
use Rattle.ob_board.specs.Resolved.{AreResolved}
use Rattle.ob_board.specs.Unresolved.{AreUnresolvedRows, AreUnresolved, IsUnresolvedAt, IsUnresolvedIn, IsUnresolvedOf, UnresolvedModel}
use Rattle.ob_board.proofs.OneExternals.{one_externals}
use Rattle.ob_board.proofs.OneTree.{one_reached, tree_is_unique}

-- ---- of one file of the tree

module _ (files : List FileModel) (file : FileModel) where
  abbrev world_of : (refs : List Reference) → AreResolved files file refs → World
  world_of refs r = world file.bytes file.tokens file.rows r.scopes r.reached

  same_world : (refs others : List Reference) (a : AreResolved files file refs) (b : AreResolved files file others) → world_of refs a ≡ world_of others b
  same_world refs others a b =
      ap₂ (world file.bytes file.tokens file.rows)
      (scopes_are_unique file.bytes file.tokens file.rows a.scopes b.scopes a.are_scopes b.are_scopes)
      (one_reached files (names file 1) a.reached b.reached a.are_reached b.are_reached)

  same_references : (refs others : List Reference) → AreResolved files file refs → AreResolved files file others → refs ≡ others
  same_references refs others a b =
      let here : AreReferences (world_of refs a) others = subst (λ (w : World). AreReferences w others) (sym (same_world refs others a b)) b.are_references in
      references_are_unique (world_of refs a) refs others a.are_references here

  one_entry : (package_name : List ℕ) (e f : EntryModel) → IsEntry files package_name file e → IsEntry files package_name file f → e ≡ f
  one_entry package_name e f a b =
      let w : world_of a.refs a.resolved ≡ world_of b.refs b.resolved = same_world a.refs b.refs a.resolved b.resolved in
      let refs : a.refs ≡ b.refs = same_references a.refs b.refs a.resolved b.resolved in
      let documents : e.document ≡ f.document =
      a.output_is.document_is ∙ ap₂ (λ (v : World) (rs : List Reference). document_of v file.path package_name rs) w refs ∙ sym b.output_is.document_is in
      let of : AreExternals (externals_in (world_of a.refs a.resolved) a.refs) f.externals =
      subst (λ (xs : List SymbolModel). AreExternals xs f.externals) (sym (ap₂ externals_in w refs)) b.output_is.externals_are in
      let externals : e.externals ≡ f.externals = one_externals (externals_in (world_of a.refs a.resolved) a.refs) e.externals f.externals a.output_is.externals_are of in
      λ i. record { name = (a.name_is ∙ sym b.name_is) i; document = documents i; interface = (a.interface_is ∙ sym b.interface_is) i; externals = externals i }

-- ---- entries and the index

one_entries_of : (files : List FileModel) (package_name : List ℕ) (entries others : List EntryModel) → AreEntriesOf files package_name entries → AreEntriesOf files package_name others → entries ≡ others
one_entries_of files package_name entries others a b =
    each_same entries others (a.as_many ∙ sym b.as_many) (λ k e f at_e at_f.
    let within = slice_get_within entries k e at_e in
    let many = a.as_many in
    let (file, at) = there files k (omega arith) in
    one_entry files file package_name e f (a.each k file e at at_e) (b.each k file f at at_f))

one_index_of : (files : List FileModel) (package_name root : List ℕ) (index other : IndexModel) → IsIndexOf files package_name root index → IsIndexOf files package_name root other → index ≡ other
one_index_of files package_name root index other a b =
    let entries : a.entries ≡ b.entries = one_entries_of files package_name a.entries b.entries a.are_entries b.are_entries in
    let built : IsBuiltFrom a.entries root other = subst (λ (es : List EntryModel). IsBuiltFrom es root other) (sym entries) b.built in
    let externals : index.external_symbols ≡ other.external_symbols =
    one_externals (flat_map (λ (e : EntryModel). e.externals) a.entries) index.external_symbols other.external_symbols a.built.externals built.externals in
    λ i. record { metadata = (a.built.metadata ∙ sym built.metadata) i; documents = (a.built.documents ∙ sym built.documents) i; external_symbols = externals i }

module _ (sources : List Source) where
  pub entries_are_unique : (package_name : List ℕ) (entries others : List EntryModel) → AreTreeEntries sources package_name entries → AreTreeEntries sources package_name others → entries ≡ others
  entries_are_unique package_name entries others a b =
      let files = tree_is_unique sources a.files b.files a.is_tree.accepted b.is_tree.accepted in
      one_entries_of (map file_model a.files) package_name entries others a.are_entries (subst (λ (fs : List FileModel). AreEntriesOf fs package_name others) (sym files) b.are_entries)

  pub index_is_unique : (package_name root : List ℕ) (index other : IndexModel) → IsIndex sources package_name root index → IsIndex sources package_name root other → index ≡ other
  index_is_unique package_name root index other a b =
      let files = tree_is_unique sources a.files b.files a.is_tree.accepted b.is_tree.accepted in
      one_index_of (map file_model a.files) package_name root index other a.is_index (subst (λ (fs : List FileModel). IsIndexOf fs package_name root other) (sym files) b.is_index)

---- unresolved identifiers

one_row : (path bytes : List ℕ) (tokens : List Token) (k : ℕ) (row other : UnresolvedModel) → IsUnresolvedAt path bytes tokens k row → IsUnresolvedAt path bytes tokens k other → row ≡ other
one_row path bytes tokens k row other a b =
    let at = (token_at tokens k).start in
    let lines : row.line ≡ other.line = a.position.line_is ∙ sym b.position.line_is in
    let columns : row.column ≡ other.column = position_column bytes at row.line row.column a.position ∙ sym (position_column bytes at other.line other.column b.position) in
    λ i. record { path = (a.path_is ∙ sym b.path_is) i; line = lines i; column = columns i; name = (a.name_is ∙ sym b.name_is) i }

one_rows : (path bytes : List ℕ) (tokens : List Token) (ks : List ℕ) (rows others : List UnresolvedModel) → AreUnresolvedRows path bytes tokens ks rows → AreUnresolvedRows path bytes tokens ks others → rows ≡ others
one_rows path bytes tokens [] [] [] a b = refl
one_rows path bytes tokens [] [] (other ∷ others) a b = absurd b
one_rows path bytes tokens [] (row ∷ rows) others a b = absurd a
one_rows path bytes tokens (k ∷ ks) [] others a b = absurd a
one_rows path bytes tokens (k ∷ ks) (row ∷ rows) [] a b = absurd b
one_rows path bytes tokens (k ∷ ks) (row ∷ rows) (other ∷ others) a b =
    ap₂ (λ (r : UnresolvedModel) (rs : List UnresolvedModel). r ∷ rs) (one_row path bytes tokens k row other a.0 b.0) (one_rows path bytes tokens ks rows others a.1 b.1)

one_part : (files : List FileModel) (file : FileModel) (rows others : List UnresolvedModel) → IsUnresolvedIn files file rows → IsUnresolvedIn files file others → rows ≡ others
one_part files file rows others a b =
    let refs : a.refs ≡ b.refs = same_references files file a.refs b.refs a.resolved b.resolved in
    let here : AreUnresolvedRows file.path file.bytes file.tokens (unresolved a.refs) others = subst (λ (rs : List Reference). AreUnresolvedRows file.path file.bytes file.tokens (unresolved rs) others) (sym refs) b.are_rows in
    one_rows file.path file.bytes file.tokens (unresolved a.refs) rows others a.are_rows here

one_unresolved_of : (files : List FileModel) (rows others : List UnresolvedModel) → IsUnresolvedOf files rows → IsUnresolvedOf files others → rows ≡ others
one_unresolved_of files rows others a b =
    let parts : a.parts ≡ b.parts =
    each_same a.parts b.parts (a.as_many ∙ sym b.as_many) (λ k part other at_part at_other.
    let within = slice_get_within a.parts k part at_part in
    let many = a.as_many in
    let (file, at) = there files k (omega arith) in
    one_part files file part other (a.each k file part at at_part) (b.each k file other at at_other)) in
    a.whole ∙ ap (flat_map (λ (part : List UnresolvedModel). part)) parts ∙ sym b.whole

pub unresolved_list_is_unique : (sources : List Source) (rows others : List UnresolvedModel) → AreUnresolved sources rows → AreUnresolved sources others → rows ≡ others
unresolved_list_is_unique sources rows others a b =
    let files = tree_is_unique sources a.files b.files a.is_tree.accepted b.is_tree.accepted in
    one_unresolved_of (map file_model a.files) rows others a.are_rows (subst (λ (fs : List FileModel). IsUnresolvedOf fs others) (sym files) b.are_rows)
