-- Accepted files are determined by their bytes: all tokens and trees that they have give equal tables.
use Rattle.std.proofs.Common.{◌≡◌, ℕ, List, length, map, Some, sym, ap, ap₂, ◌∙◌, subst, arith}
use Rattle.std.specs.Prelude.{Contains, slice_get}
use Rattle.std.proofs.lemmas.Option.{slice_get_within}
use Rattle.ob_imports.specs.Files.{File}
use Rattle.ob_scan.specs.declared.token.Token.{Token}
use Rattle.ob_scan.specs.Spelling.{Spells}
use Rattle.ob_scan.proofs.Outcomes.{spelled_once}
use Rattle.ob_scan.specs.Texts.{text_at}
use Rattle.ob_tree.specs.declared.declaration.Module.{Module}
use Rattle.ob_tree.specs.Declaring.{module_events}
use Rattle.ob_tree.specs.Derives.{Derives}
use Rattle.ob_grammar.specs.Parsed.{kinds_of}
use Rattle.ob_grammar.proofs.OneTree.{trees_same}
use Rattle.scopes.specs.QualifiedUses.{HasWeight}
use Rattle.table_rules.proofs.ReadingModules.{tables_same}
use Rattle.table_rules.specs.Declaring.{rows_of}
use Rattle.module_table.specs.Parts.{Rows}
use Rattle.module_table.specs.declared.rows.Import.{Import}
use Rattle.source_tree.specs.Trees.{file_of, files_of, rows, names, AreAccepted, HasImport, IsAccepted, ModuleFile}
use Rattle.source_tree.specs.declared.source.Source.{Source}
use Rattle.source_tree.proofs.TreeFiles.{same_maps, there}
use Rattle.source_tree.proofs.TreeNet.{member_at, index_or_len}

-- two trees of the tokens of one text declare and use the same
pub one_rows : (bytes : List ℕ) (ts us : List Token) (m n : Module) → Spells bytes ts → Spells bytes us → Derives (kinds_of ts) m → Derives (kinds_of us) n → rows_of m ≡ rows_of n
one_rows bytes ts us m n a b of_m of_n =
    let tokens : ts ≡ us = spelled_once bytes ts us a b in
    let outline : module_events m ≡ module_events n = trees_same (kinds_of us) m n (subst (λ (vs : List Token). Derives (kinds_of vs) m) tokens of_m) of_n in
    tables_same m n outline

-- two readings of one file
pub record IsRepeat (a b : ModuleFile) : Type 0 where
  pub path : a.path ≡ b.path
  pub names_are : names a ≡ names b
  pub rows_are : rows a ≡ rows b

alike : (s : Source) (a b : ModuleFile) → IsAccepted s a → IsAccepted s b → IsRepeat a b
alike s a b h k =
    let bytes : a.bytes ≡ b.bytes = h.bytes_are ∙ sym k.bytes_are in
    let spells : Spells a.bytes b.tokens = subst (λ (bs : List ℕ). Spells bs b.tokens) (sym bytes) k.reads.1 in
    record {
      path = h.path_is ∙ sym k.path_is;
      names_are = ap₂ text_at bytes (spelled_once a.bytes a.tokens b.tokens h.reads.1 spells);
      rows_are = one_rows a.bytes a.tokens b.tokens a.tree b.tree h.reads.1 spells h.is_tree.tree.derived k.is_tree.tree.derived;
    }

same_file : (a b : ModuleFile) → IsRepeat a b → file_of a ≡ file_of b
same_file a b h = λ k. record { path = h.path k; name = same_name k; imports = same_imports k }
  where
    same_name : names a 1 ≡ names b 1
    same_name = ap (λ (n : ℕ → List ℕ). n 1) h.names_are

    same_imports : map (λ (i : Import). names a i.imported) (rows a).imports ≡ map (λ (i : Import). names b i.imported) (rows b).imports
    same_imports = ap₂ (λ (n : ℕ → List ℕ) (r : Rows). map (λ (i : Import). n i.imported) r.imports) h.names_are h.rows_are

module _ (sources : List Source) (files others : List ModuleFile) (a : AreAccepted sources files) (b : AreAccepted sources others) where
  alike_at : (i : ℕ) (file other : ModuleFile) → slice_get files i ≡ Some file → slice_get others i ≡ Some other → IsRepeat file other
  alike_at i file other at_file at_other =
      let within = slice_get_within files i file at_file in
      let many = a.as_many in
      let (s, at) = there sources i (omega arith) in
      alike s file other (a.each i s file at at_file) (b.each i s other at at_other)

  -- the entries for the import graph are equal
  pub same_files : files_of files ≡ files_of others
  same_files =
      let many : length files ≡ length others = a.as_many ∙ sym b.as_many in
      same_maps file_of file_of files others many (λ i file other p q. same_file file other (alike_at i file other p q))

  -- their imports with the weights
  pub import_over : (m n : List ℕ) (w : ℕ) → HasImport files m n w → HasImport others m n w
  import_over m n w h =
      let (i, at) = index_or_len files h.importer h.is_of_tree in
      let within = slice_get_within files i h.importer at in
      let many : length files ≡ length others = a.as_many ∙ sym b.as_many in
      let (other, at_other) = there others i (omega arith) in
      let both = alike_at i h.importer other at at_other in
      record {
        importer = other;
        is_of_tree = member_at others i other at_other;
        named = subst (λ (name : ℕ → List ℕ). name 1 ≡ m) both.names_are h.named;
        imports = subst (λ (f : File). Contains f.imports n) (same_file h.importer other both) h.imports;
        weight = subst (λ (r : Rows). HasWeight (names other) r n w) both.rows_are (subst (λ (name : ℕ → List ℕ). HasWeight name (rows h.importer) n w) both.names_are h.weight);
      }
