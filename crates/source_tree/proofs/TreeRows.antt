-- The table entries of a tree, with other names for the tokens and the entries.
use Rattle.std.proofs.Common.{◌≡◌, ℕ, List, Some, length, sym, subst}
use Rattle.std.specs.Prelude.{slice_get}
use Rattle.ob_scan.specs.declared.kind.Kind.TheVariants as kinds
use Rattle.ob_scan.specs.declared.token.Token.{Token}
use Rattle.ob_tree.specs.declared.declaration.Module.{Module}
use Rattle.module_table.specs.Parts.{Rows}
use Rattle.module_table.specs.Trees.{AreTreeRows}
use Rattle.table_rules.specs.Declaring.{rows_of}
use Rattle.ob_grammar.specs.Parsed.{kinds_of}
use Rattle.scopes.specs.IdentifierNames.{IsIdentifier}
use Rattle.table_reader.proofs.WholeTables.{tree_rows_as}

pub tree_rows_of : (ts us : List Token) (r : Rows) (m : Module) → us ≡ ts → r ≡ rows_of m → AreTreeRows (λ k. slice_get (kinds_of ts) k ≡ Some kinds.Ident) (length (kinds_of ts)) (rows_of m) → AreTreeRows (IsIdentifier us) (length us) r
tree_rows_of ts us r m e f h = subst (λ (vs : List Token). AreTreeRows (IsIdentifier vs) (length vs) r) (sym e) (tree_rows_as ts r m f h)
