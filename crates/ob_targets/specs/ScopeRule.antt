-- What a type name in a module's block means by the scopes of the module itself, expressed by indices of the module's interface.
use Rattle.std.specs.Prelude.{◌≡◌, ℕ, List, Some, None, Contains, map}
use Rattle.ob_scan.specs.declared.token.Token.{Token}
use Rattle.ob_scan.specs.Spelling.{Spells}
use Rattle.ob_scan.specs.Texts.{text_at}
use Rattle.ob_tree.specs.declared.declaration.Module.{Module}
use Rattle.ob_tree.specs.Derives.{Derives}
use Rattle.module_table.specs.declared.rows.Declared.{Declared}
use Rattle.module_table.specs.declared.rows.DeclGroup.{DeclGroup}
use Rattle.module_table.specs.declared.rows.Import.{Import}
use Rattle.module_table.specs.declared.rows.DeclKind.TheVariants as decl_kinds
use Rattle.module_table.specs.declared.rows.Used.{Used}
use Rattle.module_table.specs.Parts.{Rows}
use Rattle.table_rules.specs.Declaring.{rows_of}
use Rattle.ob_interface.specs.Interfaces.{declaration, interface_of}
use Rattle.ob_interface.specs.OwnTable.{Declares}
use Rattle.ob_interface.specs.Placed.{declaration_at, index_of}
use Rattle.scopes.specs.Scoped.{AreScopes, ModuleScopes}

-- `u` is a use in the block of an accepted module: the bytes spell the tokens `ts`, `m` is the syntax tree of the tokens, and `s` has the
-- scopes of the module table of `m`
pub record IsBlockUse (bytes : List ℕ) (ts : List Token) (m : Module) (s : ModuleScopes) (u : Used) : Type 0 where
  pub spelled : Spells bytes ts
  pub derives : Derives (map (λ (t : Token). t.kind) ts) m
  pub scopes : AreScopes bytes ts (rows_of m) s
  pub is_use : Contains (rows_of m).uses u
  pub outer : u.block ≡ 0

module _ (bytes : List ℕ) (ts : List Token) (rows : Rows) (s : ModuleScopes) where
  -- by the scopes of the module itself, the use at token `used` means a type declaration in the module's block. In the module's interface
  -- this declaration has the index `d`
  pub record MeansType (used d : ℕ) : Type 0 where
    pub row : Declared
    pub by : DeclGroup
    pub declares : Declares bytes ts rows None (text_at bytes ts used) row by
    pub a_type : by.decl_kind ≡ decl_kinds.Type
    pub means : Contains s.meanings (record { used = used; declared = row.number })
    pub place : index_of (interface_of bytes ts rows) None (text_at bytes ts used) ≡ Some d
    pub there : declaration_at (interface_of bytes ts rows) d ≡ Some (declaration bytes ts rows.parts row by)

  -- by the scopes of the module itself, the use at token `used` means the alias of an import item that names the module `name`
  pub record MeansAlias (used : ℕ) (name : List ℕ) : Type 0 where
    pub item : Import
    pub among : Contains rows.imports item
    pub means : Contains s.meanings (record { used = used; declared = item.alias })
    pub named : text_at bytes ts item.imported ≡ name
