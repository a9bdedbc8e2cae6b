-- The conditions under which different declarations have different symbols.
use Rattle.std.specs.Prelude.{◌≡◌, ◌<◌, ◌^◌, ℕ, List, length, Contains}
use Rattle.std.specs.List.{filter_map}
use Rattle.std.specs.Option.{option_map}
use Rattle.module_table.specs.declared.rows.Declared.{Declared}
use Rattle.module_table.specs.declared.rows.Record.{Record as RecordRow}
use Rattle.ob_interface.specs.Interfaces.{declaration_of, Declaration}
use Rattle.scopes.specs.Members.{members_of}
use Rattle.scopes.specs.Scope.{HasNoDuplicates}
use Rattle.ob_scan.specs.Texts.{text_at}
use Rattle.ob_view.specs.World.{World}
use Rattle.scip_symbol.specs.SymbolTexts.{SymbolModel, Local, Global}

-- no name is declared twice in one block or record, no two records are in the type of one declaration, and fewer than 2^64 identifiers are
-- declared
pub record DeclaresOnce (w : World) : Type 0 where
  pub once : HasNoDuplicates (text_at w.bytes w.tokens) (members_of w.rows)
  pub owners : (r s : RecordRow) → Contains w.rows.records r → Contains w.rows.records s → r.owner ≡ s.owner → r.number ≡ s.number
  pub few : length w.rows.declared < 2 ^ 64

-- the symbol is local: it has a meaning only in its document
abbrev pub IsLocal : SymbolModel → Type 0
IsLocal (Local id) = Unit {0}
IsLocal (Global scheme manager package_name version descriptors) = ⊥

-- the token numbers of a module's declarations that are in its interface, in the order of the interface
abbrev pub exported_tokens : World → List ℕ
exported_tokens v = filter_map (λ (r : Declared). option_map (λ (it : Declaration). r.number) (declaration_of v.bytes v.tokens v.rows r)) v.rows.declared
