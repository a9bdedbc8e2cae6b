-- The contexts in which a module table names a token (Oberon-07 report, sections 4 to 11).
use Rattle.std.specs.Prelude.{◌≡◌, ◌≢◌, ℕ, Some, Contains}
use Rattle.module_table.specs.declared.rows.Declared.{Declared}
use Rattle.module_table.specs.declared.rows.End.{End}
use Rattle.module_table.specs.declared.rows.Import.{Import}
use Rattle.module_table.specs.declared.rows.Selector.{Selector}
use Rattle.module_table.specs.declared.rows.Step.TheVariants as steps
use Rattle.module_table.specs.declared.rows.Used.{Used}
use Rattle.module_table.specs.Tables.{module_name_token}
use Rattle.module_table.specs.Parts.{Rows}

-- the context of a token in the module table. The token is the module's own name, the name after := in an import item, or a declared
-- identifier or alias. Or it is the name after END, a name that is looked up, or a name after a dot
pub data SyntaxPositionKind : Type 0 where
  OwnName : SyntaxPositionKind
  ImportedName : SyntaxPositionKind
  Declaration : SyntaxPositionKind
  EndName : SyntaxPositionKind
  Use : SyntaxPositionKind
  Member : SyntaxPositionKind

-- an entry of the module table has token `k` in this context. In an import item without := the alias is the only token; its context is
-- Declaration
pub data HasSyntaxPosition (rows : Rows) (k : ℕ) : SyntaxPositionKind → Type 0 where
  own : k ≡ module_name_token → HasSyntaxPosition rows k OwnName
  imported : (i : Import) → Contains rows.imports i → i.imported ≡ k → i.alias ≢ k → HasSyntaxPosition rows k ImportedName
  aliased : (i : Import) → Contains rows.imports i → i.alias ≡ k → HasSyntaxPosition rows k Declaration
  declared : (d : Declared) → Contains rows.declared d → d.number ≡ k → HasSyntaxPosition rows k Declaration
  ended : (e : End) → Contains rows.ends e → e.number ≡ k → HasSyntaxPosition rows k EndName
  used : (u : Used) → Contains rows.uses u → u.number ≡ k → HasSyntaxPosition rows k Use
  selected : (s : Selector) → Contains rows.selectors s → s.step ≡ steps.Field k → HasSyntaxPosition rows k Member
  second : (u : Used) → Contains rows.uses u → u.member ≡ Some k → HasSyntaxPosition rows k Member
