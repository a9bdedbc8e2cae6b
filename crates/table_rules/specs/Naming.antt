-- The entries in which an identifier of a module occurs, and the name that a name after END repeats (Oberon-07 report, sections 4 to 11).
use Rattle.std.specs.Prelude.{◌≡◌, ℕ, Option, None, Some, Contains}
use Rattle.module_table.specs.declared.rows.Declared.{Declared}
use Rattle.module_table.specs.declared.rows.End.{End}
use Rattle.module_table.specs.declared.rows.Import.{Import}
use Rattle.module_table.specs.declared.rows.Selector.{Selector}
use Rattle.module_table.specs.declared.rows.Step.TheVariants as steps
use Rattle.module_table.specs.declared.rows.Used.{Used}
use Rattle.module_table.specs.Tables.{module_name_token}
use Rattle.module_table.specs.Parts.{Rows}

-- this token is the name of the module, or an entry has it: as the module of an import item, as a declaration, as a name after END, as a
-- use, as the name after a dot in a designator, or as the name after a dot in a qualified identifier
pub data IsNamed (rows : Rows) (k : ℕ) : Type 0 where
  own : k ≡ module_name_token → IsNamed rows k
  imported : (i : Import) → Contains rows.imports i → i.imported ≡ k → IsNamed rows k
  declared : (d : Declared) → Contains rows.declared d → d.number ≡ k → IsNamed rows k
  ended : (e : End) → Contains rows.ends e → e.number ≡ k → IsNamed rows k
  used : (u : Used) → Contains rows.uses u → u.number ≡ k → IsNamed rows k
  selected : (s : Selector) → Contains rows.selectors s → s.step ≡ steps.Field k → IsNamed rows k
  second : (u : Used) → Contains rows.uses u → u.member ≡ Some k → IsNamed rows k

-- the identifier that a name after END has to repeat: the name of its procedure, or of the module
abbrev pub repeated_by : Option ℕ → ℕ
repeated_by None = module_name_token
repeated_by (Some name) = name

-- a name after END, as a pair with the identifier that it has to repeat
abbrev pub ending_of : End → ℕ × ℕ
ending_of e = (repeated_by e.of, e.number)
