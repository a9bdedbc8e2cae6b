-- Tokens that are a single name, qualified or not.
use Rattle.std.specs.Prelude.{◌≡◌, ℕ, ◌+◌, List, [], ◌∷◌, Option, Some, None}
use Rattle.ob_scan.specs.declared.kind.Kind.TheVariants as kinds
use Rattle.ob_tree.specs.declared.token.Leaf.{Leaf}
use Rattle.ob_tree.specs.declared.token.Leaf.TheVariants as leafs
use Rattle.module_table.specs.declared.rows.TypeName.{TypeName}
use Rattle.table_reader.specs.declared.slots.SoleName.{SoleName}
use Rattle.table_reader.specs.declared.slots.SoleName.TheVariants as sole_names

-- the name that these tokens form, if they are exactly ident or ident "." ident, else None; k is the index of the first token
abbrev pub sole_name_of : List Leaf → ℕ → Option TypeName
sole_name_of (leafs.Name n ∷ []) k = Some (record { head = k; member = None })
sole_name_of (leafs.Name n ∷ leafs.Word kinds.Dot ∷ leafs.Name m ∷ []) k = Some (record { head = k; member = Some (k + 2) })
sole_name_of ls k = None

-- from the next token and the tokens after it: the index of the next token, if it is an identifier, and the tokens after it; else None
abbrev pub leading_name : Option (Leaf × List Leaf) → Option (ℕ × List Leaf)
leading_name (Some (leafs.Name n, ls)) = Some (n, ls)
leading_name o = None

-- the tokens are a single name (`Bare`), a name with a dot and a second name (`Dotted`), or neither (`No`)
abbrev pub IsSoleName : List Leaf → SoleName → Type 0
IsSoleName ls sole_names.No = (k : ℕ) → sole_name_of ls k ≡ None
IsSoleName ls sole_names.Bare = (k : ℕ) → sole_name_of ls k ≡ Some (record { head = k; member = None })
IsSoleName ls sole_names.Dotted = (k : ℕ) → sole_name_of ls k ≡ Some (record { head = k; member = Some (k + 2) })
