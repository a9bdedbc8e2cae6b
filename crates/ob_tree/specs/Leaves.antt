-- The tokens of a file as the leaves of a tree.
use Rattle.std.specs.Prelude.{ℕ, ◌+◌, List, [], ◌∷◌, Bool}
use denote.Enum.Bare.{sameb}
use Rattle.ob_scan.specs.contracts.kind.Kind.{the_type}
use Rattle.ob_scan.specs.declared.kind.Kind.{Kind}
use Rattle.ob_scan.specs.declared.kind.Kind.TheVariants as kinds
use Rattle.ob_tree.specs.declared.expression.Literal.{Literal}
use Rattle.ob_tree.specs.declared.expression.Literal.TheVariants as literals
use Rattle.ob_tree.specs.declared.token.Leaf.{Leaf}
use Rattle.ob_tree.specs.declared.token.Leaf.TheVariants.{Name, Value, Word}

-- an identifier or a literal is represented by its token number, any other token by its kind
abbrev pub leaf_of : ℕ → Kind → Leaf
leaf_of n kinds.Ident = Name n
leaf_of n kinds.Integer = Value literals.Integer n
leaf_of n kinds.Real = Value literals.Real n
leaf_of n kinds.Text = Value literals.Text n
leaf_of n k = Word k

-- the kind of a literal's token
abbrev pub literal_kind : Literal → Kind
literal_kind literals.Integer = kinds.Integer
literal_kind literals.Real = kinds.Real
literal_kind literals.Text = kinds.Text

-- the leaves of tokens of these kinds, numbered from n
abbrev pub leaves_from : ℕ → List Kind → List Leaf
leaves_from n [] = []
leaves_from n (k ∷ ks) = leaf_of n k ∷ leaves_from (n + 1) ks

-- whether two kinds are equal
abbrev pub kind_eq : Kind → Kind → Bool
kind_eq = sameb the_type
