-- Operators between factors, terms and simple expressions.
use Rattle.std.specs.Prelude.{Bool, true, false}
use Rattle.ob_scan.specs.declared.kind.Kind.{Kind}
use Rattle.ob_scan.specs.declared.kind.Kind.TheVariants as kinds
use Rattle.ob_tree.specs.declared.token.Leaf.{Leaf}
use Rattle.ob_tree.specs.declared.token.Leaf.TheVariants as leafs

-- a token of this kind is an operator between two factors, two terms or two simple expressions
abbrev pub is_operator : Kind → Bool
is_operator kinds.Star = true
is_operator kinds.Slash = true
is_operator kinds.Div = true
is_operator kinds.Mod = true
is_operator kinds.Ampersand = true
is_operator kinds.Plus = true
is_operator kinds.Minus = true
is_operator kinds.Or = true
is_operator kinds.Equals = true
is_operator kinds.Hash = true
is_operator kinds.Less = true
is_operator kinds.LessEquals = true
is_operator kinds.Greater = true
is_operator kinds.GreaterEquals = true
is_operator kinds.In = true
is_operator kinds.Is = true
is_operator k = false

-- this token is an operator between two factors, two terms or two simple expressions
abbrev pub operator_first : Leaf → Bool
operator_first (leafs.Name n) = false
operator_first (leafs.Value v n) = false
operator_first (leafs.Word k) = is_operator k
