-- The next token.
use Rattle.std.specs.Prelude.{List, [], ◌∷◌, Option, Some, None, Bool, false}
use Rattle.ob_tree.specs.declared.token.Leaf.{Leaf}
use Rattle.ob_tree.specs.declared.token.Leaf.TheVariants as leafs
use Rattle.ob_tree.specs.Leaves.{kind_eq}
use Rattle.ob_scan.specs.declared.kind.Kind.{Kind}

-- the first token and the tokens after it; None if there is no token
abbrev pub uncons : List Leaf → Option (Leaf × List Leaf)
uncons [] = None
uncons (l ∷ ls) = Some (l, ls)

-- there is a first token, and it satisfies p
abbrev pub head_is : (Leaf → Bool) → Option (Leaf × List Leaf) → Bool
head_is p None = false
head_is p (Some (l, ls)) = p l

-- a keyword or delimiter of this kind
abbrev pub is_word : Kind → Leaf → Bool
is_word k (leafs.Name n) = false
is_word k (leafs.Value v n) = false
is_word k (leafs.Word j) = kind_eq j k
