-- Each kind of token becomes exactly one kind of leaf.
use Rattle.std.proofs.Common.{◌≡◌, ℕ, List, Some, ◌⊎◌, inl, inr, refl}
use Rattle.ob_scan.specs.Kinds.{text_of}
use Rattle.ob_scan.specs.declared.kind.Kind.{Kind}
use Rattle.ob_scan.specs.declared.kind.Kind.TheVariants as kinds
use Rattle.ob_tree.specs.declared.expression.Literal.{Literal}
use Rattle.ob_tree.specs.declared.expression.Literal.TheVariants as literals
use Rattle.ob_tree.specs.declared.token.Leaf.TheVariants as leafs
use Rattle.ob_tree.specs.Leaves.{leaf_of, literal_kind}

pub values : (n : ℕ) (l : Literal) → leaf_of n (literal_kind l) ≡ leafs.Value l n
values n literals.Integer = refl
values n literals.Real = refl
values n literals.Text = refl

pub words : (n : ℕ) (k : Kind) (text : List ℕ) → text_of k ≡ Some text → leaf_of n k ≡ leafs.Word k
words n kinds.Ident text e = absurd cc
words n kinds.Integer text e = absurd cc
words n kinds.Real text e = absurd cc
words n kinds.Text text e = absurd cc
words n k text e = refl

-- a kind is an identifier, a literal, or has a fixed text
abbrev Is : Kind → Type 0
Is k = (k ≡ kinds.Ident) ⊎ (((l : Literal) × (k ≡ literal_kind l)) ⊎ ((text : List ℕ) × (text_of k ≡ Some text)))

pub every : (k : Kind) → Is k
every kinds.Ident = inl refl
every kinds.Integer = inr (inl (literals.Integer, refl))
every kinds.Real = inr (inl (literals.Real, refl))
every kinds.Text = inr (inl (literals.Text, refl))
every k = inr (inr (_, refl))
