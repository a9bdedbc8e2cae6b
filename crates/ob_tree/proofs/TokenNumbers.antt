-- The numbers of a tree's tokens.
use Rattle.std.proofs.Common.{◌≡◌, ℕ, ◌+◌, List, [], ◌∷◌, length, refl, sym, ap, ◌∙◌}
use Rattle.std.specs.List.{range_with_len}
use Rattle.ob_scan.specs.declared.kind.Kind.{Kind}
use Rattle.ob_scan.specs.declared.kind.Kind.TheVariants as kinds
use Rattle.ob_tree.specs.declared.declaration.Module.{Module}
use Rattle.ob_tree.specs.declared.token.Leaf.{Leaf}
use Rattle.ob_tree.specs.declared.token.Leaf.TheVariants as leafs
use Rattle.ob_tree.specs.Declaring.{module_events}
use Rattle.ob_tree.specs.Leaves.{leaf_of, leaves_from}
use Rattle.ob_tree.specs.TreeEvents.{Events, Begins, Ends, Identifier, Value, Word, tokens_of}
use Rattle.ob_tree.specs.Derives.{Derives, numbers_from, yields}

-- the number of a leaf with this index
abbrev leaf_at : ℕ → Leaf → ℕ
leaf_at at (leafs.Name n) = n
leaf_at at (leafs.Value k n) = n
leaf_at at (leafs.Word k) = at

abbrev leaves_at : ℕ → List Leaf → List ℕ
leaves_at at [] = []
leaves_at at (l ∷ ls) = leaf_at at l ∷ leaves_at (at + 1) ls

event_numbers : (at : ℕ) (ms : Events) → numbers_from at ms ≡ leaves_at at (tokens_of ms)
event_numbers at [] = refl
event_numbers at (Begins c n ∷ ms) = event_numbers at ms
event_numbers at (Ends c ∷ ms) = event_numbers at ms
event_numbers at (Identifier r n ∷ ms) = ap (λ (ns : List ℕ). n ∷ ns) (event_numbers (at + 1) ms)
event_numbers at (Value k n ∷ ms) = ap (λ (ns : List ℕ). n ∷ ns) (event_numbers (at + 1) ms)
event_numbers at (Word k ∷ ms) = ap (λ (ns : List ℕ). at ∷ ns) (event_numbers (at + 1) ms)

leaf_number : (at : ℕ) (k : Kind) → leaf_at at (leaf_of at k) ≡ at
leaf_number at kinds.Ident = refl
leaf_number at kinds.Integer = refl
leaf_number at kinds.Real = refl
leaf_number at kinds.Text = refl
leaf_number at k = refl

leaf_numbers : (at : ℕ) (ks : List Kind) → leaves_at at (leaves_from at ks) ≡ range_with_len at (length ks)
leaf_numbers at [] = refl
leaf_numbers at (k ∷ ks) = rw (leaf_number at k) (ap (λ (ns : List ℕ). at ∷ ns) (leaf_numbers (at + 1) ks))

pub each_token_occurs_once : (ks : List Kind) (m : Module) → Derives ks m → yields m ≡ range_with_len 0 (length ks)
each_token_occurs_once ks m e = event_numbers 0 (module_events m) ∙ ap (λ (ls : List Leaf). leaves_at 0 ls) (sym e) ∙ leaf_numbers 0 ks
