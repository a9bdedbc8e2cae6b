-- The whole text: a result that isn't too deep is the same at each greater depth.
use Rattle.std.proofs.Common.{◌≡◌, ℕ, ◌≤◌, List, Option, Result, Ok, Err, sym, ap, ◌∙◌, inl, inr, refl}
use Rattle.ob_tree.specs.declared.token.Leaf.{Leaf}
use Rattle.ob_tree.specs.TreeEvents.{Events}
use Rattle.ob_grammar.specs.Lookahead.{uncons}
use Rattle.ob_grammar.specs.Combinators.{ReadError, Unexpected, TooDeep, ◌>>=◌, Read}
use Rattle.ob_grammar.specs.ReadModules.{nothing_left, read_all}
use Rattle.ob_grammar.proofs.Deeper.{module_at_extends}

pub never_deep : (r : Result Events ReadError) (x : Leaf × List Leaf) (o : Option (Leaf × List Leaf)) → r ≡ Err (TooDeep x) → r ≡ Err (Unexpected o) → ⊥
never_deep r x o d w = cc

never_too_deep : (r : Result Events ReadError) (x : Leaf × List Leaf) (o : Events) → r ≡ Err (TooDeep x) → r ≡ Ok o → ⊥
never_too_deep r x o d e = cc

-- a token that is wrong at one depth is wrong at each greater depth
pub still_wrong : (d k : ℕ) (ls : List Leaf) (o : Option (Leaf × List Leaf)) → d ≤ k → read_all d ls ≡ Err (Unexpected o) → read_all k ls ≡ Err (Unexpected o)
unfolding read_all
still_wrong d k ls o le e =
    elim (module_at_extends d k le ls) [
      | inl deep ↦ absurd (never_deep (read_all d ls) deep.0 o (rw deep.1 refl) e)
      | inr same ↦ ap (λ (r : Read). r >>= λ a. nothing_left a.0 (uncons a.1)) (sym same) ∙ e
    ]

-- a tree that is read at one depth is read at each greater depth
pub still_ok : (d k : ℕ) (ls : List Leaf) (o : Events) → d ≤ k → read_all d ls ≡ Ok o → read_all k ls ≡ Ok o
unfolding read_all
still_ok d k ls o le e =
    elim (module_at_extends d k le ls) [
      | inl deep ↦ absurd (never_too_deep (read_all d ls) deep.0 o (rw deep.1 refl) e)
      | inr same ↦ ap (λ (r : Read). r >>= λ a. nothing_left a.0 (uncons a.1)) (sym same) ∙ e
    ]
