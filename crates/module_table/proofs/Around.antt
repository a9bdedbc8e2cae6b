-- Blocks around blocks.
use Rattle.std.proofs.Common.{◌≡◌, ℕ, ◌<◌, ◌≤◌, ◌⊎◌, inl, inr, List, Some, sym, ap, ◌∙◌, subst, arith, ⊎_elim}
use Rattle.std.specs.Prelude.{slice_get, Contains}
use Rattle.std.proofs.lemmas.Bool.{cases_lt}
use Rattle.std.proofs.lemmas.Option.{slice_get-get_or}
use Rattle.module_table.specs.declared.rows.Block.{Block}
use Rattle.module_table.specs.Blocks.{Encloses, IsDirectlyIn, itself, further}
use Rattle.module_table.specs.Order.{IsIncreasingBy}

module _ {X : Type 0} where
  place_in : (xs : List X) (x : X) → Contains xs x → (k : ℕ) × (slice_get xs k ≡ Some x)
  place_in xs x h = (h.0, slice_get-get_or xs h.0 x h.1 ∙ ap Some h.2)

  same_there : (xs : List X) (i j : ℕ) (x y : X) → i ≡ j → slice_get xs i ≡ Some x → slice_get xs j ≡ Some y → x ≡ y
  same_there xs i j x y e p q = let f : Some x ≡ Some y = sym p ∙ ap (slice_get xs) e ∙ q in cc

  -- if the keys are strictly increasing, elements with equal keys are equal
  pub ascend_one : (n : X → ℕ) (xs : List X) (x y : X) → IsIncreasingBy n xs → Contains xs x → Contains xs y → n x ≡ n y → x ≡ y
  ascend_one n xs x y a p q e =
      let i = place_in xs x p in
      let j = place_in xs y q in
      ⊎_elim
      (λ (below : i.0 < j.0). absurd (let l : n x < n y = a i.0 j.0 x y below i.1 j.1 in omega arith))
      (λ (above : j.0 ≤ i.0).
      ⊎_elim
      (λ (below : j.0 < i.0). absurd (let l : n y < n x = a j.0 i.0 y x below j.1 i.1 in omega arith))
      (λ (other : i.0 ≤ j.0). same_there xs i.0 j.0 x y (omega arith) i.1 j.1)
      (cases_lt j.0 i.0))
      (cases_lt i.0 j.0)

module _ (blocks : List Block) where
  -- a block around another begins no later
  pub around-le : (o b : ℕ) → Encloses blocks o b → o ≤ b
  around-le o b (itself e) = omega (arith, e)
  around-le o b (further c d a) = let h : o ≤ c = around-le o c a in let l : c < b = d.behind in omega arith

  -- blocks around each other are one
  pub around-both : (o b : ℕ) → Encloses blocks o b → Encloses blocks b o → o ≡ b
  around-both o b a c = let h : o ≤ b = around-le o b a in let k : b ≤ o = around-le b o c in omega arith

  pub around_all : (a b c : ℕ) → Encloses blocks a b → Encloses blocks b c → Encloses blocks a c
  around_all a b c f (itself e) = subst (Encloses blocks a) e f
  around_all a b c f (further d dir rest) = further d dir (around_all a b d f rest)

  -- a block is directly nested in at most one block
  pub one_outer : IsIncreasingBy (λ (b : Block). b.first) blocks → (b c d : ℕ) → IsDirectlyIn blocks b c → IsDirectlyIn blocks b d → c ≡ d
  one_outer up b c d p q =
      sym p.outer ∙ ap (λ (r : Block). r.outer) (ascend_one (λ (r : Block). r.first) blocks p.row q.row up p.is_row q.is_row (p.first ∙ sym q.first)) ∙ q.outer

  -- a block that encloses a block is that block or encloses the directly enclosing one
  pub around_inner : IsIncreasingBy (λ (b : Block). b.first) blocks → (b k o : ℕ) → IsDirectlyIn blocks k o → Encloses blocks b k → (b ≡ k) ⊎ Encloses blocks b o
  around_inner up b k o dir (itself e) = inl e
  around_inner up b k o dir (further c d a) = inr (subst (Encloses blocks b) (one_outer up k c o d dir) a)
