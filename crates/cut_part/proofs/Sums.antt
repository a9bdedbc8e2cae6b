-- Sums over imports: of one member, of two, over another list, and of flows by ends.
use Rattle.std.proofs.Common.{◌≡◌, ◌≢◌, ℕ, zero, suc, ◌+◌, ◌≤◌, ◌<◌, ◌==◌, cond, List, [], ◌∷◌, length, map, get_or, refl, sym, ap, ◌∙◌, arith, sum_by}
use Rattle.std.proofs.lemmas.List.Sums.{sum_by-cons}
use Rattle.digraph.specs.declared.edge.Edge.{Edge}
use Rattle.cut_net.specs.declared.priced.Priced.{Priced}
use Rattle.cut_net.specs.Cuts.{entering, leaving}
use Rattle.cut_net.specs.Lines.{edge_of}
use Rattle.cut_net.proofs.ListSums.{sum_by-same}
use Rattle.cut_part.specs.CapacityReduction.{ends_of, DependsOnEndsOnly}

-- a term is within the sum
pub sum_one : {X : Type 0} (g : X → ℕ) (xs : List X) (k : ℕ) (d : X) → k < length xs → g (get_or xs k d) ≤ sum_by g xs
sum_one g [] k d h = absurd (omega arith)
sum_one g (x ∷ xs) zero d h = omega (arith, sum_by-cons g x xs)
sum_one g (x ∷ xs) (suc k) d h = let rest = sum_one g xs k d (omega arith) in omega (arith, sum_by-cons g x xs)

-- and so are two
pub sum_two : {X : Type 0} (g : X → ℕ) (xs : List X) (j k : ℕ) (d : X) → j < length xs → k < length xs → j ≢ k → g (get_or xs j d) + g (get_or xs k d) ≤ sum_by g xs
sum_two g [] j k d h l ne = absurd (omega arith)
sum_two g (x ∷ xs) zero zero d h l ne = absurd (ne refl)
sum_two g (x ∷ xs) zero (suc k) d h l ne = let rest = sum_one g xs k d (omega arith) in omega (arith, sum_by-cons g x xs)
sum_two g (x ∷ xs) (suc j) zero d h l ne = let rest = sum_one g xs j d (omega arith) in omega (arith, sum_by-cons g x xs)
sum_two g (x ∷ xs) (suc j) (suc k) d h l ne =
    let rest = sum_two g xs j k d (omega arith) (omega arith) (λ e. ne (ap suc e)) in omega (arith, sum_by-cons g x xs)

pub sum_by-map : {X Y : Type 0} (f : Y → ℕ) (g : X → Y) (xs : List X) → sum_by f (map g xs) ≡ sum_by (λ x. f (g x)) xs
sum_by-map f g [] = refl
sum_by-map f g (x ∷ xs) = let rest = sum_by-map f g xs in omega (arith, sum_by-cons f (g x) (map g xs), sum_by-cons (λ x. f (g x)) x xs)

-- an import of no weight with these ends
bare : Edge → Priced
bare p = record { from = p.from; to = p.to; amount = 0 }

module _ (flow : Priced → ℕ) (by_ends : DependsOnEndsOnly flow) where
  entering_by_ends : (xs : List Priced) (m : ℕ) → entering xs flow m ≡ sum_by (λ p. cond (p.to == m) (flow (bare p)) 0) (ends_of xs)
  unfolding bare
  entering_by_ends xs m =
      sum_by-same _ (λ i. cond (i.to == m) (flow (bare (edge_of i))) 0) xs (λ i c. ap (λ n. cond (i.to == m) n 0) (by_ends i (bare (edge_of i)) refl refl))
      ∙ sym (sum_by-map (λ p. cond (p.to == m) (flow (bare p)) 0) edge_of xs)

  leaving_by_ends : (xs : List Priced) (m : ℕ) → leaving xs flow m ≡ sum_by (λ p. cond (p.from == m) (flow (bare p)) 0) (ends_of xs)
  unfolding bare
  leaving_by_ends xs m =
      sum_by-same _ (λ i. cond (i.from == m) (flow (bare (edge_of i))) 0) xs (λ i c. ap (λ n. cond (i.from == m) n 0) (by_ends i (bare (edge_of i)) refl refl))
      ∙ sym (sum_by-map (λ p. cond (p.from == m) (flow (bare p)) 0) edge_of xs)

  -- inflow and outflow depend only on the ends of the imports
  pub same_entering : (xs ys : List Priced) (m : ℕ) → ends_of xs ≡ ends_of ys → entering xs flow m ≡ entering ys flow m
  same_entering xs ys m e = entering_by_ends xs m ∙ ap (λ (ps : List Edge). sum_by (λ p. cond (p.to == m) (flow (bare p)) 0) ps) e ∙ sym (entering_by_ends ys m)

  pub same_leaving : (xs ys : List Priced) (m : ℕ) → ends_of xs ≡ ends_of ys → leaving xs flow m ≡ leaving ys flow m
  same_leaving xs ys m e = leaving_by_ends xs m ∙ ap (λ (ps : List Edge). sum_by (λ p. cond (p.from == m) (flow (bare p)) 0) ps) e ∙ sym (leaving_by_ends ys m)
