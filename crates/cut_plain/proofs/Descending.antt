-- Paths that are found from their end back, along falling levels: no arc is on them twice.
use Rattle.std.proofs.Common.{◌≡◌, ◌≢◌, ℕ, zero, suc, ◌+◌, ◌≤◌, ◌<◌, Bool, true, false, List, [], ◌∷◌, ◌++◌, get_or, refl, sym, ap, ◌∙◌, reverse, subst, arith, inl, inr}
use Rattle.std.specs.Prelude.{All, AllPairs}
use Rattle.std.proofs.lemmas.List.{length_push, get_or_append_left, reverse-append}
use Rattle.residual_graph.specs.declared.arc.Arc.{Arc}
use Rattle.residual_graph.specs.declared.arc.ResidualArc.{ResidualArc}
use Rattle.residual_graph.specs.Flows.{IsBalanced}
use Rattle.residual_graph.specs.Graphs.{tail, head, IsResidualWalk}
use Rattle.residual_graph.proofs.Walking.{AllPairs-reverse, same_arc}
use Rattle.cut_plain.specs.Levels.{opposite, Climbs, LeadsBack, RaisesOrKeeps}

All-rest : {X : Type 0} (P : X → Type 0) (x : X) (xs : List X) → All P (x ∷ xs) → All P xs
All-rest P x xs all k d h = all (suc k) d (omega arith)

pub All-front : {X : Type 0} (P : X → Type 0) (xs : List X) (x : X) → All P (xs ++ x ∷ []) → All P xs
All-front P xs x all k d h =
    let len = length_push xs x in
    subst P (get_or_append_left xs (x ∷ []) d k h) (all k d (omega arith))

head_of_arc : (arcs : List Arc) (k : ℕ) (forward : Bool) → head arcs (opposite (record { arc = k; forward = forward })) ≡ tail arcs (record { arc = k; forward = forward })
head_of_arc arcs k true = refl
head_of_arc arcs k false = refl

-- the opposite leads to where the residual arc leaves from
pub head_opposite : (arcs : List Arc) (s : ResidualArc) → head arcs (opposite s) ≡ tail arcs s
head_opposite arcs s = head_of_arc arcs s.arc s.forward

module _ (arcs : List Arc) (levels : List ℕ) where
  -- each step ends no higher than the end
  below : (b : ℕ) (path : List ResidualArc) (a : ℕ) → LeadsBack arcs b path a → All (Climbs arcs levels) path → All (λ s. get_or levels (head arcs s) 0 ≤ get_or levels b 0) path
  below b [] a e all k d h = absurd (omega arith)
  below b (s ∷ more) a (e, rest) all zero d h = let here : get_or levels (head arcs s) 0 ≡ get_or levels b 0 = ap (λ v. get_or levels v 0) e in omega arith
  below b (s ∷ more) a (e, rest) all (suc k) d h =
      let up : get_or levels (tail arcs s) 0 < get_or levels (head arcs s) 0 = all 0 s (omega arith) in
      let here : get_or levels (head arcs s) 0 ≡ get_or levels b 0 = ap (λ v. get_or levels v 0) e in
      let on : get_or levels (head arcs (get_or more k d)) 0 ≤ get_or levels (tail arcs s) 0 = below (tail arcs s) more a rest (All-rest (Climbs arcs levels) s more all) k d (omega arith) in
      omega arith

  -- so no arc is on the path twice
  pub once : (b : ℕ) (path : List ResidualArc) (a : ℕ) → LeadsBack arcs b path a → All (Climbs arcs levels) path → AllPairs (λ s t. s.arc ≢ t.arc) path
  once b [] a e all i j d h in_j = absurd (omega arith)
  once b (s ∷ more) a (e, rest) all zero zero d h in_j = absurd (omega arith)
  once b (s ∷ more) a (e, rest) all zero (suc j) d h in_j = λ same.
      let t = get_or more j d in
      let up : get_or levels (tail arcs s) 0 < get_or levels (head arcs s) 0 = all 0 s (omega arith) in
      let up_t : get_or levels (tail arcs t) 0 < get_or levels (head arcs t) 0 = all (suc j) d (omega arith) in
      let on : get_or levels (head arcs t) 0 ≤ get_or levels (tail arcs s) 0 = below (tail arcs s) more a rest (All-rest (Climbs arcs levels) s more all) j d (omega arith) in
      elim (same_arc arcs s t same) [
        | inl heads ↦ let eq : get_or levels (head arcs s) 0 ≡ get_or levels (head arcs t) 0 = ap (λ v. get_or levels v 0) heads in absurd (omega arith)
        | inr turned ↦
            let eq : get_or levels (tail arcs s) 0 ≡ get_or levels (head arcs t) 0 = ap (λ v. get_or levels v 0) turned in
            elim (same_arc arcs t s (sym same)) [
              | inl heads ↦ let again : get_or levels (head arcs t) 0 ≡ get_or levels (head arcs s) 0 = ap (λ v. get_or levels v 0) heads in absurd (omega arith)
              | inr back ↦ let again : get_or levels (tail arcs t) 0 ≡ get_or levels (head arcs s) 0 = ap (λ v. get_or levels v 0) back in absurd (omega arith)
            ]
      ]
  once b (s ∷ more) a (e, rest) all (suc i) zero d h in_j = absurd (omega arith)
  once b (s ∷ more) a (e, rest) all (suc i) (suc j) d h in_j = once (tail arcs s) more a rest (All-rest (Climbs arcs levels) s more all) i j d (omega arith) (omega arith)

  pub once_reversed : (b : ℕ) (path : List ResidualArc) (a : ℕ) → LeadsBack arcs b path a → All (Climbs arcs levels) path → AllPairs (λ s t. s.arc ≢ t.arc) (reverse path)
  once_reversed b path a leads all = AllPairs-reverse path (once b path a leads all)

-- one step more at the beginning of the path, and one less
pub leads_on : (arcs : List Arc) (b : ℕ) (path : List ResidualArc) (at : ℕ) (s : ResidualArc) → LeadsBack arcs b path at → head arcs s ≡ at → LeadsBack arcs b (path ++ s ∷ []) (tail arcs s)
leads_on arcs b [] at s e is = (is ∙ sym e, refl)
leads_on arcs b (t ∷ more) at s (e, rest) is = (e, leads_on arcs (tail arcs t) more at s rest is)

pub leads_off : (arcs : List Arc) (b : ℕ) (path : List ResidualArc) (s : ResidualArc) (at : ℕ) → LeadsBack arcs b (path ++ s ∷ []) at → LeadsBack arcs b path (head arcs s)
leads_off arcs b [] s at (e, rest) = sym e
leads_off arcs b (t ∷ more) s at (e, rest) = (e, leads_off arcs (tail arcs t) more s at rest)

-- from the beginning on it is a path to the end
longer : (arcs : List Arc) (a : ℕ) (path : List ResidualArc) (at : ℕ) (s : ResidualArc) → IsResidualWalk arcs a path at → tail arcs s ≡ at → IsResidualWalk arcs a (path ++ s ∷ []) (head arcs s)
longer arcs a [] at s e is = (is ∙ sym e, refl)
longer arcs a (t ∷ more) at s (e, rest) is = (e, longer arcs (head arcs t) more at s rest is)

pub leads_forth : (arcs : List Arc) (b : ℕ) (path : List ResidualArc) (a : ℕ) → LeadsBack arcs b path a → IsResidualWalk arcs a (reverse path) b
leads_forth arcs b [] a e = sym e
leads_forth arcs b (s ∷ more) a (e, rest) =
    let grown : reverse (s ∷ more) ≡ reverse more ++ s ∷ [] = reverse-append (s ∷ []) more in
    subst (λ v. IsResidualWalk arcs a v b) (sym grown) (subst (IsResidualWalk arcs a (reverse more ++ s ∷ [])) e (longer arcs a (reverse more) (tail arcs s) s (leads_forth arcs (tail arcs s) more a rest) refl))

-- a flow that rises twice
pub raises_more : (xs ys zs : List Arc) (a b : ℕ) → RaisesOrKeeps xs ys a b → RaisesOrKeeps ys zs a b → RaisesOrKeeps xs zs a b
raises_more xs ys zs a b first then = (
  first.0 + then.0,
  λ value f.
      let e : value + first.0 + then.0 ≡ value + (first.0 + then.0) = omega arith in
      subst (IsBalanced zs a b) e (then.1 (value + first.0) (first.1 value f)),
)
