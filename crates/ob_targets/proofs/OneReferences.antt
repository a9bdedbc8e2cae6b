-- The references of a module are one list.
use Rattle.std.proofs.Common.{◌≡◌, ℕ, List, [], ◌∷◌, length, map, refl, sym, ap, ap₂, ◌∙◌, subst}
use Rattle.std.specs.List.{All}
use Rattle.std.proofs.lemmas.List.Elements.{All-head, All-tail}
use Rattle.ob_view.specs.World.{World}
use Rattle.ob_view.specs.declared.target.Reference.{Reference}
use Rattle.ob_targets.specs.Refers.{AreReferences, Refers}
use Rattle.ob_targets.proofs.Referred.{role_once, target_once}

module _ (w : World) where
  abbrev IsOfWorld : Reference → Type 0
  IsOfWorld r = Refers w r.number r.target r.role

  same_reference : (r s : Reference) → r.number ≡ s.number → IsOfWorld r → IsOfWorld s → r ≡ s
  same_reference r s number a b =
      let other : Refers w r.number s.target s.role = subst (λ (k : ℕ). Refers w k s.target s.role) (sym number) b in
      λ i. record {
        number = number i;
        target = target_once w r.number r.target s.target r.role s.role a other i;
        role = role_once w r.number r.target s.target r.role s.role a other i;
      }

  same_references : (rs ss : List Reference) → map (λ (r : Reference). r.number) rs ≡ map (λ (r : Reference). r.number) ss → All IsOfWorld rs → All IsOfWorld ss → rs ≡ ss
  same_references [] [] numbers a b = refl
  same_references [] (s ∷ ss) numbers a b = absurd (let long = ap length numbers in cc)
  same_references (r ∷ rs) [] numbers a b = absurd (let long = ap length numbers in cc)
  same_references (r ∷ rs) (s ∷ ss) numbers a b =
      let first : r.number ≡ s.number = cc in
      let rest : map (λ (x : Reference). x.number) rs ≡ map (λ (x : Reference). x.number) ss = cc in
      ap₂ (λ (x : Reference) (xs : List Reference). x ∷ xs)
      (same_reference r s first (All-head IsOfWorld r rs a) (All-head IsOfWorld s ss b))
      (same_references rs ss rest (All-tail IsOfWorld r rs a) (All-tail IsOfWorld s ss b))

  pub references_are_unique : (rs ss : List Reference) → AreReferences w rs → AreReferences w ss → rs ≡ ss
  references_are_unique rs ss a b = same_references rs ss (a.numbers ∙ sym b.numbers) a.each b.each
