-- The byte after a name.
use Rattle.std.proofs.Common.{◌≡◌, ℕ, ◌<◌, ◌≤◌, List, [], ◌∷◌, Some, None, refl, sym, subst, ◌∙◌, arith, inl, inr}
use Rattle.std.specs.List.{slice_get}
use Rattle.std.specs.Str.{IsUtf8, IsCharBoundary}
use Rattle.std.proofs.lemmas.Bool.{cases_lt, ne_eqb}
use Rattle.std.proofs.lemmas.Option.{none-some, same_Some}
use Rattle.std.proofs.lemmas.Str.{IsCharBoundary-after_ascii}
use Rattle.scip_symbol.specs.declared.kind.DescriptorKind.{DescriptorKind}
use Rattle.scip_symbol.specs.Reading.{kind_of_suffix}

none_told : (b : ℕ) → 128 ≤ b → kind_of_suffix b ≡ None
none_told b h = rw (ne_eqb b 47 (omega arith), ne_eqb b 35 (omega arith), ne_eqb b 46 (omega arith), ne_eqb b 58 (omega arith), ne_eqb b 33 (omega arith)) refl

told_ascii : (b : ℕ) (kind : DescriptorKind) → kind_of_suffix b ≡ Some kind → b < 128
told_ascii b kind e =
    elim (cases_lt b 128) [
      | inl lt ↦ lt
      | inr le ↦ absurd (none-some kind (sym (none_told b le) ∙ e))
    ]

-- the string may be split after this byte
pub told_boundary : (text : List ℕ) (b : ℕ) (kind : DescriptorKind) → IsUtf8 text → Some b ≡ slice_get text 0 → kind_of_suffix b ≡ Some kind → IsCharBoundary text 1
told_boundary [] b kind u e k = absurd (none-some b (sym e))
told_boundary (x ∷ text) b kind u e k =
    let same : b ≡ x = same_Some b x e in
    let lt : b < 128 = told_ascii b kind k in
    IsCharBoundary-after_ascii (x ∷ text) 0 u (omega arith) (subst (λ (n : ℕ). n < 128) same lt)
