-- Patterns that are cut at their first star.
use Rattle.std.proofs.Common.{◌≡◌, ℕ, ◌+◌, Bool, true, false, eqb, not, List, [], ◌∷◌, ◌++◌, length, drop, Option, Some, None, refl, sym, ap, ◌∙◌, subst, append-nil, inl, inr}
use Rattle.std.specs.Prelude.{◌↔◌, option_map}
use Rattle.std.specs.List.{slice_split}
use Rattle.std.proofs.lemmas.Bool.{cases_Bool, eqb-true}
use Rattle.std.proofs.lemmas.List.Splits.{length-slice_split, slice_split-cons_no, slice_split-cons_yes}
use Rattle.std.specs.List.{count_by}
use Rattle.texts.specs.Fields.{split_at_first, with_first}
use Rattle.texts.proofs.FieldCuts.{some_is, with_some}
use Rattle.std.proofs.Math.Seq.{drop-append_seam}
use Rattle.std.specs.Bool.{IsTrue}
use Rattle.glob.proofs.PiecesAfterStar.{length_zero, some_piece}
use Rattle.glob.specs.Globs.{is_star, pieces_of, Fits, FitsRest, EndsWithPieces, Interleaves, Matches}
use Rattle.glob.specs.declared.pattern.PiecesAfterStar.{PiecesAfterStar}
use Rattle.glob.specs.declared.pattern.Glob.{Glob}

-- the pieces, with a byte prepended to the first one
abbrev longer_first : ℕ → List (List ℕ) → List (List ℕ)
longer_first b [] = (b ∷ []) ∷ []
longer_first b (p ∷ ps) = (b ∷ p) ∷ ps

no_star : (pattern : List ℕ) → split_at_first 42 pattern ≡ None → slice_split is_star pattern ≡ pattern ∷ []
unfolding split_at_first
no_star [] e = refl
no_star (b ∷ bytes) e = elim (cases_Bool (eqb b 42)) [
  | inl star ↦ (let at : Some ([], bytes) ≡ None = rw star at e in absurd cc)
  | inr other ↦
      (let at : option_map (with_first b) (split_at_first 42 bytes) ≡ None = rw other at e in
      slice_split-cons_no is_star b bytes other ∙ ap (λ (z : List (List ℕ)). longer_first b z) (no_star bytes (none_of b (split_at_first 42 bytes) at)))
]
  where
    none_of : (b : ℕ) (o : Option (List ℕ × List ℕ)) → option_map (with_first b) o ≡ None → o ≡ None
    none_of b None e = refl
    none_of b (Some x) e = absurd cc

first_star : (pattern : List ℕ) (x : List ℕ × List ℕ) → split_at_first 42 pattern ≡ Some x → slice_split is_star pattern ≡ x.0 ∷ slice_split is_star x.1
unfolding split_at_first
first_star [] x e = absurd cc
first_star (b ∷ bytes) x e = elim (cases_Bool (eqb b 42)) [
  | inl star ↦
      (let at : Some ([], bytes) ≡ Some x = rw star at e in
      let pair : ([], bytes) ≡ x = some_is _ _ at in
      slice_split-cons_yes is_star b bytes star ∙ ap (λ (y : List ℕ × List ℕ). y.0 ∷ slice_split is_star y.1) pair)
  | inr other ↦
      (let at : option_map (with_first b) (split_at_first 42 bytes) ≡ Some x = rw other at e in
      let p = with_some b (split_at_first 42 bytes) x at in
      slice_split-cons_no is_star b bytes other ∙ ap (λ (z : List (List ℕ)). longer_first b z) (first_star bytes p.0 p.1) ∙ ap (λ (y : List ℕ × List ℕ). y.0 ∷ slice_split is_star y.1) p.2)
]

-- a pattern without a star matches only itself
pub fits_literal : (pattern : List ℕ) (glob : Glob) → split_at_first 42 pattern ≡ None → glob.first.now ≡ pattern → glob.after_star ≡ None → (name : List ℕ) → Matches pattern name ↔ Fits glob name
fits_literal pattern glob cut first after_star name =
    let pieces = no_star pattern cut in
    let to : name ≡ pattern → Fits glob name =
    λ e. ([], e ∙ sym first ∙ sym (append-nil glob.first.now), subst (λ (o : Option PiecesAfterStar). FitsRest o []) (sym after_star) refl) in
    let from : Fits glob name → name ≡ pattern =
    λ (rest, e, f). (let none : rest ≡ [] = subst (λ (o : Option PiecesAfterStar). FitsRest o rest) after_star f in e ∙ ap (λ (z : List ℕ). glob.first.now ++ z) none ∙ append-nil glob.first.now ∙ first) in
    subst (λ (z : List (List ℕ)). Interleaves z name ↔ Fits glob name) (sym pieces) (to, from)

-- a pattern with a star matches what begins with its first piece and has the other pieces after it
pub fits_pieces : (pattern : List ℕ) (x : List ℕ × List ℕ) (glob : Glob) (after_star : PiecesAfterStar) → split_at_first 42 pattern ≡ Some x → glob.first.now ≡ x.0 → glob.after_star ≡ Some after_star →
    ((text : List ℕ) → EndsWithPieces (slice_split is_star x.1) text ↔ EndsWithPieces (pieces_of after_star) text) → (name : List ℕ) → Matches pattern name ↔ Fits glob name
fits_pieces pattern x glob after_star cut first is same name =
    let (q, qs, e) = some_piece (slice_split is_star x.1) (count_by is_star x.1) (length-slice_split is_star x.1) in
    let pieces : slice_split is_star pattern ≡ x.0 ∷ q ∷ qs = first_star pattern x cut ∙ ap (λ (z : List (List ℕ)). x.0 ∷ z) e in
    let to : Interleaves (x.0 ∷ q ∷ qs) name → Fits glob name =
    λ (between, rest, f, i). (
      between ++ rest,
      f ∙ ap (λ (z : List ℕ). z ++ (between ++ rest)) (sym first),
      subst (λ (o : Option PiecesAfterStar). FitsRest o (between ++ rest)) (sym is) ((same (between ++ rest)).0 (subst (λ (z : List (List ℕ)). EndsWithPieces z (between ++ rest)) (sym e) (between, rest, refl, i))),
    ) in
    let from : Fits glob name → Interleaves (x.0 ∷ q ∷ qs) name =
    λ (rest, f, fits). (let (between, more, g, i) = subst (λ (z : List (List ℕ)). EndsWithPieces z rest) e ((same rest).1 (subst (λ (o : Option PiecesAfterStar). FitsRest o rest) is fits)) in
    (between, more, f ∙ ap (λ (z : List ℕ). z ++ rest) first ∙ ap (λ (z : List ℕ). x.0 ++ z) g, i)) in
    subst (λ (z : List (List ℕ)). Interleaves z name ↔ Fits glob name) (sym pieces) (to, from)

-- ---- whether a name fits

-- what follows the first piece
after_first : (first name rest other : List ℕ) → name ≡ first ++ rest → name ≡ first ++ other → other ≡ rest
after_first first name rest other e f =
    sym (drop-append_seam first other) ∙ ap (λ (z : List ℕ). drop (length first) z) (sym f ∙ e) ∙ drop-append_seam first rest

pub with_none : (glob : Glob) (name rest : List ℕ) (r : Bool) → name ≡ glob.first.now ++ rest → glob.after_star ≡ None → r ≡ eqb (length rest) 0 → (IsTrue r → Fits glob name) × (Fits glob name → IsTrue r)
with_none glob name rest r e is empty = (
  λ t. (rest, e, subst (λ (o : Option PiecesAfterStar). FitsRest o rest) (sym is) (length_zero rest (eqb-true (length rest) 0 (sym empty ∙ t)))),
  λ (other, f, fits).
      (let none : other ≡ [] = subst (λ (o : Option PiecesAfterStar). FitsRest o other) is fits in
      let same : rest ≡ [] = sym (after_first glob.first.now name rest other e f) ∙ none in
      empty ∙ ap (λ (z : List ℕ). eqb (length z) 0) same),
)

pub with_some_pieces : (glob : Glob) (name rest : List ℕ) (after_star : PiecesAfterStar) (r : Bool) → name ≡ glob.first.now ++ rest → glob.after_star ≡ Some after_star →
    (IsTrue r → EndsWithPieces (pieces_of after_star) rest) × (EndsWithPieces (pieces_of after_star) rest → IsTrue r) → (IsTrue r → Fits glob name) × (Fits glob name → IsTrue r)
with_some_pieces glob name rest after_star r e is same = (
  λ t. (rest, e, subst (λ (o : Option PiecesAfterStar). FitsRest o rest) (sym is) (same.0 t)),
  λ (other, f, fits).
      same.1 (subst (λ (z : List ℕ). EndsWithPieces (pieces_of after_star) z) (after_first glob.first.now name rest other e f) (subst (λ (o : Option PiecesAfterStar). FitsRest o other) is fits)),
)
