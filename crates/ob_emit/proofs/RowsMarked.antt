-- Stored indices among declarations: one more, and the two around a token.
use Rattle.std.proofs.Common.{◌≡◌, ℕ, ◌+◌, ◌*◌, ◌≤◌, ◌<◌, inl, inr, List, [], ◌∷◌, ◌++◌, length, Some, sym, subst, arith}
use Rattle.std.specs.Prelude.{slice_get, slice_index}
use Rattle.std.proofs.Math.Seq.{get_or-append_seam}
use Rattle.std.proofs.lemmas.Bool.{cases_lt}
use Rattle.std.proofs.lemmas.List.{get_or_append_left, length-append}
use Rattle.std.proofs.lemmas.Option.{get_or_from_slice_get, slice_get_within}
use Rattle.module_table.specs.declared.rows.Declared.{Declared}
use Rattle.ob_emit.specs.Boundaries.{AreBefore, AreAfter, AreBoundaries, IsBoundary}

pub cuts_more : (declared : List Declared) (firsts : List ℕ) (place : ℕ) → AreBoundaries declared firsts → IsBoundary declared (length firsts * 16) place → AreBoundaries declared (firsts ++ place ∷ [])
cuts_more declared firsts place boundaries here mark within = elim (cases_lt mark (length firsts)) [
  | inl below ↦ subst (IsBoundary declared (mark * 16)) (sym (get_or_append_left firsts (place ∷ []) 0 mark below)) (boundaries mark below)
  | inr above ↦ (
      let long : length (firsts ++ place ∷ []) ≡ length firsts + 1 = length-append firsts (place ∷ []) in
      let last : mark ≡ length firsts = omega (arith, long, above, within) in
      let at : slice_index (firsts ++ place ∷ []) mark ≡ place = rw last (get_or-append_seam firsts place [] 0) in
      subst (IsBoundary declared (mark * 16)) (sym at) (subst (λ (n : ℕ). IsBoundary declared (n * 16) place) (sym last) here))
]

module _ (declared : List Declared) (firsts : List ℕ) (number mark place : ℕ) (boundaries : AreBoundaries declared firsts) where
  pub low_before : mark * 16 ≤ number → slice_get firsts mark ≡ Some place → AreBefore declared number place
  low_before le at k d lt there =
      let is : slice_index firsts mark ≡ place = get_or_from_slice_get firsts mark place 0 at in
      let cut = subst (IsBoundary declared (mark * 16)) is (boundaries mark (slice_get_within firsts mark place at)) in
      omega (arith, cut.before k d lt there, le)

  pub high_behind : number < mark * 16 → slice_get firsts mark ≡ Some place → AreAfter declared number place
  high_behind lt at k d le there =
      let is : slice_index firsts mark ≡ place = get_or_from_slice_get firsts mark place 0 at in
      let cut = subst (IsBoundary declared (mark * 16)) is (boundaries mark (slice_get_within firsts mark place at)) in
      omega (arith, cut.from k d le there, lt)
