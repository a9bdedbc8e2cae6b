-- The positions that all kinds of entries set.
use Rattle.std.proofs.Common.{◌≡◌, ℕ, ◌<◌, ◌≤◌, ◌==◌, inl, inr, List, length, set, true, false, Some, cond, sym, ap, ◌∙◌, arith, eq-eqb}
use Rattle.std.specs.Prelude.{slice_get}
use Rattle.std.proofs.lemmas.Bool.{cases_eq}
use Rattle.std.proofs.lemmas.Option.{slice_get_within}
use Rattle.module_table.specs.Parts.{Rows}
use Rattle.module_table.specs.Tables.{module_name_token}
use Rattle.ob_targets.specs.declared.syntax_position.SyntaxPosition.{SyntaxPosition}
use Rattle.ob_targets.specs.declared.syntax_position.SyntaxPosition.TheVariants as syntax_positions
use Rattle.ob_targets.specs.SyntaxPosition.{first, is_alias, is_imported_name, is_declared, is_end_name, is_use, is_selected, is_second, syntax_position_or}
use Rattle.ob_resolve.specs.Positions.{ArePositionsSet}
use Rattle.ob_resolve.proofs.Marks.{not_same, slice_get-set_same, slice_get-set_other}

-- the syntactic position of a token, but for the module's own name
abbrev pub elsewhere : Rows → ℕ → SyntaxPosition → SyntaxPosition
elsewhere rows k s =
    first (is_alias k) syntax_positions.Item rows.imports (
    first (is_imported_name k) syntax_positions.Item rows.imports (
    first (is_declared k) syntax_positions.Declaration rows.declared (
    first (is_end_name k) syntax_positions.End rows.ends (
    first (is_use k) syntax_positions.Use rows.uses (
    first (is_selected k) syntax_positions.Selected rows.selectors (
    first (is_second k) syntax_positions.QualidentMember rows.uses s))))))

pub AreLaid : Rows → List SyntaxPosition → List SyntaxPosition → Type 0
AreLaid rows old new = (k : ℕ) (s : SyntaxPosition) → slice_get old k ≡ Some s → slice_get new k ≡ Some (elsewhere rows k s)

pub all_laid : (rows : Rows) (a b c d e f g h : List SyntaxPosition) → ArePositionsSet is_second syntax_positions.QualidentMember rows.uses a b → ArePositionsSet is_selected syntax_positions.Selected rows.selectors b c →
    ArePositionsSet is_use syntax_positions.Use rows.uses c d → ArePositionsSet is_end_name syntax_positions.End rows.ends d e → ArePositionsSet is_declared syntax_positions.Declaration rows.declared e f →
    ArePositionsSet is_imported_name syntax_positions.Item rows.imports f g → ArePositionsSet is_alias syntax_positions.Item rows.imports g h → AreLaid rows a h
unfolding AreLaid
all_laid rows a b c d e f g h second selected used end declared imported alias k s is =
    alias k _ (imported k _ (declared k _ (end k _ (used k _ (selected k _ (second k s is))))))

module _ (rows : Rows) (old new : List SyntaxPosition) where
  -- the module's own name has priority over all entries
  pub own_laid : 1 < length new → AreLaid rows old new → (k : ℕ) (s : SyntaxPosition) → slice_get old k ≡ Some s → slice_get (set new 1 syntax_positions.OwnName) k ≡ Some (syntax_position_or rows k s)
  unfolding AreLaid
  own_laid room laid k s is = elim (cases_eq k module_name_token) [
    | inl same ↦ (let test : k == module_name_token ≡ true = eq-eqb k module_name_token same in rw same (slice_get-set_same new 1 syntax_positions.OwnName room) ∙ ap (λ b. Some (cond b syntax_positions.OwnName (elsewhere rows k s))) (sym test))
    | inr other ↦ (let test : k == module_name_token ≡ false = not_same k module_name_token other in
        slice_get-set_other new 1 k syntax_positions.OwnName other ∙ laid k s is ∙ ap (λ b. Some (cond b syntax_positions.OwnName (elsewhere rows k s))) (sym test))
  ]

  pub own_left : length old ≤ 1 → AreLaid rows old new → (k : ℕ) (s : SyntaxPosition) → slice_get old k ≡ Some s → slice_get new k ≡ Some (syntax_position_or rows k s)
  unfolding AreLaid
  own_left few laid k s is =
      let within : k < length old = slice_get_within old k s is in
      let test : k == module_name_token ≡ false = not_same k module_name_token (omega arith) in
      laid k s is ∙ ap (λ b. Some (cond b syntax_positions.OwnName (elsewhere rows k s))) (sym test)
