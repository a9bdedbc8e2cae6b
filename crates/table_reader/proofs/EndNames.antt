-- The names after END of a table, compared one by one.
use Rattle.std.proofs.Common.{ℕ, ◌+◌, ◌<◌, ◌≤◌, false, List, None, length, get_or, map, take, sym, subst, arith}
use Rattle.std.specs.List.{All}
use Rattle.std.proofs.lemmas.List.{get_or-map, length-map}
use Rattle.ob_scan.specs.declared.token.Token.{Token}
use Rattle.module_table.specs.declared.rows.End.{End}
use Rattle.table_rules.specs.Naming.{ending_of}
use Rattle.ob_grammar.specs.Ends.{AreTokenNumbers, IsEnd}
use Rattle.ob_grammar.specs.Parsed.{IsFirstWrong, IsRightEnd}
use Rattle.ob_grammar.proofs.RightEnds.{all_right, first_wrong, right_more}

-- an entry after the end of the list
abbrev pub any_end : End
any_end = record { number = 0; of = None }

module _ (ts : List Token) (es : List End) where
  pub known_at : (i : ℕ) (d : End) → i < length es → All (AreTokenNumbers ts) (map ending_of es) → AreTokenNumbers ts (ending_of (get_or es i d))
  known_at i d within all = subst (AreTokenNumbers ts) (get_or-map ending_of es i d (ending_of d) within) (all i (ending_of d) (omega (arith, within, length-map es ending_of)))

  -- one more right name
  pub right_row : (bytes : List ℕ) (i : ℕ) (d : End) → i < length es → All (IsRightEnd bytes ts) (take i (map ending_of es)) → IsRightEnd bytes ts (ending_of (get_or es i d)) →
      All (IsRightEnd bytes ts) (take (i + 1) (map ending_of es))
  right_row bytes i d within all one =
      right_more bytes ts (map ending_of es) i (ending_of d) (omega (arith, within, length-map es ending_of)) all
      (subst (IsRightEnd bytes ts) (sym (get_or-map ending_of es i d (ending_of d) within)) one)

  pub right_rows : (bytes : List ℕ) (i : ℕ) → length es ≤ i → All (IsRightEnd bytes ts) (take i (map ending_of es)) → All (IsRightEnd bytes ts) (map ending_of es)
  right_rows bytes i following all = all_right bytes ts (map ending_of es) i (omega (arith, following, length-map es ending_of)) all

  -- the first wrong name
  pub wrong_row : (bytes : List ℕ) (i : ℕ) (d : End) (t : Token) → i < length es → All (IsRightEnd bytes ts) (take i (map ending_of es)) → AreTokenNumbers ts (ending_of (get_or es i d)) →
      IsEnd bytes ts false (ending_of (get_or es i d)) → IsFirstWrong bytes ts (map ending_of es) (get_or ts (get_or es i d).number t).start
  wrong_row bytes i d t within all in_range wrong =
      let here = get_or-map ending_of es i d (ending_of d) within in
      subst (λ (p : ℕ × ℕ). IsFirstWrong bytes ts (map ending_of es) (get_or ts p.1 t).start) here
      (first_wrong bytes ts (map ending_of es) i (ending_of d) t (omega (arith, within, length-map es ending_of)) all
      (subst (AreTokenNumbers ts) (sym here) in_range).1 (subst (IsEnd bytes ts false) (sym here) wrong))
