-- Expressions from their first factor on.
use Rattle.std.proofs.Common.{◌≡◌, ℕ, false, List, ◌++◌, Option, Some, None, Ok, Err, refl}
use Rattle.std.specs.Prelude.{Result}
use Rattle.ob_scan.specs.declared.token.Token.{Token}
use Rattle.ob_scan.specs.declared.kind.Kind.TheVariants as kinds
use Rattle.ob_tree.specs.declared.token.Leaf.{Leaf}
use Rattle.ob_tree.specs.declared.token.Leaf.TheVariants as leafs
use Rattle.ob_tree.specs.declared.expression.AddOperator.{AddOperator}
use Rattle.ob_tree.specs.declared.expression.MulOperator.{MulOperator}
use Rattle.ob_tree.specs.declared.expression.Term.{Term}
use Rattle.ob_tree.specs.declared.expression.Factor.{Factor}
use Rattle.ob_tree.specs.TreeEvents.{word}
use Rattle.ob_tree.specs.Expressions.{add_kind, mul_kind, expr_events, term_events, factor_events}
use Rattle.module_table.specs.declared.builder.Context.{Context}
use Rattle.module_table.specs.declared.builder.TableBuilder.{TableBuilder}
use Rattle.module_table.specs.TableStages.{after}
use Rattle.module_table.specs.Parts.{token, both}
use Rattle.table_rules.specs.Expressions.{expr_rows, term_rows, factor_rows}
use Rattle.module_table.proofs.Steps.{after_nothing}
use Rattle.ob_grammar.specs.declared.cursor.Cursor.{Cursor}
use Rattle.ob_grammar.specs.declared.stop.Stop.{Stop}
use Rattle.ob_grammar.specs.Lookahead.{uncons, head_is}
use Rattle.ob_grammar.specs.Combinators.{many, optional, nothing}
use Rattle.ob_grammar.specs.ParsesAs.{remaining, Fails}
use Rattle.ob_grammar.specs.ReadExpressions.{after_mul, after_add, after_relation, mul_at, add_at, relation_at, mul_start, add_start, relation_start, sign_start, expr_with, sum_at, term_at, factor_at}
use Rattle.ob_grammar.proofs.Loops.{mul_advances, add_advances}
use Rattle.ob_grammar.proofs.SoundExpressions.{factor_at_sound, term_at_sound}
use Rattle.table_reader.specs.Operators.{operator_first}
use Rattle.table_reader.specs.Shapes.{compared_events, compared_rows, sign_events, sign_rows, terms_events, terms_rows, factors_events, factors_rows}
use Rattle.table_reader.specs.Tabulating.{AppendsEntries}
use Rattle.table_reader.proofs.Combine.{told_absent}
use Rattle.table_reader.proofs.Lists.{pieces_begun, pieces_done}
use Rattle.table_reader.proofs.ExpressionTrees.{expr_told, expr_failed, sum_told, sum_failed, term_told, term_failed}

---- no operator is next

no_mul : (o : Option (Leaf × List Leaf)) → head_is operator_first o ≡ false → after_mul o ≡ None
no_mul None e = refl
no_mul (Some (leafs.Name n, ls)) e = refl
no_mul (Some (leafs.Value k n, ls)) e = refl
no_mul (Some (leafs.Word kinds.Star, ls)) e = absurd cc
no_mul (Some (leafs.Word kinds.Slash, ls)) e = absurd cc
no_mul (Some (leafs.Word kinds.Div, ls)) e = absurd cc
no_mul (Some (leafs.Word kinds.Mod, ls)) e = absurd cc
no_mul (Some (leafs.Word kinds.Ampersand, ls)) e = absurd cc
no_mul (Some (leafs.Word k, ls)) e = refl

no_add : (o : Option (Leaf × List Leaf)) → head_is operator_first o ≡ false → after_add o ≡ None
no_add None e = refl
no_add (Some (leafs.Name n, ls)) e = refl
no_add (Some (leafs.Value k n, ls)) e = refl
no_add (Some (leafs.Word kinds.Plus, ls)) e = absurd cc
no_add (Some (leafs.Word kinds.Minus, ls)) e = absurd cc
no_add (Some (leafs.Word kinds.Or, ls)) e = absurd cc
no_add (Some (leafs.Word k, ls)) e = refl

no_relation : (o : Option (Leaf × List Leaf)) → head_is operator_first o ≡ false → after_relation o ≡ None
no_relation None e = refl
no_relation (Some (leafs.Name n, ls)) e = refl
no_relation (Some (leafs.Value k n, ls)) e = refl
no_relation (Some (leafs.Word kinds.Equals, ls)) e = absurd cc
no_relation (Some (leafs.Word kinds.Hash, ls)) e = absurd cc
no_relation (Some (leafs.Word kinds.Less, ls)) e = absurd cc
no_relation (Some (leafs.Word kinds.LessEquals, ls)) e = absurd cc
no_relation (Some (leafs.Word kinds.Greater, ls)) e = absurd cc
no_relation (Some (leafs.Word kinds.GreaterEquals, ls)) e = absurd cc
no_relation (Some (leafs.Word kinds.In, ls)) e = absurd cc
no_relation (Some (leafs.Word kinds.Is, ls)) e = absurd cc
no_relation (Some (leafs.Word k, ls)) e = refl

no_mul_start : (ls : List Leaf) → head_is operator_first (uncons ls) ≡ false → mul_start ls ≡ None
unfolding mul_at
no_mul_start ls e = rw (no_mul (uncons ls) e) refl

no_add_start : (ls : List Leaf) → head_is operator_first (uncons ls) ≡ false → add_start ls ≡ None
unfolding add_at
no_add_start ls e = rw (no_add (uncons ls) e) refl

no_relation_start : (ls : List Leaf) → head_is operator_first (uncons ls) ≡ false → relation_start ls ≡ None
unfolding relation_at
no_relation_start ls e = rw (no_relation (uncons ls) e) refl

-- ---- the parts after a factor

module _ (ts : List Token) (c : Context) (d : ℕ) where
  factors_none : (x : TableBuilder) (here : Cursor) → mul_start (remaining ts here) ≡ None → AppendsEntries ts factors_events factors_rows c x x (Ok here) (many mul_start (factor_at d) (remaining ts here))
  factors_none x here none =
      pieces_done {X = MulOperator × Factor} ts mul_start (factor_at d) (λ p. word (mul_kind p.0) ++ factor_events p.1) (λ p. both token (factor_rows p.1)) c (mul_advances d _ (factor_at_sound d)) x x here here none
      (pieces_begun {X = MulOperator × Factor} ts mul_start (factor_at d) (λ p. word (mul_kind p.0) ++ factor_events p.1) (λ p. both token (factor_rows p.1)) c x here)

  terms_none : (x : TableBuilder) (here : Cursor) → add_start (remaining ts here) ≡ None → AppendsEntries ts terms_events terms_rows c x x (Ok here) (many add_start (term_at d) (remaining ts here))
  terms_none x here none =
      pieces_done {X = AddOperator × Term} ts add_start (term_at d) (λ p. word (add_kind p.0) ++ term_events p.1) (λ p. both token (term_rows p.1)) c (add_advances d _ (term_at_sound d)) x x here here none
      (pieces_begun {X = AddOperator × Term} ts add_start (term_at d) (λ p. word (add_kind p.0) ++ term_events p.1) (λ p. both token (term_rows p.1)) c x here)

  -- one factor, with no operator after it
  pub lone_factor_told : (old first new : TableBuilder) (input following here : Cursor) →
      AppendsEntries ts sign_events sign_rows c old first (Ok following) (optional sign_start nothing (remaining ts input)) →
      AppendsEntries ts factor_events factor_rows c first new (Ok here) (factor_at d (remaining ts following)) →
      head_is operator_first (uncons (remaining ts here)) ≡ false →
      AppendsEntries ts expr_events expr_rows c old new (Ok here) (expr_with (sum_at d) (remaining ts input))
  lone_factor_told old first new input following here a b e =
      expr_told ts c d old new new input here (Ok here)
      (sum_told ts c d old first new new input following here (Ok here) a
      (term_told ts c d first new new following here (Ok here) b (factors_none new here (no_mul_start (remaining ts here) e)))
      (terms_none new here (no_add_start (remaining ts here) e)))
      (told_absent ts compared_events (λ x. after (compared_rows x) c) None relation_start (sum_at d) new here refl (λ s. after_nothing c s) (no_relation_start (remaining ts here) e))

  -- a factor, and what is after it
  pub operated_told : (old first one two three new : TableBuilder) (input following here next last : Cursor) (result : Result Cursor Stop) →
      AppendsEntries ts sign_events sign_rows c old first (Ok following) (optional sign_start nothing (remaining ts input)) →
      AppendsEntries ts factor_events factor_rows c first one (Ok here) (factor_at d (remaining ts following)) →
      AppendsEntries ts factors_events factors_rows c one two (Ok next) (many mul_start (factor_at d) (remaining ts here)) →
      AppendsEntries ts terms_events terms_rows c two three (Ok last) (many add_start (term_at d) (remaining ts next)) →
      AppendsEntries ts compared_events compared_rows c three new result (optional relation_start (sum_at d) (remaining ts last)) →
      AppendsEntries ts expr_events expr_rows c old new result (expr_with (sum_at d) (remaining ts input))
  operated_told old first one two three new input following here next last result a b f t r =
      expr_told ts c d old three new input last result (sum_told ts c d old first two three input following next (Ok last) a (term_told ts c d first one two following here (Ok next) b f) t) r

  -- if one of these parts fails
  pub factor_fails : (e : Stop) (old first : TableBuilder) (input following : Cursor) →
      AppendsEntries ts sign_events sign_rows c old first (Ok following) (optional sign_start nothing (remaining ts input)) →
      Fails ts e (factor_at d (remaining ts following)) → Fails ts e (expr_with (sum_at d) (remaining ts input))
  factor_fails e old first input following a h = expr_failed ts d e input (sum_failed ts c d e old first input following a (term_failed ts d e following h))

  pub factors_fail : (e : Stop) (old first one two : TableBuilder) (input following here : Cursor) →
      AppendsEntries ts sign_events sign_rows c old first (Ok following) (optional sign_start nothing (remaining ts input)) →
      AppendsEntries ts factor_events factor_rows c first one (Ok here) (factor_at d (remaining ts following)) →
      AppendsEntries ts factors_events factors_rows c one two (Err e) (many mul_start (factor_at d) (remaining ts here)) →
      Fails ts e (expr_with (sum_at d) (remaining ts input))
  factors_fail e old first one two input following here a b f =
      expr_failed ts d e input (sum_failed ts c d e old first input following a (term_told ts c d first one two following here (Err e) b f))

  pub terms_fail : (e : Stop) (old first one two three : TableBuilder) (input following here next : Cursor) →
      AppendsEntries ts sign_events sign_rows c old first (Ok following) (optional sign_start nothing (remaining ts input)) →
      AppendsEntries ts factor_events factor_rows c first one (Ok here) (factor_at d (remaining ts following)) →
      AppendsEntries ts factors_events factors_rows c one two (Ok next) (many mul_start (factor_at d) (remaining ts here)) →
      AppendsEntries ts terms_events terms_rows c two three (Err e) (many add_start (term_at d) (remaining ts next)) →
      Fails ts e (expr_with (sum_at d) (remaining ts input))
  terms_fail e old first one two three input following here next a b f t =
      expr_failed ts d e input (sum_told ts c d old first two three input following next (Err e) a (term_told ts c d first one two following here (Ok next) b f) t)
