-- A compatible relation holds between the results of each production within a depth and within a depth that isn't smaller.
use Rattle.std.proofs.Common.{ℕ, zero, suc, ◌≤◌, true, false, List, [], ◌∷◌, Ok, refl, sym, subst, arith}
use Rattle.ob_scan.specs.declared.kind.Kind.{Kind}
use Rattle.ob_scan.specs.declared.kind.Kind.TheVariants as kinds
use Rattle.ob_tree.specs.declared.expression.Literal.TheVariants as literals
use Rattle.ob_tree.specs.declared.role.Role.TheVariants.{Declares, Aliases, Imports, Uses, Completes, Selects, Names, Repeats}
use Rattle.ob_tree.specs.declared.token.Leaf.{Leaf}
use Rattle.ob_tree.specs.declared.token.Leaf.TheVariants as leafs
use Rattle.ob_tree.specs.Constructs as constructs
use Rattle.ob_tree.specs.TreeEvents.{construct, word, named}
use Rattle.ob_tree.specs.Expressions.{relation_kind, sign_kind, add_kind, mul_kind}
use Rattle.ob_grammar.specs.Lookahead.{uncons, is_word}
use Rattle.ob_grammar.specs.Combinators.{Read, Reader, expect_at, accept_at, after_name, unless, seq, prefixed, node, optional, several}
use Rattle.ob_grammar.specs.ReadNames.{qualident_after, qualident_at, identdef_after, identdef_at}
use Rattle.ob_grammar.specs.ReadExpressions.{after_relation, after_sign, after_add, after_mul, relation_at, sign_at, add_at, mul_at, as_word, mul_start, add_start, relation_start, sign_start, selector_first, factor_first, expr_first, term_with, sum_with, expr_with, element_with, selector_from, selector_with, designator_with, factor_from, factor_with, expr_at, negated_at}
use Rattle.ob_grammar.specs.ReadStatements.{label_first, statement_first, case_label_at, label_range_at, case_with, block_with, branch_with, if_with, cases_with, while_with, repeat_with, for_with, assign_with, statement_from, statement_with, empty_at, statement_at, block_at}
use Rattle.ob_grammar.specs.ReadTypes.{type_first, section_at, parameters_at, optional_parameters_at, var_with, field_lookahead, field_start, fields_with, record_with, type_from, type_with, type_at}
use Rattle.ob_grammar.specs.ReadModules.{is_identifier, const_with, type_decl_with, variable_with, with_semicolon, section_with, procedures_with, declarations_with, body_with, procedure_named, name_then, procedure_with, procedure_at, declarations_at, import_item_at, imports_at, module_after_name, module_at}
use Rattle.ob_grammar.proofs.Needs.{IsElseEmpty, node_needs, limit_needs, factor_needs, expr_needs, type_needs, procedure_needs, empty_else, statement_else}
use Rattle.ob_grammar.proofs.Compatible.{IsCompatible, Related, Started, Starts, nothing_held, seq_held, flat_held, level_held, word_held, role_held, known_held, optional_held, many_held, expect_held, accept_starts, begins_starts, unless_starts, several_held, behind_name_held, name_held, unless_deep, limit_held}

module _ {N : ℕ → Type 0} {Q : ℕ → List Leaf → Read → Read → Type 0} (c : IsCompatible N Q) where
  -- ---- names

  pub qualident_after_held : {d : ℕ} (n : ℕ) → Related Q d (leafs.Name n ∷ []) (qualident_after n) (qualident_after n)
  unfolding qualident_after
  qualident_after_held n = role_held c Uses tt n (optional_held c (accept_starts c kinds.Dot) (name_held c Completes tt))

  qualident_held : {d : ℕ} → Related Q d [] qualident_at qualident_at
  unfolding qualident_at
  qualident_held = seq_held c (name_held c Uses tt) (optional_held c (accept_starts c kinds.Dot) (name_held c Completes tt))

  -- a declaring identifier, and the asterisk after it
  is_exported : {d : ℕ} (n : ℕ) (ls : List Leaf) → Q d (leafs.Name n ∷ ls) (identdef_after n ls) (identdef_after n ls)
  unfolding identdef_after accept_at expect_at
  is_exported n (leafs.Word kinds.Star ∷ rest) = c.one_after (c.a_name (Declares true) tt n (leafs.Word kinds.Star ∷ rest)) (expect_held c kinds.Star).at
  is_exported n ls = c.a_name (Declares false) tt n ls

  identdef_after_held : {d : ℕ} (n : ℕ) → Related Q d (leafs.Name n ∷ []) (identdef_after n) (identdef_after n)
  identdef_after_held n = record { at = is_exported n }

  pub identdef_held : {d : ℕ} → Related Q d [] identdef_at identdef_at
  unfolding identdef_at
  identdef_held = behind_name_held c identdef_after_held

  -- ---- operators

  mul_started : (d : ℕ) (ls : List Leaf) → Started Q d ls (as_word mul_kind (after_mul (uncons ls)))
  mul_started d (leafs.Word kinds.Star ∷ rest) = c.a_word kinds.Star rest
  mul_started d (leafs.Word kinds.Slash ∷ rest) = c.a_word kinds.Slash rest
  mul_started d (leafs.Word kinds.Div ∷ rest) = c.a_word kinds.Div rest
  mul_started d (leafs.Word kinds.Mod ∷ rest) = c.a_word kinds.Mod rest
  mul_started d (leafs.Word kinds.Ampersand ∷ rest) = c.a_word kinds.Ampersand rest
  mul_started d ls = tt

  pub mul_starts : {d : ℕ} → Starts Q d mul_start
  unfolding mul_at
  mul_starts = record { at = mul_started _ }

  add_started : (d : ℕ) (ls : List Leaf) → Started Q d ls (as_word add_kind (after_add (uncons ls)))
  add_started d (leafs.Word kinds.Plus ∷ rest) = c.a_word kinds.Plus rest
  add_started d (leafs.Word kinds.Minus ∷ rest) = c.a_word kinds.Minus rest
  add_started d (leafs.Word kinds.Or ∷ rest) = c.a_word kinds.Or rest
  add_started d ls = tt

  pub add_starts : {d : ℕ} → Starts Q d add_start
  unfolding add_at
  add_starts = record { at = add_started _ }

  sign_started : (d : ℕ) (ls : List Leaf) → Started Q d ls (as_word sign_kind (after_sign (uncons ls)))
  sign_started d (leafs.Word kinds.Plus ∷ rest) = c.a_word kinds.Plus rest
  sign_started d (leafs.Word kinds.Minus ∷ rest) = c.a_word kinds.Minus rest
  sign_started d ls = tt

  sign_starts : {d : ℕ} → Starts Q d sign_start
  unfolding sign_at
  sign_starts = record { at = sign_started _ }

  relation_started : (d : ℕ) (ls : List Leaf) → Started Q d ls (as_word relation_kind (after_relation (uncons ls)))
  relation_started d (leafs.Word kinds.Equals ∷ rest) = c.a_word kinds.Equals rest
  relation_started d (leafs.Word kinds.Hash ∷ rest) = c.a_word kinds.Hash rest
  relation_started d (leafs.Word kinds.Less ∷ rest) = c.a_word kinds.Less rest
  relation_started d (leafs.Word kinds.LessEquals ∷ rest) = c.a_word kinds.LessEquals rest
  relation_started d (leafs.Word kinds.Greater ∷ rest) = c.a_word kinds.Greater rest
  relation_started d (leafs.Word kinds.GreaterEquals ∷ rest) = c.a_word kinds.GreaterEquals rest
  relation_started d (leafs.Word kinds.In ∷ rest) = c.a_word kinds.In rest
  relation_started d (leafs.Word kinds.Is ∷ rest) = c.a_word kinds.Is rest
  relation_started d ls = tt

  relation_starts : {d : ℕ} → Starts Q d relation_start
  unfolding relation_at
  relation_starts = record { at = relation_started _ }

  -- ---- expressions

  pub term_held : {d : ℕ} {r s : Reader} → Related Q d [] r s → Related Q d [] (term_with r) (term_with s)
  unfolding term_with
  term_held p = flat_held c constructs.Term refl (seq_held c p (many_held c mul_starts p))

  sum_held : {d : ℕ} {r s : Reader} → Related Q d [] r s → Related Q d [] (sum_with r) (sum_with s)
  unfolding sum_with
  sum_held p = flat_held c constructs.SimpleExpression refl (seq_held c (optional_held c sign_starts (nothing_held c)) (seq_held c p (many_held c add_starts p)))

  expr_held : {d : ℕ} {r s : Reader} → Related Q d [] r s → Related Q (suc d) [] (expr_with r) (expr_with s)
  unfolding expr_with
  expr_held p = level_held c constructs.Expression refl (seq_held c p (optional_held c relation_starts p))

  pub element_held : {d : ℕ} {r s : Reader} → Related Q d [] r s → Related Q d [] (element_with r) (element_with s)
  unfolding element_with
  element_held p = flat_held c constructs.Element refl (seq_held c p (optional_held c (accept_starts c kinds.DotDot) p))

  -- items between brackets, or none
  pub closed_held : {d : ℕ} {r s : Reader} (k : Kind) → Related Q d [] r s →
      Related Q d [] (seq (optional (unless k) (several kinds.Comma r)) (expect_at k)) (seq (optional (unless k) (several kinds.Comma s)) (expect_at k))
  closed_held k p = seq_held c (optional_held c (unless_starts c k) (several_held c kinds.Comma p)) (expect_held c k)

  selector_from_held : {d : ℕ} {r s : Reader} → Related Q d [] r s → (ls : List Leaf) → Q d ls (selector_from r (uncons ls)) (selector_from s (uncons ls))
  selector_from_held {d} p (leafs.Word kinds.Dot ∷ rest) = (word_held c {d = d} kinds.Dot (name_held c Selects tt)).at rest
  selector_from_held p (leafs.Word kinds.LeftBracket ∷ rest) = (word_held c kinds.LeftBracket (seq_held c (several_held c kinds.Comma p) (expect_held c kinds.RightBracket))).at rest
  selector_from_held p (leafs.Word kinds.Caret ∷ rest) = c.a_word kinds.Caret rest
  selector_from_held p (leafs.Word kinds.LeftParen ∷ rest) = (word_held c kinds.LeftParen (closed_held kinds.RightParen p)).at rest
  selector_from_held p ls = c.wrong _

  selector_held : {d : ℕ} {r s : Reader} → Related Q d [] r s → Related Q d [] (selector_with r) (selector_with s)
  unfolding selector_with
  selector_held p = flat_held c constructs.Selector refl (record { at = selector_from_held p })

  designator_held : {d : ℕ} {r s : Reader} → Related Q d [] r s → (n : ℕ) → Related Q d (leafs.Name n ∷ []) (designator_with r n) (designator_with s n)
  unfolding designator_with
  designator_held p n = flat_held c constructs.Designator refl (role_held c Uses tt n (many_held c (begins_starts c selector_first) (selector_held p)))

  factor_from_held : {d : ℕ} {r s f g : Reader} → Related Q d [] r s → Related Q d [] f g → (ls : List Leaf) → Q d ls (factor_from r f (uncons ls)) (factor_from s g (uncons ls))
  factor_from_held p q (leafs.Name n ∷ rest) = (designator_held p n).at rest
  factor_from_held p q (leafs.Value k n ∷ rest) = c.a_value k n rest
  factor_from_held p q (leafs.Word kinds.Nil ∷ rest) = c.a_word kinds.Nil rest
  factor_from_held p q (leafs.Word kinds.True ∷ rest) = c.a_word kinds.True rest
  factor_from_held p q (leafs.Word kinds.False ∷ rest) = c.a_word kinds.False rest
  factor_from_held p q (leafs.Word kinds.LeftBrace ∷ rest) = (word_held c kinds.LeftBrace (closed_held kinds.RightBrace (element_held p))).at rest
  factor_from_held p q (leafs.Word kinds.LeftParen ∷ rest) = (word_held c kinds.LeftParen (seq_held c p (expect_held c kinds.RightParen))).at rest
  factor_from_held p q (leafs.Word kinds.Tilde ∷ rest) = (word_held c kinds.Tilde q).at rest
  factor_from_held p q ls = c.wrong _

  pub factor_held : {d : ℕ} {r s f g : Reader} → Related Q d [] r s → Related Q d [] f g → Related Q d [] (factor_with r f) (factor_with s g)
  unfolding factor_with
  factor_held p q = flat_held c constructs.Factor refl (record { at = factor_from_held p q })

  mutual
    unfolding expr_at negated_at

    pub expr_at_held : (d k : ℕ) → d ≤ k → Related Q d [] (expr_at d) (expr_at k)
    expr_at_held zero zero le = limit_held c expr_first _ (limit_needs expr_first)
    expr_at_held zero (suc k) le = limit_held c expr_first _ (expr_needs (expr_at k) (negated_at k))
    expr_at_held (suc d) zero le = absurd (omega arith)
    expr_at_held (suc d) (suc k) le = expr_held (sum_held (term_held (factor_held (expr_at_held d k (omega arith)) (negated_at_held d k (omega arith)))))

    pub negated_at_held : (d k : ℕ) → d ≤ k → Related Q d [] (negated_at d) (negated_at k)
    negated_at_held zero zero le = limit_held c factor_first _ (limit_needs factor_first)
    negated_at_held zero (suc k) le = limit_held c factor_first _ (node_needs _ _ _ (factor_needs (expr_at k) (negated_at k)))
    negated_at_held (suc d) zero le = absurd (omega arith)
    negated_at_held (suc d) (suc k) le = level_held c constructs.Negated refl (factor_held (expr_at_held d k (omega arith)) (negated_at_held d k (omega arith)))

  -- ---- statements

  label_read : {d : ℕ} (ls : List Leaf) → Q d ls (case_label_at ls) (case_label_at ls)
  unfolding case_label_at
  label_read {d} (leafs.Name n ∷ rest) = (qualident_after_held {d = d} n).at rest
  label_read (leafs.Value literals.Integer n ∷ rest) = c.a_value literals.Integer n rest
  label_read (leafs.Value literals.Text n ∷ rest) = c.a_value literals.Text n rest
  label_read ls = c.wrong _

  label_held : {d : ℕ} → Related Q d [] case_label_at case_label_at
  label_held = record { at = label_read }

  pub label_range_held : {d : ℕ} → Related Q d [] label_range_at label_range_at
  unfolding label_range_at
  label_range_held = seq_held c label_held (optional_held c (accept_starts c kinds.DotDot) label_held)

  pub case_held : {d : ℕ} {b g : Reader} → Related Q d [] b g → Related Q d [] (case_with b) (case_with g)
  unfolding case_with
  case_held q = flat_held c constructs.Case refl (optional_held c (begins_starts c label_first) (seq_held c (several_held c kinds.Comma label_range_held) (seq_held c (expect_held c kinds.Colon) q)))

  block_held : {d : ℕ} {r s : Reader} → Related Q d [] r s → Related Q d [] (block_with r) (block_with s)
  unfolding block_with
  block_held p = several_held c kinds.Semicolon p

  pub branch_held : {d : ℕ} {r s b g : Reader} (k : Kind) → Related Q d [] r s → Related Q d [] b g → Related Q d [] (branch_with r b k) (branch_with s g k)
  unfolding branch_with
  branch_held k p q = seq_held c p (seq_held c (expect_held c k) q)

  if_held : {d : ℕ} {r s b g : Reader} → Related Q d [] r s → Related Q d [] b g → Related Q d [] (if_with r b) (if_with s g)
  unfolding if_with
  if_held p q = seq_held c (branch_held kinds.Then p q) (seq_held c (many_held c (accept_starts c kinds.Elsif) (branch_held kinds.Then p q))
      (seq_held c (optional_held c (accept_starts c kinds.Else) q) (expect_held c kinds.End)))

  cases_held : {d : ℕ} {r s b g : Reader} → Related Q d [] r s → Related Q d [] b g → Related Q d [] (cases_with r b) (cases_with s g)
  unfolding cases_with
  cases_held p q = seq_held c p (seq_held c (expect_held c kinds.Of) (seq_held c (case_held q) (seq_held c (many_held c (accept_starts c kinds.Bar) (case_held q)) (expect_held c kinds.End))))

  while_held : {d : ℕ} {r s b g : Reader} → Related Q d [] r s → Related Q d [] b g → Related Q d [] (while_with r b) (while_with s g)
  unfolding while_with
  while_held p q = seq_held c (branch_held kinds.Do p q) (seq_held c (many_held c (accept_starts c kinds.Elsif) (branch_held kinds.Do p q)) (expect_held c kinds.End))

  repeat_held : {d : ℕ} {r s b g : Reader} → Related Q d [] r s → Related Q d [] b g → Related Q d [] (repeat_with r b) (repeat_with s g)
  unfolding repeat_with
  repeat_held p q = seq_held c q (seq_held c (expect_held c kinds.Until) p)

  for_held : {d : ℕ} {r s b g : Reader} → Related Q d [] r s → Related Q d [] b g → Related Q d [] (for_with r b) (for_with s g)
  unfolding for_with
  for_held p q =
      seq_held c (name_held c Uses tt) (seq_held c (expect_held c kinds.Assign) (seq_held c p (seq_held c (expect_held c kinds.To) (seq_held c p
      (seq_held c (optional_held c (accept_starts c kinds.By) p) (seq_held c (expect_held c kinds.Do) (seq_held c q (expect_held c kinds.End))))))))

  assign_held : {d : ℕ} {r s : Reader} → Related Q d [] r s → (n : ℕ) → Related Q d (leafs.Name n ∷ []) (assign_with r n) (assign_with s n)
  unfolding assign_with
  assign_held p n = seq_held c (designator_held p n) (optional_held c (accept_starts c kinds.Assign) p)

  empty_read : {d : ℕ} (ls : List Leaf) → Q d ls (Ok (construct constructs.EmptyStatement [], ls)) (Ok (construct constructs.EmptyStatement [], ls))
  empty_read ls = c.flat constructs.EmptyStatement refl (c.nothing ls)

  -- a statement that begins with this keyword
  statement_word_held : {d : ℕ} {r s : Reader} (k : Kind) (rest : List Leaf) → Related Q d [] r s →
      Q (suc d) (leafs.Word k ∷ rest) (node constructs.Statement (prefixed (word k) r) rest) (node constructs.Statement (prefixed (word k) s) rest)
  statement_word_held k rest p = (level_held c constructs.Statement refl (word_held c k p)).at rest

  statement_from_held : {d : ℕ} {r s b g : Reader} → Related Q d [] r s → Related Q d [] b g → (ls : List Leaf) →
      Q (suc d) ls (statement_from r b ls (uncons ls)) (statement_from s g ls (uncons ls))
  statement_from_held p q (leafs.Name n ∷ rest) = (level_held c constructs.Statement refl (assign_held p n)).at rest
  statement_from_held p q (leafs.Word kinds.If ∷ rest) = statement_word_held kinds.If rest (if_held p q)
  statement_from_held p q (leafs.Word kinds.Case ∷ rest) = statement_word_held kinds.Case rest (cases_held p q)
  statement_from_held p q (leafs.Word kinds.While ∷ rest) = statement_word_held kinds.While rest (while_held p q)
  statement_from_held p q (leafs.Word kinds.Repeat ∷ rest) = statement_word_held kinds.Repeat rest (repeat_held p q)
  statement_from_held p q (leafs.Word kinds.For ∷ rest) = statement_word_held kinds.For rest (for_held p q)
  statement_from_held p q ls = empty_read ls

  statement_held : {d : ℕ} {r s b g : Reader} → Related Q d [] r s → Related Q d [] b g → Related Q (suc d) [] (statement_with r b) (statement_with s g)
  unfolding statement_with
  statement_held p q = record { at = statement_from_held p q }

  -- if a statement begins, it is too deep
  empty_at_read : (s : Reader) → IsElseEmpty s → (ls : List Leaf) → Q zero ls (empty_at ls) (s ls)
  unfolding empty_at
  empty_at_read s h [] = subst (λ (z : Read). Q zero [] (Ok (construct constructs.EmptyStatement [], [])) z) (sym (h [] refl)) (empty_read [])
  empty_at_read s h (l ∷ ls) = unless_deep c (l, ls) (Ok (construct constructs.EmptyStatement [], l ∷ ls)) (statement_first l) (empty_read (l ∷ ls)) (h (l ∷ ls))

  pub statement_at_held : (d k : ℕ) → d ≤ k → Related Q d [] (statement_at d) (statement_at k)
  unfolding statement_at
  statement_at_held zero zero le = record { at = empty_at_read _ empty_else }
  statement_at_held zero (suc k) le = record { at = empty_at_read _ (statement_else _ _) }
  statement_at_held (suc d) zero le = absurd (omega arith)
  statement_at_held (suc d) (suc k) le = statement_held (expr_at_held d k (omega arith)) (block_held (statement_at_held d k (omega arith)))

  pub block_at_held : (d k : ℕ) → d ≤ k → Related Q d [] (block_at d) (block_at k)
  block_at_held d k le = block_held (statement_at_held d k le)

  -- ---- types

  pub section_held : {d : ℕ} → Related Q d [] section_at section_at
  unfolding section_at
  section_held =
      flat_held c constructs.FPSection refl (seq_held c (optional_held c (accept_starts c kinds.Var) (nothing_held c)) (seq_held c (several_held c kinds.Comma (name_held c (Declares false) tt))
      (seq_held c (expect_held c kinds.Colon) (seq_held c (many_held c (accept_starts c kinds.Array) (expect_held c kinds.Of)) qualident_held))))

  parameters_held : {d : ℕ} → Related Q d [] parameters_at parameters_at
  unfolding parameters_at
  parameters_held =
      seq_held c (expect_held c kinds.LeftParen) (seq_held c (optional_held c (unless_starts c kinds.RightParen) (several_held c kinds.Semicolon section_held))
      (seq_held c (expect_held c kinds.RightParen) (optional_held c (accept_starts c kinds.Colon) qualident_held)))

  some_parameters_held : {d : ℕ} → Related Q d [] optional_parameters_at optional_parameters_at
  unfolding optional_parameters_at
  some_parameters_held = optional_held c (begins_starts c (is_word kinds.LeftParen)) parameters_held

  pub var_held : {d : ℕ} {t u : Reader} → Related Q d [] t u → Related Q d [] (var_with t) (var_with u)
  unfolding var_with
  var_held q = seq_held c (several_held c kinds.Comma identdef_held) (seq_held c (expect_held c kinds.Colon) q)

  field_started : (d : ℕ) (ls : List Leaf) → Started Q d ls (field_lookahead (uncons ls))
  field_started d (leafs.Word kinds.Semicolon ∷ leafs.Name n ∷ rest) = c.a_word kinds.Semicolon (leafs.Name n ∷ rest)
  field_started d (leafs.Word kinds.Semicolon ∷ rest) = tt
  field_started d ls = tt

  field_starts : {d : ℕ} → Starts Q d field_start
  unfolding field_start
  field_starts = record { at = field_started _ }

  pub field_held : {d : ℕ} {t u : Reader} → Related Q d [] t u → Related Q d [] (node constructs.FieldList (var_with t)) (node constructs.FieldList (var_with u))
  field_held q = flat_held c constructs.FieldList refl (var_held q)

  fields_held : {d : ℕ} {t u : Reader} → Related Q d [] t u → Related Q d [] (fields_with t) (fields_with u)
  unfolding fields_with
  fields_held q = seq_held c (field_held q) (seq_held c (many_held c field_starts (field_held q)) (optional_held c (accept_starts c kinds.Semicolon) (nothing_held c)))

  record_held : {d : ℕ} {t u : Reader} → Related Q d [] t u → Related Q d [] (record_with t) (record_with u)
  unfolding record_with
  record_held q = seq_held c (optional_held c (accept_starts c kinds.LeftParen) (seq_held c qualident_held (expect_held c kinds.RightParen)))
      (seq_held c (optional_held c (unless_starts c kinds.End) (fields_held q)) (expect_held c kinds.End))

  type_from_held : {d : ℕ} {r s t u : Reader} → Related Q d [] r s → Related Q d [] t u → (ls : List Leaf) → Q (suc d) ls (type_from r t (uncons ls)) (type_from s u (uncons ls))
  type_from_held {d} p q (leafs.Name n ∷ rest) = (level_held c {d = d} constructs.NamedType refl (qualident_after_held n)).at rest
  type_from_held p q (leafs.Word kinds.Array ∷ rest) =
      (level_held c constructs.ArrayType refl (word_held c kinds.Array (seq_held c (several_held c kinds.Comma p) (seq_held c (expect_held c kinds.Of) q)))).at rest
  type_from_held p q (leafs.Word kinds.Record ∷ rest) = (level_held c constructs.RecordType refl (word_held c kinds.Record (record_held q))).at rest
  type_from_held p q (leafs.Word kinds.Pointer ∷ rest) = (level_held c constructs.PointerType refl (word_held c kinds.Pointer (seq_held c (expect_held c kinds.To) q))).at rest
  type_from_held {d} p q (leafs.Word kinds.Procedure ∷ rest) = (level_held c {d = d} constructs.ProcedureType refl (word_held c kinds.Procedure some_parameters_held)).at rest
  type_from_held p q ls = c.wrong _

  type_held : {d : ℕ} {r s t u : Reader} → Related Q d [] r s → Related Q d [] t u → Related Q (suc d) [] (type_with r t) (type_with s u)
  unfolding type_with
  type_held p q = record { at = type_from_held p q }

  pub type_at_held : (d k : ℕ) → d ≤ k → Related Q d [] (type_at d) (type_at k)
  unfolding type_at
  type_at_held zero zero le = limit_held c type_first _ (limit_needs type_first)
  type_at_held zero (suc k) le = limit_held c type_first _ (type_needs _ _)
  type_at_held (suc d) zero le = absurd (omega arith)
  type_at_held (suc d) (suc k) le = type_held (expr_at_held d k (omega arith)) (type_at_held d k (omega arith))

  -- ---- declarations

  const_held : {d : ℕ} {r s : Reader} → Related Q d [] r s → Related Q d [] (const_with r) (const_with s)
  unfolding const_with
  const_held p = flat_held c constructs.ConstDeclaration refl (seq_held c identdef_held (seq_held c (expect_held c kinds.Equals) p))

  type_decl_held : {d : ℕ} {r s : Reader} → Related Q d [] r s → Related Q d [] (type_decl_with r) (type_decl_with s)
  unfolding type_decl_with
  type_decl_held p = flat_held c constructs.TypeDeclaration refl (seq_held c identdef_held (seq_held c (expect_held c kinds.Equals) p))

  variable_held : {d : ℕ} {r s : Reader} → Related Q d [] r s → Related Q d [] (variable_with r) (variable_with s)
  unfolding variable_with
  variable_held p = flat_held c constructs.VariableDeclaration refl (var_held p)

  ended_held : {d : ℕ} {r s : Reader} → Related Q d [] r s → Related Q d [] (with_semicolon r) (with_semicolon s)
  ended_held p = seq_held c p (expect_held c kinds.Semicolon)

  part_held : {d : ℕ} {r s : Reader} (k : Kind) → Related Q d [] r s → Related Q d [] (section_with k r) (section_with k s)
  unfolding section_with
  part_held k p = optional_held c (accept_starts c k) (many_held c (begins_starts c is_identifier) (ended_held p))

  procedures_held : {d : ℕ} {r s : Reader} → Related Q d [] r s → Related Q d [] (procedures_with r) (procedures_with s)
  unfolding procedures_with
  procedures_held p = many_held c (begins_starts c (is_word kinds.Procedure)) (ended_held p)

  declarations_held : {d : ℕ} {e f t u r s : Reader} → Related Q d [] e f → Related Q d [] t u → Related Q d [] r s → Related Q d [] (declarations_with e t r) (declarations_with f u s)
  unfolding declarations_with
  declarations_held p q o =
      seq_held c (part_held kinds.Const (const_held p)) (seq_held c (part_held kinds.Type (type_decl_held q)) (seq_held c (part_held kinds.Var (variable_held q)) (procedures_held o)))

  body_held : {d : ℕ} {b g : Reader} → Related Q d [] b g → Related Q d [] (body_with b) (body_with g)
  unfolding body_with
  body_held p = optional_held c (accept_starts c kinds.Begin) p

  procedure_named_held : {d : ℕ} {e f b g r s : Reader} → Related Q d [] e f → Related Q d [] b g → Related Q d [] r s → (n : ℕ) → N n →
      Related Q d (leafs.Name n ∷ []) (procedure_named e b r n) (procedure_named f g s n)
  unfolding procedure_named
  procedure_named_held p q o n in_range =
      seq_held c (identdef_after_held n) (seq_held c some_parameters_held (seq_held c (expect_held c kinds.Semicolon) (seq_held c o (seq_held c (body_held q)
      (seq_held c (optional_held c (accept_starts c kinds.Return) p) (seq_held c (expect_held c kinds.End) (name_held c (Repeats n) in_range)))))))

  -- the name of a procedure, and the tokens after it
  pub procedure_name_held : {d : ℕ} {e f b g r s : Reader} → Related Q d [] e f → Related Q d [] b g → Related Q d [] r s →
      Related Q d [] (after_name (procedure_named e b r)) (after_name (procedure_named f g s))
  procedure_name_held p q o = behind_name_held c (λ n. known_held c (procedure_named_held p q o n))

  procedure_held : {d : ℕ} {e f b g r s : Reader} → Related Q d [] e f → Related Q d [] b g → Related Q d [] r s → Related Q (suc d) [] (procedure_with e b r) (procedure_with f g s)
  unfolding procedure_with
  procedure_held p q o = level_held c constructs.ProcedureDeclaration refl (seq_held c (expect_held c kinds.Procedure) (procedure_name_held p q o))

  pub procedure_at_held : (d k : ℕ) → d ≤ k → Related Q d [] (procedure_at d) (procedure_at k)
  unfolding procedure_at
  procedure_at_held zero zero le = limit_held c (is_word kinds.Procedure) _ (limit_needs (is_word kinds.Procedure))
  procedure_at_held zero (suc k) le = limit_held c (is_word kinds.Procedure) _ (procedure_needs _ _ _)
  procedure_at_held (suc d) zero le = absurd (omega arith)
  procedure_at_held (suc d) (suc k) le =
      let lower : d ≤ k = omega arith in
      procedure_held (expr_at_held d k lower) (block_at_held d k lower) (declarations_held (expr_at_held d k lower) (type_at_held d k lower) (procedure_at_held d k lower))

  pub declarations_at_held : (d k : ℕ) → d ≤ k → Related Q d [] (declarations_at d) (declarations_at k)
  declarations_at_held d k le = declarations_held (expr_at_held d k le) (type_at_held d k le) (procedure_at_held d k le)

  -- ---- modules

  pub import_held : {d : ℕ} → Related Q d [] import_item_at import_item_at
  unfolding import_item_at
  import_held = flat_held c constructs.Import refl (seq_held c (name_held c Aliases tt) (optional_held c (accept_starts c kinds.Assign) (name_held c Imports tt)))

  imports_held : {d : ℕ} → Related Q d [] imports_at imports_at
  unfolding imports_at
  imports_held = optional_held c (accept_starts c kinds.Import) (seq_held c (several_held c kinds.Comma import_held) (expect_held c kinds.Semicolon))

  module_named_held : (d k : ℕ) → d ≤ k → (n : ℕ) → N n → Related Q d [] (module_after_name d n) (module_after_name k n)
  unfolding module_after_name
  module_named_held d k le n in_range =
      seq_held c (expect_held c kinds.Semicolon) (seq_held c imports_held (seq_held c (declarations_at_held d k le) (seq_held c (body_held (block_at_held d k le))
      (seq_held c (expect_held c kinds.End) (seq_held c (name_held c (Repeats n) in_range) (expect_held c kinds.Dot))))))

  module_name_held : (d k : ℕ) → d ≤ k → Related Q d [] (name_then named (module_after_name d)) (name_then named (module_after_name k))
  module_name_held d k le = behind_name_held c {r = λ n. prefixed (named n) (module_after_name d n)} {s = λ n. prefixed (named n) (module_after_name k n)}
      (λ n. known_held c (λ in_range. role_held c Names tt n (module_named_held d k le n in_range)))

  pub module_at_held : (d k : ℕ) → d ≤ k → Related Q d [] (module_at d) (module_at k)
  unfolding module_at
  module_at_held d k le = flat_held c constructs.Module refl (seq_held c (expect_held c kinds.Module) (module_name_held d k le))
