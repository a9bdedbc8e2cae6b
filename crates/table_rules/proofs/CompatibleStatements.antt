-- A compatible relation holds between the entries and the event sequence of each block of statements, if it does for qualified names and
-- for the variable of a FOR statement.
use Rattle.std.proofs.Common.{ℕ, true, false, List, ◌++◌, map, Option, Some, None}
use Rattle.std.specs.declared.boxed.Box.{Box}
use Rattle.std.specs.declared.alloc.Global.{Global}
use Rattle.ob_scan.specs.declared.kind.Kind.{Kind}
use Rattle.ob_scan.specs.declared.kind.Kind.TheVariants as kinds
use Rattle.ob_tree.specs.declared.expression.Literal.TheVariants as literals
use Rattle.ob_tree.specs.declared.name.Qualident.{Qualident}
use Rattle.ob_tree.specs.declared.statement.Label.{Label}
use Rattle.ob_tree.specs.declared.statement.Label.TheVariants as labels
use Rattle.ob_tree.specs.declared.statement.LabelRange.{LabelRange}
use Rattle.ob_tree.specs.declared.statement.Case.TheOpen as layers
use Rattle.ob_tree.specs.declared.statement.Case.TheShapes as shapes
use Rattle.ob_tree.specs.declared.statement.Branch.{Branch}
use Rattle.ob_tree.specs.declared.statement.StatementSequence.{StatementSequence}
use Rattle.ob_tree.specs.Constructs as constructs
use Rattle.ob_tree.specs.TreeEvents.{Events, word, used, if_present, each}
use Rattle.ob_tree.specs.Names.{qualident_events}
use Rattle.ob_tree.specs.Expressions.{expr_events}
use Rattle.ob_tree.specs.Statements.{label_events, label_range_events, case_events, stmt_events, block_events, branch_events, for_events}
use Rattle.ob_tree.proofs.ExpressionInduction.{With}
use Rattle.ob_tree.proofs.StatementInduction.{StatementPredicates, StatementSteps, WithCase, WithStmt, WithBranch, WithFor, WithBlock, case_of, stmt_of, branch_of, for_of, block_of, block_induction}
use Rattle.ob_tree.proofs.StatementLayers.{case_shown, stmt_shown, branch_shown, for_shown, block_shown, case_rolled, stmt_rolled, branch_rolled, for_rolled, block_rolled}
use Rattle.module_table.specs.Parts.{Fragment, token, both}
use Rattle.module_table.specs.Parts.{if_present as there}
use Rattle.table_rules.specs.Expressions.{SelectorPhrase, each_after, expr_rows}
use Rattle.table_rules.specs.Statements.{variable_rows, qualident_rows, label_rows, label_range_rows, case_rows, stmt_rows, block_rows, branch_rows, for_rows}
use Rattle.table_rules.proofs.StatementLayers as told
use Rattle.table_rules.proofs.Compatible.{IsCompatible, c-there, c-each, c-map, c-three, related-is}
use Rattle.table_rules.proofs.CompatibleExpressions.{c-expr, c-designator}

module _ {R : Fragment → Events → Type 0} {S : SelectorPhrase → Events → Type 0} (c : IsCompatible R S)
    (a_qualident : (q : Qualident) → R (qualident_rows q) (qualident_events q)) (a_variable : (n : ℕ) → R variable_rows (used n)) where
  label_held : (l : Label) → R (label_rows l) (label_events l)
  unfolding label_rows label_events
  label_held (labels.Integer n) = c.a_value literals.Integer n
  label_held (labels.Text n) = c.a_value literals.Text n
  label_held (labels.Name q) = a_qualident q

  range_held : (r : LabelRange) → R (label_range_rows r) (label_range_events r)
  unfolding label_range_rows label_range_events
  range_held r = c.one_after (label_held r.low)
      (c-there c (λ l. both token (label_rows l)) (λ l. word kinds.DotDot ++ label_events l) r.high (λ l. c.one_after (c.a_word kinds.DotDot) (label_held l)))

  -- of each production, and of a branch with any word in it

  abbrev predicates : StatementPredicates
  predicates = record {
    case = λ t. R (case_rows t) (case_events t);
    stmt = λ t. R (stmt_rows t) (stmt_events t);
    branch = λ t. (k : Kind) → R (branch_rows t) (branch_events t k);
    for = λ t. R (for_rows t) (for_events t);
    block = λ t. R (block_rows t) (block_events t);
  }

  else_held : (o : Option (Box (With predicates.block) Global)) →
      R (there (λ b. both token (block_rows b.value)) ((shapes.former-Stmt-If-2).map (With predicates.block) StatementSequence (λ e. e.0) o))
      (if_present (λ b. word kinds.Else ++ block_events b.value) ((shapes.former-Stmt-If-2).map (With predicates.block) StatementSequence (λ e. e.0) o))
  else_held None = c.nothing
  else_held (Some b) = c.one_after (c.a_word kinds.Else) b.value.1

  case_held : (y : WithCase predicates) → R (told.case_shown (case_of predicates y)) (case_shown (case_of predicates y))
  case_held layers.Nothing = c.nothing
  case_held (layers.Labelled ranges body) = c-three c (range_held ranges.first)
      (c-each c (λ r. both token (label_range_rows r)) (λ r. word kinds.Comma ++ label_range_events r) ranges.rest.items (λ r. c.one_after (c.a_word kinds.Comma) (range_held r)))
      (c.one_after (c.a_word kinds.Colon) body.value.1)

  branches_held : {X : Type 0} (word_in : Kind) (h : X → Branch) (xs : List X) → ((x : X) → predicates.branch (h x)) →
      R (each_after branch_rows (map h xs)) (each (λ b. word kinds.Elsif ++ branch_events b word_in) (map h xs))
  branches_held k h xs w = c-map c (λ b. both token (branch_rows b)) (λ b. word kinds.Elsif ++ branch_events b k) h xs (λ b. c.one_after (c.a_word kinds.Elsif) (w b k))

  stmt_held : (y : WithStmt predicates) → R (told.stmt_shown (stmt_of predicates y)) (stmt_shown (stmt_of predicates y))
  stmt_held layers.Empty = c.held constructs.EmptyStatement c.nothing
  stmt_held (layers.Assign d e) = c.held constructs.Statement (c.one_after (c-designator c d true) (c.one_after (c.a_word kinds.Assign) (c-expr c e)))
  stmt_held (layers.Call d) = c.held constructs.Statement (c-designator c d false)
  stmt_held (layers.If first rest otherwise) =
      c.held constructs.Statement (c.one_after (c.a_word kinds.If) (c.one_after (first.value.1 kinds.Then)
      (c.one_after (branches_held kinds.Then _ rest.items (λ b. b.1))
      (c.one_after (else_held otherwise) (c.a_word kinds.End)))))
  stmt_held (layers.Case e first rest) =
      c.held constructs.Statement (c.one_after (c.a_word kinds.Case) (c.one_after (c-expr c e) (c.one_after (c.a_word kinds.Of) (c.one_after first.value.1
      (c.one_after (c-map c (λ x. both token (case_rows x)) (λ x. word kinds.Bar ++ case_events x) _ rest.items (λ x. c.one_after (c.a_word kinds.Bar) x.1)) (c.a_word kinds.End))))))
  stmt_held (layers.While first rest) =
      c.held constructs.Statement (c.one_after (c.a_word kinds.While) (c.one_after (first.value.1 kinds.Do)
      (c.one_after (branches_held kinds.Do _ rest.items (λ b. b.1)) (c.a_word kinds.End))))
  stmt_held (layers.Repeat body e) =
      c.held constructs.Statement (c.one_after (c.a_word kinds.Repeat) (c.one_after body.value.1 (c.one_after (c.a_word kinds.Until) (c-expr c e))))
  stmt_held (layers.For f) = c.held constructs.Statement f.value.1

  block_held : (y : WithBlock predicates) → R (told.block_shown (block_of predicates y)) (block_shown (block_of predicates y))
  block_held y = c.one_after y.first.1
      (c-map c (λ s. both token (stmt_rows s)) (λ s. word kinds.Semicolon ++ stmt_events s) _ y.rest.items (λ s. c.one_after (c.a_word kinds.Semicolon) s.1))

  branch_held : (y : WithBranch predicates) (k : Kind) → R (told.branch_shown (branch_of predicates y)) (branch_shown (branch_of predicates y) k)
  branch_held y k = c.one_after (c-expr c y.condition) (c.one_after (c.a_word k) y.body.1)

  for_held : (y : WithFor predicates) → R (told.for_shown (for_of predicates y)) (for_shown (for_of predicates y))
  for_held y =
      c.one_after (c.a_word kinds.For) (c.one_after (a_variable y.variable) (c.one_after (c.a_word kinds.Assign) (c.one_after (c-expr c y.from) (c.one_after (c.a_word kinds.To) (c.one_after (c-expr c y.to)
      (c.one_after (c-there c (λ e. both token (expr_rows e)) (λ e. word kinds.By ++ expr_events e) y.by (λ e. c.one_after (c.a_word kinds.By) (c-expr c e)))
      (c.one_after (c.a_word kinds.Do) (c.one_after y.body.1 (c.a_word kinds.End)))))))))

  -- ---- layer by layer

  steps : StatementSteps predicates
  steps = record {
    case = λ y. related-is R (told.case_rolled _) (case_rolled _) (c.held constructs.Case (case_held y));
    stmt = λ y. related-is R (told.stmt_rolled _) (stmt_rolled _) (stmt_held y);
    branch = λ y k. related-is R (told.branch_rolled _) (branch_rolled _ k) (branch_held y k);
    for = λ y. related-is R (told.for_rolled _) (for_rolled _) (for_held y);
    block = λ y. related-is R (told.block_rolled _) (block_rolled _) (block_held y);
  }

  pub c-block : (b : StatementSequence) → R (block_rows b) (block_events b)
  c-block = block_induction predicates steps
