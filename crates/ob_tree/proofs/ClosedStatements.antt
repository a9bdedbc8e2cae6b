-- A closed property of event sequences holds for names, labels and statements.
use Rattle.std.proofs.Common.{◌++◌, Option, Some, None}
use Rattle.std.specs.declared.boxed.Box.{Box}
use Rattle.std.specs.declared.alloc.Global.{Global}
use Rattle.ob_scan.specs.declared.kind.Kind.{Kind}
use Rattle.ob_scan.specs.declared.kind.Kind.TheVariants as kinds
use Rattle.ob_tree.specs.declared.expression.Literal.TheVariants as literals
use Rattle.ob_tree.specs.declared.name.Qualident.{Qualident}
use Rattle.ob_tree.specs.declared.statement.Label.{Label}
use Rattle.ob_tree.specs.declared.statement.Label.TheVariants as labels
use Rattle.ob_tree.specs.declared.statement.LabelRange.{LabelRange}
use Rattle.ob_tree.specs.declared.statement.Case.TheOpen as layers
use Rattle.ob_tree.specs.declared.statement.Case.TheShapes as shapes
use Rattle.ob_tree.specs.declared.statement.StatementSequence.{StatementSequence}
use Rattle.ob_tree.specs.Constructs as constructs
use Rattle.ob_tree.specs.TreeEvents.{Events, word, completed, if_present}
use Rattle.ob_tree.specs.Names.{qualident_events}
use Rattle.ob_tree.specs.Expressions.{expr_events}
use Rattle.ob_tree.specs.Statements.{label_events, label_range_events, case_events, stmt_events, block_events, branch_events, for_events}
use Rattle.ob_tree.proofs.StatementInduction.{StatementPredicates, StatementSteps, WithCase, WithStmt, WithBranch, WithFor, WithBlock, case_of, stmt_of, branch_of, for_of, block_of, block_induction}
use Rattle.ob_tree.proofs.StatementLayers.{case_shown, stmt_shown, branch_shown, for_shown, block_shown, case_rolled, stmt_rolled, branch_rolled, for_rolled, block_rolled}
use Rattle.ob_tree.proofs.ExpressionInduction.{With}
use Rattle.ob_tree.proofs.Closed.{IsClosed, closed-is, closed-both, closed-construct, closed-there, closed-map, closed-separated}
use Rattle.ob_tree.proofs.ClosedExpressions.{closed-designator, closed-expr}

module _ (P : Events → Type 0) (closed : IsClosed P) where
  -- ---- names and labels

  pub closed-qualident : (q : Qualident) → P (qualident_events q)
  unfolding qualident_events
  closed-qualident q = closed-both P closed (closed.a_use q.head) (closed-there P closed (λ m. word kinds.Dot ++ completed m) q.member (λ m. closed-both P closed (closed.a_word kinds.Dot) (closed.a_completion m)))

  label_held : (l : Label) → P (label_events l)
  unfolding label_events
  label_held (labels.Integer n) = closed.a_value literals.Integer n
  label_held (labels.Text n) = closed.a_value literals.Text n
  label_held (labels.Name q) = closed-qualident q

  range_held : (r : LabelRange) → P (label_range_events r)
  unfolding label_range_events
  range_held r = closed-both P closed (label_held r.low) (closed-there P closed (λ l. word kinds.DotDot ++ label_events l) r.high (λ l. closed-both P closed (closed.a_word kinds.DotDot) (label_held l)))

  -- for each production, and for a branch with any keyword

  abbrev predicates : StatementPredicates
  predicates = record {
    case = λ t. P (case_events t);
    stmt = λ t. P (stmt_events t);
    branch = λ t. (k : Kind) → P (branch_events t k);
    for = λ t. P (for_events t);
    block = λ t. P (block_events t);
  }

  else_held : (o : Option (Box (With predicates.block) Global)) → P (if_present (λ b. word kinds.Else ++ block_events b.value) ((shapes.former-Stmt-If-2).map (With predicates.block) StatementSequence (λ e. e.0) o))
  else_held None = closed.nothing
  else_held (Some b) = closed-both P closed (closed.a_word kinds.Else) b.value.1

  case_held : (y : WithCase predicates) → P (case_shown (case_of predicates y))
  case_held layers.Nothing = closed.nothing
  case_held (layers.Labelled ranges body) = closed-both P closed (closed-separated P closed kinds.Comma label_range_events ranges range_held) (closed-both P closed (closed.a_word kinds.Colon) body.value.1)

  stmt_held : (y : WithStmt predicates) → P (stmt_shown (stmt_of predicates y))
  stmt_held layers.Empty = closed-construct P closed constructs.EmptyStatement closed.nothing
  stmt_held (layers.Assign d e) = closed-construct P closed constructs.Statement (closed-both P closed (closed-designator P closed d) (closed-both P closed (closed.a_word kinds.Assign) (closed-expr P closed e)))
  stmt_held (layers.Call d) = closed-construct P closed constructs.Statement (closed-designator P closed d)
  stmt_held (layers.If first rest otherwise) =
      closed-construct P closed constructs.Statement (closed-both P closed (closed.a_word kinds.If) (closed-both P closed (first.value.1 kinds.Then)
      (closed-both P closed (closed-map P closed (λ b. word kinds.Elsif ++ branch_events b kinds.Then) _ rest.items (λ b. closed-both P closed (closed.a_word kinds.Elsif) (b.1 kinds.Then)))
      (closed-both P closed (else_held otherwise) (closed.a_word kinds.End)))))
  stmt_held (layers.Case e first rest) =
      closed-construct P closed constructs.Statement (closed-both P closed (closed.a_word kinds.Case) (closed-both P closed (closed-expr P closed e) (closed-both P closed (closed.a_word kinds.Of) (closed-both P closed first.value.1
      (closed-both P closed (closed-map P closed (λ c. word kinds.Bar ++ case_events c) _ rest.items (λ c. closed-both P closed (closed.a_word kinds.Bar) c.1)) (closed.a_word kinds.End))))))
  stmt_held (layers.While first rest) =
      closed-construct P closed constructs.Statement (closed-both P closed (closed.a_word kinds.While) (closed-both P closed (first.value.1 kinds.Do)
      (closed-both P closed (closed-map P closed (λ b. word kinds.Elsif ++ branch_events b kinds.Do) _ rest.items (λ b. closed-both P closed (closed.a_word kinds.Elsif) (b.1 kinds.Do))) (closed.a_word kinds.End))))
  stmt_held (layers.Repeat body e) =
      closed-construct P closed constructs.Statement (closed-both P closed (closed.a_word kinds.Repeat) (closed-both P closed body.value.1 (closed-both P closed (closed.a_word kinds.Until) (closed-expr P closed e))))
  stmt_held (layers.For f) = closed-construct P closed constructs.Statement f.value.1

  block_held : (y : WithBlock predicates) → P (block_shown (block_of predicates y))
  block_held y = closed-both P closed y.first.1 (closed-map P closed (λ s. word kinds.Semicolon ++ stmt_events s) _ y.rest.items (λ s. closed-both P closed (closed.a_word kinds.Semicolon) s.1))

  branch_held : (y : WithBranch predicates) (k : Kind) → P (branch_shown (branch_of predicates y) k)
  branch_held y k = closed-both P closed (closed-expr P closed y.condition) (closed-both P closed (closed.a_word k) y.body.1)

  for_held : (y : WithFor predicates) → P (for_shown (for_of predicates y))
  for_held y =
      closed-both P closed (closed.a_word kinds.For) (closed-both P closed (closed.a_use y.variable) (closed-both P closed (closed.a_word kinds.Assign) (closed-both P closed (closed-expr P closed y.from) (closed-both P closed (closed.a_word kinds.To) (closed-both P closed (closed-expr P closed y.to)
      (closed-both P closed (closed-there P closed (λ e. word kinds.By ++ expr_events e) y.by (λ e. closed-both P closed (closed.a_word kinds.By) (closed-expr P closed e)))
      (closed-both P closed (closed.a_word kinds.Do) (closed-both P closed y.body.1 (closed.a_word kinds.End)))))))))

  -- ---- layer by layer

  steps : StatementSteps predicates
  steps = record {
    case = λ y. closed-is P closed (case_rolled _) (closed-construct P closed constructs.Case (case_held y));
    stmt = λ y. closed-is P closed (stmt_rolled _) (stmt_held y);
    branch = λ y k. closed-is P closed (branch_rolled _ k) (branch_held y k);
    for = λ y. closed-is P closed (for_rolled _) (for_held y);
    block = λ y. closed-is P closed (block_rolled _) (block_held y);
  }

  pub closed-block : (b : StatementSequence) → P (block_events b)
  closed-block = block_induction predicates steps
