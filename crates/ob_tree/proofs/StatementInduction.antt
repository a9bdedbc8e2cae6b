-- One induction over the productions of statements, for whatever is shown of the trees of each of them.
use Rattle.std.proofs.Common.{◌≡◌, subst}
use Rattle.ob_tree.specs.declared.statement.Case.{Case, Case-F, roll-Case, map-Case}
use Rattle.ob_tree.specs.declared.statement.Stmt.{Stmt, Stmt-F, roll-Stmt, map-Stmt}
use Rattle.ob_tree.specs.declared.statement.Branch.{Branch, Branch-F, roll-Branch, map-Branch}
use Rattle.ob_tree.specs.declared.statement.For.{For, For-F, roll-For, map-For}
use Rattle.ob_tree.specs.declared.statement.StatementSequence.{StatementSequence, StatementSequence-F, roll-StatementSequence, ind-StatementSequence, map-StatementSequence}
use Rattle.ob_tree.proofs.ExpressionInduction.{With}

-- what is shown of the trees of each production
pub record StatementPredicates : Type 1 where
  pub case : Case → Type 0
  pub stmt : Stmt → Type 0
  pub branch : Branch → Type 0
  pub for : For → Type 0
  pub block : StatementSequence → Type 0

-- a layer, with a tree for each child

abbrev pub CaseLayer : Type 0
CaseLayer = Case-F Case Stmt Branch For StatementSequence

abbrev pub StmtLayer : Type 0
StmtLayer = Stmt-F Case Stmt Branch For StatementSequence

abbrev pub BranchLayer : Type 0
BranchLayer = Branch-F Case Stmt Branch For StatementSequence

abbrev pub ForLayer : Type 0
ForLayer = For-F Case Stmt Branch For StatementSequence

abbrev pub BlockLayer : Type 0
BlockLayer = StatementSequence-F Case Stmt Branch For StatementSequence

-- a layer whose children carry their proofs, and the layer without them

abbrev pub WithCase : StatementPredicates → Type 0
WithCase F = Case-F (With F.case) (With F.stmt) (With F.branch) (With F.for) (With F.block)

abbrev pub case_of : (F : StatementPredicates) → WithCase F → CaseLayer
case_of F = map-Case (With F.case) (With F.stmt) (With F.branch) (With F.for) (With F.block) Case Stmt Branch For StatementSequence (λ e. e.0) (λ e. e.0) (λ e. e.0) (λ e. e.0) (λ e. e.0)

abbrev pub WithStmt : StatementPredicates → Type 0
WithStmt F = Stmt-F (With F.case) (With F.stmt) (With F.branch) (With F.for) (With F.block)

abbrev pub stmt_of : (F : StatementPredicates) → WithStmt F → StmtLayer
stmt_of F = map-Stmt (With F.case) (With F.stmt) (With F.branch) (With F.for) (With F.block) Case Stmt Branch For StatementSequence (λ e. e.0) (λ e. e.0) (λ e. e.0) (λ e. e.0) (λ e. e.0)

abbrev pub WithBranch : StatementPredicates → Type 0
WithBranch F = Branch-F (With F.case) (With F.stmt) (With F.branch) (With F.for) (With F.block)

abbrev pub branch_of : (F : StatementPredicates) → WithBranch F → BranchLayer
branch_of F = map-Branch (With F.case) (With F.stmt) (With F.branch) (With F.for) (With F.block) Case Stmt Branch For StatementSequence (λ e. e.0) (λ e. e.0) (λ e. e.0) (λ e. e.0) (λ e. e.0)

abbrev pub WithFor : StatementPredicates → Type 0
WithFor F = For-F (With F.case) (With F.stmt) (With F.branch) (With F.for) (With F.block)

abbrev pub for_of : (F : StatementPredicates) → WithFor F → ForLayer
for_of F = map-For (With F.case) (With F.stmt) (With F.branch) (With F.for) (With F.block) Case Stmt Branch For StatementSequence (λ e. e.0) (λ e. e.0) (λ e. e.0) (λ e. e.0) (λ e. e.0)

abbrev pub WithBlock : StatementPredicates → Type 0
WithBlock F = StatementSequence-F (With F.case) (With F.stmt) (With F.branch) (With F.for) (With F.block)

abbrev pub block_of : (F : StatementPredicates) → WithBlock F → BlockLayer
block_of F = map-StatementSequence (With F.case) (With F.stmt) (With F.branch) (With F.for) (With F.block) Case Stmt Branch For StatementSequence (λ e. e.0) (λ e. e.0) (λ e. e.0) (λ e. e.0) (λ e. e.0)

-- the induction step of each production: from the children to the tree
pub record StatementSteps (F : StatementPredicates) : Type 0 where
  pub case : (y : WithCase F) → F.case (roll-Case (case_of F y))
  pub stmt : (y : WithStmt F) → F.stmt (roll-Stmt (stmt_of F y))
  pub branch : (y : WithBranch F) → F.branch (roll-Branch (branch_of F y))
  pub for : (y : WithFor F) → F.for (roll-For (for_of F y))
  pub block : (y : WithBlock F) → F.block (roll-StatementSequence (block_of F y))

module _ (F : StatementPredicates) (steps : StatementSteps F) where
  case_step : (x : CaseLayer) (y : WithCase F) → case_of F y ≡ x → F.case (roll-Case x)
  case_step x y is = subst (λ (z : CaseLayer). F.case (roll-Case z)) is (steps.case y)

  stmt_step : (x : StmtLayer) (y : WithStmt F) → stmt_of F y ≡ x → F.stmt (roll-Stmt x)
  stmt_step x y is = subst (λ (z : StmtLayer). F.stmt (roll-Stmt z)) is (steps.stmt y)

  branch_step : (x : BranchLayer) (y : WithBranch F) → branch_of F y ≡ x → F.branch (roll-Branch x)
  branch_step x y is = subst (λ (z : BranchLayer). F.branch (roll-Branch z)) is (steps.branch y)

  for_step : (x : ForLayer) (y : WithFor F) → for_of F y ≡ x → F.for (roll-For x)
  for_step x y is = subst (λ (z : ForLayer). F.for (roll-For z)) is (steps.for y)

  block_step : (x : BlockLayer) (y : WithBlock F) → block_of F y ≡ x → F.block (roll-StatementSequence x)
  block_step x y is = subst (λ (z : BlockLayer). F.block (roll-StatementSequence z)) is (steps.block y)

  pub block_induction : (t : StatementSequence) → F.block t
  block_induction = ind-StatementSequence F.case F.stmt F.branch F.for F.block case_step stmt_step branch_step for_step block_step
