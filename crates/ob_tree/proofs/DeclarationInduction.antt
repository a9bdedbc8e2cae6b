-- One induction over the productions of declarations, for whatever is shown of the trees of each of them.
use Rattle.std.proofs.Common.{◌≡◌, subst}
use Rattle.ob_tree.specs.declared.declaration.Declarations.{Declarations, Declarations-F, roll-Declarations, ind-Declarations, map-Declarations}
use Rattle.ob_tree.specs.declared.declaration.ProcDecl.{ProcDecl, ProcDecl-F, roll-ProcDecl, map-ProcDecl}
use Rattle.ob_tree.proofs.ExpressionInduction.{With}

-- what is shown of the trees of each production
pub record DeclarationPredicates : Type 1 where
  pub declarations : Declarations → Type 0
  pub procedure : ProcDecl → Type 0

-- a layer, with a tree for each child

abbrev pub DeclarationsLayer : Type 0
DeclarationsLayer = Declarations-F Declarations ProcDecl

abbrev pub ProcedureLayer : Type 0
ProcedureLayer = ProcDecl-F Declarations ProcDecl

-- a layer whose children carry their proofs, and the layer without them

abbrev pub WithDeclarations : DeclarationPredicates → Type 0
WithDeclarations F = Declarations-F (With F.declarations) (With F.procedure)

abbrev pub declarations_of : (F : DeclarationPredicates) → WithDeclarations F → DeclarationsLayer
declarations_of F = map-Declarations (With F.declarations) (With F.procedure) Declarations ProcDecl (λ e. e.0) (λ e. e.0)

abbrev pub WithProcedure : DeclarationPredicates → Type 0
WithProcedure F = ProcDecl-F (With F.declarations) (With F.procedure)

abbrev pub procedure_of : (F : DeclarationPredicates) → WithProcedure F → ProcedureLayer
procedure_of F = map-ProcDecl (With F.declarations) (With F.procedure) Declarations ProcDecl (λ e. e.0) (λ e. e.0)

-- the induction step of each production: from the children to the tree
pub record DeclarationSteps (F : DeclarationPredicates) : Type 0 where
  pub declarations : (y : WithDeclarations F) → F.declarations (roll-Declarations (declarations_of F y))
  pub procedure : (y : WithProcedure F) → F.procedure (roll-ProcDecl (procedure_of F y))

module _ (F : DeclarationPredicates) (steps : DeclarationSteps F) where
  declarations_step : (x : DeclarationsLayer) (y : WithDeclarations F) → declarations_of F y ≡ x → F.declarations (roll-Declarations x)
  declarations_step x y is = subst (λ (z : DeclarationsLayer). F.declarations (roll-Declarations z)) is (steps.declarations y)

  procedure_step : (x : ProcedureLayer) (y : WithProcedure F) → procedure_of F y ≡ x → F.procedure (roll-ProcDecl x)
  procedure_step x y is = subst (λ (z : ProcedureLayer). F.procedure (roll-ProcDecl z)) is (steps.procedure y)

  pub declarations_induction : (t : Declarations) → F.declarations t
  declarations_induction = ind-Declarations F.declarations F.procedure declarations_step procedure_step
