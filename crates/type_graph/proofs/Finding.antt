-- A name means one field.
use Rattle.std.proofs.Common.{◌≡◌, List, Bool, Option, subst}
use Rattle.type_graph.specs.declared.shape.Shape.{Shape}
use Rattle.type_graph.specs.Searches.{DenotesField}
use Rattle.type_graph.specs.Extending.{Has}
use Rattle.type_graph.proofs.Extending.{has_once, of_once}
use Rattle.type_graph.proofs.Opening.{field_found}

module _ {N D R : Type 0} (same : D → D → Bool) (shape : N → Shape N D R) {F : Type 0} (field : R → Option F) (base : R → Option N) where
  pub finds_once : (met : List D) (n : N) (f k : F) → DenotesField same shape field base met n f → DenotesField same shape field base met n k → f ≡ k
  finds_once met n f k p q =
      let a = field_found same shape field base met n f p in
      let b = field_found same shape field base met n k q in
      let one : a.of ≡ b.of = of_once shape n a.of b.of a.is_of b.is_of in
      (has_once shape base field a.has.bases b.has.bases b.of f k (subst (λ (r : R). Has shape base field a.has.bases r f) one a.has.has) b.has.has).1
