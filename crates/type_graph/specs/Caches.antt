-- The invariant of the caches: every stored end, parent, heavy path and field is that of the graph.
use Rattle.std.specs.Prelude.{ℕ, List, Bool, true, Option, IfSome}
use Rattle.type_graph.specs.declared.cache.ParentCache.{ParentCache}
use Rattle.type_graph.specs.declared.cache.FieldCache.{FieldCache}
use Rattle.type_graph.specs.declared.shape.Shape.{Shape}
use Rattle.type_graph.specs.BuiltPaths.{AreHeavyPaths}
use Rattle.type_graph.specs.Extending.{AreFieldsMemoized, AreParents}
use Rattle.type_graph.specs.Link.{AreTypeEnds}

module _ {N D R : Type 0} (shape : N → Shape N D R) (base : R → Option N) (same_declaration : D → D → Bool) (same_record : R → R → Bool) where
  -- every stored end is that of its declaration, and every stored parent that of its record
  pub record IsValidParentCache (cache : ParentCache N D R) : Type 0 where
    pub ends : AreTypeEnds shape true same_declaration cache.ends
    pub parents : AreParents shape base same_record cache.parents

  -- the stored parents, heavy paths and fields are those of the graph
  pub record IsValidFieldCache {F : Type 0} (field : R → List ℕ → Option F) (cache : FieldCache N D R F) : Type 0 where
    pub parents : IsValidParentCache cache.parents
    pub paths : IfSome cache.paths (λ built. AreHeavyPaths shape base field built.value)
    pub fields : AreFieldsMemoized shape base field same_record cache.fields
