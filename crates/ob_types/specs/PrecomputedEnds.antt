-- The precomputed ends of types, and the precomputed heavy paths of records, for all modules of a tree.
use Rattle.std.specs.Prelude.{◌≡◌, ℕ, List, Option, Some, true, false, IfSome}
use Rattle.std.specs.BTreeMap.{get, BTreeMap}
use Rattle.std.specs.Global.{Box}
use Rattle.std.specs.Ordering.{nat_cmp, ordering_then}
use Rattle.std.specs.declared.cmp.Ordering.{Ordering}
use Rattle.ob_interface.specs.Interfaces.{ModuleInterface}
use Rattle.type_graph.specs.BuiltPaths.{AreHeavyPaths}
use Rattle.type_graph.specs.Link.{IsTypeEnd}
use Rattle.type_graph.specs.declared.paths.HeavyPaths.{HeavyPaths}
use Rattle.ob_types.specs.declared.nodes.Node.TheVariants as nodes
use Rattle.ob_types.specs.declared.nodes.Record.{Record}
use Rattle.ob_types.specs.declared.precomputed.TypeEnds.{TypeEnds}
use Rattle.ob_view.specs.ModuleNumbers.{AreNumberedModules}
use Rattle.ob_types.specs.Shapes.{base_of, field_of, shape}
use Rattle.ob_view.specs.World.{World}

-- the order of declarations: first by the index of the module, then by the index of the declaration in the module
abbrev pub key_cmp : ℕ × ℕ → ℕ × ℕ → Ordering
key_cmp a b = ordering_then (nat_cmp a.0 b.0) (nat_cmp a.1 b.1)

-- `ends` has the two ends of the type that declaration `d` of module `i` gives: reached by names, and by names and pointers
pub record AreEndsOf (w : World) (i d : ℕ) (ends : TypeEnds) : Type 0 where
  pub by_names : IsTypeEnd (shape w) false (nodes.Other i d 0) ends.by_names
  pub by_pointers : IsTypeEnd (shape w) true (nodes.Other i d 0) ends.by_pointers

-- each element of the map has the two ends of the type that the declaration in its key gives
pub record AreAllEndsOf (w : World) (all : BTreeMap (ℕ × ℕ) TypeEnds) : Type 0 where
  pub each : (i d : ℕ) (ends : TypeEnds) → get key_cmp all (i, d) ≡ Some ends → AreEndsOf w i d ends

-- the precomputed heavy paths and ends are those of some world that reaches exactly these modules, which are sorted by name
pub record ArePrecomputed (modules : List ModuleInterface) (paths : Option (Box (HeavyPaths Record))) (ends : BTreeMap (ℕ × ℕ) TypeEnds) : Type 0 where
  pub tree : World
  pub reached : tree.reached ≡ modules
  pub module_numbers : AreNumberedModules modules
  pub built : IfSome paths (λ l. AreHeavyPaths (shape tree) (base_of tree) (field_of tree) l.value)
  pub ends_are : AreAllEndsOf tree ends
