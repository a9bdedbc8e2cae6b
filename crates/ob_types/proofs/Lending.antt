-- Precomputed results for all modules of a tree, translated to the modules that one of them reaches.
use Rattle.std.proofs.Common.{◌≡◌, ℕ, List, Bool, Option, Some, None, sym, ap, ◌∙◌, subst}
use Rattle.std.specs.Prelude.{slice_get, IfSome}
use Rattle.ob_interface.specs.Interfaces.{ModuleInterface}
use Rattle.type_graph.specs.declared.jump.Jump.{Jump}
use Rattle.type_graph.specs.declared.jump.Jump.TheVariants as jumps
use Rattle.type_graph.specs.Link.{IsTypeEnd}
use Rattle.type_graph.specs.PathOrder.{IsJump}
use Rattle.ob_types.specs.CommonModules.{part_alike, record_alike, AreNodesCommon, AreRecordsCommon, IsCommonModule}
use Rattle.ob_types.specs.declared.nodes.Node.{Node}
use Rattle.ob_types.specs.declared.nodes.Node.TheVariants as nodes
use Rattle.ob_types.specs.declared.nodes.Record.{Record}
use Rattle.ob_types.specs.declared.nodes.Record.TheVariants as records
use Rattle.ob_view.specs.ModuleNumbers.{module_number_in}
use Rattle.ob_types.specs.Shapes.{base_of, field_of, shape}
use Rattle.ob_types.specs.Within.{AreWithin}
use Rattle.ob_view.specs.World.{World, module_number}
use Rattle.ob_types.proofs.CommonModules.{end_known, hop_from, hop_onto, lacks_field, no_end_known}
use Rattle.ob_types.proofs.Within.{imports_alike, number_is, place_is}

-- the world of the tree reaches these modules
module _ (w v : World) (modules : List ModuleInterface) (same : v.reached ≡ modules) (among : AreWithin modules w.reached) where
  within : AreWithin v.reached w.reached
  within = subst (λ (ms : List ModuleInterface). AreWithin ms w.reached) (sym same) among

  home_there : (name : List ℕ) (o : Option ℕ) → o ≡ module_number_in modules name → module_number v name ≡ o
  unfolding module_number
  home_there name o e = ap (λ (ms : List ModuleInterface). module_number_in ms name) same ∙ sym e

  pub number_told : (i k : ℕ) (m : ModuleInterface) (name : List ℕ) (o : Option ℕ) → slice_get w.reached i ≡ Some m → name ≡ m.name → module_number w name ≡ Some k → k ≡ i → o ≡ module_number_in modules name → IfSome o (IsCommonModule w v i)
  number_told i k m name None at named here is external = tt
  number_told i k m name (Some j) at named here is external =
      number_is w v within i j m at (ap (module_number w) (sym named) ∙ here ∙ ap (λ (n : ℕ). Some n) is) (ap (module_number v) (sym named) ∙ home_there name (Some j) external)

  pub place_told : (j : ℕ) (m : ModuleInterface) (name : List ℕ) (o : Option ℕ) → slice_get modules j ≡ Some m → name ≡ m.name → o ≡ module_number w name → IfSome o (λ i. IsCommonModule w v i j)
  place_told j m name None at named here = tt
  place_told j m name (Some i) at named here = place_is w v within i j m (ap (λ (ms : List ModuleInterface). slice_get ms j) same ∙ at) (ap (module_number w) (sym named) ∙ sym here)

  module _ (name : List ℕ) (r : Record) (i j k : ℕ) (is : r ≡ records.Other i k) (common : IsCommonModule w v i j) where
    alike : AreRecordsCommon w v r (records.Other j k)
    alike = subst (λ (x : Record). AreRecordsCommon w v x (records.Other j k)) (sym is) (record_alike common)

    pub lacks_told : field_of w r name ≡ None → field_of v (records.Other j k) name ≡ None
    lacks_told lacks = lacks_field w v (imports_alike w v within) name r (records.Other j k) alike lacks

    abbrev IsHopIn : World → Record → Jump Record → Type 0
    IsHopIn t s h = IsJump (shape t) (base_of t) (λ (q : Record). field_of t q name) s h

    pub onto_told : (here above : Record) → IsHopIn v (records.Other j k) (jumps.Onto above) → AreRecordsCommon w v here above → IsHopIn w r (jumps.Onto here)
    onto_told here above h a = hop_onto w v (imports_alike w v within) name r (records.Other j k) alike here above h a

    pub from_told : (here last : Record) → IsHopIn v (records.Other j k) (jumps.From last) → AreRecordsCommon w v here last → IsHopIn w r (jumps.From here)
    from_told here last h a = hop_from w v (imports_alike w v within) name r (records.Other j k) alike here last h a

  module _ (pointers : Bool) (node : Node) (i j d : ℕ) (is : node ≡ nodes.Other i d 0) (common : IsCommonModule w v i j) where
    part : AreNodesCommon w v node (nodes.Other j d 0)
    part = subst (λ (n : Node). AreNodesCommon w v n (nodes.Other j d 0)) (sym is) (part_alike common)

    pub no_end_told : IsTypeEnd (shape v) pointers (nodes.Other j d 0) None → IsTypeEnd (shape w) pointers node None
    no_end_told is_end = no_end_known w v (imports_alike w v within) pointers node (nodes.Other j d 0) part is_end

    pub end_told : (here last : Node) → IsTypeEnd (shape v) pointers (nodes.Other j d 0) (Some last) → AreNodesCommon w v here last → IsTypeEnd (shape w) pointers node (Some here)
    end_told here last is_end a = end_known w v (imports_alike w v within) pointers node (nodes.Other j d 0) here last part is_end a
