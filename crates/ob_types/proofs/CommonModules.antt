-- Types written in a module denote corresponding types in two worlds that reach what the module imports.
use Rattle.std.proofs.Common.{◌≡◌, ℕ, zero, suc, List, Bool, true, false, Option, Some, None, refl, sym, ap, ◌∙◌, subst}
use Rattle.std.specs.Prelude.{slice_get, if◌then◌else◌}
use Rattle.std.specs.Option.{option_and_then, option_map}
use Rattle.ob_interface.specs.Interfaces.{Simple, Qualified, Array, Pointer, Record as RecordPart, Procedure, Named as NamedPart, Base, Declaration, ModuleInterface, Part, TypeName}
use Rattle.ob_interface.specs.Placed.{index_of, declaration_at, type_part, module_named, base_named}
use Rattle.type_graph.specs.declared.jump.Jump.TheVariants as jumps
use Rattle.type_graph.specs.declared.shape.Shape.TheVariants as shapes
use Rattle.type_graph.specs.Extending.{shape_record, Extends, Lacks, LeadsToRecord, Rises, nowhere, higher}
use Rattle.type_graph.specs.Link.{successor, ends, on, IsTypeEnd, TypeLeads, TypeLeadsTo}
use Rattle.type_graph.specs.PathOrder.{IsJump}
use Rattle.ob_types.specs.CommonModules.{part_alike, base_alike, record_alike, AreNodesCommon, AreRecordsCommon, IsCommonModule}
use Rattle.ob_types.specs.declared.nodes.Field.{Field}
use Rattle.ob_types.specs.declared.nodes.Field.TheVariants as fields
use Rattle.ob_types.specs.declared.nodes.Named.{Named}
use Rattle.ob_types.specs.declared.nodes.Named.TheVariants as named
use Rattle.ob_types.specs.declared.nodes.Node.{Node}
use Rattle.ob_types.specs.declared.nodes.Node.TheVariants as nodes
use Rattle.ob_types.specs.declared.nodes.Record.{Record}
use Rattle.ob_types.specs.declared.nodes.Record.TheVariants as records
use Rattle.ob_types.specs.Shapes.{TypeShape, shape_or_unknown, is_type, declared_type_shape, imported_type, exported_type, type_if_visible, visible_type, may_mean, resolve_imported_name, imported_part_shape, imported_base_shape, shape, is_pointer_target, is_pointer, field_of, base_of}
use Rattle.ob_view.specs.World.{World, module_number, exported_at, exported_index, imported_declaration, named_declaration, aliased_module_name, imported_base, imported_part as part_row_there}

-- ---- common modules

turned : (w v : World) (i j : ℕ) → IsCommonModule w v i j → IsCommonModule v w j i
turned w v i j t = record { common = t.common; here = t.external; external = t.here; index_in_first = t.index_in_second; index_in_second = t.index_in_first }

one_twin : (w v : World) (i k j : ℕ) → IsCommonModule w v i j → IsCommonModule w v k j → i ≡ k
one_twin w v i k j t u =
    let e : Some t.common ≡ Some u.common = sym t.external ∙ u.external in
    let same : t.common ≡ u.common = cc in
    let f : Some i ≡ Some k = sym t.index_in_first ∙ ap (λ (m : ModuleInterface). module_number w m.name) same ∙ u.index_in_first in
    cc

turned_node : (w v : World) (n m : Node) → AreNodesCommon w v n m → AreNodesCommon v w m n
turned_node w v n m (part_alike {i = i} {j = j} t) = part_alike (turned w v i j t)
turned_node w v n m (base_alike {i = i} {j = j} t) = base_alike (turned w v i j t)

turned_record : (w v : World) (r s : Record) → AreRecordsCommon w v r s → AreRecordsCommon v w s r
turned_record w v r s (record_alike {i = i} {j = j} t) = record_alike (turned w v i j t)

-- a look-up in the interface has one result in both worlds
abbrev says : {X : Type 0} (w v : World) (i j : ℕ) (f : ModuleInterface → Option X) → IsCommonModule w v i j → option_and_then f (slice_get w.reached i) ≡ option_and_then f (slice_get v.reached j)
says w v i j f t = ap (option_and_then f) (t.here ∙ sym t.external)

same_declaration : (w v : World) (i j d : ℕ) → IsCommonModule w v i j → imported_declaration w i d ≡ imported_declaration v j d
unfolding imported_declaration
same_declaration w v i j d t = says w v i j (λ (m : ModuleInterface). declaration_at m d) t

same_declared : (w v : World) (i j : ℕ) (name : List ℕ) → IsCommonModule w v i j → named_declaration w i name ≡ named_declaration v j name
unfolding named_declaration
same_declared w v i j name t = says w v i j (λ (m : ModuleInterface). index_of m None name) t

same_alias : (w v : World) (i j : ℕ) (alias : List ℕ) → IsCommonModule w v i j → aliased_module_name w i alias ≡ aliased_module_name v j alias
unfolding aliased_module_name
same_alias w v i j alias t = says w v i j (λ (m : ModuleInterface). module_named m alias) t

same_exported : (w v : World) (i j : ℕ) (name : List ℕ) → IsCommonModule w v i j → exported_index w i name ≡ exported_index v j name
unfolding exported_index
same_exported w v i j name t = says w v i j (λ (m : ModuleInterface). exported_at m None name) t

same_row : (w v : World) (i j d p : ℕ) → IsCommonModule w v i j → part_row_there w i d p ≡ part_row_there v j d p
unfolding part_row_there
same_row w v i j d p t = says w v i j (λ (m : ModuleInterface). type_part m d p) t

same_base : (w v : World) (i j r : ℕ) → IsCommonModule w v i j → imported_base w i r ≡ imported_base v j r
unfolding imported_base
same_base w v i j r t = says w v i j (λ (m : ModuleInterface). base_named m r) t

same_behind : (w v : World) (i j d p : ℕ) → IsCommonModule w v i j → is_pointer_target w i d p ≡ is_pointer_target v j d p
unfolding is_pointer_target
same_behind w v i j d zero t = refl
same_behind w v i j d (suc p) t = ap is_pointer (same_row w v i j d p t)

-- ---- types

data AreShapesAlike (w v : World) : TypeShape → TypeShape → Type 0 where
  arrays : {n m : Node} → AreNodesCommon w v n m → AreShapesAlike w v (shapes.Array n) (shapes.Array m)
  pointers : {n m : Node} → AreNodesCommon w v n m → AreShapesAlike w v (shapes.Pointer n) (shapes.Pointer m)
  both_records : {r s : Record} → AreRecordsCommon w v r s → AreShapesAlike w v (shapes.Record r) (shapes.Record s)
  procedures : AreShapesAlike w v shapes.Procedure shapes.Procedure
  names : {d e : Named} {n m : Node} → AreNodesCommon w v n m → AreShapesAlike w v (shapes.Named d n) (shapes.Named e m)
  unknowns : AreShapesAlike w v shapes.Unknown shapes.Unknown

data AreAlikeIf (w v : World) : Option TypeShape → Option TypeShape → Type 0 where
  neither : AreAlikeIf w v None None
  both : {s t : TypeShape} → AreShapesAlike w v s t → AreAlikeIf w v (Some s) (Some t)

known_alike : (w v : World) (o p : Option TypeShape) → AreAlikeIf w v o p → AreShapesAlike w v (shape_or_unknown o) (shape_or_unknown p)
known_alike w v o p neither = unknowns
known_alike w v o p (both a) = a

then_same : {X : Type 0} (w v : World) (f g : X → Option TypeShape) (o : Option X) → ((x : X) → AreAlikeIf w v (f x) (g x)) → AreAlikeIf w v (option_and_then f o) (option_and_then g o)
then_same w v f g None h = neither
then_same w v f g (Some x) h = h x

then_alike : {X : Type 0} (w v : World) (f g : X → Option TypeShape) (o p : Option X) → o ≡ p → ((x : X) → AreAlikeIf w v (f x) (g x)) → AreAlikeIf w v (option_and_then f o) (option_and_then g p)
then_alike {X} w v f g o p e h = subst (λ (q : Option X). AreAlikeIf w v (option_and_then f o) (option_and_then g q)) e (then_same w v f g o h)

map_same : {X : Type 0} (w v : World) (f g : X → TypeShape) (o : Option X) → ((x : X) → AreShapesAlike w v (f x) (g x)) → AreShapesAlike w v (shape_or_unknown (option_map f o)) (shape_or_unknown (option_map g o))
map_same w v f g None h = unknowns
map_same w v f g (Some x) h = h x

map_alike : {X : Type 0} (w v : World) (f g : X → TypeShape) (o p : Option X) → o ≡ p → ((x : X) → AreShapesAlike w v (f x) (g x)) → AreShapesAlike w v (shape_or_unknown (option_map f o)) (shape_or_unknown (option_map g p))
map_alike {X} w v f g o p e h = subst (λ (q : Option X). AreShapesAlike w v (shape_or_unknown (option_map f o)) (shape_or_unknown (option_map g q))) e (map_same w v f g o h)

if_alike : (w v : World) (b : Bool) (o p : Option TypeShape) → AreAlikeIf w v o p → AreAlikeIf w v (if b then o else None) (if b then p else None)
if_alike w v true o p h = h
if_alike w v false o p h = neither

by_alike : (w v : World) (i j d : ℕ) (it : Declaration) → IsCommonModule w v i j → AreAlikeIf w v (declared_type_shape i d it) (declared_type_shape j d it)
by_alike w v i j d it t = if_alike w v (is_type it.decl_kind) (Some (shapes.Named (named.Other i d) (nodes.Other i d 0))) (Some (shapes.Named (named.Other j d) (nodes.Other j d 0))) (both (names (part_alike t)))

there_alike : (w v : World) (i j d : ℕ) → IsCommonModule w v i j → AreAlikeIf w v (imported_type w i d) (imported_type v j d)
unfolding imported_type
there_alike w v i j d t = then_alike w v (declared_type_shape i d) (declared_type_shape j d) (imported_declaration w i d) (imported_declaration v j d) (same_declaration w v i j d t) (λ it. by_alike w v i j d it t)

exported_alike : (w v : World) (name : List ℕ) (i j : ℕ) → IsCommonModule w v i j → AreAlikeIf w v (exported_type w name i) (exported_type v name j)
unfolding exported_type
exported_alike w v name i j t = then_alike w v (imported_type w i) (imported_type v j) (exported_index w i name) (exported_index v j name) (same_exported w v i j name t) (λ d. there_alike w v i j d t)

seen_by_alike : (w v : World) (i j d start : ℕ) (is_target : Bool) (it : Declaration) → IsCommonModule w v i j → AreAlikeIf w v (type_if_visible i d start is_target it) (type_if_visible j d start is_target it)
seen_by_alike w v i j d start is_target it t = if_alike w v (may_mean start is_target it) (declared_type_shape i d it) (declared_type_shape j d it) (by_alike w v i j d it t)

seen_alike : (w v : World) (i j start : ℕ) (is_target : Bool) (d : ℕ) → IsCommonModule w v i j → AreAlikeIf w v (visible_type w i start is_target d) (visible_type v j start is_target d)
unfolding visible_type
seen_alike w v i j start is_target d t =
    then_alike w v (type_if_visible i d start is_target) (type_if_visible j d start is_target) (imported_declaration w i d) (imported_declaration v j d) (same_declaration w v i j d t) (λ it. seen_by_alike w v i j d start is_target it t)

-- the two optional indexes are those of a common module in the two worlds, or both are None
pub data AreHomesAlike (w v : World) : Option ℕ → Option ℕ → Type 0 where
  no_homes : AreHomesAlike w v None None
  module_numbers : {i j : ℕ} → IsCommonModule w v i j → AreHomesAlike w v (Some i) (Some j)

turned_homes : (w v : World) (o p : Option ℕ) → AreHomesAlike w v o p → AreHomesAlike v w p o
turned_homes w v o p no_homes = no_homes
turned_homes w v o p (module_numbers {i = i} {j = j} t) = module_numbers (turned w v i j t)

home_alike : (w v : World) (name : List ℕ) (o p : Option ℕ) → AreHomesAlike w v o p → AreAlikeIf w v (option_and_then (exported_type w name) o) (option_and_then (exported_type v name) p)
home_alike w v name o p no_homes = neither
home_alike w v name o p (module_numbers {i = i} {j = j} t) = exported_alike w v name i j t

-- common modules import common modules
abbrev pub AreImportsAlike : World → World → Type 0
AreImportsAlike w v = (i j : ℕ) (alias name : List ℕ) → IsCommonModule w v i j → aliased_module_name w i alias ≡ Some name → AreHomesAlike w v (module_number w name) (module_number v name)

turned_imports : (w v : World) → AreImportsAlike w v → AreImportsAlike v w
turned_imports w v h j i alias name t e = let u = turned v w j i t in turned_homes w v (module_number w name) (module_number v name) (h i j alias name u (same_alias w v i j alias u ∙ e))

module _ (w v : World) (imports : AreImportsAlike w v) where
  behind_same : (i j : ℕ) (alias name : List ℕ) (o : Option (List ℕ)) → IsCommonModule w v i j → aliased_module_name w i alias ≡ o →
      AreAlikeIf w v (option_and_then (exported_type w name) (option_and_then (module_number w) o)) (option_and_then (exported_type v name) (option_and_then (module_number v) o))
  behind_same i j alias name None t e = neither
  behind_same i j alias name (Some own) t e = home_alike w v name (module_number w own) (module_number v own) (imports i j alias own t e)

  named_alike : (i j start : ℕ) (is_target : Bool) (n : TypeName) → IsCommonModule w v i j → AreShapesAlike w v (resolve_imported_name w i start is_target n) (resolve_imported_name v j start is_target n)
  unfolding resolve_imported_name
  named_alike i j start is_target (Simple name) t =
      known_alike w v _ _ (then_alike w v (visible_type w i start is_target) (visible_type v j start is_target) (named_declaration w i name) (named_declaration v j name) (same_declared w v i j name t) (λ d. seen_alike w v i j start is_target d t))
  named_alike i j start is_target (Qualified alias name) t =
      let here = behind_same i j alias name (aliased_module_name w i alias) t refl in
      known_alike w v _ _
      (subst (λ (o : Option (List ℕ)). AreAlikeIf w v (option_and_then (exported_type w name) (option_and_then (module_number w) (aliased_module_name w i alias))) (option_and_then (exported_type v name) (option_and_then (module_number v) o)))
      (same_alias w v i j alias t) here)

  row_alike : (i j d p : ℕ) (part : Part) → IsCommonModule w v i j → AreShapesAlike w v (imported_part_shape w i d p part) (imported_part_shape v j d p part)
  row_alike i j d p Array t = arrays (part_alike t)
  row_alike i j d p Pointer t = pointers (part_alike t)
  row_alike i j d p (RecordPart k) t = both_records (record_alike t)
  row_alike i j d p Procedure t = procedures
  row_alike i j d p (NamedPart start name) t =
      subst (λ (b : Bool). AreShapesAlike w v (resolve_imported_name w i start (is_pointer_target w i d p) name) (resolve_imported_name v j start b name)) (same_behind w v i j d p t) (named_alike i j start (is_pointer_target w i d p) name t)

  shape_alike : (n m : Node) → AreNodesCommon w v n m → AreShapesAlike w v (shape w n) (shape v m)
  unfolding shape
  shape_alike n m (part_alike {i = i} {j = j} {d = d} {p = p} t) =
      map_alike w v (imported_part_shape w i d p) (imported_part_shape v j d p) (part_row_there w i d p) (part_row_there v j d p) (same_row w v i j d p t) (λ part. row_alike i j d p part t)
  shape_alike n m (base_alike {i = i} {j = j} {r = r} t) =
      map_alike w v (imported_base_shape w i) (imported_base_shape v j) (imported_base w i r) (imported_base v j r) (same_base w v i j r t) (λ b. named_alike i j b.start false b.name t)

  -- ---- the ends of types

  record NextAlike (follows : Bool) (n : Node) (t : TypeShape) : Type 0 where
    next : Node
    is : successor follows t ≡ Some next
    alike : AreNodesCommon w v n next

  abbrev pointer_to : Node → TypeShape
  pointer_to n = shapes.Pointer n

  pointer_alike : (follows : Bool) (k n m : Node) → AreNodesCommon w v k m → successor follows (pointer_to k) ≡ Some n → NextAlike follows n (shapes.Pointer m)
  pointer_alike true k n m a e = record { next = m; is = refl; alike = subst (λ (x : Node). AreNodesCommon w v x m) (let f : Some k ≡ Some n = e in let g : k ≡ n = cc in g) a }
  pointer_alike false k n m a e = absurd (let f : None ≡ Some n = e in cc)

  next_alike : (follows : Bool) (s t : TypeShape) (n : Node) → AreShapesAlike w v s t → successor follows s ≡ Some n → NextAlike follows n t
  next_alike follows s t n (arrays a) e = absurd (let f : None ≡ Some n = e in cc)
  next_alike follows s t n (pointers {n = k} {m = m} a) e = pointer_alike follows k n m a e
  next_alike follows s t n (both_records a) e = absurd (let f : None ≡ Some n = e in cc)
  next_alike follows s t n procedures e = absurd (let f : None ≡ Some n = e in cc)
  next_alike follows s t n (names {n = k} {m = m} a) e =
      record { next = m; is = refl; alike = subst (λ (x : Node). AreNodesCommon w v x m) (let f : Some k ≡ Some n = e in let g : k ≡ n = cc in g) a }
  next_alike follows s t n unknowns e = absurd (let f : None ≡ Some n = e in cc)

  pointer_ends : (follows : Bool) (k m : Node) → successor follows (pointer_to k) ≡ None → successor follows (pointer_to m) ≡ None
  pointer_ends true k m e = absurd (let f : Some k ≡ None = e in cc)
  pointer_ends false k m e = refl

  ends_alike : (follows : Bool) (s t : TypeShape) → AreShapesAlike w v s t → successor follows s ≡ None → successor follows t ≡ None
  ends_alike follows s t (arrays a) e = refl
  ends_alike follows s t (pointers {n = k} {m = m} a) e = pointer_ends follows k m e
  ends_alike follows s t (both_records a) e = refl
  ends_alike follows s t procedures e = refl
  ends_alike follows s t (names {n = k} a) e = absurd (let f : Some k ≡ None = e in cc)
  ends_alike follows s t unknowns e = refl

  record LeadAlike (follows : Bool) (m last : Node) : Type 0 where
    end : Node
    leads : TypeLeadsTo (shape v) follows m end
    alike : AreNodesCommon w v last end

  leads_alike : (follows : Bool) (k : ℕ) (n m last : Node) → AreNodesCommon w v n m → TypeLeads (shape w) follows k n last → LeadAlike follows m last
  leads_alike follows k n m last a (ends e) = record { end = m; leads = record { steps = zero; leads = ends (ends_alike follows (shape w n) (shape v m) (shape_alike n m a) e) }; alike = a }
  leads_alike follows k n m last a (on {k = l} {m = x} e rest) =
      let next = next_alike follows (shape w n) (shape v m) x (shape_alike n m a) e in
      let external = leads_alike follows l x next.next last next.alike rest in
      record { end = external.end; leads = record { steps = suc external.leads.steps; leads = on next.is external.leads.leads }; alike = external.alike }

  lead_alike : (follows : Bool) (n m last : Node) → AreNodesCommon w v n m → TypeLeadsTo (shape w) follows n last → LeadAlike follows m last
  lead_alike follows n m last a l = leads_alike follows l.steps n m last a l.leads

  -- ---- records

  record RecordAlike (r : Record) (t : TypeShape) : Type 0 where
    of : Record
    is : shape_record t ≡ Some of
    alike : AreRecordsCommon w v r of

  shape_record_alike : (s t : TypeShape) (r : Record) → AreShapesAlike w v s t → shape_record s ≡ Some r → RecordAlike r t
  shape_record_alike s t r (arrays a) e = absurd (let f : None ≡ Some r = e in cc)
  shape_record_alike s t r (pointers a) e = absurd (let f : None ≡ Some r = e in cc)
  shape_record_alike s t r (both_records {r = q} {s = u} a) e =
      record { of = u; is = refl; alike = subst (λ (x : Record). AreRecordsCommon w v x u) (let f : Some q ≡ Some r = e in let g : q ≡ r = cc in g) a }
  shape_record_alike s t r procedures e = absurd (let f : None ≡ Some r = e in cc)
  shape_record_alike s t r (names a) e = absurd (let f : None ≡ Some r = e in cc)
  shape_record_alike s t r unknowns e = absurd (let f : None ≡ Some r = e in cc)

  record ToRecordAlike (m : Node) (r : Record) : Type 0 where
    to : Record
    leads : LeadsToRecord (shape v) m to
    alike : AreRecordsCommon w v r to

  to_record_alike : (n m : Node) (r : Record) → AreNodesCommon w v n m → LeadsToRecord (shape w) n r → ToRecordAlike m r
  to_record_alike n m r a l =
      let external = lead_alike true n m l.at a l.leads in
      let of = shape_record_alike (shape w l.at) (shape v external.end) r (shape_alike l.at external.end external.alike) l.is in
      record { to = of.of; leads = record { at = external.end; leads = external.leads; is = of.is }; alike = of.alike }

  record BaseAlike (s : Record) (n : Node) : Type 0 where
    node : Node
    is : base_of v s ≡ Some node
    alike : AreNodesCommon w v n node

  base_same : (i j r : ℕ) (n : Node) (o : Option Base) → IsCommonModule w v i j → option_map (λ (b : Base). nodes.OtherBase i r) o ≡ Some n → (option_map (λ (b : Base). nodes.OtherBase j r) o ≡ Some (nodes.OtherBase j r)) × AreNodesCommon w v n (nodes.OtherBase j r)
  base_same i j r n None t e = absurd (let f : None ≡ Some n = e in cc)
  base_same i j r n (Some b) t e = (refl, subst (λ (x : Node). AreNodesCommon w v x (nodes.OtherBase j r)) (let f : Some (nodes.OtherBase i r) ≡ Some n = e in let g : nodes.OtherBase i r ≡ n = cc in g) (base_alike t))

  base_of_alike : (r s : Record) (n : Node) → AreRecordsCommon w v r s → base_of w r ≡ Some n → BaseAlike s n
  unfolding base_of
  base_of_alike r s n (record_alike {i = i} {j = j} {r = k} t) e =
      let both = base_same i j k n (imported_base w i k) t e in
      record { node = nodes.OtherBase j k; is = ap (option_map (λ (b : Base). nodes.OtherBase j k)) (sym (same_base w v i j k t)) ∙ both.0; alike = both.1 }

  record ExtendsAlike (s above : Record) : Type 0 where
    up : Record
    extends : Extends (shape v) (base_of v) s up
    alike : AreRecordsCommon w v above up

  extends_alike : (r s above : Record) → AreRecordsCommon w v r s → Extends (shape w) (base_of w) r above → ExtendsAlike s above
  extends_alike r s above a x =
      let base = base_of_alike r s x.by a x.is_base in
      let to = to_record_alike x.by base.node above base.alike x.is_of in
      record { up = to.to; extends = record { by = base.node; is_base = base.is; is_of = to.leads }; alike = to.alike }

  -- ---- fields

  no_field : (i j : ℕ) (o p : Option ℕ) → o ≡ p → option_map (fields.Other i) o ≡ None → option_map (fields.Other j) p ≡ None
  no_field i j o None e f = refl
  no_field i j o (Some d) e f = absurd (let g : Some (fields.Other i d) ≡ None = ap (option_map (fields.Other i)) (sym e) ∙ f in cc)

  pub lacks_field : (name : List ℕ) (r s : Record) → AreRecordsCommon w v r s → field_of w r name ≡ None → field_of v s name ≡ None
  unfolding field_of
  lacks_field name r s (record_alike {i = i} {j = j} {r = k} t) e =
      let f : ModuleInterface → Option ℕ = λ m. exported_at m (Some k) name in
      no_field i j (option_and_then f (slice_get w.reached i)) (option_and_then f (slice_get v.reached j)) (says w v i j f t) e

  module _ (name : List ℕ) where
    abbrev field_here : Record → Option Field
    field_here r = field_of w r name

    abbrev field_in : Record → Option Field
    field_in r = field_of v r name

    record RisesAlike (k : ℕ) (s above : Record) : Type 0 where
      up : Record
      rises : Rises (shape v) (base_of v) field_in k s up
      alike : AreRecordsCommon w v above up

    rises_alike : (k : ℕ) (r s above : Record) → AreRecordsCommon w v r s → Rises (shape w) (base_of w) field_here k r above → RisesAlike k s above
    rises_alike k r s above a nowhere = record { up = s; rises = nowhere; alike = a }
    rises_alike k r s above a (higher {k = l} {s = x} rest none extends) =
        let below = rises_alike l r s x a rest in
        let up = extends_alike x below.up above below.alike extends in
        record { up = up.up; rises = higher below.rises (lacks_field name x below.up below.alike none) up.extends; alike = up.alike }

    record LacksAlike (s last : Record) : Type 0 where
      up : Record
      lacks : Lacks (shape v) (base_of v) field_in s up
      alike : AreRecordsCommon w v last up

    lacks_alike : (r s last : Record) → AreRecordsCommon w v r s → Lacks (shape w) (base_of w) field_here r last → LacksAlike s last
    lacks_alike r s last a l =
        let up = rises_alike l.bases r s last a l.rises in
        record { up = up.up; lacks = record { bases = l.bases; rises = up.rises; none = lacks_field name last up.up up.alike l.none }; alike = up.alike }

-- ---- results of one world hold in the other

one_node : (w v : World) (a b m : Node) → AreNodesCommon w v a m → AreNodesCommon w v b m → a ≡ b
one_node w v a b m (part_alike {i = i} {j = j} {d = d} {p = p} t) (part_alike {i = k} u) = ap (λ (x : ℕ). nodes.Other x d p) (one_twin w v i k j t u)
one_node w v a b m (base_alike {i = i} {j = j} {r = r} t) (base_alike {i = k} u) = ap (λ (x : ℕ). nodes.OtherBase x r) (one_twin w v i k j t u)

one_record : (w v : World) (a b s : Record) → AreRecordsCommon w v a s → AreRecordsCommon w v b s → a ≡ b
one_record w v a b s (record_alike {i = i} {j = j} {r = r} t) (record_alike {i = k} u) = ap (λ (x : ℕ). records.Other x r) (one_twin w v i k j t u)

module _ (w v : World) (imports : AreImportsAlike w v) where
  there_to_here : AreImportsAlike v w
  there_to_here = turned_imports w v imports

  pub end_known : (follows : Bool) (n m last end : Node) → AreNodesCommon w v n m → IsTypeEnd (shape v) follows m (Some end) → AreNodesCommon w v last end → IsTypeEnd (shape w) follows n (Some last)
  end_known follows n m last end a is b =
      let here = lead_alike v w there_to_here follows m n end (turned_node w v n m a) is.some in
      let one = one_node w v here.end last end (turned_node v w end here.end here.alike) b in
      record { some = subst (TypeLeadsTo (shape w) follows n) one here.leads; none = tt }

  pub no_end_known : (follows : Bool) (n m : Node) → AreNodesCommon w v n m → IsTypeEnd (shape v) follows m None → IsTypeEnd (shape w) follows n None
  no_end_known follows n m a is = record { some = tt; none = λ last l. (let external = lead_alike w v imports follows n m last a l in is.none external.end external.leads) }

  module _ (name : List ℕ) (r s : Record) (a : AreRecordsCommon w v r s) where
    abbrev field_of_here : Record → Option Field
    field_of_here q = field_of w q name

    abbrev field_of_there : Record → Option Field
    field_of_there q = field_of v q name

    pub hop_from : (last external : Record) → IsJump (shape v) (base_of v) field_of_there s (jumps.From external) → AreRecordsCommon w v last external → IsJump (shape w) (base_of w) field_of_here r (jumps.From last)
    hop_from last external h b =
        let here = lacks_alike v w there_to_here name s r external (turned_record w v r s a) h in
        let one = one_record w v here.up last external (turned_record v w external here.up here.alike) b in
        subst (λ (x : Record). Lacks (shape w) (base_of w) field_of_here r x) one here.lacks

    pub hop_onto : (above external : Record) → IsJump (shape v) (base_of v) field_of_there s (jumps.Onto external) → AreRecordsCommon w v above external → IsJump (shape w) (base_of w) field_of_here r (jumps.Onto above)
    hop_onto above external h b =
        let here = lacks_alike v w there_to_here name s r h.0 (turned_record w v r s a) h.1 in
        let up = extends_alike v w there_to_here h.0 here.up external here.alike h.2 in
        let one = one_record w v up.up above external (turned_record v w external up.up up.alike) b in
        (here.up, here.lacks, subst (λ (x : Record). Extends (shape w) (base_of w) here.up x) one up.extends)
