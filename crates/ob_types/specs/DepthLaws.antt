-- The target of a pointer and the base of a record are less deep than the pointer and the record.
use Rattle.std.proofs.Common.{◌≡◌, ℕ, suc, ◌<◌, ◌≤◌, List, length, get_or, Bool, true, false, Option, Some, None, refl, sym, ap, ◌∙◌, subst, arith}
use Rattle.std.specs.Prelude.{slice_get, if◌then◌else◌}
use Rattle.std.specs.List.{sum_by}
use Rattle.std.specs.Option.{option_map, option_and_then, unwrap_or}
use Rattle.std.proofs.lemmas.List.Sums.{get_or-le-sum_by}
use Rattle.std.proofs.lemmas.Option.{slice_get_within, get_or_from_slice_get}
use Rattle.module_table.specs.declared.rows.TypePart.{TypePart}
use Rattle.module_table.specs.declared.rows.Part.{Part as PartRow}
use Rattle.module_table.specs.declared.rows.Part.TheVariants as parts
use Rattle.module_table.specs.declared.rows.Record.{Record as RecordRow}
use Rattle.module_table.specs.declared.rows.DeclKind.{DeclKind}
use Rattle.module_table.specs.declared.rows.TypeName.{TypeName as NameRow}
use Rattle.ob_interface.specs.Interfaces.{Simple, Qualified, Array, Pointer, Record as RecordPart, Procedure, Named as NamedPart, Base, Declaration, ModuleInterface, Part, TypeName}
use Rattle.ob_interface.specs.Placed.{declaration_at, type_part}
use Rattle.type_graph.specs.declared.shape.Shape.TheVariants as shapes
use Rattle.ob_types.specs.declared.nodes.Node.{Node}
use Rattle.ob_types.specs.declared.nodes.Node.TheVariants as nodes
use Rattle.ob_types.specs.declared.nodes.Record.{Record}
use Rattle.ob_types.specs.declared.nodes.Record.TheVariants as records
use Rattle.ob_types.specs.Depths.{part_count, imported_part_count, depth, all_parts, height}
use Rattle.ob_types.specs.Shapes.{TypeShape, shape_or_unknown, is_type, declared_type_shape, imported_type, exported_type, type_as, local_type, module_of_alias, resolve_type_name, type_if_visible, visible_type, may_mean, resolve_imported_name, local_shape, imported_part_shape, imported_base_shape, shape, base_name, base_of}
use Rattle.ob_view.specs.World.{World, text, meaning, decl_kind_of, type_index_of, record_at, module_number, exported_index, imported_declaration, named_declaration, aliased_module_name, imported_base, imported_part as part_row_there}

-- ---- a name resolves to a named type or to Unknown

abbrev IsNameShape : TypeShape → Type 0
IsNameShape (shapes.Array n) = ⊥
IsNameShape (shapes.Pointer n) = ⊥
IsNameShape (shapes.Record r) = ⊥
IsNameShape shapes.Procedure = ⊥
IsNameShape (shapes.Named d n) = Unit {0}
IsNameShape shapes.Unknown = Unit {0}

abbrev IsNameIf : Option TypeShape → Type 0
IsNameIf None = Unit {0}
IsNameIf (Some s) = IsNameShape s

known_name : (o : Option TypeShape) → IsNameIf o → IsNameShape (shape_or_unknown o)
known_name None h = tt
known_name (Some s) h = h

then_name : {X : Type 0} (f : X → Option TypeShape) (o : Option X) → ((x : X) → IsNameIf (f x)) → IsNameIf (option_and_then f o)
then_name f None h = tt
then_name f (Some x) h = h x

if_name : (b : Bool) (o : Option TypeShape) → IsNameIf o → IsNameIf (if b then o else None)
if_name true o h = h
if_name false o h = tt

map_name : (f : ℕ → TypeShape) (o : Option ℕ) → ((p : ℕ) → IsNameShape (f p)) → IsNameIf (option_map f o)
map_name f None h = tt
map_name f (Some p) h = h p

by_name : (i d : ℕ) (it : Declaration) → IsNameIf (declared_type_shape i d it)
by_name i d it = if_name (is_type it.decl_kind) _ tt

there_name : (w : World) (i d : ℕ) → IsNameIf (imported_type w i d)
unfolding imported_type
there_name w i d = then_name (declared_type_shape i d) (imported_declaration w i d) (by_name i d)

exported_name : (w : World) (name : List ℕ) (i : ℕ) → IsNameIf (exported_type w name i)
unfolding exported_type
exported_name w name i = then_name (imported_type w i) (exported_index w i name) (there_name w i)

as_name : (w : World) (k : ℕ) (s : DeclKind) → IsNameIf (type_as w k s)
as_name w k s = if_name (is_type s) _ (map_name _ (type_index_of w k) (λ p. tt))

local_name : (w : World) (k : ℕ) → IsNameIf (local_type w k)
unfolding local_type
local_name w k = then_name (type_as w k) (decl_kind_of w k) (as_name w k)

here_name : (w : World) (head : ℕ) (member : Option ℕ) → IsNameShape (resolve_type_name w head member)
unfolding resolve_type_name
here_name w head None = known_name _ (then_name (local_type w) (meaning w head) (local_name w))
here_name w head (Some m) = known_name _ (then_name (exported_type w (text w m)) (module_of_alias w head) (exported_name w (text w m)))

seen_by_name : (i d start : ℕ) (is_target : Bool) (it : Declaration) → IsNameIf (type_if_visible i d start is_target it)
seen_by_name i d start is_target it = if_name (may_mean start is_target it) _ (by_name i d it)

seen_name : (w : World) (i start : ℕ) (is_target : Bool) (d : ℕ) → IsNameIf (visible_type w i start is_target d)
unfolding visible_type
seen_name w i start is_target d = then_name (type_if_visible i d start is_target) (imported_declaration w i d) (seen_by_name i d start is_target)

that_name : (w : World) (i start : ℕ) (is_target : Bool) (n : TypeName) → IsNameShape (resolve_imported_name w i start is_target n)
unfolding resolve_imported_name
that_name w i start is_target (Simple name) = known_name _ (then_name (visible_type w i start is_target) (named_declaration w i name) (seen_name w i start is_target))
that_name w i start is_target (Qualified alias name) = known_name _ (then_name (exported_type w name) (option_and_then (module_number w) (aliased_module_name w i alias)) (exported_name w name))

-- a shape that is a named type or Unknown doesn't equal a shape that is neither
not_name : (s t : TypeShape) → IsNameShape s → s ≡ t → (IsNameShape t → ⊥) → ⊥
not_name s t h e none = none (subst (λ (x : TypeShape). IsNameShape x) e h)

-- ---- types at an index

-- if the type at an index is neither a name nor Unknown, the index is within the list of components
here_at : (w : World) (k : ℕ) (o : Option TypePart) (s : TypeShape) → slice_get w.rows.parts k ≡ o → shape_or_unknown (option_map (local_shape w k) o) ≡ s → (IsNameShape s → ⊥) → k < length w.rows.parts
here_at w k None s e h none = absurd (none (subst (λ (x : TypeShape). IsNameShape x) h tt))
here_at w k (Some p) s e h none = slice_get_within w.rows.parts k p e

part_by : (d j : ℕ) (o : Option ModuleInterface) → option_and_then (λ (m : ModuleInterface). type_part m d j) o ≡ option_and_then (λ (it : Declaration). slice_get it.type_expr j) (option_and_then (λ (m : ModuleInterface). declaration_at m d) o)
part_by d j None = refl
part_by d j (Some m) = refl

within_form : (j : ℕ) (p : Part) (o : Option Declaration) → option_and_then (λ (it : Declaration). slice_get it.type_expr j) o ≡ Some p → j < unwrap_or (option_map part_count o) 0
within_form j p None e = cc
within_form j p (Some it) e = slice_get_within it.type_expr j p e

row_at : (w : World) (i d j : ℕ) (p : Part) → part_row_there w i d j ≡ Some p → j < imported_part_count w i d
unfolding part_row_there imported_declaration imported_part_count
row_at w i d j p e = within_form j p (option_and_then (λ (m : ModuleInterface). declaration_at m d) (slice_get w.reached i)) (sym (part_by d j (slice_get w.reached i)) ∙ e)

there_at : (w : World) (i d j : ℕ) (o : Option Part) (s : TypeShape) → part_row_there w i d j ≡ o → shape_or_unknown (option_map (imported_part_shape w i d j) o) ≡ s → (IsNameShape s → ⊥) → j < imported_part_count w i d
there_at w i d j None s e h none = absurd (none (subst (λ (x : TypeShape). IsNameShape x) h tt))
there_at w i d j (Some p) s e h none = row_at w i d j p e

based_name : (w : World) (i : ℕ) (o : Option Base) → IsNameShape (shape_or_unknown (option_map (imported_base_shape w i) o))
based_name w i None = tt
based_name w i (Some b) = that_name w i b.start false b.name

-- a type that isn't a name has a positive depth
rooted : (w : World) (n : Node) (s : TypeShape) → shape w n ≡ s → (IsNameShape s → ⊥) → 0 < depth w n
unfolding shape depth
rooted w (nodes.Own k) s e none = let l : k < length w.rows.parts = here_at w k (slice_get w.rows.parts k) s refl e none in omega arith
rooted w (nodes.Name head member) s e none = absurd (not_name _ s (here_name w head member) e none)
rooted w (nodes.Other i d j) s e none = let l : j < imported_part_count w i d = there_at w i d j (part_row_there w i d j) s refl e none in omega arith
rooted w (nodes.OtherBase i r) s e none = absurd (not_name _ s (based_name w i (imported_base w i r)) e none)

-- ---- pointers

here_pointer : (w : World) (k b x : ℕ) (q : PartRow) (m : Node) → local_shape w k (record { declared_by = b; number = x; part = q }) ≡ shapes.Pointer m → m ≡ nodes.Own (suc k)
here_pointer w k b x parts.Array m e = cc
here_pointer w k b x parts.Pointer m e = cc
here_pointer w k b x parts.Record m e = cc
here_pointer w k b x parts.Procedure m e = cc
here_pointer w k b x (parts.Named member) m e = absurd (not_name _ (shapes.Pointer m) (here_name w x member) e (λ h. h))

there_pointer : (w : World) (i d j : ℕ) (p : Part) (m : Node) → imported_part_shape w i d j p ≡ shapes.Pointer m → m ≡ nodes.Other i d (suc j)
there_pointer w i d j Array m e = cc
there_pointer w i d j Pointer m e = cc
there_pointer w i d j (RecordPart k) m e = cc
there_pointer w i d j Procedure m e = cc
there_pointer w i d j (NamedPart start name) m e = absurd (not_name _ (shapes.Pointer m) (that_name w i start _ name) e (λ h. h))

behind_here : (w : World) (k : ℕ) (o : Option TypePart) (m : Node) → shape_or_unknown (option_map (local_shape w k) o) ≡ shapes.Pointer m → m ≡ nodes.Own (suc k)
behind_here w k None m e = cc
behind_here w k (Some p) m e = here_pointer w k p.declared_by p.number p.part m e

behind_there : (w : World) (i d j : ℕ) (o : Option Part) (m : Node) → shape_or_unknown (option_map (imported_part_shape w i d j) o) ≡ shapes.Pointer m → m ≡ nodes.Other i d (suc j)
behind_there w i d j None m e = cc
behind_there w i d j (Some p) m e = there_pointer w i d j p m e

next_here : (w : World) (k : ℕ) → k < length w.rows.parts → depth w (nodes.Own (suc k)) < depth w (nodes.Own k)
unfolding depth
next_here w k l = omega arith

next_there : (w : World) (i d j : ℕ) → j < imported_part_count w i d → depth w (nodes.Other i d (suc j)) < depth w (nodes.Other i d j)
unfolding depth
next_there w i d j l = omega arith

pub pointed : (w : World) (n m : Node) → shape w n ≡ shapes.Pointer m → depth w m < depth w n
unfolding shape
pointed w (nodes.Own k) m e =
    let l : k < length w.rows.parts = here_at w k (slice_get w.rows.parts k) (shapes.Pointer m) refl e (λ h. h) in
    subst (λ (x : Node). depth w x < depth w (nodes.Own k)) (sym (behind_here w k (slice_get w.rows.parts k) m e)) (next_here w k l)
pointed w (nodes.Name head member) m e = absurd (not_name _ (shapes.Pointer m) (here_name w head member) e (λ h. h))
pointed w (nodes.Other i d j) m e =
    let l : j < imported_part_count w i d = there_at w i d j (part_row_there w i d j) (shapes.Pointer m) refl e (λ h. h) in
    subst (λ (x : Node). depth w x < depth w (nodes.Other i d j)) (sym (behind_there w i d j (part_row_there w i d j) m e)) (next_there w i d j l)
pointed w (nodes.OtherBase i r) m e = absurd (not_name _ (shapes.Pointer m) (based_name w i (imported_base w i r)) e (λ h. h))

-- ---- bases

named_flat : (w : World) (o : Option NameRow) (m : Node) → option_map (λ (b : NameRow). nodes.Name b.head b.member) o ≡ Some m → depth w m ≡ 0
unfolding depth
named_flat w None m e = cc
named_flat w (Some b) m e = let h : nodes.Name b.head b.member ≡ m = cc in ap (depth w) (sym h)

row_flat : (w : World) (o : Option RecordRow) (m : Node) → option_and_then base_name o ≡ Some m → depth w m ≡ 0
row_flat w None m e = cc
row_flat w (Some row) m e = named_flat w row.base m e

other_flat : (w : World) (i r : ℕ) (o : Option Base) (m : Node) → option_map (λ (b : Base). nodes.OtherBase i r) o ≡ Some m → depth w m ≡ 0
unfolding depth
other_flat w i r None m e = cc
other_flat w i r (Some b) m e = let h : nodes.OtherBase i r ≡ m = cc in ap (depth w) (sym h)

base_flat : (w : World) (r : Record) (m : Node) → base_of w r ≡ Some m → depth w m ≡ 0
unfolding base_of
base_flat w (records.Own r) m e = row_flat w (record_at w r) m e
base_flat w (records.Other i r) m e = other_flat w i r (imported_base w i r) m e

pub based : (w : World) (n m : Node) (r : Record) → shape w n ≡ shapes.Record r → base_of w r ≡ Some m → depth w m < depth w n
based w n m r e f =
    let some : 0 < depth w n = rooted w n (shapes.Record r) e (λ h. h) in
    let none : depth w m ≡ 0 = base_flat w r m f in
    omega (arith, some, none)

-- ---- the height

member_le : {X : Type 0} (f : X → ℕ) (xs : List X) (i : ℕ) (x : X) → slice_get xs i ≡ Some x → f x ≤ sum_by f xs
member_le f xs i x e =
    let l : i < length xs = slice_get_within xs i x e in
    let s : f (get_or xs i x) ≤ sum_by f xs = get_or-le-sum_by f xs i x l in
    let same : f (get_or xs i x) ≡ f x = ap f (get_or_from_slice_get xs i x x e) in
    omega (arith, s, same)

some_le : (m : ModuleInterface) (d : ℕ) (o : Option Declaration) → slice_get m.declarations d ≡ o → unwrap_or (option_map part_count o) 0 ≤ all_parts m
some_le m d None e = omega arith
some_le m d (Some it) e = member_le part_count m.declarations d it e

all_le : (w : World) (i d : ℕ) (o : Option ModuleInterface) → slice_get w.reached i ≡ o → unwrap_or (option_map part_count (option_and_then (λ (m : ModuleInterface). declaration_at m d) o)) 0 ≤ sum_by all_parts w.reached
all_le w i d None e = omega arith
all_le w i d (Some m) e =
    let a : unwrap_or (option_map part_count (slice_get m.declarations d)) 0 ≤ all_parts m = some_le m d (slice_get m.declarations d) refl in
    let b : all_parts m ≤ sum_by all_parts w.reached = member_le all_parts w.reached i m e in
    omega (arith, a, b)

there_le : (w : World) (i d : ℕ) → imported_part_count w i d ≤ sum_by all_parts w.reached
unfolding imported_part_count imported_declaration
there_le w i d = all_le w i d (slice_get w.reached i) refl

pub deep : (w : World) (n : Node) → depth w n < height w
unfolding depth height
deep w (nodes.Own k) = omega arith
deep w (nodes.Name head member) = omega arith
deep w (nodes.Other i d j) = let l : imported_part_count w i d ≤ sum_by all_parts w.reached = there_le w i d in omega (arith, l)
deep w (nodes.OtherBase i r) = omega arith
