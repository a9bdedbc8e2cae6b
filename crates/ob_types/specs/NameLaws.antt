-- Equal declarations give the same type, and equal records are identical.
use Rattle.std.proofs.Common.{◌≡◌, ℕ, List, Bool, true, false, Option, Some, None, refl, sym, ap, ap₂, ◌∙◌, subst, eqb-true}
use Rattle.std.specs.Prelude.{slice_get, if◌then◌else◌, nat_eq, ◌&&◌}
use Rattle.std.specs.Option.{option_map, option_and_then}
use Rattle.module_table.specs.declared.rows.TypePart.{TypePart}
use Rattle.module_table.specs.declared.rows.Part.{Part as PartRow}
use Rattle.module_table.specs.declared.rows.Part.TheVariants as parts
use Rattle.module_table.specs.declared.rows.DeclKind.{DeclKind}
use Rattle.ob_interface.specs.Interfaces.{Simple, Qualified, Array, Pointer, Record as RecordPart, Procedure, Named as NamedPart, Base, Declaration, Part, TypeName}
use Rattle.type_graph.specs.declared.shape.Shape.TheVariants as shapes
use Rattle.ob_types.specs.contracts.nodes.NamedPartialEq.TheImpl as named_equal
use Rattle.ob_types.specs.contracts.nodes.RecordPartialEq.TheImpl as record_equal
use Rattle.ob_types.specs.declared.nodes.Named.{Named}
use Rattle.ob_types.specs.declared.nodes.Named.TheVariants as named
use Rattle.ob_types.specs.declared.nodes.Node.{Node}
use Rattle.ob_types.specs.declared.nodes.Node.TheVariants as nodes
use Rattle.ob_types.specs.declared.nodes.Record.{Record}
use Rattle.ob_types.specs.declared.nodes.Record.TheVariants as records
use Rattle.ob_types.specs.Shapes.{TypeShape, shape_or_unknown, is_type, declared_type_shape, imported_type, exported_type, type_as, local_type, module_of_alias, resolve_type_name, type_if_visible, visible_type, may_mean, resolve_imported_name, local_shape, imported_part_shape, imported_base_shape, shape, is_pointer_target}
use Rattle.ob_view.specs.World.{World, text, meaning, decl_kind_of, type_index_of, module_number, exported_index, imported_declaration, named_declaration, aliased_module_name, imported_base, imported_part as part_row_there}

-- ---- equality

both_true : (a b : Bool) → a && b ≡ true → (a ≡ true) × (b ≡ true)
both_true true true e = (refl, refl)
both_true true false e = absurd cc
both_true false b e = absurd cc

one_declaration : (a b : Named) → (named_equal.eq-value).it a b ≡ true → a ≡ b
one_declaration (named.Own a) (named.Own b) e = ap named.Own (eqb-true a b e)
one_declaration (named.Own a) (named.Other i d) e = absurd (let f : false ≡ true = e in cc)
one_declaration (named.Other i d) (named.Own b) e = absurd (let f : false ≡ true = e in cc)
one_declaration (named.Other i d) (named.Other j f) e = let both = both_true (nat_eq i j) (nat_eq d f) e in ap₂ named.Other (eqb-true i j both.0) (eqb-true d f both.1)

pub eq_is_identity : (r s : Record) → (record_equal.eq-value).it r s ≡ true → r ≡ s
eq_is_identity (records.Own a) (records.Own b) e = ap records.Own (eqb-true a b e)
eq_is_identity (records.Own a) (records.Other i d) e = absurd (let f : false ≡ true = e in cc)
eq_is_identity (records.Other i d) (records.Own b) e = absurd (let f : false ≡ true = e in cc)
eq_is_identity (records.Other i d) (records.Other j f) e = let both = both_true (nat_eq i j) (nat_eq d f) e in ap₂ records.Other (eqb-true i j both.0) (eqb-true d f both.1)

-- ---- the type that a declaration gives

abbrev GivesNode : World → Named → Node → Type 0
GivesNode w (named.Own k) n = option_map nodes.Own (type_index_of w k) ≡ Some n
GivesNode w (named.Other i d) n = nodes.Other i d 0 ≡ n

gives_once : (w : World) (d : Named) (n m : Node) → GivesNode w d n → GivesNode w d m → n ≡ m
gives_once w (named.Own k) n m p q = let e : Some n ≡ Some m = sym p ∙ q in cc
gives_once w (named.Other i d) n m p q = sym p ∙ q

-- if this type is a named type, its node is that of the type which its declaration gives
abbrev IsGiven : World → TypeShape → Type 0
IsGiven w (shapes.Array n) = Unit {0}
IsGiven w (shapes.Pointer n) = Unit {0}
IsGiven w (shapes.Record r) = Unit {0}
IsGiven w shapes.Procedure = Unit {0}
IsGiven w (shapes.Named d n) = GivesNode w d n
IsGiven w shapes.Unknown = Unit {0}

abbrev IsGivenIf : World → Option TypeShape → Type 0
IsGivenIf w None = Unit {0}
IsGivenIf w (Some s) = IsGiven w s

known_given : (w : World) (o : Option TypeShape) → IsGivenIf w o → IsGiven w (shape_or_unknown o)
known_given w None h = tt
known_given w (Some s) h = h

then_given : {X : Type 0} (w : World) (f : X → Option TypeShape) (o : Option X) → ((x : X) → IsGivenIf w (f x)) → IsGivenIf w (option_and_then f o)
then_given w f None h = tt
then_given w f (Some x) h = h x

if_given : (w : World) (b : Bool) (o : Option TypeShape) → IsGivenIf w o → IsGivenIf w (if b then o else None)
if_given w true o h = h
if_given w false o h = tt

by_given : (w : World) (i d : ℕ) (it : Declaration) → IsGivenIf w (declared_type_shape i d it)
by_given w i d it = if_given w (is_type it.decl_kind) (Some (shapes.Named (named.Other i d) (nodes.Other i d 0))) refl

there_given : (w : World) (i d : ℕ) → IsGivenIf w (imported_type w i d)
unfolding imported_type
there_given w i d = then_given w (declared_type_shape i d) (imported_declaration w i d) (by_given w i d)

exported_given : (w : World) (name : List ℕ) (i : ℕ) → IsGivenIf w (exported_type w name i)
unfolding exported_type
exported_given w name i = then_given w (imported_type w i) (exported_index w i name) (there_given w i)

at_form : (w : World) (k : ℕ) (o : Option ℕ) → type_index_of w k ≡ o → IsGivenIf w (option_map (λ (p : ℕ). shapes.Named (named.Own k) (nodes.Own p)) o)
at_form w k None e = tt
at_form w k (Some p) e = ap (option_map nodes.Own) e

as_given : (w : World) (k : ℕ) (s : DeclKind) → IsGivenIf w (type_as w k s)
as_given w k s = if_given w (is_type s) (option_map (λ (p : ℕ). shapes.Named (named.Own k) (nodes.Own p)) (type_index_of w k)) (at_form w k (type_index_of w k) refl)

own_given : (w : World) (k : ℕ) → IsGivenIf w (local_type w k)
unfolding local_type
own_given w k = then_given w (type_as w k) (decl_kind_of w k) (as_given w k)

here_given : (w : World) (head : ℕ) (member : Option ℕ) → IsGiven w (resolve_type_name w head member)
unfolding resolve_type_name
here_given w head None = known_given w _ (then_given w (local_type w) (meaning w head) (own_given w))
here_given w head (Some m) = known_given w _ (then_given w (exported_type w (text w m)) (module_of_alias w head) (exported_given w (text w m)))

seen_by_given : (w : World) (i d start : ℕ) (is_target : Bool) (it : Declaration) → IsGivenIf w (type_if_visible i d start is_target it)
seen_by_given w i d start is_target it = if_given w (may_mean start is_target it) (declared_type_shape i d it) (by_given w i d it)

seen_given : (w : World) (i start : ℕ) (is_target : Bool) (d : ℕ) → IsGivenIf w (visible_type w i start is_target d)
unfolding visible_type
seen_given w i start is_target d = then_given w (type_if_visible i d start is_target) (imported_declaration w i d) (seen_by_given w i d start is_target)

that_given : (w : World) (i start : ℕ) (is_target : Bool) (n : TypeName) → IsGiven w (resolve_imported_name w i start is_target n)
unfolding resolve_imported_name
that_given w i start is_target (Simple name) = known_given w _ (then_given w (visible_type w i start is_target) (named_declaration w i name) (seen_given w i start is_target))
that_given w i start is_target (Qualified alias name) = known_given w _ (then_given w (exported_type w name) (option_and_then (module_number w) (aliased_module_name w i alias)) (exported_given w name))

own_part_given : (w : World) (k b x : ℕ) (q : PartRow) → IsGiven w (local_shape w k (record { declared_by = b; number = x; part = q }))
own_part_given w k b x parts.Array = tt
own_part_given w k b x parts.Pointer = tt
own_part_given w k b x parts.Record = tt
own_part_given w k b x parts.Procedure = tt
own_part_given w k b x (parts.Named member) = here_given w x member

part_given : (w : World) (i d j : ℕ) (p : Part) → IsGiven w (imported_part_shape w i d j p)
part_given w i d j Array = tt
part_given w i d j Pointer = tt
part_given w i d j (RecordPart k) = tt
part_given w i d j Procedure = tt
part_given w i d j (NamedPart start name) = that_given w i start (is_pointer_target w i d j) name

map_given : {X : Type 0} (w : World) (f : X → TypeShape) (o : Option X) → ((x : X) → IsGiven w (f x)) → IsGiven w (shape_or_unknown (option_map f o))
map_given w f None h = tt
map_given w f (Some x) h = h x

shape_given : (w : World) (n : Node) → IsGiven w (shape w n)
unfolding shape
shape_given w (nodes.Own k) = map_given w (local_shape w k) (slice_get w.rows.parts k) (λ (p : TypePart). own_part_given w k p.declared_by p.number p.part)
shape_given w (nodes.Name head member) = here_given w head member
shape_given w (nodes.Other i d j) = map_given w (imported_part_shape w i d j) (part_row_there w i d j) (part_given w i d j)
shape_given w (nodes.OtherBase i r) = map_given w (imported_base_shape w i) (imported_base w i r) (λ (b : Base). that_given w i b.start false b.name)

given : (w : World) (n : Node) (s : TypeShape) → shape w n ≡ s → IsGiven w s
given w n s e = subst (IsGiven w) e (shape_given w n)

pub named_once : (w : World) (n m x y : Node) (c d : Named) → shape w n ≡ shapes.Named c x → shape w m ≡ shapes.Named d y → (named_equal.eq-value).it c d ≡ true → x ≡ y
named_once w n m x y c d p q e = gives_once w d x y (subst (λ (v : Named). GivesNode w v x) (one_declaration c d e) (given w n (shapes.Named c x) p)) (given w m (shapes.Named d y) q)
