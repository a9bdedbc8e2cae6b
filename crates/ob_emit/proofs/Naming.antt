-- Declarations have valid names, in the module and in the modules that it reaches.
use Rattle.std.proofs.Common.{◌≡◌, ℕ, zero, suc, List, [], ◌∷◌, Option, Some, None, Bool, true, refl, sym, ap, ◌∙◌, subst, inl, inr}
use Rattle.std.specs.Prelude.{slice_get, ◌==◌, find, nat_lt}
use Rattle.std.specs.Option.{option_and_then, option_map}
use Rattle.std.specs.List.{cons_option, filter_map}
use Rattle.std.specs.Str.{IsUtf8}
use Rattle.std.proofs.lemmas.Bool.{cases_Bool, eqb-true}
use Rattle.texts.proofs.FieldNames as names
use Rattle.module_table.specs.declared.rows.Declared.{Declared}
use Rattle.module_table.specs.declared.rows.DeclGroup.{DeclGroup}
use Rattle.module_table.specs.declared.rows.Import.{Import}
use Rattle.module_table.specs.Tables.{module_name_token}
use Rattle.ob_scan.specs.Texts.{text_at}
use Rattle.scopes.specs.Members.{decl_group_at, declared_member, members_of}
use Rattle.module_table.proofs.Elements.{contains_slice, some_one}
use Rattle.ob_scope.proofs.Names.{same_test}
use Rattle.ob_view.specs.World.{World, declared_at, decl_group_from, decl_group_of, text}
use Rattle.ob_view.specs.World.{owner_at}
use Rattle.ob_interface.specs.Interfaces.{Declaration, ModuleInterface}
use Rattle.ob_interface.specs.Placed.{declaration_at, owner_index}
use Rattle.module_table.specs.declared.rows.DeclKind.{DeclKind}
use Rattle.scip_symbol.specs.declared.kind.DescriptorKind.{DescriptorKind}
use Rattle.scip_symbol.specs.declared.kind.DescriptorKind.TheVariants.{Term}
use Rattle.scip_symbol.specs.SymbolTexts.{DescriptorModel}
use Rattle.ob_emit.specs.StoredTexts.{AreStepNames}
use Rattle.ob_emit.specs.Named.{NamesAreIdentifiers, IsName, HasNames}
use Rattle.ob_emit.specs.Symbols.{PathStep, descriptor, step_in_block, step_in_record, descriptor_kind, declared_step, declared_step_by, declared_steps, step_by, interface_step, interface_steps}

-- names are valid UTF-8
pub name_is_text : (bytes : List ℕ) → IsName bytes → IsUtf8 bytes
name_is_text bytes e = names.name_is_text bytes (sym (same_test bytes) ∙ e)

-- the index that was found is in the list, and fits
pub found_there : {X : Type 0} (test : X → Bool) (xs : List X) (x : X) → find test xs ≡ Some x → (i : ℕ) × (slice_get xs i ≡ Some x) × (test x ≡ true)
found_there test [] x e = absurd (cc)
found_there test (y ∷ ys) x e = elim (cases_Bool (test y)) [
  | inl t ↦ (let same : y ≡ x = some_one y x (rw t at e) in (0, ap Some same, subst (λ z. test z ≡ true) same t))
  | inr f ↦ (let r = found_there test ys x (rw f at e) in (suc r.0, r.1, r.2))
]

pub same_declarer : (bys : List DeclGroup) (k : ℕ) → decl_group_at bys k ≡ find (λ (by : DeclGroup). by.first == k) bys
same_declarer [] k = refl
same_declarer (by ∷ rest) k = elim (cases_Bool (by.first == k)) [
  | inl t ↦ rw t refl
  | inr f ↦ rw f (same_declarer rest k)
]

-- the declaration of an entry, if it has one
at_front : {Y : Type 0} (o : Option Y) (ys : List Y) (j : ℕ) (y : Y) → slice_get ys j ≡ Some y → (k : ℕ) × (slice_get (cons_option o ys) k ≡ Some y)
at_front None ys j y e = (j, e)
at_front (Some z) ys j y e = (suc j, e)

pub told_there : {X Y : Type 0} (f : X → Option Y) (xs : List X) (i : ℕ) (x : X) (y : Y) → slice_get xs i ≡ Some x → f x ≡ Some y → (k : ℕ) × (slice_get (filter_map f xs) k ≡ Some y)
told_there f [] i x y e g = absurd (let none : None ≡ Some x = e in cc)
told_there f (z ∷ zs) zero x y e g = let h : f z ≡ Some y = ap f (some_one z x e) ∙ g in (0, rw h refl)
told_there f (z ∷ zs) (suc i) x y e g = let r = told_there f zs i x y e g in at_front (f z) (filter_map f zs) r.0 y r.1

-- the entry of an identifier, by the number that was looked up
row_there : (w : World) (k : ℕ) (d : Declared) → declared_at w k ≡ Some d → (i : ℕ) × (slice_get w.rows.declared i ≡ Some d) × (d.number ≡ k)
unfolding declared_at
row_there w k d e = let r = found_there (λ (x : Declared). x.number == k) w.rows.declared d e in (r.0, r.1, eqb-true d.number k r.2)

module _ (w : World) (named : NamesAreIdentifiers w) where
  declared_name : (k : ℕ) (d : Declared) (by : DeclGroup) → declared_at w k ≡ Some d → decl_group_from w d.declared_by ≡ Some by → IsName (text w k)
  unfolding text decl_group_from
  declared_name k d by e f =
      let row = row_there w k d e in
      let g : decl_group_at w.rows.decl_groups d.declared_by ≡ Some by = same_declarer w.rows.decl_groups d.declared_by ∙ f in
      let told : declared_member d (decl_group_at w.rows.decl_groups d.declared_by) ≡ declared_member d (Some by) = ap (declared_member d) g in
      let m = told_there (λ (x : Declared). declared_member x (decl_group_at w.rows.decl_groups x.declared_by)) w.rows.declared row.0 d _ row.1 told in
      let n = named.here.members _ (contains_slice (members_of w.rows) m.0 _ m.1) in
      subst (λ (j : ℕ). IsName (text_at w.bytes w.tokens j)) row.2 n

  by_row : (k : ℕ) (o : Option Declared) (by : DeclGroup) → declared_at w k ≡ o → option_and_then (λ (d : Declared). decl_group_from w d.declared_by) o ≡ Some by → IsName (text w k)
  by_row k None by e f = absurd (let none : None ≡ Some by = f in cc)
  by_row k (Some d) by e f = declared_name k d by e f

  -- a declaration has a valid name
  pub declarer_name : (k : ℕ) (by : DeclGroup) → decl_group_of w k ≡ Some by → IsName (text w k)
  unfolding decl_group_of
  declarer_name k by e = by_row k (declared_at w k) by refl e

  pub own_named : IsName (text w module_name_token)
  unfolding text
  own_named = named.here.own

  pub import_named : (i : Import) (at : ℕ) → slice_get w.rows.imports at ≡ Some i → IsName (text w i.imported)
  unfolding text
  import_named i at e = named.here.imports i (contains_slice w.rows.imports at i e)

-- ---- the descriptors of steps

-- the step's descriptor is one of this name, without a disambiguator
abbrev IsStepOf : List ℕ → PathStep → Type 0
IsStepOf name s = s.own ≡ descriptor s.own.kind name

in_kind : (name : List ℕ) (kind : Option DescriptorKind) (s : PathStep) → option_map (λ (k : DescriptorKind). record { own = descriptor k name; owner = None }) kind ≡ Some s → IsStepOf name s
in_kind name None s e = absurd (let none : None ≡ Some s = e in cc)
in_kind name (Some k) s e = subst (IsStepOf name) (some_one (record { own = descriptor k name; owner = None }) s e) refl

in_block : (decl_kind : DeclKind) (name : List ℕ) (s : PathStep) → step_in_block decl_kind name ≡ Some s → IsStepOf name s
in_block decl_kind name s e = in_kind name (descriptor_kind decl_kind) s e

in_record : (k : ℕ) (name : List ℕ) (o : Option ℕ) (s : PathStep) → step_in_record k name o ≡ Some s → IsStepOf name s
in_record k name None s e = absurd (let none : None ≡ Some s = e in cc)
in_record k name (Some o) s e = elim (cases_Bool (nat_lt o k)) [
  | inl t ↦ subst (IsStepOf name) (some_one (record { own = descriptor Term name; owner = Some o }) s (rw t at e)) refl
  | inr f ↦ absurd (let none : None ≡ Some s = rw f at e in cc)
]

own_step_of_record : (w : World) (k : ℕ) (decl_kind : DeclKind) (of_record : Option ℕ) (s : PathStep) → declared_step_by w k decl_kind of_record ≡ Some s → IsStepOf (text w k) s
own_step_of_record w k decl_kind None s e = in_block decl_kind (text w k) s e
own_step_of_record w k decl_kind (Some r) s e = in_record k (text w k) (owner_at w r) s e

own_step_is : (w : World) (k : ℕ) (by : DeclGroup) (s : PathStep) → declared_step w k by ≡ Some s → IsStepOf (text w k) s
own_step_is w k by s e = elim (cases_Bool (by.block == 0)) [
  | inl t ↦ own_step_of_record w k by.decl_kind by.of_record s (rw t at e)
  | inr f ↦ absurd (let none : None ≡ Some s = rw f at e in cc)
]

-- a descriptor of a name, without a disambiguator
pub record IsOfName (d : DescriptorModel) : Type 0 where
  pub name : IsName d.name
  pub plain : d.disambiguator ≡ []

step_named : (name : List ℕ) (s : PathStep) → IsName name → IsStepOf name s → IsOfName s.own
step_named name s named is = record { name = subst IsName (sym (ap (λ (d : DescriptorModel). d.name) is)) named; plain = ap (λ (d : DescriptorModel). d.disambiguator) is }

own_steps_by : (w : World) → NamesAreIdentifiers w → (k : ℕ) (o : Option DeclGroup) (s : PathStep) → decl_group_of w k ≡ o → option_and_then (declared_step w k) o ≡ Some s → IsOfName s.own
own_steps_by w named k None s e f = absurd (let none : None ≡ Some s = f in cc)
own_steps_by w named k (Some by) s e f = step_named (text w k) s (declarer_name w named k by e) (own_step_is w k by s f)

-- the steps' descriptors are those of names
abbrev pub AreOfStepNames : (ℕ → Option PathStep) → Type 0
AreOfStepNames steps = (k : ℕ) (s : PathStep) → steps k ≡ Some s → IsOfName s.own

pub own_steps_named : (w : World) → NamesAreIdentifiers w → AreOfStepNames (declared_steps w)
own_steps_named w named k s e = own_steps_by w named k (decl_group_of w k) s refl e

pub own_step_names : (w : World) → NamesAreIdentifiers w → AreStepNames (declared_steps w)
own_step_names w named k s e = (own_steps_named w named k s e).name

step_is : (m : ModuleInterface) (d : ℕ) (it : Declaration) (of_record : Option ℕ) (s : PathStep) → step_by m d it of_record ≡ Some s → IsStepOf it.name s
step_is m d it None s e = in_block it.decl_kind it.name s e
step_is m d it (Some r) s e = in_record d it.name (owner_index m r) s e

steps_by : (m : ModuleInterface) → HasNames m → (d : ℕ) (o : Option Declaration) (s : PathStep) → declaration_at m d ≡ o → option_and_then (interface_step m d) o ≡ Some s → IsOfName s.own
steps_by m named d None s e f = absurd (let none : None ≡ Some s = f in cc)
steps_by m named d (Some it) s e f = step_named it.name s (named.declarations it (contains_slice m.declarations d it e)) (step_is m d it it.of_record s f)

pub steps_named : (m : ModuleInterface) → HasNames m → AreOfStepNames (interface_steps m)
steps_named m named d s e = steps_by m named d (declaration_at m d) s refl e

pub step_names : (m : ModuleInterface) → HasNames m → AreStepNames (interface_steps m)
step_names m named d s e = (steps_named m named d s e).name

pub reached_named : (w : World) → NamesAreIdentifiers w → (i : ℕ) (m : ModuleInterface) → slice_get w.reached i ≡ Some m → HasNames m
reached_named w named i m e = named.reached m (contains_slice w.reached i m e)
