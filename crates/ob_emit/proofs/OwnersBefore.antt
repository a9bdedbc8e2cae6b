-- The owner of a field has a smaller number than the field.
use Rattle.std.proofs.Common.{◌≡◌, ℕ, ◌<◌, List, Option, Some, None, ap, ◌∙◌, subst, inl, inr}
use Rattle.std.specs.Prelude.{◌==◌, nat_lt}
use Rattle.std.specs.Option.{option_and_then, option_map}
use Rattle.std.proofs.lemmas.Bool.{cases_Bool, ltb-true}
use Rattle.module_table.specs.declared.rows.DeclGroup.{DeclGroup}
use Rattle.module_table.specs.declared.rows.DeclKind.{DeclKind}
use Rattle.ob_interface.specs.Interfaces.{Declaration, ModuleInterface}
use Rattle.ob_interface.specs.Placed.{declaration_at, owner_index}
use Rattle.module_table.proofs.Elements.{some_one}
use Rattle.ob_view.specs.World.{World, decl_group_of, owner_at, text}
use Rattle.scip_symbol.specs.declared.kind.DescriptorKind.{DescriptorKind}
use Rattle.scip_symbol.specs.declared.kind.DescriptorKind.TheVariants.{Term}
use Rattle.ob_emit.specs.StoredTexts.{OwnersPrecede}
use Rattle.ob_emit.specs.Symbols.{PathStep, descriptor, step_in_record, descriptor_kind, declared_step, declared_step_by, declared_steps, step_by, interface_step, interface_steps}

no_owner : (k : ℕ) (name : List ℕ) (kind : Option DescriptorKind) (s : PathStep) (o : ℕ) → option_map (λ (it : DescriptorKind). record { own = descriptor it name; owner = None }) kind ≡ Some s → s.owner ≡ Some o → o < k
no_owner k name None s o e f = absurd (let none : None ≡ Some s = e in cc)
no_owner k name (Some it) s o e f =
    absurd (let none : None ≡ Some o = ap (λ (x : PathStep). x.owner) (some_one (record { own = descriptor it name; owner = None }) s e) ∙ f in cc)

field_before : (k : ℕ) (name : List ℕ) (owner : Option ℕ) (s : PathStep) (o : ℕ) → step_in_record k name owner ≡ Some s → s.owner ≡ Some o → o < k
field_before k name None s o e f = absurd (let none : None ≡ Some s = e in cc)
field_before k name (Some before) s o e f = elim (cases_Bool (nat_lt before k)) [
  | inl t ↦ (
      let one : Some before ≡ Some o = ap (λ (x : PathStep). x.owner) (some_one (record { own = descriptor Term name; owner = Some before }) s (rw t at e)) ∙ f in
      subst (λ (n : ℕ). n < k) (some_one before o one) (ltb-true before k t))
  | inr f ↦ absurd (let none : None ≡ Some s = rw f at e in cc)
]

own_before_by : (w : World) (k : ℕ) (decl_kind : DeclKind) (of_record : Option ℕ) (s : PathStep) (o : ℕ) → declared_step_by w k decl_kind of_record ≡ Some s → s.owner ≡ Some o → o < k
own_before_by w k decl_kind None s o e f = no_owner k (text w k) (descriptor_kind decl_kind) s o e f
own_before_by w k decl_kind (Some r) s o e f = field_before k (text w k) (owner_at w r) s o e f

own_before_at : (w : World) (k o : ℕ) (by : Option DeclGroup) (s : PathStep) → option_and_then (declared_step w k) by ≡ Some s → s.owner ≡ Some o → o < k
own_before_at w k o None s e f = absurd (let none : None ≡ Some s = e in cc)
own_before_at w k o (Some by) s e f = elim (cases_Bool (by.block == 0)) [
  | inl t ↦ own_before_by w k by.decl_kind by.of_record s o (rw t at e) f
  | inr n ↦ absurd (let none : None ≡ Some s = rw n at e in cc)
]

pub own_before : (w : World) → OwnersPrecede (declared_steps w)
own_before w k o s = own_before_at w k o (decl_group_of w k) s

before_by : (m : ModuleInterface) (k : ℕ) (it : Declaration) (of_record : Option ℕ) (s : PathStep) (o : ℕ) → step_by m k it of_record ≡ Some s → s.owner ≡ Some o → o < k
before_by m k it None s o e f = no_owner k it.name (descriptor_kind it.decl_kind) s o e f
before_by m k it (Some r) s o e f = field_before k it.name (owner_index m r) s o e f

before_at : (m : ModuleInterface) (k o : ℕ) (it : Option Declaration) (s : PathStep) → option_and_then (interface_step m k) it ≡ Some s → s.owner ≡ Some o → o < k
before_at m k o None s e f = absurd (let none : None ≡ Some s = e in cc)
before_at m k o (Some it) s e f = before_by m k it it.of_record s o e f

pub before_there : (m : ModuleInterface) → OwnersPrecede (interface_steps m)
before_there m k o s = before_at m k o (declaration_at m k) s
