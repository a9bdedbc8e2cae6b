-- The records and type components that declarations contribute.
use Rattle.std.proofs.Common.{◌≡◌, ℕ, suc, ◌+◌, ◌-◌, ◌<◌, ◌≤◌, inl, inr, List, ◌++◌, Some, None, true, refl, sym, subst, arith}
use Rattle.ob_tree.specs.declared.name.Identdef.{Identdef}
use Rattle.module_table.specs.declared.rows.Declared.{Declared}
use Rattle.module_table.specs.declared.rows.DeclKind.{DeclKind}
use Rattle.module_table.specs.declared.rows.DeclKind.TheVariants as decl_kinds
use Rattle.module_table.specs.Parts.{Fragment, joined, token, both, with_rows, within, declaring, decl_group, declaring_at, if_true, in_block, opens_block, no_rows, record_for}
use Rattle.table_rules.specs.Types.{identdef_rows}
use Rattle.table_laws.specs.Owners.{has_type}
use Rattle.table_laws.proofs.Bare.{Context}
use Rattle.table_laws.proofs.Plain.{Plain, b-both, b-so, b-token}
use Rattle.table_laws.proofs.Standing.{Core, Holds, In, both_hold, core}
use Rattle.table_laws.proofs.StandingCores.{holds_free, holds_loose, typed_holds}
use Rattle.table_laws.proofs.StandingPieces.{Free, Held, Mute, Opens, Stands, m-declared, no_in}

star : (i : Identdef) → Plain (both token (if_true i.is_exported token))
star i = b-both b-token (b-so i.is_exported b-token)

pub m-identdef : (i : Identdef) → Mute (identdef_rows i)
unfolding identdef_rows
m-identdef i = m-declared i.is_exported (star i)

pub identdef_some : (i : Identdef) → 0 < (identdef_rows i).width
unfolding identdef_rows with_rows both token
identdef_some i = omega arith

-- what follows the word PROCEDURE
pub o-procedure : {q : Fragment} → Free q → Opens (opens_block (both token q))
unfolding with_rows within both token joined no_rows
o-procedure {q} g = record {
  some = omega arith;
  holds = λ c k s.
      let e : k + 1 + q.width ≡ k + (1 + q.width) = omega arith in
      let y : Core = core (q.rows (in_block c k) (k + 1)) in
      let f : Holds ⊥ Unit ⊥ k c.block c.of_record (k + 1) (k + 1 + q.width) y =
      holds_free ⊥ Unit ⊥ c.decl_group k c.of_record k c.block c.of_record (k + 1) (k + 1 + q.width) y (g.holds (in_block c k) (k + 1) (omega arith)) in
      let h : Holds ⊥ Unit ⊥ k c.block c.of_record (k + 1) (k + (1 + q.width)) y = subst (λ (n : ℕ). Holds ⊥ Unit ⊥ k c.block c.of_record (k + 1) n y) e f in
      lower k c.block c.of_record (k + 1) (k + (1 + q.width)) y (omega arith) h;
}
  where
    lower : (k b e low high : ℕ) (y : Core) → k ≤ low → Holds ⊥ Unit ⊥ k b e low high y → Holds ⊥ Unit ⊥ k b e k high y
    lower k b e low high y l h = record {
      records = λ r i. (let p = h.records r i in ((let m = p.0 in omega arith), elim p.1 [ inl n ↦ absurd n.0 | inr z ↦ inr ((let m = z.0 in omega arith), z.1) ]));
      parts = λ q i. (let p = h.parts q i in (p.0, elim p.1 [ inl n ↦ inl n | inr z ↦ inr ((let m = z.0 in omega arith), z.1) ]));
      told = h.told;
      forms = h.forms;
      marks = h.marks;
      fields = λ f r i t. elim (h.fields f r i t) [ inl n ↦ absurd n.0 | inr o ↦ inr o ];
    }

-- the inside of a declaration begins with an identifier that it declares, and may own records
pub record Types (p : Fragment) : Type 0 where
  pub some : 0 < p.width
  pub row : Context → ℕ → Declared
  pub there : (c : Context) (k : ℕ) → In (row c k) (p.rows c k).declared
  pub number : (c : Context) (k : ℕ) → (row c k).number ≡ k
  pub by : (c : Context) (k : ℕ) → (row c k).declared_by ≡ c.decl_group
  pub holds : (c : Context) (k : ℕ) → c.decl_group ≡ k → Holds Unit Unit ⊥ k c.block c.of_record (suc k) (k + p.width) (core (p.rows c k))

begins : (i : Identdef) (c : Context) (k : ℕ) (ds : List Declared) → In (record { number = k; exported = i.is_exported; declared_by = c.decl_group }) (((identdef_rows i).rows c k).declared ++ ds)
unfolding identdef_rows with_rows joined In
begins i c k ds = inl refl

-- a definition of its own, since the name is opaque in what follows
pub t-held : (i : Identdef) {q : Fragment} → Held q → Types (both (identdef_rows i) q)
unfolding both joined
t-held i {q} g = record {
  some = (let s = identdef_some i in omega arith);
  row = λ c k. record { number = k; exported = i.is_exported; declared_by = c.decl_group };
  there = λ c k. begins i c k (q.rows c (k + (identdef_rows i).width)).declared;
  number = λ c k. refl;
  by = λ c k. refl;
  holds = λ c k s.
      let p : Fragment = identdef_rows i in
      let some : 0 < p.width = identdef_some i in
      let f = m-identdef i in
      let e : k + p.width + q.width ≡ k + (p.width + q.width) = omega arith in
      let y : Core = core (q.rows c (k + p.width)) in
      let g1 : Holds Unit Unit ⊥ c.decl_group c.block c.of_record (k + p.width) (k + p.width + q.width) y = g.holds c (k + p.width) (omega arith) in
      let g2 : Holds Unit Unit ⊥ k c.block c.of_record (k + p.width) (k + p.width + q.width) y = subst (λ (d : ℕ). Holds Unit Unit ⊥ d c.block c.of_record (k + p.width) (k + p.width + q.width) y) s g1 in
      let h : Holds Unit Unit ⊥ k c.block c.of_record (k + p.width) (k + (p.width + q.width)) y = subst (λ (n : ℕ). Holds Unit Unit ⊥ k c.block c.of_record (k + p.width) n y) e g2 in
      let x : Core = core (p.rows c k) in
      let empty : Holds ⊥ Unit ⊥ k c.block c.of_record (suc k) (k + p.width) x =
      holds_loose ⊥ Unit ⊥ k c.block c.of_record (suc k) (k + p.width) x (f.loose.records c k) (f.loose.decl_groups c k)
      (λ r j. absurd (no_in r x.parts (f.parts c k) j)) (f.loose.marks c k (omega arith)) in
      both_hold Unit Unit ⊥ k c.block c.of_record (suc k) (k + p.width) (k + (p.width + q.width)) x y (omega arith) (omega arith) (omega arith) empty h;
}

pub s-types : {F : Type 0} (decl_kind : DeclKind) {p : Fragment} → has_type decl_kind ≡ true → ((e r : ℕ) → record_for decl_kind e ≡ Some r → F × (r ≡ e)) → Types p → Stands ⊥ ⊥ F (declaring decl_kind p)
unfolding declaring joined
s-types {F} decl_kind {p} typed stands f = record {
  holds = λ c k l.
      let around : Context = declaring_at c k in
      typed_holds F c.decl_group c.block c.of_record k (k + p.width) (decl_group decl_kind c k (k + p.width - 1)) (core (p.rows around k)) (let s = f.some in omega arith) refl refl
      typed (stands c.of_record) (f.row around k) (f.there around k) (f.number around k) (f.by around k) (f.holds around k refl);
}

pub s-field : {p : Fragment} → Types p → Stands ⊥ ⊥ Unit (declaring decl_kinds.Field p)
s-field f = s-types decl_kinds.Field refl (λ e r t. (tt, (let g : Some e ≡ Some r = t in let h : e ≡ r = cc in sym h))) f

pub s-type : {p : Fragment} → Types p → Free (declaring decl_kinds.Type p)
s-type f = s-types decl_kinds.Type refl (λ e r t. absurd (let g : None ≡ Some r = t in cc)) f

pub s-variable : {p : Fragment} → Types p → Free (declaring decl_kinds.Variable p)
s-variable f = s-types decl_kinds.Variable refl (λ e r t. absurd (let g : None ≡ Some r = t in cc)) f

pub t-is : {p q : Fragment} → p ≡ q → Types q → Types p
t-is e m = subst Types (sym e) m
