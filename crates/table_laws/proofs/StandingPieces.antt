-- The records and type components that fragments of a tree contribute.
use Rattle.std.proofs.Common.{◌≡◌, ℕ, suc, ◌+◌, ◌-◌, ◌<◌, ◌≤◌, inl, inr, List, [], ◌∷◌, ◌++◌, map, Bool, Option, Some, None, refl, sym, ap, ap₂, ◌∙◌, subst, arith}
use Rattle.ob_tree.specs.declared.name.Qualident.{Qualident}
use Rattle.module_table.specs.declared.rows.Declared.{Declared}
use Rattle.module_table.specs.declared.rows.DeclGroup.{DeclGroup}
use Rattle.module_table.specs.declared.rows.TypePart.{TypePart}
use Rattle.module_table.specs.declared.rows.Part.{Part}
use Rattle.module_table.specs.declared.rows.Part.TheVariants as kinds
use Rattle.module_table.specs.declared.rows.Record.{Record}
use Rattle.module_table.specs.declared.rows.DeclKind.{DeclKind}
use Rattle.module_table.specs.Parts.{Fragment, Rows, no_rows, joined, token, both, with_rows, within, if_present, each, declaring, decl_group, declaring_at, in_block, opens_block, record_for}
use Rattle.table_rules.specs.Types.{base_of, declared_row, in_record, part_row, record_row, in_pointer, in_array}
use Rattle.table_laws.proofs.Bare.{Context}
use Rattle.table_laws.proofs.Plain.{Plain, Told, b-nothing, none, told}
use Rattle.table_laws.proofs.Standing.{Core, Holds, In, and, both_hold, core, split}
use Rattle.table_laws.proofs.StandingCores.{holds_free, holds_loose, record_holds, untyped_holds}

pub no_in : {X : Type 0} (x : X) (xs : List X) → xs ≡ [] → In x xs → ⊥
unfolding In
no_in x xs e h = let i : In x [] = subst (λ (ys : List _). In x ys) e h in i

-- ---- names, lengths and parameters

-- no record, no declaration group, and components of the declaration around the fragment
pub record Loose (p : Fragment) : Type 0 where
  pub records : (c : Context) (k : ℕ) → (p.rows c k).records ≡ []
  pub decl_groups : (c : Context) (k : ℕ) → (p.rows c k).decl_groups ≡ []
  pub parts : (c : Context) (k : ℕ) (q : TypePart) → In q (p.rows c k).parts → (q.declared_by ≡ c.decl_group) × (q.number < k + p.width) × (q.part ≡ kinds.Record → ⊥)
  pub marks : (c : Context) (k : ℕ) → c.decl_group ≤ k → (t : Declared) → In t (p.rows c k).declared → t.declared_by ≤ t.number

pub l-plain : {p : Fragment} → Plain p → Loose p
l-plain {p} f = record {
  records = λ c k. ap (λ (t : Told). t.records) (f.none c k);
  decl_groups = λ c k. ap (λ (t : Told). t.decl_groups) (f.none c k);
  parts = λ c k q h. absurd (no_in q (p.rows c k).parts (ap (λ (t : Told). t.parts) (f.none c k)) h);
  marks = λ c k l t h. absurd (no_in t (p.rows c k).declared (ap (λ (z : Told). z.declared) (f.none c k)) h);
}

pub l-both : {p q : Fragment} → Loose p → Loose q → Loose (both p q)
unfolding both joined
l-both {p} {q} f g = record {
  records = λ c k. ap₂ (λ (xs ys : List Record). xs ++ ys) (f.records c k) (g.records c (k + p.width));
  decl_groups = λ c k. ap₂ (λ (xs ys : List DeclGroup). xs ++ ys) (f.decl_groups c k) (g.decl_groups c (k + p.width));
  parts = λ c k r h. elim (split r (p.rows c k).parts (q.rows c (k + p.width)).parts h) [
    | inl i ↦ (let l = f.parts c k r i in (l.0, (let m = l.1 in omega arith), l.2))
    | inr i ↦ (let l = g.parts c (k + p.width) r i in (l.0, (let m = l.1 in omega arith), l.2))
  ];
  marks = λ c k l t h. elim (split t (p.rows c k).declared (q.rows c (k + p.width)).declared h) [ inl i ↦ f.marks c k l t i | inr i ↦ g.marks c (k + p.width) (omega arith) t i ];
}

pub l-own : (own : Context → ℕ → Rows) (part : ℕ → Part) {p : Fragment} → ((c : Context) (k : ℕ) → told (own c k) ≡ record { records = []; parts = record { declared_by = c.decl_group; number = k; part = part k } ∷ []; decl_groups = []; declared = [] })
    → ((k : ℕ) → part k ≡ kinds.Record → ⊥) → 0 < p.width → Loose p → Loose (with_rows own p)
unfolding with_rows joined In
l-own own part {p} is other some f = record {
  records = λ c k. ap₂ (λ (xs ys : List Record). xs ++ ys) (ap (λ (t : Told). t.records) (is c k)) (f.records c k);
  decl_groups = λ c k. ap₂ (λ (xs ys : List DeclGroup). xs ++ ys) (ap (λ (t : Told). t.decl_groups) (is c k)) (f.decl_groups c k);
  parts = λ c k r h.
      let row : TypePart = record { declared_by = c.decl_group; number = k; part = part k } in
      let e : (own c k).parts ≡ row ∷ [] = ap (λ (t : Told). t.parts) (is c k) in
      let i : In r (row ∷ (p.rows c k).parts) = subst (λ (xs : List TypePart). In r (xs ++ (p.rows c k).parts)) e h in
      elim i [
        | inl s ↦ (let n : k ≡ r.number = ap (λ (z : TypePart). z.number) s in (ap (λ (z : TypePart). z.declared_by) (sym s), omega arith, (λ t. other k (ap (λ (z : TypePart). z.part) s ∙ t))))
        | inr j ↦ f.parts c k r j
      ];
  marks = λ c k l t h. f.marks c k l t (subst (λ (xs : List Declared). In t (xs ++ (p.rows c k).declared)) (ap (λ (z : Told). z.declared) (is c k)) h);
}

pub l-there : {X : Type 0} (f : X → Fragment) (o : Option X) → ((x : X) → Loose (f x)) → Loose (if_present f o)
l-there f None w = l-plain b-nothing
l-there f (Some x) w = w x

pub l-each : {X : Type 0} (f : X → Fragment) (xs : List X) → ((x : X) → Loose (f x)) → Loose (each f xs)
l-each f [] w = l-plain b-nothing
l-each f (x ∷ xs) w = l-both (w x) (l-each f xs w)

-- entries that contribute none of these
pub l-with_rows : (own : Context → ℕ → Rows) {p : Fragment} → ((c : Context) (k : ℕ) → told (own c k) ≡ none) → Loose p → Loose (with_rows own p)
unfolding with_rows joined
l-with_rows own {p} is f = record {
  records = λ c k. ap₂ (λ (xs ys : List Record). xs ++ ys) (ap (λ (z : Told). z.records) (is c k)) (f.records c k);
  decl_groups = λ c k. ap₂ (λ (xs ys : List DeclGroup). xs ++ ys) (ap (λ (z : Told). z.decl_groups) (is c k)) (f.decl_groups c k);
  parts = λ c k q h. f.parts c k q (subst (λ (xs : List TypePart). In q (xs ++ (p.rows c k).parts)) (ap (λ (z : Told). z.parts) (is c k)) h);
  marks = λ c k l t h. f.marks c k l t (subst (λ (xs : List Declared). In t (xs ++ (p.rows c k).declared)) (ap (λ (z : Told). z.declared) (is c k)) h);
}

-- a fragment that declares an identifier, and has no component of a type expression
pub record Mute (p : Fragment) : Type 0 where
  pub loose : Loose p
  pub parts : (c : Context) (k : ℕ) → (p.rows c k).parts ≡ []

mark_alone : (row t : Declared) (xs : List Declared) → xs ≡ [] → row.declared_by ≤ row.number → In t (row ∷ xs) → t.declared_by ≤ t.number
unfolding In
mark_alone row t xs none l h = elim h [ inl s ↦ subst (λ (z : Declared). z.declared_by ≤ z.number) s l | inr n ↦ absurd (no_in t xs none n) ]

pub m-declared : (is_exported : Bool) {p : Fragment} → Plain p → Mute (with_rows (declared_row is_exported) p)
unfolding with_rows joined
m-declared is_exported {p} f = record {
  loose = record {
    records = λ c k. ap (λ (z : Told). z.records) (f.none c k);
    decl_groups = λ c k. ap (λ (z : Told). z.decl_groups) (f.none c k);
    parts = λ c k q h. absurd (no_in q (p.rows c k).parts (ap (λ (z : Told). z.parts) (f.none c k)) h);
    marks = λ c k l t h. mark_alone (record { number = k; exported = is_exported; declared_by = c.decl_group }) t (p.rows c k).declared (ap (λ (z : Told). z.declared) (f.none c k)) l h;
  };
  parts = λ c k. ap (λ (z : Told). z.parts) (f.none c k);
}

pub l-is : {p q : Fragment} → p ≡ q → Loose q → Loose p
l-is e m = subst Loose (sym e) m

-- ---- all fragments

-- whether the surrounding declaration may own records here and have components here, and whether fields may be declared here
pub record Stands (R P F : Type 0) (p : Fragment) : Type 0 where
  pub holds : (c : Context) (k : ℕ) → c.decl_group < k → Holds R P F c.decl_group c.block c.of_record k (k + p.width) (core (p.rows c k))

abbrev pub Free : Fragment → Type 0
Free = Stands ⊥ ⊥ ⊥

abbrev pub Held : Fragment → Type 0
Held = Stands Unit Unit ⊥

pub s-loose : {R F : Type 0} {p : Fragment} → Loose p → Stands R Unit F p
s-loose {R} {F} {p} f = record {
  holds = λ c k l. holds_loose R Unit F c.decl_group c.block c.of_record k (k + p.width) (core (p.rows c k)) (f.records c k) (f.decl_groups c k) (λ q h. (let m = f.parts c k q h in (tt, m.0, m.1, m.2))) (f.marks c k (omega arith));
}

pub s-plain : {R P F : Type 0} {p : Fragment} → Plain p → Stands R P F p
s-plain {R} {P} {F} {p} f = record {
  holds = λ c k l. holds_loose R P F c.decl_group c.block c.of_record k (k + p.width) (core (p.rows c k)) (ap (λ (t : Told). t.records) (f.none c k)) (ap (λ (t : Told). t.decl_groups) (f.none c k))
      (λ q h. absurd (no_in q (p.rows c k).parts (ap (λ (t : Told). t.parts) (f.none c k)) h))
      (λ t h. absurd (no_in t (p.rows c k).declared (ap (λ (z : Told). z.declared) (f.none c k)) h));
}

pub s-mute : {R P F : Type 0} {p : Fragment} → Mute p → Stands R P F p
s-mute {R} {P} {F} {p} f = record {
  holds = λ c k l. holds_loose R P F c.decl_group c.block c.of_record k (k + p.width) (core (p.rows c k)) (f.loose.records c k) (f.loose.decl_groups c k)
      (λ q h. absurd (no_in q (p.rows c k).parts (f.parts c k) h)) (f.loose.marks c k (omega arith));
}

pub s-free : {R P F : Type 0} {p : Fragment} → Free p → Stands R P F p
s-free {R} {P} {F} {p} f = record { holds = λ c k l. holds_free R P F c.decl_group c.block c.of_record c.decl_group c.block c.of_record k (k + p.width) (core (p.rows c k)) (f.holds c k l) }

pub s-both : {R P F : Type 0} {p q : Fragment} → Stands ⊥ P F p → Stands R P F q → Stands R P F (both p q)
unfolding both joined
s-both {R} {P} {F} {p} {q} f g = record {
  holds = λ c k l.
      let m : c.decl_group < k + p.width = omega arith in
      let e : k + p.width + q.width ≡ k + (p.width + q.width) = omega arith in
      let h : Holds R P F c.decl_group c.block c.of_record (k + p.width) (k + (p.width + q.width)) (core (q.rows c (k + p.width))) =
      subst (λ (n : ℕ). Holds R P F c.decl_group c.block c.of_record (k + p.width) n (core (q.rows c (k + p.width)))) e (g.holds c (k + p.width) m) in
      both_hold R P F c.decl_group c.block c.of_record k (k + p.width) (k + (p.width + q.width)) (core (p.rows c k)) (core (q.rows c (k + p.width))) l (omega arith) (omega arith) (f.holds c k l) h;
}

pub s-there : {P F X : Type 0} (f : X → Fragment) (o : Option X) → ((x : X) → Stands ⊥ P F (f x)) → Stands ⊥ P F (if_present f o)
s-there f None w = s-plain b-nothing
s-there f (Some x) w = w x

pub s-each : {P F X : Type 0} (f : X → Fragment) (xs : List X) → ((x : X) → Stands ⊥ P F (f x)) → Stands ⊥ P F (each f xs)
s-each f [] w = s-plain b-nothing
s-each f (x ∷ xs) w = s-both (w x) (s-each f xs w)

pub s-map : {P F X Y : Type 0} (f : Y → Fragment) (h : X → Y) (xs : List X) → ((x : X) → Stands ⊥ P F (f (h x))) → Stands ⊥ P F (each f (map h xs))
s-map f h [] w = s-plain b-nothing
s-map f h (x ∷ xs) w = s-both (w x) (s-map f h xs w)

pub s-is : {R P F : Type 0} {p q : Fragment} → p ≡ q → Stands R P F q → Stands R P F p
s-is {R} {P} {F} e m = subst (Stands R P F) (sym e) m

-- ---- types

pub s-in_pointer : {R P F : Type 0} {p : Fragment} → Stands R P F p → Stands R P F (within in_pointer p)
unfolding within
s-in_pointer f = record { holds = λ c k l. f.holds (in_pointer c k) k l }

pub s-in_array : {R P F : Type 0} {p : Fragment} → Stands R P F p → Stands R P F (within in_array p)
unfolding within
s-in_array f = record { holds = λ c k l. f.holds (in_array c k) k l }

-- a fragment that doesn't end the type expression, and what follows it
part_holds : {R F : Type 0} (d b e k high : ℕ) (part : TypePart) (y : Core) → d < k → suc k ≤ high → part.declared_by ≡ d → part.number ≡ k → (part.part ≡ kinds.Record → ⊥) → Holds R Unit F d b e (suc k) high y
    → Holds R Unit F d b e k high (and (record { records = []; parts = part ∷ []; decl_groups = []; declared = [] }) y)
unfolding In
part_holds {R} {F} d b e k high part y l m by at other g =
    let x : Core = record { records = []; parts = part ∷ []; decl_groups = []; declared = [] } in
    both_hold R Unit F d b e k (suc k) high x y l (omega arith) m
    (holds_loose ⊥ Unit F d b e k (suc k) x refl refl
    (λ q h. elim h [
      | inl s ↦ (let n : part.number ≡ q.number = ap (λ (z : TypePart). z.number) s in (tt, ap (λ (z : TypePart). z.declared_by) (sym s) ∙ by, omega arith, (λ t. other (ap (λ (z : TypePart). z.part) s ∙ t))))
      | inr n ↦ absurd n
    ]) (λ t h. absurd h)) g

pub s-part : {R F : Type 0} (t : Part) {q : Fragment} → (t ≡ kinds.Record → ⊥) → Stands R Unit F q → Stands R Unit F (with_rows (part_row t) (both token q))
unfolding with_rows both token joined no_rows
s-part {R} {F} t {q} other g = record {
  holds = λ c k l.
      let e : k + 1 + q.width ≡ k + (1 + q.width) = omega arith in
      let s : k + 1 ≡ suc k = omega arith in
      let h : Holds R Unit F c.decl_group c.block c.of_record (k + 1) (k + (1 + q.width)) (core (q.rows c (k + 1))) =
      subst (λ (n : ℕ). Holds R Unit F c.decl_group c.block c.of_record (k + 1) n (core (q.rows c (k + 1)))) e (g.holds c (k + 1) (omega arith)) in
      let i : Holds R Unit F c.decl_group c.block c.of_record (suc k) (k + (1 + q.width)) (core (q.rows c (k + 1))) =
      subst (λ (n : ℕ). Holds R Unit F c.decl_group c.block c.of_record n (k + (1 + q.width)) (core (q.rows c (k + 1)))) s h in
      part_holds c.decl_group c.block c.of_record k (k + (1 + q.width)) (record { declared_by = c.decl_group; number = k; part = t }) (core (q.rows c (k + 1))) l (omega arith) refl refl other i;
}

pub s-procedure : {R F : Type 0} (t : Part) {q : Fragment} → (t ≡ kinds.Record → ⊥) → Free q → Stands R Unit F (with_rows (part_row t) (opens_block (both token q)))
unfolding with_rows within both token joined no_rows
s-procedure {R} {F} t {q} other g = record {
  holds = λ c k l.
      let e : k + 1 + q.width ≡ k + (1 + q.width) = omega arith in
      let s : k + 1 ≡ suc k = omega arith in
      let y : Core = core (q.rows (in_block c k) (k + 1)) in
      let f : Holds R Unit F c.decl_group c.block c.of_record (k + 1) (k + 1 + q.width) y =
      holds_free R Unit F c.decl_group k c.of_record c.decl_group c.block c.of_record (k + 1) (k + 1 + q.width) y (g.holds (in_block c k) (k + 1) (omega arith)) in
      let h : Holds R Unit F c.decl_group c.block c.of_record (k + 1) (k + (1 + q.width)) y = subst (λ (n : ℕ). Holds R Unit F c.decl_group c.block c.of_record (k + 1) n y) e f in
      let i : Holds R Unit F c.decl_group c.block c.of_record (suc k) (k + (1 + q.width)) y = subst (λ (n : ℕ). Holds R Unit F c.decl_group c.block c.of_record n (k + (1 + q.width)) y) s h in
      part_holds c.decl_group c.block c.of_record k (k + (1 + q.width)) (record { declared_by = c.decl_group; number = k; part = t }) y l (omega arith) refl refl other i;
}

pub s-record : (base : Option Qualident) {p : Fragment} → 0 < p.width → Stands ⊥ ⊥ Unit p → Held (with_rows (part_row kinds.Record) (with_rows (record_row base) (within in_record p)))
unfolding with_rows within joined
s-record base {p} some g = record {
  holds = λ c k l. record_holds c.decl_group c.block c.of_record k (k + p.width) (record { number = k; owner = c.decl_group; base = base_of base k }) (record { declared_by = c.decl_group; number = k; part = kinds.Record })
      (core (p.rows (in_record c k) k)) l (omega arith) refl refl refl refl refl (g.holds (in_record c k) k l);
}

-- ---- declarations

-- the inside of a declaration that owns nothing
pub record Opens (p : Fragment) : Type 0 where
  pub some : 0 < p.width
  pub holds : (c : Context) (k : ℕ) → c.decl_group ≡ k → Holds ⊥ Unit ⊥ k c.block c.of_record k (k + p.width) (core (p.rows c k))

pub o-loose : {p : Fragment} → 0 < p.width → Loose p → Opens p
o-loose {p} some f = record {
  some = some;
  holds = λ c k s. holds_loose ⊥ Unit ⊥ k c.block c.of_record k (k + p.width) (core (p.rows c k)) (f.records c k) (f.decl_groups c k) (λ q h. (let m = f.parts c k q h in (tt, m.0 ∙ s, m.1, m.2))) (f.marks c k (omega arith));
}

pub s-opens : (decl_kind : DeclKind) {p : Fragment} → ((r : ℕ) → record_for decl_kind r ≡ None) → Opens p → Free (declaring decl_kind p)
unfolding declaring joined
s-opens decl_kind {p} none f = record {
  holds = λ c k l. untyped_holds ⊥ c.decl_group c.block c.of_record k (k + p.width) (decl_group decl_kind c k (k + p.width - 1)) (core (p.rows (declaring_at c k) k)) (let s = f.some in omega arith) refl refl
      (none c.of_record) (f.holds (declaring_at c k) k refl);
}
