-- The owners of the records in a fragment of a tree: the declaration around it, or declarations in it. A record ends its owner's type.
use Rattle.std.proofs.Common.{◌≡◌, ℕ, ◌<◌, ◌≤◌, ◌⊎◌, inl, inr, List, [], ◌∷◌, ◌++◌, Some, true, arith}
use Rattle.module_table.specs.declared.rows.Declared.{Declared}
use Rattle.module_table.specs.declared.rows.DeclGroup.{DeclGroup}
use Rattle.module_table.specs.declared.rows.TypePart.{TypePart}
use Rattle.module_table.specs.declared.rows.Part.TheVariants as sorts_of_part
use Rattle.module_table.specs.declared.rows.Record.{Record}
use Rattle.module_table.specs.Parts.{Rows}
use Rattle.table_laws.specs.Owners.{has_type}

-- ---- elements of a list

unfoldable pub In : {X : Type 0} → X → List X → Type 0
In x [] = ⊥
In x (y ∷ ys) = (y ≡ x) ⊎ In x ys

pub left : {X : Type 0} (x : X) (xs ys : List X) → In x xs → In x (xs ++ ys)
unfolding In
left x [] ys h = absurd h
left x (y ∷ xs) ys h = elim h [ inl e ↦ inl e | inr t ↦ inr (left x xs ys t) ]

pub right : {X : Type 0} (x : X) (xs ys : List X) → In x ys → In x (xs ++ ys)
unfolding In
right x [] ys h = h
right x (y ∷ xs) ys h = inr (right x xs ys h)

pub split : {X : Type 0} (x : X) (xs ys : List X) → In x (xs ++ ys) → In x xs ⊎ In x ys
unfolding In
split x [] ys h = inr h
split x (y ∷ xs) ys h = elim h [
  | inl e ↦ inl (inl e)
  | inr t ↦ (elim (split x xs ys t) [ inl a ↦ inl (inr a) | inr b ↦ inr b ])
]

-- ---- what fragments contribute

pub record Core : Type 0 where
  pub records : List Record
  pub parts : List TypePart
  pub decl_groups : List DeclGroup
  pub declared : List Declared

abbrev pub core : Rows → Core
core r = record { records = r.records; parts = r.parts; decl_groups = r.decl_groups; declared = r.declared }

abbrev pub and : Core → Core → Core
and x y = record { records = x.records ++ y.records; parts = x.parts ++ y.parts; decl_groups = x.decl_groups ++ y.decl_groups; declared = x.declared ++ y.declared }

-- the identifier at a token, which begins a declaration of this block that has a type
pub record Typed (x : Core) (o b : ℕ) : Type 0 where
  pub by : DeclGroup
  pub among : In by x.decl_groups
  pub first : by.first ≡ o
  pub block : by.block ≡ b
  pub decl_kind : has_type by.decl_kind ≡ true
  pub row : Declared
  pub there : In row x.declared
  pub number : row.number ≡ o
  pub declared_by : row.declared_by ≡ o

-- the record of a field, whose owner is the declaration around the fragment, or a declaration in it
pub record FieldOf (R : Type 0) (d b : ℕ) (x : Core) (f : DeclGroup) (r : ℕ) : Type 0 where
  pub row : Record
  pub among : In row x.records
  pub number : row.number ≡ r
  pub before : row.owner < f.first
  pub owner : (R × (row.owner ≡ d) × (f.block ≡ b)) ⊎ Typed x row.owner f.block

pub record OfRecord (rs : List Record) (q : TypePart) : Type 0 where
  pub row : Record
  pub among : In row rs
  pub number : row.number ≡ q.number
  pub owner : row.owner ≡ q.declared_by

pub record Ends (ps : List TypePart) (r : Record) : Type 0 where
  pub part : TypePart
  pub among : In part ps
  pub declared_by : part.declared_by ≡ r.owner
  pub number : part.number ≡ r.number
  pub is : part.part ≡ sorts_of_part.Record
  pub last : (q : TypePart) → In q ps → q.declared_by ≡ r.owner → q.number ≤ r.number

abbrev pub Within : ℕ → ℕ → ℕ → Type 0
Within low high o = (low ≤ o) × (o < high)

-- the declaration around the fragment, if it may own records, or a declaration in these tokens
abbrev pub OwnOr : Type 0 → ℕ → ℕ → ℕ → ℕ → Type 0
OwnOr A d low high o = (A × (o ≡ d)) ⊎ Within low high o

-- What tokens contribute after the first token of the declaration around them, in this block and record: whether the declaration may own
-- records in the tokens, may have components there, and whether fields of the record may be declared there.
pub record Holds (R P F : Type 0) (d b e low high : ℕ) (x : Core) : Type 0 where
  pub records : (r : Record) → In r x.records → (low ≤ r.number) × OwnOr R d low high r.owner
  pub parts : (q : TypePart) → In q x.parts → (q.number < high) × OwnOr P d low high q.declared_by
  pub told : (q : TypePart) → In q x.parts → q.part ≡ sorts_of_part.Record → OfRecord x.records q
  pub forms : (r : Record) → In r x.records → Ends x.parts r
  pub marks : (t : Declared) → In t x.declared → t.declared_by ≤ t.number
  pub fields : (f : DeclGroup) (r : ℕ) → In f x.decl_groups → f.of_record ≡ Some r → (F × (r ≡ e) × (f.block ≡ b) × (low ≤ f.first)) ⊎ FieldOf R d b x f r

-- ---- wider

typed_left : (x y : Core) (o b : ℕ) → Typed x o b → Typed (and x y) o b
typed_left x y o b t = record {
  by = t.by;
  among = left t.by x.decl_groups y.decl_groups t.among;
  first = t.first;
  block = t.block;
  decl_kind = t.decl_kind;
  row = t.row;
  there = left t.row x.declared y.declared t.there;
  number = t.number;
  declared_by = t.declared_by;
}

typed_right : (x y : Core) (o b : ℕ) → Typed y o b → Typed (and x y) o b
typed_right x y o b t = record {
  by = t.by;
  among = right t.by x.decl_groups y.decl_groups t.among;
  first = t.first;
  block = t.block;
  decl_kind = t.decl_kind;
  row = t.row;
  there = right t.row x.declared y.declared t.there;
  number = t.number;
  declared_by = t.declared_by;
}

field_left : (R : Type 0) (d b : ℕ) (x y : Core) (f : DeclGroup) (r : ℕ) → FieldOf ⊥ d b x f r → FieldOf R d b (and x y) f r
field_left R d b x y f r h = record {
  row = h.row;
  among = left h.row x.records y.records h.among;
  number = h.number;
  before = h.before;
  owner = elim h.owner [ inl n ↦ absurd n.0 | inr t ↦ inr (typed_left x y h.row.owner f.block t) ];
}

pub field_right : (R : Type 0) (d b : ℕ) (x y : Core) (f : DeclGroup) (r : ℕ) → FieldOf R d b y f r → FieldOf R d b (and x y) f r
field_right R d b x y f r h = record {
  row = h.row;
  among = right h.row x.records y.records h.among;
  number = h.number;
  before = h.before;
  owner = elim h.owner [ inl n ↦ inl n | inr t ↦ inr (typed_right x y h.row.owner f.block t) ];
}

pub own_or_wider : (A : Type 0) (d low high l h o : ℕ) → l ≤ low → high ≤ h → OwnOr A d low high o → OwnOr A d l h o
own_or_wider A d low high l h o m n w = elim w [ inl s ↦ inl s | inr i ↦ inr ((let u = i.0 in omega arith), (let u = i.1 in omega arith)) ]

-- ---- fragments one after the other

module _ (R P F : Type 0) (d b e low mid high : ℕ) (x y : Core) (u : d < low) (v : low ≤ mid) (w : mid ≤ high) (f : Holds ⊥ P F d b e low mid x) (g : Holds R P F d b e mid high y) where
  and_records : (r : Record) → In r (x.records ++ y.records) → (low ≤ r.number) × OwnOr R d low high r.owner
  and_records r h = elim (split r x.records y.records h) [
    | inl i ↦ (let p = f.records r i in (p.0, elim p.1 [ inl n ↦ absurd n.0 | inr z ↦ inr (z.0, (let s = z.1 in omega arith)) ]))
    | inr i ↦ (let p = g.records r i in ((let s = p.0 in omega arith), own_or_wider R d mid high low high r.owner v (omega arith) p.1))
  ]

  and_parts : (q : TypePart) → In q (x.parts ++ y.parts) → (q.number < high) × OwnOr P d low high q.declared_by
  and_parts q h = elim (split q x.parts y.parts h) [
    | inl i ↦ (let p = f.parts q i in ((let s = p.0 in omega arith), own_or_wider P d low mid low high q.declared_by (omega arith) w p.1))
    | inr i ↦ (let p = g.parts q i in (p.0, own_or_wider P d mid high low high q.declared_by v (omega arith) p.1))
  ]

  and_told : (q : TypePart) → In q (x.parts ++ y.parts) → q.part ≡ sorts_of_part.Record → OfRecord (x.records ++ y.records) q
  and_told q h t = elim (split q x.parts y.parts h) [
    | inl i ↦ (let p = f.told q i t in record { row = p.row; among = left p.row x.records y.records p.among; number = p.number; owner = p.owner })
    | inr i ↦ (let p = g.told q i t in record { row = p.row; among = right p.row x.records y.records p.among; number = p.number; owner = p.owner })
  ]

  not_behind : (q : TypePart) (r : Record) → In q y.parts → In r x.records → q.declared_by ≡ r.owner → ⊥
  not_behind q r i j s =
      let m = (g.parts q i).1 in
      elim (f.records r j).1 [
        | inl n ↦ n.0
        | inr z ↦ (elim m [ inl a ↦ (let p = a.1 in let l = z.0 in omega arith) | inr a ↦ (let p = a.0 in let l = z.1 in omega arith) ])
      ]

  last_left : (r : Record) (i : In r x.records) (q : TypePart) → In q (x.parts ++ y.parts) → q.declared_by ≡ r.owner → q.number ≤ r.number
  last_left r i q h s = elim (split q x.parts y.parts h) [ inl j ↦ (f.forms r i).last q j s | inr j ↦ absurd (not_behind q r j i s) ]

  last_right : (r : Record) (i : In r y.records) (q : TypePart) → In q (x.parts ++ y.parts) → q.declared_by ≡ r.owner → q.number ≤ r.number
  last_right r i q h s = elim (split q x.parts y.parts h) [
    | inl j ↦ (let p = (f.parts q j).0 in let l = (g.records r i).0 in omega arith)
    | inr j ↦ (g.forms r i).last q j s
  ]

  and_forms : (r : Record) → In r (x.records ++ y.records) → Ends (x.parts ++ y.parts) r
  and_forms r h = elim (split r x.records y.records h) [
    | inl i ↦ (let p = f.forms r i in record { part = p.part; among = left p.part x.parts y.parts p.among; declared_by = p.declared_by; number = p.number; is = p.is; last = last_left r i })
    | inr i ↦ (let p = g.forms r i in record { part = p.part; among = right p.part x.parts y.parts p.among; declared_by = p.declared_by; number = p.number; is = p.is; last = last_right r i })
  ]

  and_fields : (h : DeclGroup) (r : ℕ) → In h (x.decl_groups ++ y.decl_groups) → h.of_record ≡ Some r → (F × (r ≡ e) × (h.block ≡ b) × (low ≤ h.first)) ⊎ FieldOf R d b (and x y) h r
  and_fields h r i t = elim (split h x.decl_groups y.decl_groups i) [
    | inl j ↦ (elim (f.fields h r j t) [ inl a ↦ inl a | inr a ↦ inr (field_left R d b x y h r a) ])
    | inr j ↦ (elim (g.fields h r j t) [ inl a ↦ inl (a.0, a.1, a.2, (let l = a.3 in omega arith)) | inr a ↦ inr (field_right R d b x y h r a) ])
  ]

  and_marks : (t : Declared) → In t (x.declared ++ y.declared) → t.declared_by ≤ t.number
  and_marks t h = elim (split t x.declared y.declared h) [ inl i ↦ f.marks t i | inr i ↦ g.marks t i ]

  pub both_hold : Holds R P F d b e low high (and x y)
  both_hold = record { records = and_records; parts = and_parts; told = and_told; forms = and_forms; marks = and_marks; fields = and_fields }
