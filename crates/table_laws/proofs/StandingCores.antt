-- What a record, a declaration with a type and any other declaration contribute, by their insides.
use Rattle.std.proofs.Common.{◌≡◌, ℕ, suc, ◌<◌, ◌≤◌, ◌⊎◌, inl, inr, List, [], ◌∷◌, Some, None, true, refl, sym, ap, ◌∙◌, subst, arith}
use Rattle.module_table.specs.declared.rows.Declared.{Declared}
use Rattle.module_table.specs.declared.rows.DeclGroup.{DeclGroup}
use Rattle.module_table.specs.declared.rows.TypePart.{TypePart}
use Rattle.module_table.specs.declared.rows.Part.TheVariants as kinds
use Rattle.module_table.specs.declared.rows.Record.{Record}
use Rattle.table_laws.specs.Owners.{has_type}
use Rattle.table_laws.proofs.Standing.{Core, Ends, FieldOf, Holds, In, OfRecord, OwnOr, Typed, Within}

-- a fragment that has no records and declares nothing
pub holds_loose : (R P F : Type 0) (d b e low high : ℕ) (x : Core) → x.records ≡ [] → x.decl_groups ≡ []
    → ((q : TypePart) → In q x.parts → P × (q.declared_by ≡ d) × (q.number < high) × (q.part ≡ kinds.Record → ⊥)) → ((t : Declared) → In t x.declared → t.declared_by ≤ t.number) → Holds R P F d b e low high x
unfolding In
holds_loose R P F d b e low high x none undeclared loose marks = record {
  marks = marks;
  records = λ r h. absurd (let i : In r [] = subst (λ (rs : List Record). In r rs) none h in i);
  parts = λ q h. (let l = loose q h in (l.2, inl (l.0, l.1)));
  told = λ q h t. absurd ((loose q h).3 t);
  forms = λ r h. absurd (let i : In r [] = subst (λ (rs : List Record). In r rs) none h in i);
  fields = λ f r h t. absurd (let i : In f [] = subst (λ (fs : List DeclGroup). In f fs) undeclared h in i);
}

-- a fragment that contributes nothing to the declaration around it
pub holds_free : (R P F : Type 0) (d b e a c g low high : ℕ) (x : Core) → Holds ⊥ ⊥ ⊥ d b e low high x → Holds R P F a c g low high x
holds_free R P F d b e a c g low high x f = record {
  marks = f.marks;
  records = λ r h. (let p = f.records r h in (p.0, elim p.1 [ inl n ↦ absurd n.0 | inr z ↦ inr z ]));
  parts = λ q h. (let p = f.parts q h in (p.0, elim p.1 [ inl n ↦ absurd n.0 | inr z ↦ inr z ]));
  told = f.told;
  forms = f.forms;
  fields = λ by r h t. elim (f.fields by r h t) [
    | inl n ↦ absurd n.0
    | inr o ↦ inr (record { row = o.row; among = o.among; number = o.number; before = o.before; owner = elim o.owner [ inl n ↦ absurd n.0 | inr z ↦ inr z ] })
  ];
}

-- ---- a record

module _ (d b e k high : ℕ) (row : Record) (part : TypePart) (y : Core) (u : d < k) (v : k < high) (number : row.number ≡ k) (owner : row.owner ≡ d)
    (at : part.number ≡ k) (by : part.declared_by ≡ d) (is : part.part ≡ kinds.Record) (f : Holds ⊥ ⊥ Unit d b k k high y) where
  abbrev whole : Core
  whole = record { records = row ∷ y.records; parts = part ∷ y.parts; decl_groups = y.decl_groups; declared = y.declared }

  far_record : (r : Record) → In r y.records → Within k high r.owner
  far_record r i = elim (f.records r i).1 [ inl n ↦ absurd n.0 | inr z ↦ z ]

  far_part : (q : TypePart) → In q y.parts → Within k high q.declared_by
  far_part q i = elim (f.parts q i).1 [ inl n ↦ absurd n.0 | inr z ↦ z ]

  r_records : (r : Record) → In r whole.records → (k ≤ r.number) × OwnOr Unit d k high r.owner
  unfolding In
  r_records r h = elim h [
    | inl s ↦ (let n : row.number ≡ r.number = ap (λ (z : Record). z.number) s in (omega arith, inl (tt, ap (λ (z : Record). z.owner) (sym s) ∙ owner)))
    | inr i ↦ ((f.records r i).0, inr (far_record r i))
  ]

  r_parts : (q : TypePart) → In q whole.parts → (q.number < high) × OwnOr Unit d k high q.declared_by
  unfolding In
  r_parts q h = elim h [
    | inl s ↦ (let n : part.number ≡ q.number = ap (λ (z : TypePart). z.number) s in (omega arith, inl (tt, ap (λ (z : TypePart). z.declared_by) (sym s) ∙ by)))
    | inr i ↦ ((f.parts q i).0, inr (far_part q i))
  ]

  r_told : (q : TypePart) → In q whole.parts → q.part ≡ kinds.Record → OfRecord whole.records q
  unfolding In
  r_told q h t = elim h [
    | inl s ↦ (record { row = row; among = inl refl; number = number ∙ sym at ∙ ap (λ (z : TypePart). z.number) s; owner = owner ∙ sym by ∙ ap (λ (z : TypePart). z.declared_by) s })
    | inr i ↦ (let p = f.told q i t in record { row = p.row; among = inr p.among; number = p.number; owner = p.owner })
  ]

  last_here : (r : Record) → row ≡ r → (q : TypePart) → In q whole.parts → q.declared_by ≡ r.owner → q.number ≤ r.number
  unfolding In
  last_here r same q h t =
      let o : row.owner ≡ r.owner = ap (λ (z : Record). z.owner) same in
      let n : row.number ≡ r.number = ap (λ (z : Record). z.number) same in
      elim h [
        | inl s ↦ (let m : part.number ≡ q.number = ap (λ (z : TypePart). z.number) s in omega arith)
        | inr i ↦ (let w = (far_part q i).0 in omega arith)
      ]

  last_within : (r : Record) (i : In r y.records) (q : TypePart) → In q whole.parts → q.declared_by ≡ r.owner → q.number ≤ r.number
  unfolding In
  last_within r i q h t = elim h [
    | inl s ↦ (let m : part.declared_by ≡ q.declared_by = ap (λ (z : TypePart). z.declared_by) s in let w = (far_record r i).0 in omega arith)
    | inr j ↦ (f.forms r i).last q j t
  ]

  r_forms : (r : Record) → In r whole.records → Ends whole.parts r
  unfolding In
  r_forms r h = elim h [
    | inl s ↦ (record { part = part; among = inl refl; declared_by = by ∙ sym owner ∙ ap (λ (z : Record). z.owner) s; number = at ∙ sym number ∙ ap (λ (z : Record). z.number) s; is = is; last = last_here r s })
    | inr i ↦ (let p = f.forms r i in record { part = p.part; among = inr p.among; declared_by = p.declared_by; number = p.number; is = p.is; last = last_within r i })
  ]

  typed_whole : (o c : ℕ) → Typed y o c → Typed whole o c
  typed_whole o c t = record { by = t.by; among = t.among; first = t.first; block = t.block; decl_kind = t.decl_kind; row = t.row; there = t.there; number = t.number; declared_by = t.declared_by }

  r_fields : (g : DeclGroup) (r : ℕ) → In g whole.decl_groups → g.of_record ≡ Some r → (⊥ × (r ≡ e) × (g.block ≡ b) × (k ≤ g.first)) ⊎ FieldOf Unit d b whole g r
  unfolding In
  r_fields g r h t = elim (f.fields g r h t) [
    | inl a ↦ inr (record { row = row; among = inl refl; number = number ∙ sym a.1; before = (let l = a.3 in omega arith); owner = inl (tt, owner, a.2) })
    | inr o ↦ inr (record { row = o.row; among = inr o.among; number = o.number; before = o.before; owner = elim o.owner [ inl n ↦ absurd n.0 | inr z ↦ inr (typed_whole o.row.owner g.block z) ] })
  ]

  pub record_holds : Holds Unit Unit ⊥ d b e k high whole
  record_holds = record { records = r_records; parts = r_parts; told = r_told; forms = r_forms; marks = f.marks; fields = r_fields }

-- ---- declarations

module _ (F : Type 0) (d b e k high : ℕ) (own : DeclGroup) (y : Core) (v : k < high) (first : own.first ≡ k) (block : own.block ≡ b) where
  abbrev declaring_core : Core
  declaring_core = record { records = y.records; parts = y.parts; decl_groups = own ∷ y.decl_groups; declared = y.declared }

  typed_in : (o c : ℕ) → Typed y o c → Typed declaring_core o c
  unfolding In
  typed_in o c t = record { by = t.by; among = inr t.among; first = t.first; block = t.block; decl_kind = t.decl_kind; row = t.row; there = t.there; number = t.number; declared_by = t.declared_by }

  closed : (A : Type 0) (low o : ℕ) → k ≤ low → OwnOr A k low high o → OwnOr ⊥ d k high o
  closed A low o l w = elim w [ inl s ↦ inr ((let t = s.1 in omega arith), (let t = s.1 in omega arith)) | inr z ↦ inr ((let t = z.0 in omega arith), z.1) ]

  module _ (decl_kind : has_type own.decl_kind ≡ true) (stands : (r : ℕ) → own.of_record ≡ Some r → F × (r ≡ e)) (row : Declared) (there : In row y.declared) (number : row.number ≡ k) (by : row.declared_by ≡ k)
      (f : Holds Unit Unit ⊥ k b e (suc k) high y) where
    owned : (g : DeclGroup) (r : ℕ) → FieldOf Unit k b y g r → FieldOf ⊥ d b declaring_core g r
    unfolding In
    owned g r o = record {
      row = o.row;
      among = o.among;
      number = o.number;
      before = o.before;
      owner = elim o.owner [
        | inl n ↦ inr (record { by = own; among = inl refl; first = first ∙ sym n.1; block = block ∙ sym n.2; decl_kind = decl_kind; row = row; there = there; number = number ∙ sym n.1; declared_by = by ∙ sym n.1 })
        | inr z ↦ inr (typed_in o.row.owner g.block z)
      ];
    }

    t_fields : (g : DeclGroup) (r : ℕ) → In g (own ∷ y.decl_groups) → g.of_record ≡ Some r → (F × (r ≡ e) × (g.block ≡ b) × (k ≤ g.first)) ⊎ FieldOf ⊥ d b declaring_core g r
    unfolding In
    t_fields g r h t = elim h [
      | inl s ↦ (let p = stands r (ap (λ (z : DeclGroup). z.of_record) s ∙ t) in let n : own.first ≡ g.first = ap (λ (z : DeclGroup). z.first) s in inl (p.0, p.1, ap (λ (z : DeclGroup). z.block) (sym s) ∙ block, omega arith))
      | inr i ↦ (elim (f.fields g r i t) [ inl n ↦ absurd n.0 | inr o ↦ inr (owned g r o) ])
    ]

    pub typed_holds : Holds ⊥ ⊥ F d b e k high declaring_core
    typed_holds = record {
      records = λ r h. (let p = f.records r h in ((let l = p.0 in omega arith), closed Unit (suc k) r.owner (omega arith) p.1));
      parts = λ q h. (let p = f.parts q h in (p.0, closed Unit (suc k) q.declared_by (omega arith) p.1));
      told = f.told;
      forms = f.forms;
      marks = f.marks;
      fields = t_fields;
    }

  module _ (none : own.of_record ≡ None) (f : Holds ⊥ Unit ⊥ k b e k high y) where
    u_fields : (g : DeclGroup) (r : ℕ) → In g (own ∷ y.decl_groups) → g.of_record ≡ Some r → (F × (r ≡ e) × (g.block ≡ b) × (k ≤ g.first)) ⊎ FieldOf ⊥ d b declaring_core g r
    unfolding In
    u_fields g r h t = elim h [
      | inl s ↦ absurd (let n : None ≡ Some r = sym none ∙ ap (λ (z : DeclGroup). z.of_record) s ∙ t in cc)
      | inr i ↦ (elim (f.fields g r i t) [
        | inl n ↦ absurd n.0
        | inr o ↦ inr (record { row = o.row; among = o.among; number = o.number; before = o.before; owner = elim o.owner [ inl n ↦ absurd n.0 | inr z ↦ inr (typed_in o.row.owner g.block z) ] })
      ])
    ]

    pub untyped_holds : Holds ⊥ ⊥ F d b e k high declaring_core
    untyped_holds = record {
      records = λ r h. (let p = f.records r h in (p.0, closed ⊥ k r.owner (omega arith) (elim p.1 [ inl n ↦ absurd n.0 | inr z ↦ inr z ])));
      parts = λ q h. (let p = f.parts q h in (p.0, closed Unit k q.declared_by (omega arith) p.1));
      told = f.told;
      forms = f.forms;
      marks = f.marks;
      fields = u_fields;
    }
