-- The context of each entry: a declared identifier has its declaration group, a field its record and the owner of that record, a name
-- after END its procedure.
use Rattle.std.proofs.Common.{◌≡◌, ℕ, zero, suc, ◌+◌, ◌-◌, ◌<◌, ◌≤◌, ◌⊎◌, inl, inr, Bool, false, List, [], ◌∷◌, map, Option, Some, None, refl, sym, ap, ◌∙◌, subst, arith}
use Rattle.std.specs.Prelude.{Contains}
use Rattle.std.proofs.lemmas.List.Elements.{Contains-append_left, Contains-append_right, Contains-append_cases}
use Rattle.ob_tree.specs.declared.declaration.ImportItem.{ImportItem}
use Rattle.ob_tree.specs.declared.name.Identdef.{Identdef}
use Rattle.ob_tree.specs.declared.name.Qualident.{Qualident}
use Rattle.module_table.specs.declared.rows.Declared.{Declared}
use Rattle.module_table.specs.declared.rows.DeclGroup.{DeclGroup}
use Rattle.module_table.specs.declared.rows.End.{End}
use Rattle.module_table.specs.declared.rows.Import.{Import}
use Rattle.module_table.specs.declared.rows.Record.{Record}
use Rattle.module_table.specs.declared.rows.DeclKind.{DeclKind}
use Rattle.module_table.specs.declared.rows.DeclKind.TheVariants as decl_kinds
use Rattle.module_table.specs.Parts.{Fragment, Rows, joined, no_rows, one_block, one_decl_group, one_end, token, both, with_rows, within, if_present, each, declaring, opens_block, decl_group, declaring_at, in_block}
use Rattle.table_rules.specs.Declaring.{import_inner, import_rows, import_row, module_end, procedure_end}
use Rattle.table_rules.specs.Types.{declared_row, identdef_rows, record_row, in_record}
use Rattle.table_laws.proofs.Bare.{Context}
use Rattle.table_rules.proofs.Quiet.{Quiet, Told, q-both, q-nothing, q-so, q-there, q-token}

-- anything but an import item
unfoldable pub IsNoImport : DeclKind → Type 0
IsNoImport decl_kinds.Import = ⊥
IsNoImport decl_kinds.Constant = Unit {0}
IsNoImport decl_kinds.Type = Unit {0}
IsNoImport decl_kinds.Variable = Unit {0}
IsNoImport decl_kinds.Procedure = Unit {0}
IsNoImport decl_kinds.Parameter = Unit {0}
IsNoImport decl_kinds.Field = Unit {0}

in_none : {X : Type 0} (x : X) → Contains [] x → ⊥
in_none x (k, l, e) = omega (arith, l)

in_one : {X : Type 0} (y x : X) → Contains (y ∷ []) x → y ≡ x
in_one y x (zero, l, e) = e
in_one y x (suc k, l, e) = absurd (omega (arith, l))

at_front : {X : Type 0} (x : X) (xs : List X) → Contains (x ∷ xs) x
at_front x xs = (zero, omega arith, refl)

module _ (R : Rows) where
  -- a token that an import item declares
  pub record IsAlias (k : ℕ) : Type 0 where
    pub item : Import
    pub among : Contains R.imports item
    pub alias : item.alias ≡ k

  -- an identifier has its declaration group, which is an import item only if the identifier is its alias
  pub record HasConstruct (x : Declared) : Type 0 where
    pub by : DeclGroup
    pub among : Contains R.decl_groups by
    pub first : by.first ≡ x.declared_by
    pub before : by.first ≤ x.number
    pub decl_kind : IsNoImport by.decl_kind ⊎ IsAlias x.number

  -- a declaration in this block that is no import item, by its first identifier
  pub record IsOwner (block k : ℕ) : Type 0 where
    pub row : Declared
    pub declared : Contains R.declared row
    pub number : row.number ≡ k
    pub by : DeclGroup
    pub among : Contains R.decl_groups by
    pub first : by.first ≡ row.declared_by
    pub block_is : by.block ≡ block
    pub decl_kind : IsNoImport by.decl_kind

  -- a record before this token, with its owner in this block
  pub record HasRecord (block r k : ℕ) : Type 0 where
    pub row : Record
    pub among : Contains R.records row
    pub number : row.number ≡ r
    pub before : row.owner < k
    pub owner : IsOwner block row.owner

  -- if a declaration group declares fields, the fields have their record
  pub record IsField (by : DeclGroup) (r : ℕ) : Type 0 where
    pub its : HasRecord by.block r by.first
    pub decl_kind : IsNoImport by.decl_kind

  unfoldable pub AreFields : DeclGroup → Type 0
  AreFields by = (r : ℕ) → by.of_record ≡ Some r → IsField by r

  -- a name after END has its procedure
  pub record IsNamed (k : ℕ) : Type 0 where
    pub row : Declared
    pub declared : Contains R.declared row
    pub number : row.number ≡ k
    pub by : DeclGroup
    pub among : Contains R.decl_groups by
    pub first : by.first ≡ row.declared_by
    pub decl_kind : IsNoImport by.decl_kind

  unfoldable pub EndsOne : End → Type 0
  EndsOne e = (n : ℕ) → e.of ≡ Some n → IsNamed n

  pub record Holds (r : Rows) : Type 0 where
    pub declared : (x : Declared) → Contains r.declared x → HasConstruct x
    pub decl_groups : (x : DeclGroup) → Contains r.decl_groups x → AreFields x
    pub ends : (x : End) → Contains r.ends x → EndsOne x

  -- entries of the whole table
  pub record AreIn (r : Rows) : Type 0 where
    pub declared : (x : Declared) → Contains r.declared x → Contains R.declared x
    pub decl_groups : (x : DeclGroup) → Contains r.decl_groups x → Contains R.decl_groups x
    pub records : (x : Record) → Contains r.records x → Contains R.records x
    pub imports : (x : Import) → Contains r.imports x → Contains R.imports x

  in_first : (a b : Rows) → AreIn (joined a b) → AreIn a
  unfolding joined
  in_first a b i = record {
    declared = λ x h. i.declared x (Contains-append_left a.declared b.declared x h);
    decl_groups = λ x h. i.decl_groups x (Contains-append_left a.decl_groups b.decl_groups x h);
    records = λ x h. i.records x (Contains-append_left a.records b.records x h);
    imports = λ x h. i.imports x (Contains-append_left a.imports b.imports x h);
  }

  in_second : (a b : Rows) → AreIn (joined a b) → AreIn b
  unfolding joined
  in_second a b i = record {
    declared = λ x h. i.declared x (Contains-append_right a.declared b.declared x h);
    decl_groups = λ x h. i.decl_groups x (Contains-append_right a.decl_groups b.decl_groups x h);
    records = λ x h. i.records x (Contains-append_right a.records b.records x h);
    imports = λ x h. i.imports x (Contains-append_right a.imports b.imports x h);
  }

  holds_both : (a b : Rows) → Holds a → Holds b → Holds (joined a b)
  unfolding joined
  holds_both a b f g = record {
    declared = λ x h. elim (Contains-append_cases a.declared b.declared x h) [ inl l ↦ f.declared x l | inr r ↦ g.declared x r ];
    decl_groups = λ x h. elim (Contains-append_cases a.decl_groups b.decl_groups x h) [ inl l ↦ f.decl_groups x l | inr r ↦ g.decl_groups x r ];
    ends = λ x h. elim (Contains-append_cases a.ends b.ends x h) [ inl l ↦ f.ends x l | inr r ↦ g.ends x r ];
  }

  pub holds_none : (r : Rows) → r.declared ≡ [] → r.decl_groups ≡ [] → r.ends ≡ [] → Holds r
  holds_none r a b c = record {
    declared = λ x h. absurd (in_none x (subst (λ (xs : List Declared). Contains xs x) a h));
    decl_groups = λ x h. absurd (in_none x (subst (λ (xs : List DeclGroup). Contains xs x) b h));
    ends = λ x h. absurd (in_none x (subst (λ (xs : List End). Contains xs x) c h));
  }

  -- ---- what is known about the context of a fragment

  pub Free : Context → ℕ → Type 0
  Free c k = Unit {0}

  pub free : (c : Context) (k : ℕ) → Free c k
  unfolding Free
  free c k = tt

  -- the declaration group around the fragment
  pub record Named (c : Context) (k : ℕ) : Type 0 where
    pub by : DeclGroup
    pub among : Contains R.decl_groups by
    pub first : by.first ≡ c.decl_group
    pub before : c.decl_group ≤ k
    pub decl_kind : IsNoImport by.decl_kind

  -- the declaration group around the fragment, if it begins here and is in this block
  pub record Begun (c : Context) (k : ℕ) : Type 0 where
    pub by : DeclGroup
    pub among : Contains R.decl_groups by
    pub first : by.first ≡ c.decl_group
    pub here : c.decl_group ≡ k
    pub block : by.block ≡ c.block
    pub decl_kind : IsNoImport by.decl_kind

  -- the declaration around a type
  pub record Typed (c : Context) (k : ℕ) : Type 0 where
    pub owner : IsOwner c.block c.decl_group
    pub owned : (owner.row).declared_by ≡ c.decl_group
    pub before : c.decl_group < k

  -- the record around fields
  pub Recorded : Context → ℕ → Type 0
  Recorded c k = HasRecord c.block c.of_record k

  -- the procedure around its end
  pub Ended : Context → ℕ → Type 0
  Ended c k = IsNamed (c.decl_group + 1)

  abbrev pub Later : (Context → ℕ → Type 0) → Type 0
  Later Pre = (c : Context) (k n : ℕ) → Pre c k → Pre c (k + n)

  pub free_later : Later Free
  unfolding Free
  free_later c k n p = tt

  pub named_later : Later Named
  named_later c k n p = record { by = p.by; among = p.among; first = p.first; before = (let b = p.before in omega (arith, b)); decl_kind = p.decl_kind }

  pub typed_later : Later Typed
  typed_later c k n p = record { owner = p.owner; owned = p.owned; before = (let b = p.before in omega (arith, b)) }

  pub recorded_later : Later Recorded
  unfolding Recorded
  recorded_later c k n p = record { row = p.row; among = p.among; number = p.number; before = (let b = p.before in omega (arith, b)); owner = p.owner }

  pub ended_later : Later Ended
  unfolding Ended
  ended_later c k n p = p

  -- ---- fragments

  pub record Good (Pre : Context → ℕ → Type 0) (p : Fragment) : Type 0 where
    pub holds : (c : Context) (k : ℕ) → Pre c k → AreIn (p.rows c k) → Holds (p.rows c k)

  pub g-is : {Pre : Context → ℕ → Type 0} {p q : Fragment} → p ≡ q → Good Pre q → Good Pre p
  g-is {Pre} e g = subst (Good Pre) (sym e) g

  quiet_holds : {p : Fragment} → Quiet p → (c : Context) (k : ℕ) → Holds (p.rows c k)
  quiet_holds {p} f c k = holds_none (p.rows c k) (ap (λ (t : Told). t.declared) (f.none c k)) (ap (λ (t : Told). t.decl_groups) (f.none c k)) (ap (λ (t : Told). t.ends) (f.none c k))

  pub g-quiet : {Pre : Context → ℕ → Type 0} {p : Fragment} → Quiet p → Good Pre p
  g-quiet f = record { holds = λ c k s i. quiet_holds f c k }

  pub g-weak : {Pre Other : Context → ℕ → Type 0} {p : Fragment} → ((c : Context) (k : ℕ) → Pre c k → Other c k) → Good Other p → Good Pre p
  g-weak f g = record { holds = λ c k s i. g.holds c k (f c k s) i }

  pub g-free : {Pre : Context → ℕ → Type 0} {p : Fragment} → Good Free p → Good Pre p
  unfolding Free
  g-free g = record { holds = λ c k s i. g.holds c k tt i }

  pub g-both : {Pre : Context → ℕ → Type 0} {p q : Fragment} → Later Pre → Good Pre p → Good Pre q → Good Pre (both p q)
  unfolding both
  g-both {Pre} {p} {q} later f g = record {
    holds = λ c k s i. holds_both (p.rows c k) (q.rows c (k + p.width))
        (f.holds c k s (in_first (p.rows c k) (q.rows c (k + p.width)) i))
        (g.holds c (k + p.width) (later c k p.width s) (in_second (p.rows c k) (q.rows c (k + p.width)) i));
  }

  pub g-with_rows : {Pre : Context → ℕ → Type 0} (own : Context → ℕ → Rows) {p : Fragment} → ((c : Context) (k : ℕ) → Pre c k → Holds (own c k)) → Good Pre p → Good Pre (with_rows own p)
  unfolding with_rows
  g-with_rows own {p} h f = record {
    holds = λ c k s i. holds_both (own c k) (p.rows c k) (h c k s) (f.holds c k s (in_second (own c k) (p.rows c k) i));
  }

  -- entries that contribute nothing to the declared identifiers
  pub g-silent : {Pre : Context → ℕ → Type 0} (own : Context → ℕ → Rows) {p : Fragment} → ((c : Context) (k : ℕ) → ((own c k).declared ≡ []) × ((own c k).decl_groups ≡ []) × ((own c k).ends ≡ []))
      → Good Pre p → Good Pre (with_rows own p)
  g-silent own n f = g-with_rows own (λ c k s. let e = n c k in holds_none (own c k) e.0 e.1 e.2) f

  pub g-within : {Pre Other : Context → ℕ → Type 0} (around : Context → ℕ → Context) {p : Fragment} → ((c : Context) (k : ℕ) → Pre c k → Other (around c k) k) → Good Other p → Good Pre (within around p)
  unfolding within
  g-within around f g = record { holds = λ c k s i. g.holds (around c k) k (f c k s) i }

  pub g-there : {Pre : Context → ℕ → Type 0} {X : Type 0} (f : X → Fragment) (o : Option X) → ((x : X) → Good Pre (f x)) → Good Pre (if_present f o)
  g-there f None w = g-quiet q-nothing
  g-there f (Some x) w = w x

  pub g-each : {Pre : Context → ℕ → Type 0} {X : Type 0} (f : X → Fragment) (xs : List X) → Later Pre → ((x : X) → Good Pre (f x)) → Good Pre (each f xs)
  g-each f [] later w = g-quiet q-nothing
  g-each f (x ∷ xs) later w = g-both later (w x) (g-each f xs later w)

  pub g-map : {Pre : Context → ℕ → Type 0} {X Y : Type 0} (f : Y → Fragment) (h : X → Y) (xs : List X) → Later Pre → ((x : X) → Good Pre (f (h x))) → Good Pre (each f (map h xs))
  g-map f h [] later w = g-quiet q-nothing
  g-map f h (x ∷ xs) later w = g-both later (w x) (g-map f h xs later w)

  -- ---- declared identifiers

  holds_name : (is_exported : Bool) (c : Context) (k : ℕ) → Named c k → Holds (declared_row is_exported c k)
  holds_name is_exported c k s = record {
    declared = λ x h.
        let is : record { number = k; exported = is_exported; declared_by = c.decl_group } ≡ x = in_one _ x h in
        subst HasConstruct is (record { by = s.by; among = s.among; first = s.first; before = (let f = s.first in let b = s.before in omega (arith, f, b)); decl_kind = inl s.decl_kind });
    decl_groups = λ x h. absurd (in_none x h);
    ends = λ x h. absurd (in_none x h);
  }

  pub g-name : (is_exported : Bool) {p : Fragment} → Quiet p → Good Named (with_rows (declared_row is_exported) p)
  g-name is_exported q = g-with_rows _ (λ c k s. holds_name is_exported c k s) (g-quiet q)

  pub g-identdef : (i : Identdef) → Good Named (identdef_rows i)
  unfolding identdef_rows
  g-identdef i = g-name i.is_exported (q-both q-token (q-so i.is_exported q-token))

  -- an identifier that is declared here is in the whole table
  name_in : (i : Identdef) (c : Context) (k : ℕ) → AreIn ((identdef_rows i).rows c k) → Contains R.declared (record { number = k; exported = i.is_exported; declared_by = c.decl_group })
  unfolding identdef_rows with_rows joined
  name_in i c k h = h.declared _ (at_front _ _)

  begun_named : (c : Context) (k : ℕ) → Begun c k → Named c k
  begun_named c k s = record { by = s.by; among = s.among; first = s.first; before = (let h = s.here in omega (arith, h)); decl_kind = s.decl_kind }

  pub typed_named : (c : Context) (k : ℕ) → Typed c k → Named c k
  typed_named c k s = record {
    by = s.owner.by;
    among = s.owner.among;
    first = s.owner.first ∙ s.owned;
    before = (let b = s.before in omega (arith, b));
    decl_kind = s.owner.decl_kind;
  }

  begun_typed : (i : Identdef) (c : Context) (k n : ℕ) → 0 < n → Begun c k → AreIn ((identdef_rows i).rows c k) → Typed c (k + n)
  begun_typed i c k n some s h = record {
    owner = record { row = _; declared = name_in i c k h; number = sym s.here; by = s.by; among = s.among; first = s.first; block_is = s.block; decl_kind = s.decl_kind };
    owned = refl;
    before = (let e = s.here in omega (arith, e, some));
  }

  -- a first identifier, and the inside of its declaration
  pub g-owner : (i : Identdef) {q : Fragment} → 0 < (identdef_rows i).width → Good Typed q → Good Begun (both (identdef_rows i) q)
  unfolding both
  g-owner i {q} some g = record {
    holds = λ c k s h.
        let first : AreIn ((identdef_rows i).rows c k) = in_first ((identdef_rows i).rows c k) (q.rows c (k + (identdef_rows i).width)) h in
        holds_both ((identdef_rows i).rows c k) (q.rows c (k + (identdef_rows i).width))
        ((g-identdef i).holds c k (begun_named c k s) first)
        (g.holds c (k + (identdef_rows i).width) (begun_typed i c k (identdef_rows i).width some s first) (in_second ((identdef_rows i).rows c k) (q.rows c (k + (identdef_rows i).width)) h));
  }

  holds_construct : (by : DeclGroup) → AreFields by → Holds (one_decl_group by)
  holds_construct by f = record {
    declared = λ x h. absurd (in_none x h);
    decl_groups = λ x h. subst AreFields (in_one by x h) f;
    ends = λ x h. absurd (in_none x h);
  }

  pub g-declaring : {Pre : Context → ℕ → Type 0} (decl_kind : DeclKind) {p : Fragment} → IsNoImport decl_kind → ((c : Context) (k last : ℕ) → Pre c k → AreFields (decl_group decl_kind c k last)) → Good Begun p → Good Pre (declaring decl_kind p)
  unfolding declaring
  g-declaring decl_kind {p} other f g = record {
    holds = λ c k s h.
        let row : DeclGroup = decl_group decl_kind c k (k + p.width - 1) in
        let own : AreIn (one_decl_group row) = in_first (one_decl_group row) (p.rows (declaring_at c k) k) h in
        holds_both (one_decl_group row) (p.rows (declaring_at c k) k)
        (holds_construct row (f c k (k + p.width - 1) s))
        (g.holds (declaring_at c k) k (record { by = row; among = own.decl_groups row (at_front row []); first = refl; here = refl; block = refl; decl_kind = other }) (in_second (one_decl_group row) (p.rows (declaring_at c k) k) h));
  }

  -- fragments outside of records
  no_fields : (by : DeclGroup) → by.of_record ≡ None → AreFields by
  unfolding AreFields
  no_fields by none r e = absurd (let f : None ≡ Some r = sym none ∙ e in cc)

  pub g-constant : {p : Fragment} → Good Begun p → Good Free (declaring decl_kinds.Constant p)
  unfolding IsNoImport
  g-constant g = g-declaring decl_kinds.Constant tt (λ c k last s. no_fields _ refl) g

  pub g-type : {p : Fragment} → Good Begun p → Good Free (declaring decl_kinds.Type p)
  unfolding IsNoImport
  g-type g = g-declaring decl_kinds.Type tt (λ c k last s. no_fields _ refl) g

  pub g-variable : {p : Fragment} → Good Begun p → Good Free (declaring decl_kinds.Variable p)
  unfolding IsNoImport
  g-variable g = g-declaring decl_kinds.Variable tt (λ c k last s. no_fields _ refl) g

  pub g-parameter : {p : Fragment} → Good Named p → Good Free (declaring decl_kinds.Parameter p)
  unfolding IsNoImport
  g-parameter g = g-declaring decl_kinds.Parameter tt (λ c k last s. no_fields _ refl) (g-weak begun_named g)

  its_field : (c : Context) (k last : ℕ) → Recorded c k → AreFields (decl_group decl_kinds.Field c k last)
  unfolding AreFields IsNoImport Recorded
  its_field c k last s r e =
      let is : c.of_record ≡ r = (let f : Some c.of_record ≡ Some r = e in cc) in
      record { its = subst (λ (n : ℕ). HasRecord c.block n k) is s; decl_kind = tt }

  pub g-field : {p : Fragment} → Good Begun p → Good Recorded (declaring decl_kinds.Field p)
  unfolding IsNoImport
  g-field g = g-declaring decl_kinds.Field tt its_field g

  -- a record, and its inside
  pub g-record : (base : Option Qualident) {p : Fragment} → Good Recorded p → Good Typed (with_rows (record_row base) (within in_record p))
  unfolding with_rows within Recorded
  g-record base {p} g = record {
    holds = λ c k s h.
        let own : AreIn (record_row base c k) = in_first (record_row base c k) (p.rows (in_record c k) k) h in
        holds_both (record_row base c k) (p.rows (in_record c k) k)
        (holds_none (record_row base c k) refl refl refl)
        (g.holds (in_record c k) k (record { row = _; among = own.records _ (at_front _ []); number = refl; before = s.before; owner = s.owner }) (in_second (record_row base c k) (p.rows (in_record c k) k) h));
  }

  -- the name of a procedure, and what follows it
  procedure_named : (i : Identdef) (c : Context) (k : ℕ) → Begun c k → AreIn ((identdef_rows i).rows (in_block c k) (k + 1)) → IsNamed (c.decl_group + 1)
  procedure_named i c k s h = record {
    row = _;
    declared = name_in i (in_block c k) (k + 1) h;
    number = ap (λ (n : ℕ). n + 1) (sym s.here);
    by = s.by;
    among = s.among;
    first = s.first;
    decl_kind = s.decl_kind;
  }

  none_hold : Holds no_rows
  unfolding no_rows
  none_hold = holds_none no_rows refl refl refl

  begun_named_in : (c : Context) (k : ℕ) → Begun c k → Named (in_block c k) k
  begun_named_in c k s = record { by = s.by; among = s.among; first = s.first; before = (let h = s.here in omega (arith, h)); decl_kind = s.decl_kind }

  heading : (j : Identdef) {p : Fragment} → Good Ended p → Good Begun (opens_block (both token (both (identdef_rows j) p)))
  unfolding both token with_rows within joined no_rows Ended
  heading j {p} f = record {
    holds = λ c k s h.
        let d : Context = in_block c k in
        let inner : AreIn (joined no_rows (joined ((identdef_rows j).rows d (k + 1)) (p.rows d (k + 1 + (identdef_rows j).width)))) =
        in_second (one_block (record { first = k; outer = c.block })) (joined no_rows (joined ((identdef_rows j).rows d (k + 1)) (p.rows d (k + 1 + (identdef_rows j).width)))) h in
        let rest : AreIn (joined ((identdef_rows j).rows d (k + 1)) (p.rows d (k + 1 + (identdef_rows j).width))) = in_second no_rows _ inner in
        let name : AreIn ((identdef_rows j).rows d (k + 1)) = in_first ((identdef_rows j).rows d (k + 1)) (p.rows d (k + 1 + (identdef_rows j).width)) rest in
        holds_both (one_block (record { first = k; outer = c.block })) _ (holds_none _ refl refl refl)
        (holds_both no_rows _ (none_hold)
        (holds_both ((identdef_rows j).rows d (k + 1)) (p.rows d (k + 1 + (identdef_rows j).width))
        ((g-identdef j).holds d (k + 1) (named_later d k 1 (begun_named_in c k s)) name)
        (f.holds d (k + 1 + (identdef_rows j).width) (procedure_named j c k s name) (in_second ((identdef_rows j).rows d (k + 1)) (p.rows d (k + 1 + (identdef_rows j).width)) rest))));
  }

  pub g-procedure : (i : Identdef) {q : Fragment} → Good Ended q → Good Free (declaring decl_kinds.Procedure (opens_block (both token (both (identdef_rows i) q))))
  unfolding IsNoImport
  g-procedure i {q} g = g-declaring decl_kinds.Procedure tt (λ c k last s. no_fields _ refl) (heading i g)

  holds_alias : (by : DeclGroup) (c : Context) (k : ℕ) → Contains R.decl_groups by → by.first ≡ k → IsAlias k → Holds (declared_row false (declaring_at c k) k)
  holds_alias by c k among first alias = record {
    declared = λ x h.
        let is : record { number = k; exported = false; declared_by = k } ≡ x = in_one _ x h in
        subst HasConstruct is (record { by = by; among = among; first = first; before = omega (arith, first); decl_kind = inr alias });
    decl_groups = λ x h. absurd (in_none x h);
    ends = λ x h. absurd (in_none x h);
  }

  holds_rest : (i : ImportItem) (c : Context) (k : ℕ) → Holds ((both token (if_present (λ m. both token token) i.of)).rows c k)
  holds_rest i c k =
      let q : Quiet (both token (if_present (λ m. both token token) i.of)) = q-both q-token (q-there (λ m. both token token) i.of (λ m. q-both q-token q-token)) in
      quiet_holds q c k

  -- an import item, whose identifier is its alias
  pub g-import : (i : ImportItem) → Good Free (import_rows i)
  unfolding import_rows import_inner declaring with_rows joined
  g-import i = record {
    holds = λ c k s h.
        let rest : Fragment = both token (if_present (λ m. both token token) i.of) in
        let row : DeclGroup = decl_group decl_kinds.Import c k (k + rest.width - 1) in
        let d : Context = declaring_at c k in
        let behind : AreIn (joined (import_row i d k) (joined (declared_row false d k) (rest.rows d k))) = in_second (one_decl_group row) (joined (import_row i d k) (joined (declared_row false d k) (rest.rows d k))) h in
        let own : AreIn (one_decl_group row) = in_first (one_decl_group row) (joined (import_row i d k) (joined (declared_row false d k) (rest.rows d k))) h in
        let item : AreIn (import_row i d k) = in_first (import_row i d k) (joined (declared_row false d k) (rest.rows d k)) behind in
        holds_both (one_decl_group row) (joined (import_row i d k) (joined (declared_row false d k) (rest.rows d k)))
        (holds_construct row (no_fields row refl))
        (holds_both (import_row i d k) (joined (declared_row false d k) (rest.rows d k)) (holds_none _ refl refl refl)
        (holds_both (declared_row false d k) (rest.rows d k) (holds_alias row c k (own.decl_groups row (at_front row [])) refl (record { item = _; among = item.imports _ (at_front _ []); alias = refl }))
        (holds_rest i d k)));
  }

  -- the name after the END of a procedure, and the name after the END of the module
  holds_end : (e : End) → EndsOne e → Holds (one_end e)
  holds_end e f = record {
    declared = λ x h. absurd (in_none x h);
    decl_groups = λ x h. absurd (in_none x h);
    ends = λ x h. subst EndsOne (in_one e x h) f;
  }

  ends_one : (c : Context) (k : ℕ) → IsNamed (c.decl_group + 1) → EndsOne (record { number = k; of = Some (c.decl_group + 1) })
  unfolding EndsOne
  ends_one c k s n e = let is : c.decl_group + 1 ≡ n = (let f : Some (c.decl_group + 1) ≡ Some n = e in cc) in subst IsNamed is s

  ends_module : (k : ℕ) → EndsOne (record { number = k; of = None })
  unfolding EndsOne
  ends_module k n e = absurd (let f : None ≡ Some n = e in cc)

  pub g-ends : Good Ended (with_rows procedure_end token)
  unfolding Ended
  g-ends = g-with_rows procedure_end (λ c k s. holds_end _ (ends_one c k s)) (g-quiet q-token)

  pub g-finishes : Good Free (with_rows module_end token)
  g-finishes = g-with_rows module_end (λ c k s. holds_end _ (ends_module k)) (g-quiet q-token)
