-- Fragments of a tree in whose blocks the names are contiguous.
use Rattle.std.proofs.Common.{◌≡◌, ℕ, zero, suc, ◌+◌, ◌-◌, ◌<◌, ◌≤◌, ◌⊎◌, inl, inr, Bool, true, false, List, [], ◌∷◌, ◌++◌, map, Option, Some, None, refl, sym, ap, ◌∙◌, subst, arith}
use Rattle.std.specs.Prelude.{Contains}
use Rattle.std.proofs.lemmas.List.Elements.{Contains-append_cases, Contains-append_left, Contains-append_right}
use Rattle.module_table.specs.declared.builder.Context.{Context}
use Rattle.module_table.specs.declared.rows.Block.{Block}
use Rattle.module_table.specs.declared.rows.Declared.{Declared}
use Rattle.module_table.specs.declared.rows.DeclGroup.{DeclGroup}
use Rattle.module_table.specs.declared.rows.DeclKind.{DeclKind}
use Rattle.module_table.specs.declared.rows.Used.{Used}
use Rattle.module_table.specs.Blocks.{IsDirectlyIn, OccursIn}
use Rattle.module_table.specs.Blocks as stands
use Rattle.module_table.specs.Order.{IsIncreasingBy}
use Rattle.module_table.specs.Parts.{Fragment, Rows, no_rows, joined, nothing, token, both, with_rows, within, if_present, if_true, each, declaring, declaring_at, decl_group, one_decl_group, one_block, opens_block, in_block}
use Rattle.table_rules.specs.Types.{declared_row}
use Rattle.table_rules.proofs.Nested.{AreAmong, Nest, Whole, nest_block, nest_both, nest_named, nest_own, whole_both}
use Rattle.table_rules.proofs.Quiet.{Quiet, Told, UsedIn}

pub empty : {X P : Type 0} (xs : List X) (x : X) → xs ≡ [] → Contains xs x → P
empty xs x e h = let (i, l, f) = subst (λ (ys : List _). Contains ys x) e h in absurd (omega arith)

pub single : {X : Type 0} (y x : X) → Contains (y ∷ []) x → y ≡ x
single y x (zero, l, e) = e
single y x (suc i, l, e) = absurd (omega arith)

-- the same names, in other entries
pub stands_from : (r s : Rows) → ((u : Used) → Contains r.uses u → Contains s.uses u) → ((d : Declared) → Contains r.declared d → Contains s.declared d) → ((by : DeclGroup) → Contains r.decl_groups by → Contains s.decl_groups by)
    → (n c : ℕ) → OccursIn r n c → OccursIn s n c
stands_from r s f g h n c (stands.used u x e i) = stands.used u (f u x) e i
stands_from r s f g h n c (stands.declared d by x y j o e i) = stands.declared d by (g d x) (h by y) j o e i

nest_as : (B : List Block) (E G : ℕ → ℕ → Type 0) (outer low high : ℕ) → ((n c : ℕ) → G n c → E n c) → Nest B E outer low high → Nest B G outer low high
nest_as B E G outer low high f e = record {
  context = λ n c g. e.context n c (f n c g);
  behind = λ n b c g a. e.behind n b c (f n c g) a;
  between = λ n m b c d g h lo lt le a. e.between n m b c d (f n c g) (f m d h) lo lt le a;
}

-- ---- fragments that only look names up, in the block around them

pub record Plain (p : Fragment) : Type 0 where
  pub declared : (c : Context) (k : ℕ) → (p.rows c k).declared ≡ []
  pub decl_groups : (c : Context) (k : ℕ) → (p.rows c k).decl_groups ≡ []
  pub context : (c : Context) (k : ℕ) (u : Used) → Contains (p.rows c k).uses u → UsedIn c.block k (k + p.width) u

pub p-quiet : {p : Fragment} → Quiet p → Plain p
p-quiet f = record { declared = λ c k. ap (λ (t : Told). t.declared) (f.none c k); decl_groups = λ c k. ap (λ (t : Told). t.decl_groups) (f.none c k); context = f.context }

-- a first token that is looked up, or isn't a name
pub p-first : (own : Context → ℕ → Rows) {p : Fragment} → ((c : Context) (k : ℕ) → (own c k).declared ≡ []) → ((c : Context) (k : ℕ) → (own c k).decl_groups ≡ []) →
    ((c : Context) (k : ℕ) (u : Used) → Contains (own c k).uses u → (u.block ≡ c.block) × (u.number ≡ k)) → 0 < p.width → Plain p → Plain (with_rows own p)
unfolding with_rows joined
p-first own {p} d b u some f = record {
  declared = λ c k. subst (λ (xs : List Declared). xs ++ (p.rows c k).declared ≡ []) (sym (d c k)) (f.declared c k);
  decl_groups = λ c k. subst (λ (xs : List DeclGroup). xs ++ (p.rows c k).decl_groups ≡ []) (sym (b c k)) (f.decl_groups c k);
  context = λ c k x h. elim (Contains-append_cases (own c k).uses (p.rows c k).uses x h) [
    | inl l ↦ (let i = u c k x l in let e : x.number ≡ k = i.1 in (i.0, omega arith, omega arith))
    | inr r ↦ f.context c k x r
  ];
}

-- ---- names that the declaration around them declares

pub record Names (p : Fragment) : Type 0 where
  pub uses : (c : Context) (k : ℕ) → (p.rows c k).uses ≡ []
  pub decl_groups : (c : Context) (k : ℕ) → (p.rows c k).decl_groups ≡ []
  pub own : (c : Context) (k : ℕ) (d : Declared) → Contains (p.rows c k).declared d → (d.declared_by ≡ c.decl_group) × (k ≤ d.number) × (d.number < k + p.width)

pub n-nothing : Names nothing
unfolding nothing no_rows
n-nothing = record { uses = λ c k. refl; decl_groups = λ c k. refl; own = λ c k d h. empty [] d refl h }

pub n-token : Names token
unfolding token no_rows
n-token = record { uses = λ c k. refl; decl_groups = λ c k. refl; own = λ c k d h. empty [] d refl h }

pub n-both : {p q : Fragment} → Names p → Names q → Names (both p q)
unfolding both joined
n-both {p} {q} f g = record {
  uses = λ c k. subst (λ (xs : List Used). xs ++ (q.rows c (k + p.width)).uses ≡ []) (sym (f.uses c k)) (g.uses c (k + p.width));
  decl_groups = λ c k. subst (λ (xs : List DeclGroup). xs ++ (q.rows c (k + p.width)).decl_groups ≡ []) (sym (f.decl_groups c k)) (g.decl_groups c (k + p.width));
  own = λ c k d h. elim (Contains-append_cases (p.rows c k).declared (q.rows c (k + p.width)).declared d h) [
    | inl l ↦ (let i = f.own c k d l in let v : d.number < k + p.width = i.2 in (i.0, i.1, omega arith))
    | inr r ↦ (let i = g.own c (k + p.width) d r in let v : k + p.width ≤ d.number = i.1 in let w : d.number < k + p.width + q.width = i.2 in (i.0, omega arith, omega arith))
  ];
}

pub n-with_rows : (own : Context → ℕ → Rows) {p : Fragment} → ((c : Context) (k : ℕ) → (own c k).uses ≡ []) → ((c : Context) (k : ℕ) → (own c k).decl_groups ≡ []) → ((c : Context) (k : ℕ) → (own c k).declared ≡ []) → Names p → Names (with_rows own p)
unfolding with_rows joined
n-with_rows own {p} u b d f = record {
  uses = λ c k. subst (λ (xs : List Used). xs ++ (p.rows c k).uses ≡ []) (sym (u c k)) (f.uses c k);
  decl_groups = λ c k. subst (λ (xs : List DeclGroup). xs ++ (p.rows c k).decl_groups ≡ []) (sym (b c k)) (f.decl_groups c k);
  own = λ c k x h. f.own c k x (subst (λ (xs : List Declared). Contains (xs ++ (p.rows c k).declared) x) (d c k) h);
}

-- an identifier, and what follows it
pub n-declares : (is_exported : Bool) {p : Fragment} → Names p → Names (with_rows (declared_row is_exported) (both token p))
unfolding with_rows both token joined no_rows
n-declares is_exported {p} f = record {
  uses = λ c k. f.uses c (k + 1);
  decl_groups = λ c k. f.decl_groups c (k + 1);
  own = λ c k x h. elim (Contains-append_cases (declared_row is_exported c k).declared (p.rows c (k + 1)).declared x h) [
    | inl l ↦ (let e = single (record { number = k; exported = is_exported; declared_by = c.decl_group }) x l in let n : k ≡ x.number = ap (λ (y : Declared). y.number) e in (sym (ap (λ (y : Declared). y.declared_by) e), omega arith, omega arith))
    | inr r ↦ (let i = f.own c (k + 1) x r in let v : k + 1 ≤ x.number = i.1 in let w : x.number < k + 1 + p.width = i.2 in (i.0, omega arith, omega arith))
  ];
}

pub n-declared : (is_exported : Bool) → Names (with_rows (declared_row is_exported) token)
unfolding with_rows token joined no_rows
n-declared is_exported = record {
  uses = λ c k. refl;
  decl_groups = λ c k. refl;
  own = λ c k x h. (let e = single (record { number = k; exported = is_exported; declared_by = c.decl_group }) x h in let n : k ≡ x.number = ap (λ (y : Declared). y.number) e in (sym (ap (λ (y : Declared). y.declared_by) e), omega arith, omega arith));
}

pub n-so : (b : Bool) {p : Fragment} → Names p → Names (if_true b p)
n-so true w = w
n-so false w = n-nothing

pub n-there : {X : Type 0} (f : X → Fragment) (o : Option X) → ((x : X) → Names (f x)) → Names (if_present f o)
n-there f None w = n-nothing
n-there f (Some x) w = w x

pub n-each : {X : Type 0} (f : X → Fragment) (xs : List X) → ((x : X) → Names (f x)) → Names (each f xs)
n-each f [] w = n-nothing
n-each f (x ∷ xs) w = n-both (w x) (n-each f xs w)

-- ---- fragments whose names are in blocks

pub record Stands (B : List Block) (p : Fragment) : Type 0 where
  pub whole : (c : Context) (k : ℕ) → c.block < k → AreAmong B (p.rows c k) → Whole B c.block k (k + p.width) (p.rows c k)

-- the names come after those of the declaration around the fragment
pub record Opens (B : List Block) (gap : ℕ) (p : Fragment) : Type 0 where
  pub decl_groups : (c : Context) (k : ℕ) → c.decl_group + gap ≤ k → c.block < c.decl_group → AreAmong B (p.rows c k) → (x : DeclGroup) → Contains (p.rows c k).decl_groups x → (k ≤ x.first) × (x.first < k + p.width)
  pub declared : (c : Context) (k : ℕ) → c.decl_group + gap ≤ k → c.block < c.decl_group → AreAmong B (p.rows c k) → (d : Declared) → Contains (p.rows c k).declared d → (d.declared_by ≡ c.decl_group) ⊎ ((k ≤ d.declared_by) × (d.declared_by < k + p.width))
  pub nest : (c : Context) (k : ℕ) (by : DeclGroup) → by.first ≡ c.decl_group → by.block ≡ c.block → c.decl_group + gap ≤ k → c.block < c.decl_group → AreAmong B (p.rows c k) → Nest B (OccursIn (joined (one_decl_group by) (p.rows c k))) c.block k (k + p.width)

-- the names come after the first token of the fragment
pub record Late (B : List Block) (p : Fragment) : Type 0 where
  pub whole : Stands B p
  pub late : (c : Context) (k : ℕ) → c.block < k → AreAmong B (p.rows c k) → (n b : ℕ) → OccursIn (p.rows c k) n b → k < n

module _ (B : List Block) where
  among_left : (a b : Rows) → AreAmong B (joined a b) → AreAmong B a
  unfolding joined
  among_left a b h x m = h x (Contains-append_left a.blocks b.blocks x m)

  among_right : (a b : Rows) → AreAmong B (joined a b) → AreAmong B b
  unfolding joined
  among_right a b h x m = h x (Contains-append_right a.blocks b.blocks x m)

  pub s-plain : {p : Fragment} → Plain p → Stands B p
  s-plain {p} f = record {
    whole = λ c k l s. record {
      decl_groups = λ x h. empty (p.rows c k).decl_groups x (f.decl_groups c k) h;
      declared = λ d h. empty (p.rows c k).declared d (f.declared c k) h;
      nest = nest_own B (OccursIn (p.rows c k)) c.block k (k + p.width) (names c k);
    };
  }
    where
      names : (c : Context) (k n b : ℕ) → OccursIn (p.rows c k) n b → (k ≤ n) × (n < k + p.width) × (b ≡ c.block)
      names c k n b (stands.used u h e i) = let x = f.context c k u h in let lo : k ≤ u.number = x.1 in let hi : u.number < k + p.width = x.2 in (omega arith, omega arith, sym i ∙ x.0)
      names c k n b (stands.declared d by h j s o e i) = empty (p.rows c k).declared d (f.declared c k) h

  pub s-both : {p q : Fragment} → Stands B p → Stands B q → Stands B (both p q)
  unfolding both
  s-both {p} {q} f g = record {
    whole = λ c k l s.
        subst (λ (high : ℕ). Whole B c.block k high (joined (p.rows c k) (q.rows c (k + p.width)))) (omega arith)
        (whole_both B c.block k (k + p.width) (k + p.width + q.width) (p.rows c k) (q.rows c (k + p.width)) (omega arith) (omega arith)
        (f.whole c k l (among_left (p.rows c k) (q.rows c (k + p.width)) s))
        (g.whole c (k + p.width) (omega arith) (among_right (p.rows c k) (q.rows c (k + p.width)) s)));
  }

  pub s-within : (around : Context → ℕ → Context) {p : Fragment} → ((c : Context) (k : ℕ) → (around c k).block ≡ c.block) → Stands B p → Stands B (within around p)
  unfolding within
  s-within around {p} same f = record {
    whole = λ c k l s.
        subst (λ (b : ℕ). Whole B b k (k + p.width) (p.rows (around c k) k)) (same c k)
        (f.whole (around c k) k (let e = same c k in omega arith) s);
  }

  -- a fragment preceded by entries that name nothing
  pub s-with_rows : (own : Context → ℕ → Rows) {p : Fragment} → ((c : Context) (k : ℕ) → (own c k).uses ≡ []) → ((c : Context) (k : ℕ) → (own c k).declared ≡ []) → ((c : Context) (k : ℕ) → (own c k).decl_groups ≡ []) → Stands B p → Stands B (with_rows own p)
  unfolding with_rows joined
  s-with_rows own {p} u d b f = record {
    whole = λ c k l s. (
        let w = f.whole c k l (among_right (own c k) (p.rows c k) s) in
        record {
          decl_groups = λ x h. w.decl_groups x (subst (λ (xs : List DeclGroup). Contains (xs ++ (p.rows c k).decl_groups) x) (b c k) h);
          declared = λ x h. w.declared x (subst (λ (xs : List Declared). Contains (xs ++ (p.rows c k).declared) x) (d c k) h);
          nest = nest_as B (OccursIn (p.rows c k)) (OccursIn (joined (own c k) (p.rows c k))) c.block k (k + p.width)
              (stands_from (joined (own c k) (p.rows c k)) (p.rows c k)
              (λ x h. subst (λ (xs : List Used). Contains (xs ++ (p.rows c k).uses) x) (u c k) h)
              (λ x h. subst (λ (xs : List Declared). Contains (xs ++ (p.rows c k).declared) x) (d c k) h)
              (λ x h. subst (λ (xs : List DeclGroup). Contains (xs ++ (p.rows c k).decl_groups) x) (b c k) h)) w.nest;
        });
  }

  pub s-there : {X : Type 0} (f : X → Fragment) (o : Option X) → ((x : X) → Stands B (f x)) → Stands B nothing → Stands B (if_present f o)
  s-there f None w z = z
  s-there f (Some x) w z = w x

  pub s-each : {X : Type 0} (f : X → Fragment) (xs : List X) → ((x : X) → Stands B (f x)) → Stands B nothing → Stands B (each f xs)
  s-each f [] w z = z
  s-each f (x ∷ xs) w z = s-both (w x) (s-each f xs w z)

  pub s-map : {X Y : Type 0} (f : Y → Fragment) (h : X → Y) (xs : List X) → ((x : X) → Stands B (f (h x))) → Stands B nothing → Stands B (each f (map h xs))
  s-map f h [] w z = z
  s-map f h (x ∷ xs) w z = s-both (w x) (s-map f h xs w z)

  pub s-is : {p q : Fragment} → p ≡ q → Stands B q → Stands B p
  s-is e m = subst (Stands B) (sym e) m

  -- ---- a fragment after the names of a declaration

  pub o-stands : {p : Fragment} → Stands B p → Opens B 1 p
  unfolding joined
  o-stands {p} f = record {
    decl_groups = λ c k g l s x h. (f.whole c k (omega arith) s).decl_groups x h;
    declared = λ c k g l s d h. inr ((f.whole c k (omega arith) s).declared d h);
    nest = λ c k by e i g l s. (
        let w = f.whole c k (omega arith) s in
        nest_as B (OccursIn (p.rows c k)) (OccursIn (joined (one_decl_group by) (p.rows c k))) c.block k (k + p.width) (names c k by e g w.declared) w.nest);
  }
    where
      names : (c : Context) (k : ℕ) (by : DeclGroup) → by.first ≡ c.decl_group → c.decl_group + 1 ≤ k → ((d : Declared) → Contains (p.rows c k).declared d → (k ≤ d.declared_by) × (d.declared_by < k + p.width)) → (n b : ℕ) → OccursIn (joined (one_decl_group by) (p.rows c k)) n b → OccursIn (p.rows c k) n b
      names c k by e g w n b (stands.used u h i j) = stands.used u h i j
      names c k by e g w n b (stands.declared d x h j s o i q) = elim (Contains-append_cases (by ∷ []) (p.rows c k).decl_groups x j) [
        | inl l ↦ absurd (let same = ap (λ (y : DeclGroup). y.first) (single by x l) in let lo : k ≤ d.declared_by = (w d h).0 in omega arith)
        | inr r ↦ stands.declared d x h r s o i q
      ]

  abbrev Own : ℕ → ℕ → ℕ → ℕ → ℕ → Type 0
  Own outer low high n c = (low ≤ n) × (n < high) × (c ≡ outer)

  pub o-names : (gap : ℕ) {p : Fragment} → Names p → Opens B gap p
  unfolding joined
  o-names gap {p} f = record {
    decl_groups = λ c k g l s x h. empty (p.rows c k).decl_groups x (f.decl_groups c k) h;
    declared = λ c k g l s d h. inl (f.own c k d h).0;
    nest = λ c k by e i g l s. nest_own B (OccursIn (joined (one_decl_group by) (p.rows c k))) c.block k (k + p.width) (names c k by i);
  }
    where
      names : (c : Context) (k : ℕ) (by : DeclGroup) → by.block ≡ c.block → (n b : ℕ) → OccursIn (joined (one_decl_group by) (p.rows c k)) n b → Own c.block k (k + p.width) n b
      names c k by i n b (stands.used u h e j) = empty (p.rows c k).uses u (f.uses c k) h
      names c k by i n b (stands.declared d x h j s o e q) = elim (Contains-append_cases (by ∷ []) (p.rows c k).decl_groups x j) [
        | inl l ↦ (let same = ap (λ (y : DeclGroup). y.block) (single by x l) in let m = f.own c k d h in let lo : k ≤ d.number = m.1 in let hi : d.number < k + p.width = m.2 in (omega arith, omega arith, sym q ∙ sym same ∙ i))
        | inr r ↦ empty (p.rows c k).decl_groups x (f.decl_groups c k) r
      ]

  -- more names before the fragment
  pub o-more : (gap later : ℕ) {p q : Fragment} → later ≤ gap + p.width → Names p → Opens B later q → Opens B gap (both p q)
  unfolding both joined
  o-more gap later {p} {q} wide f g = record {
    decl_groups = λ c k h l s x m. (
        let r = g.decl_groups c (k + p.width) (omega arith) l (among_right (p.rows c k) (q.rows c (k + p.width)) s) x (subst (λ (xs : List DeclGroup). Contains (xs ++ (q.rows c (k + p.width)).decl_groups) x) (f.decl_groups c k) m) in
        let lo : k + p.width ≤ x.first = r.0 in let hi : x.first < k + p.width + q.width = r.1 in (omega arith, omega arith));
    declared = λ c k h l s d m. elim (Contains-append_cases (p.rows c k).declared (q.rows c (k + p.width)).declared d m) [
      | inl a ↦ inl (f.own c k d a).0
      | inr b ↦ elim (g.declared c (k + p.width) (omega arith) l (among_right (p.rows c k) (q.rows c (k + p.width)) s) d b) [
        | inl e ↦ inl e
        | inr i ↦ inr (let lo : k + p.width ≤ d.declared_by = i.0 in let hi : d.declared_by < k + p.width + q.width = i.1 in (omega arith, omega arith))
      ]
    ];
    nest = λ c k by e i h l s. (
        let P = p.rows c k in
        let Q = q.rows c (k + p.width) in
        let some : AreAmong B Q = among_right P Q s in
        let n = g.nest c (k + p.width) by e i (omega arith) l some in
        let bounds = g.decl_groups c (k + p.width) (omega arith) l some in
        subst (λ (high : ℕ). Nest B (OccursIn (joined (one_decl_group by) (joined P Q))) c.block k high) (omega arith)
        (nest_both B (Own c.block k (k + p.width)) (OccursIn (joined (one_decl_group by) Q)) (OccursIn (joined (one_decl_group by) (joined P Q))) c.block k (k + p.width) (k + p.width + q.width)
        (names c k by e i (omega arith) bounds) (omega arith) (omega arith)
        (nest_own B (Own c.block k (k + p.width)) c.block k (k + p.width) (λ x b o. o)) n));
  }
    where
      names : (c : Context) (k : ℕ) (by : DeclGroup) → by.first ≡ c.decl_group → by.block ≡ c.block → c.decl_group ≤ k → ((x : DeclGroup) → Contains (q.rows c (k + p.width)).decl_groups x → (k + p.width ≤ x.first) × (x.first < k + p.width + q.width))
          → (n b : ℕ) → OccursIn (joined (one_decl_group by) (joined (p.rows c k) (q.rows c (k + p.width)))) n b → Own c.block k (k + p.width) n b ⊎ OccursIn (joined (one_decl_group by) (q.rows c (k + p.width))) n b
      names c k by e i g bounds n b (stands.used u h j m) = inr (stands.used u (subst (λ (xs : List Used). Contains (xs ++ (q.rows c (k + p.width)).uses) u) (f.uses c k) h) j m)
      names c k by e i g bounds n b (stands.declared d x h j s o m z) =
          let decl_groups = (q.rows c (k + p.width)).decl_groups in
          let there : Contains ((by ∷ []) ++ decl_groups) x = subst (λ (xs : List DeclGroup). Contains ((by ∷ []) ++ (xs ++ decl_groups)) x) (f.decl_groups c k) j in
          elim (Contains-append_cases (p.rows c k).declared (q.rows c (k + p.width)).declared d h) [
            | inl a ↦ (
                let w = f.own c k d a in let lo : k ≤ d.number = w.1 in let hi : d.number < k + p.width = w.2 in let of : d.declared_by ≡ c.decl_group = w.0 in
                elim (Contains-append_cases (by ∷ []) decl_groups x there) [
                  | inl y ↦ inl (let same = ap (λ (y : DeclGroup). y.block) (single by x y) in (omega arith, omega arith, sym z ∙ sym same ∙ i))
                  | inr y ↦ absurd (let far : k + p.width ≤ x.first = (bounds x y).0 in omega arith)
                ])
            | inr a ↦ inr (stands.declared d x a there s o m z)
          ]

  -- a declaration group
  pub s-declaring : (decl_kind : DeclKind) {p : Fragment} → 0 < p.width → Opens B 0 p → Stands B (declaring decl_kind p)
  unfolding declaring joined
  s-declaring decl_kind {p} some f = record {
    whole = λ c k l s. (
        let by = decl_group decl_kind c k (k + p.width - 1) in
        let inner = declaring_at c k in
        record {
          decl_groups = λ x h. elim (Contains-append_cases (by ∷ []) (p.rows inner k).decl_groups x h) [
            | inl a ↦ (let same : k ≡ x.first = ap (λ (y : DeclGroup). y.first) (single by x a) in (omega arith, omega arith))
            | inr b ↦ f.decl_groups inner k (omega arith) l s x b
          ];
          declared = λ d h. elim (f.declared inner k (omega arith) l s d h) [
            | inl e ↦ (let same : d.declared_by ≡ k = e in (omega arith, omega arith))
            | inr i ↦ i
          ];
          nest = f.nest inner k by refl refl (omega arith) l s;
        });
  }

-- ---- blocks

module _ (B : List Block) (up : IsIncreasingBy (λ (b : Block). b.first) B) where
  opened : (outer k : ℕ) (r : Rows) → outer < k → AreAmong B (joined (one_block (record { first = k; outer = outer })) r) → IsDirectlyIn B k outer
  unfolding joined
  opened outer k r l s = record { row = record { first = k; outer = outer }; is_row = s (record { first = k; outer = outer }) (zero, omega arith, refl); first = refl; outer = refl; behind = l }

  pub s-block : {p : Fragment} → Late B p → Stands B (opens_block (both token p))
  unfolding with_rows within both token joined no_rows
  s-block {p} f = record {
    whole = λ c k l s. (
        let r = p.rows (in_block c k) (k + 1) in
        let some : AreAmong B r = λ x h. s x (Contains-append_right (record { first = k; outer = c.block } ∷ []) r.blocks x h) in
        let w = f.whole.whole (in_block c k) (k + 1) (omega arith) some in
        let dir = opened c.block k r l s in
        let E : ℕ → ℕ → Type 0 = OccursIn (joined (one_block (record { first = k; outer = c.block })) r) in
        let same = stands_from (joined (one_block (record { first = k; outer = c.block })) r) r (λ x h. h) (λ x h. h) (λ x h. h) in
        record {
          decl_groups = λ x h. (let i = w.decl_groups x h in let lo : k + 1 ≤ x.first = i.0 in let hi : x.first < k + 1 + p.width = i.1 in (omega arith, omega arith));
          declared = λ x h. (let i = w.declared x h in let lo : k + 1 ≤ x.declared_by = i.0 in let hi : x.declared_by < k + 1 + p.width = i.1 in (omega arith, omega arith));
          nest = subst (λ (high : ℕ). Nest B E c.block k high) (omega arith)
              (nest_block B up E c.block k (k + 1) (k + 1 + p.width) dir (omega arith) (λ n b e. f.late (in_block c k) (k + 1) (omega arith) some n b (same n b e))
              (nest_as B (OccursIn r) E k (k + 1) (k + 1 + p.width) same w.nest));
        });
  }

  -- a procedure: its name, which is its second token, and its inside
  pub o-procedure : {q p : Fragment} → Names q → ((c : Context) (k : ℕ) (d : Declared) → Contains (q.rows c k).declared d → d.number ≡ k) → 0 < q.width → Stands B p → Opens B 0 (opens_block (both token (both q p)))
  unfolding with_rows within both token joined no_rows
  o-procedure {q} {p} names first wide f = record {
    decl_groups = λ c k g l s x h. (
        let i = (whole c k s).decl_groups x (subst (λ (xs : List DeclGroup). Contains (xs ++ (inner c k).decl_groups) x) (names.decl_groups (in_block c k) (k + 1)) h) in
        let lo : k + 1 + q.width ≤ x.first = i.0 in let hi : x.first < k + 1 + q.width + p.width = i.1 in (omega arith, omega arith));
    declared = λ c k g l s d h. elim (Contains-append_cases (q.rows (in_block c k) (k + 1)).declared (inner c k).declared d h) [
      | inl a ↦ inl (names.own (in_block c k) (k + 1) d a).0
      | inr b ↦ inr (let i = (whole c k s).declared d b in let lo : k + 1 + q.width ≤ d.declared_by = i.0 in let hi : d.declared_by < k + 1 + q.width + p.width = i.1 in (omega arith, omega arith))
    ];
    nest = λ c k by e i g l s. (
        let R = inner c k in
        let w = whole c k s in
        let dir = opened c.block k (joined (q.rows (in_block c k) (k + 1)) R) (omega arith) s in
        let G : ℕ → ℕ → Type 0 = OccursIn (joined (one_decl_group by) (joined (one_block (record { first = k; outer = c.block })) (joined (q.rows (in_block c k) (k + 1)) R))) in
        let late : (n b : ℕ) → OccursIn R n b → k + 1 < n = λ n b x. (let lo : k + 1 + q.width ≤ n = (w.nest.context n b x).0 in omega arith) in
        subst (λ (high : ℕ). Nest B G c.block k high) (omega arith)
        (nest_named B (λ n b. (n ≡ k + 1) × (b ≡ c.block)) (OccursIn R) G c.block k (k + 1 + q.width + p.width) (split c k by e i (omega arith) w.decl_groups w.declared) (omega arith) (λ n b x. x) late
        (nest_block B up (OccursIn R) c.block k (k + 1 + q.width) (k + 1 + q.width + p.width) dir (omega arith) late w.nest)));
  }
    where
      inner : Context → ℕ → Rows
      inner c k = p.rows (in_block c k) (k + 1 + q.width)

      whole : (c : Context) (k : ℕ) → AreAmong B (joined (one_block (record { first = k; outer = c.block })) (joined (q.rows (in_block c k) (k + 1)) (inner c k))) → Whole B k (k + 1 + q.width) (k + 1 + q.width + p.width) (inner c k)
      whole c k s = f.whole (in_block c k) (k + 1 + q.width) (omega arith)
          (λ x h. s x (Contains-append_right (record { first = k; outer = c.block } ∷ []) ((q.rows (in_block c k) (k + 1)).blocks ++ (inner c k).blocks) x (Contains-append_right (q.rows (in_block c k) (k + 1)).blocks (inner c k).blocks x h)))

      split : (c : Context) (k : ℕ) (by : DeclGroup) → by.first ≡ c.decl_group → by.block ≡ c.block → c.decl_group ≤ k
          → ((x : DeclGroup) → Contains (inner c k).decl_groups x → (k + 1 + q.width ≤ x.first) × (x.first < k + 1 + q.width + p.width))
          → ((d : Declared) → Contains (inner c k).declared d → (k + 1 + q.width ≤ d.declared_by) × (d.declared_by < k + 1 + q.width + p.width))
          → (n b : ℕ) → OccursIn (joined (one_decl_group by) (joined (one_block (record { first = k; outer = c.block })) (joined (q.rows (in_block c k) (k + 1)) (inner c k)))) n b → ((n ≡ k + 1) × (b ≡ c.block)) ⊎ OccursIn (inner c k) n b
      split c k by e i g bounds told n b (stands.used u h j m) = inr (stands.used u (subst (λ (xs : List Used). Contains (xs ++ (inner c k).uses) u) (names.uses (in_block c k) (k + 1)) h) j m)
      split c k by e i g bounds told n b (stands.declared d x h j s o m z) =
          let there : Contains ((by ∷ []) ++ (inner c k).decl_groups) x = subst (λ (xs : List DeclGroup). Contains ((by ∷ []) ++ (xs ++ (inner c k).decl_groups)) x) (names.decl_groups (in_block c k) (k + 1)) j in
          elim (Contains-append_cases (q.rows (in_block c k) (k + 1)).declared (inner c k).declared d h) [
            | inl a ↦ (
                let of : d.declared_by ≡ c.decl_group = (names.own (in_block c k) (k + 1) d a).0 in
                elim (Contains-append_cases (by ∷ []) (inner c k).decl_groups x there) [
                  | inl y ↦ inl (sym m ∙ first (in_block c k) (k + 1) d a, sym z ∙ sym (ap (λ (y : DeclGroup). y.block) (single by x y)) ∙ i)
                  | inr y ↦ absurd (let far : k + 1 + q.width ≤ x.first = (bounds x y).0 in omega arith)
                ])
            | inr a ↦ (
                let far : k + 1 + q.width ≤ d.declared_by = (told d a).0 in
                elim (Contains-append_cases (by ∷ []) (inner c k).decl_groups x there) [
                  | inl y ↦ absurd (let same = ap (λ (y : DeclGroup). y.first) (single by x y) in omega arith)
                  | inr y ↦ inr (stands.declared d x a y s o m z)
                ])
          ]

module _ (B : List Block) where
  pub s-token : Stands B token
  unfolding token no_rows
  s-token = s-plain B (record { declared = λ c k. refl; decl_groups = λ c k. refl; context = λ c k u h. empty [] u refl h })

  pub s-nothing : Stands B nothing
  unfolding nothing no_rows
  s-nothing = s-plain B (record { declared = λ c k. refl; decl_groups = λ c k. refl; context = λ c k u h. empty [] u refl h })

  no_name : (n b : ℕ) {P : Type 0} → OccursIn no_rows n b → P
  unfolding no_rows
  no_name n b (stands.used u h e i) = empty [] u refl h
  no_name n b (stands.declared d by h j s o e i) = empty [] d refl h

  pub late-nothing : Late B nothing
  unfolding nothing
  late-nothing = record { whole = s-nothing; late = λ c k l s n b h. no_name n b h }

  pub late-token : {p : Fragment} → Stands B p → Late B (both token p)
  unfolding both token joined no_rows
  late-token {p} f = record {
    whole = s-both B s-token f;
    late = λ c k l s n b h. (
        let lo : k + 1 ≤ n = ((f.whole c (k + 1) (omega arith) s).nest.context n b (stands_from (joined no_rows (p.rows c (k + 1))) (p.rows c (k + 1)) (λ x m. m) (λ x m. m) (λ x m. m) n b h)).0 in
        omega arith);
  }
