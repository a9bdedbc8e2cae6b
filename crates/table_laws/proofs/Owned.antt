-- The owners of the records in a fragment: the declaration around it owns at most one, and each declaration in it owns at most one.
use Rattle.std.proofs.Common.{◌≡◌, ℕ, zero, suc, ◌+◌, ◌<◌, ◌≤◌, ◌⊎◌, inl, inr, List, [], ◌∷◌, ◌++◌, map, Option, Some, None, refl, sym, ap, ◌∙◌, subst, arith}
use Rattle.std.specs.Prelude.{slice_get}
use Rattle.module_table.specs.declared.rows.Record.{Record}
use Rattle.module_table.specs.declared.rows.DeclKind.{DeclKind}
use Rattle.module_table.specs.Parts.{Fragment, Rows, joined, both, with_rows, within, if_present, each, declaring, opens_block}
use Rattle.table_laws.proofs.Bare.{Bare, Context, b-nothing}

-- ---- owners

-- all owners have the property
pub Each : (ℕ → Type 0) → List Record → Type 0
Each P [] = Unit {0}
Each P (r ∷ rs) = P r.owner × Each P rs

-- no record has this owner
pub Apart : ℕ → List Record → Type 0
Apart o [] = Unit {0}
Apart o (r ∷ rs) = (o ≡ r.owner → ⊥) × Apart o rs

-- no two records have one owner
pub Once : List Record → Type 0
Once [] = Unit {0}
Once (r ∷ rs) = Apart r.owner rs × Once rs

each_map : (P Q : ℕ → Type 0) (rs : List Record) → ((o : ℕ) → P o → Q o) → Each P rs → Each Q rs
unfolding Each
each_map P Q [] f e = tt
each_map P Q (r ∷ rs) f e = (f r.owner e.0, each_map P Q rs f e.1)

each_both : (P : ℕ → Type 0) (xs ys : List Record) → Each P xs → Each P ys → Each P (xs ++ ys)
unfolding Each
each_both P [] ys e f = f
each_both P (a ∷ xs) ys e f = (e.0, each_both P xs ys e.1 f)

apart_each : (Q : ℕ → Type 0) (o : ℕ) (ys : List Record) → Each Q ys → ((b : ℕ) → Q b → o ≡ b → ⊥) → Apart o ys
unfolding Each Apart
apart_each Q o [] e n = tt
apart_each Q o (b ∷ ys) e n = (n b.owner e.0, apart_each Q o ys e.1 n)

apart_both : (o : ℕ) (xs ys : List Record) → Apart o xs → Apart o ys → Apart o (xs ++ ys)
unfolding Apart
apart_both o [] ys e f = f
apart_both o (a ∷ xs) ys e f = (e.0, apart_both o xs ys e.1 f)

once_both : (P Q : ℕ → Type 0) (xs ys : List Record) → Each P xs → Each Q ys → ((a b : ℕ) → P a → Q b → a ≡ b → ⊥) → Once xs → Once ys → Once (xs ++ ys)
unfolding Each Once
once_both P Q [] ys e f n x y = y
once_both P Q (a ∷ xs) ys e f n x y = (apart_both a.owner xs ys x.0 (apart_each Q a.owner ys f (λ b q. n a.owner b e.0 q)), once_both P Q xs ys e.1 f n x.1 y)

apart_get : (o : ℕ) (rs : List Record) (j : ℕ) (s : Record) → Apart o rs → slice_get rs j ≡ Some s → o ≡ s.owner → ⊥
unfolding Apart
apart_get o [] j s a at e = absurd (let none : None ≡ Some s = at in cc)
apart_get o (r ∷ rs) zero s a at e = a.0 (let same : r ≡ s = (let f : Some r ≡ Some s = at in cc) in e ∙ ap (λ (x : Record). x.owner) (sym same))
apart_get o (r ∷ rs) (suc j) s a at e = apart_get o rs j s a.1 at e

pub one_record : (rs : List Record) (i j : ℕ) (r s : Record) → Once rs → slice_get rs i ≡ Some r → slice_get rs j ≡ Some s → r.owner ≡ s.owner → r ≡ s
unfolding Once
one_record [] i j r s o a b e = absurd (let none : None ≡ Some r = a in cc)
one_record (x ∷ rs) zero zero r s o a b e = (let f : Some x ≡ Some r = a in let g : Some x ≡ Some s = b in cc)
one_record (x ∷ rs) zero (suc j) r s o a b e = absurd (apart_get x.owner rs j s o.0 b (let same : x ≡ r = (let f : Some x ≡ Some r = a in cc) in ap (λ (y : Record). y.owner) same ∙ e))
one_record (x ∷ rs) (suc i) zero r s o a b e = absurd (apart_get x.owner rs i r o.0 a (let same : x ≡ s = (let f : Some x ≡ Some s = b in cc) in ap (λ (y : Record). y.owner) same ∙ sym e))
one_record (x ∷ rs) (suc i) (suc j) r s o a b e = one_record rs i j r s o.1 a b e

-- ---- fragments

abbrev pub Within : ℕ → ℕ → ℕ → Type 0
Within low high o = (low ≤ o) × (o < high)

abbrev pub OwnOr : ℕ → ℕ → ℕ → ℕ → Type 0
OwnOr d low high o = (o ≡ d) ⊎ Within low high o

-- the owners of the records are in the fragment
pub record Free (p : Fragment) : Type 0 where
  pub each : (c : Context) (k : ℕ) → c.decl_group < k → Each (Within k (k + p.width)) (p.rows c k).records
  pub once : (c : Context) (k : ℕ) → c.decl_group < k → Once (p.rows c k).records

-- or the owner is the declaration around it
pub record Held (p : Fragment) : Type 0 where
  pub each : (c : Context) (k : ℕ) → c.decl_group < k → Each (OwnOr c.decl_group k (k + p.width)) (p.rows c k).records
  pub once : (c : Context) (k : ℕ) → c.decl_group < k → Once (p.rows c k).records

-- or the owner is the declaration that begins where the fragment begins
pub record Declares (p : Fragment) : Type 0 where
  pub some : 0 < p.width
  pub each : (c : Context) (k : ℕ) → c.decl_group ≡ k → Each (Within k (k + p.width)) (p.rows c k).records
  pub once : (c : Context) (k : ℕ) → c.decl_group ≡ k → Once (p.rows c k).records

pub f-bare : {p : Fragment} → Bare p → Free p
unfolding Each Once
f-bare {p} f = record {
  each = λ c k l. subst (λ (rs : List Record). Each (Within k (k + p.width)) rs) (sym (f.none c k)) tt;
  once = λ c k l. subst Once (sym (f.none c k)) tt;
}

pub f-both : {p q : Fragment} → Free p → Free q → Free (both p q)
unfolding both joined
f-both {p} {q} f g = record {
  each = λ c k l.
      let m : c.decl_group < k + p.width = omega arith in
      each_both (Within k (k + (p.width + q.width))) (p.rows c k).records (q.rows c (k + p.width)).records
      (each_map (Within k (k + p.width)) (Within k (k + (p.width + q.width))) (p.rows c k).records (λ o h. (h.0, (let x = h.1 in omega arith))) (f.each c k l))
      (each_map (Within (k + p.width) (k + p.width + q.width)) (Within k (k + (p.width + q.width))) (q.rows c (k + p.width)).records (λ o h. ((let x = h.0 in omega arith), (let x = h.1 in omega arith))) (g.each c (k + p.width) m));
  once = λ c k l.
      let m : c.decl_group < k + p.width = omega arith in
      once_both (Within k (k + p.width)) (Within (k + p.width) (k + p.width + q.width)) (p.rows c k).records (q.rows c (k + p.width)).records (f.each c k l) (g.each c (k + p.width) m)
      (λ a b x y e. (let u = x.1 in let v = y.0 in omega arith)) (f.once c k l) (g.once c (k + p.width) m);
}

pub f-with_rows : (own : Context → ℕ → Rows) {p : Fragment} → ((c : Context) (k : ℕ) → (own c k).records ≡ []) → Free p → Free (with_rows own p)
unfolding with_rows joined
f-with_rows own {p} n f = record {
  each = λ c k l. subst (λ (rs : List Record). Each (Within k (k + p.width)) (rs ++ (p.rows c k).records)) (sym (n c k)) (f.each c k l);
  once = λ c k l. subst (λ (rs : List Record). Once (rs ++ (p.rows c k).records)) (sym (n c k)) (f.once c k l);
}

pub f-there : {X : Type 0} (f : X → Fragment) (o : Option X) → ((x : X) → Free (f x)) → Free (if_present f o)
f-there f None w = f-bare b-nothing
f-there f (Some x) w = w x

pub f-each : {X : Type 0} (f : X → Fragment) (xs : List X) → ((x : X) → Free (f x)) → Free (each f xs)
f-each f [] w = f-bare b-nothing
f-each f (x ∷ xs) w = f-both (w x) (f-each f xs w)

pub f-map : {X Y : Type 0} (f : Y → Fragment) (h : X → Y) (xs : List X) → ((x : X) → Free (f (h x))) → Free (each f (map h xs))
f-map f h [] w = f-bare b-nothing
f-map f h (x ∷ xs) w = f-both (w x) (f-map f h xs w)

pub f-is : {p q : Fragment} → p ≡ q → Free q → Free p
f-is e m = subst Free (sym e) m

-- ---- types

pub h-bare : {p : Fragment} → Bare p → Held p
unfolding Each Once
h-bare {p} f = record {
  each = λ c k l. subst (λ (rs : List Record). Each (OwnOr c.decl_group k (k + p.width)) rs) (sym (f.none c k)) tt;
  once = λ c k l. subst Once (sym (f.none c k)) tt;
}

-- a fragment without records before it
pub h-behind : {p q : Fragment} → Bare p → Held q → Held (both p q)
unfolding both joined
h-behind {p} {q} f g = record {
  each = λ c k l.
      let m : c.decl_group < k + p.width = omega arith in
      subst (λ (rs : List Record). Each (OwnOr c.decl_group k (k + (p.width + q.width))) (rs ++ (q.rows c (k + p.width)).records)) (sym (f.none c k))
      (each_map (OwnOr c.decl_group (k + p.width) (k + p.width + q.width)) (OwnOr c.decl_group k (k + (p.width + q.width))) (q.rows c (k + p.width)).records
      (λ o h. elim h [ inl e ↦ inl e | inr x ↦ inr ((let u = x.0 in omega arith), (let u = x.1 in omega arith)) ]) (g.each c (k + p.width) m));
  once = λ c k l.
      let m : c.decl_group < k + p.width = omega arith in
      subst (λ (rs : List Record). Once (rs ++ (q.rows c (k + p.width)).records)) (sym (f.none c k)) (g.once c (k + p.width) m);
}

pub h-with_rows : (own : Context → ℕ → Rows) {p : Fragment} → ((c : Context) (k : ℕ) → (own c k).records ≡ []) → Held p → Held (with_rows own p)
unfolding with_rows joined
h-with_rows own {p} n f = record {
  each = λ c k l. subst (λ (rs : List Record). Each (OwnOr c.decl_group k (k + p.width)) (rs ++ (p.rows c k).records)) (sym (n c k)) (f.each c k l);
  once = λ c k l. subst (λ (rs : List Record). Once (rs ++ (p.rows c k).records)) (sym (n c k)) (f.once c k l);
}

pub h-is : {p q : Fragment} → p ≡ q → Held q → Held p
h-is e m = subst Held (sym e) m

-- the record itself, whose owner begins before it
pub h-record : (row : Context → ℕ → Record) (around : Context → ℕ → Context) {p : Fragment} (own : Context → ℕ → Rows) → ((c : Context) (k : ℕ) → (own c k).records ≡ row c k ∷ [])
    → ((c : Context) (k : ℕ) → (row c k).owner ≡ c.decl_group) → ((c : Context) (k : ℕ) → (around c k).decl_group ≡ c.decl_group) → Free p → Held (with_rows own (within around p))
unfolding with_rows within joined Each Once
h-record row around {p} own n o d f = record {
  each = λ c k l.
      let m : (around c k).decl_group < k = (let x = d c k in omega arith) in
      subst (λ (rs : List Record). Each (OwnOr c.decl_group k (k + p.width)) (rs ++ (p.rows (around c k) k).records)) (sym (n c k))
      (inl (o c k), each_map (Within k (k + p.width)) (OwnOr c.decl_group k (k + p.width)) (p.rows (around c k) k).records (λ x h. inr h) (f.each (around c k) k m));
  once = λ c k l.
      let m : (around c k).decl_group < k = (let x = d c k in omega arith) in
      subst (λ (rs : List Record). Once (rs ++ (p.rows (around c k) k).records)) (sym (n c k))
      (apart_each (Within k (k + p.width)) (row c k).owner (p.rows (around c k) k).records (f.each (around c k) k m) (λ b h e. (let x = h.0 in let y = o c k in omega arith)), f.once (around c k) k m);
}

pub h-within : (around : Context → ℕ → Context) {p : Fragment} → ((c : Context) (k : ℕ) → (around c k).decl_group ≡ c.decl_group) → Held p → Held (within around p)
unfolding within
h-within around {p} d f = record {
  each = λ c k l.
      let m : (around c k).decl_group < k = (let x = d c k in omega arith) in
      subst (λ (n : ℕ). Each (OwnOr n k (k + p.width)) (p.rows (around c k) k).records) (d c k) (f.each (around c k) k m);
  once = λ c k l. let m : (around c k).decl_group < k = (let x = d c k in omega arith) in f.once (around c k) k m;
}

-- ---- declarations

-- a declaration begins with an identifier or a word
pub d-held : {p q : Fragment} → Bare p → 0 < p.width → Held q → Declares (both p q)
unfolding both joined
d-held {p} {q} f w g = record {
  some = omega arith;
  each = λ c k l.
      let m : c.decl_group < k + p.width = omega arith in
      subst (λ (rs : List Record). Each (Within k (k + (p.width + q.width))) (rs ++ (q.rows c (k + p.width)).records)) (sym (f.none c k))
      (each_map (OwnOr c.decl_group (k + p.width) (k + p.width + q.width)) (Within k (k + (p.width + q.width))) (q.rows c (k + p.width)).records
      (λ o h. elim h [ inl e ↦ (omega arith, omega arith) | inr x ↦ ((let u = x.0 in omega arith), (let u = x.1 in omega arith)) ]) (g.each c (k + p.width) m));
  once = λ c k l.
      let m : c.decl_group < k + p.width = omega arith in
      subst (λ (rs : List Record). Once (rs ++ (q.rows c (k + p.width)).records)) (sym (f.none c k)) (g.once c (k + p.width) m);
}

pub h-free : {p : Fragment} → Free p → Held p
h-free {p} f = record {
  each = λ c k l. each_map (Within k (k + p.width)) (OwnOr c.decl_group k (k + p.width)) (p.rows c k).records (λ o h. inr h) (f.each c k l);
  once = f.once;
}

pub d-free : {p q : Fragment} → Bare p → 0 < p.width → Free q → Declares (both p q)
d-free f w g = d-held f w (h-free g)

pub f-declaring : (decl_kind : DeclKind) {p : Fragment} → Declares p → Free (declaring decl_kind p)
unfolding declaring joined
f-declaring decl_kind f = record { each = λ c k l. f.each _ k refl; once = λ c k l. f.once _ k refl }

pub d-opens_block : {p : Fragment} → Declares p → Declares (opens_block p)
unfolding with_rows within joined
d-opens_block {p} f = record { some = f.some; each = λ c k l. f.each _ k l; once = λ c k l. f.once _ k l }

pub d-is : {p q : Fragment} → p ≡ q → Declares q → Declares p
d-is e m = subst Declares (sym e) m
