-- The type components of a fragment without import items: those of the declaration around it precede those of declarations in it.
use Rattle.std.proofs.Common.{◌≡◌, ℕ, ◌+◌, ◌≤◌, Bool, true, false, List, [], ◌∷◌, ◌++◌, map, Option, Some, None, refl, sym, ap, ap₂, subst, arith}
use Rattle.ob_tree.specs.declared.name.OneOrMore.{OneOrMore}
use Rattle.module_table.specs.declared.builder.Context.{Context}
use Rattle.module_table.specs.declared.rows.TypePart.{TypePart}
use Rattle.module_table.specs.declared.rows.Import.{Import}
use Rattle.module_table.specs.declared.rows.DeclKind.{DeclKind}
use Rattle.module_table.specs.Parts.{Fragment, Rows, no_rows, joined, nothing, token, both, with_rows, within, if_present, if_true, each, declaring, opens_block}
use Rattle.table_rules.specs.Expressions.{each_after}
use Rattle.table_rules.proofs.Lined.{Lined, lower, higher, lined_both, lined_end, lined_on}
use Rattle.table_rules.proofs.Quiet.{Quiet, Told}

-- the declaration groups of the components increase from one bound to another
abbrev pub Rising : ℕ → ℕ → List TypePart → Type 0
Rising low high ps = Lined (λ (p : TypePart). p.declared_by) (λ i. i) low high ps

-- there are no components
pub record Formless (p : Fragment) : Type 0 where
  pub none : (c : Context) (k : ℕ) → (p.rows c k).parts ≡ []
  pub domestic : (c : Context) (k : ℕ) → (p.rows c k).imports ≡ []

-- all components belong to the declaration around the fragment
pub record Forms (p : Fragment) : Type 0 where
  pub rising : (c : Context) (k : ℕ) → Rising c.decl_group c.decl_group (p.rows c k).parts
  pub domestic : (c : Context) (k : ℕ) → (p.rows c k).imports ≡ []

-- the components of the declaration around the fragment come first
pub record Leads (p : Fragment) : Type 0 where
  pub rising : (c : Context) (k : ℕ) → c.decl_group ≤ k → Rising c.decl_group (k + p.width) (p.rows c k).parts
  pub domestic : (c : Context) (k : ℕ) → (p.rows c k).imports ≡ []

-- no component belongs to the declaration around the fragment
pub record Free (p : Fragment) : Type 0 where
  pub rising : (c : Context) (k : ℕ) → Rising k (k + p.width) (p.rows c k).parts
  pub domestic : (c : Context) (k : ℕ) → (p.rows c k).imports ≡ []

module _ (low middle high : ℕ) (ps qs : List TypePart) where
  pub rising_both : Rising low middle ps → Rising middle high qs → Rising low high (ps ++ qs)
  rising_both f g = lined_both (λ (p : TypePart). p.declared_by) (λ i. i) low middle high ps qs f g

module _ (low high other : ℕ) (ps : List TypePart) where
  pub rising_further : high ≤ other → Rising low high ps → Rising low other ps
  rising_further l f = higher (λ (p : TypePart). p.declared_by) (λ i. i) low high other ps l f

  pub rising_before : other ≤ low → Rising low high ps → Rising other high ps
  rising_before l f = lower (λ (p : TypePart). p.declared_by) (λ i. i) other low high ps l f

pub rising_none : (low high : ℕ) (ps : List TypePart) → low ≤ high → ps ≡ [] → Rising low high ps
rising_none low high ps l e = subst (Rising low high) (sym e) (lined_end (λ (p : TypePart). p.declared_by) (λ i. i) low high l)

-- one component of the declaration around the fragment
pub rising_one : (c : Context) (p : TypePart) → p.declared_by ≡ c.decl_group → Rising c.decl_group c.decl_group (p ∷ [])
rising_one c p e = lined_on (λ (x : TypePart). x.declared_by) c.decl_group p e

-- if a concatenation has no import item, neither has a part of it
both_none : (p q : Fragment) → ((c : Context) (k : ℕ) → (p.rows c k).imports ≡ []) → ((c : Context) (k : ℕ) → (q.rows c k).imports ≡ []) → (c : Context) (k : ℕ) → ((both p q).rows c k).imports ≡ []
unfolding both joined
both_none p q f g c k = ap₂ (λ (xs ys : List Import). xs ++ ys) (f c k) (g c (k + p.width))

tells_none : (own : Context → ℕ → Rows) (p : Fragment) → ((c : Context) (k : ℕ) → (own c k).imports ≡ []) → ((c : Context) (k : ℕ) → (p.rows c k).imports ≡ []) → (c : Context) (k : ℕ) → ((with_rows own p).rows c k).imports ≡ []
unfolding with_rows joined
tells_none own p f g c k = ap₂ (λ (xs ys : List Import). xs ++ ys) (f c k) (g c k)

-- ---- fragments without components

pub n-quiet : {p : Fragment} → Quiet p → Formless p
n-quiet f = record { none = λ c k. ap (λ (t : Told). t.parts) (f.none c k); domestic = λ c k. ap (λ (t : Told). t.imports) (f.none c k) }

pub n-nothing : Formless nothing
unfolding nothing no_rows
n-nothing = record { none = λ c k. refl; domestic = λ c k. refl }

pub n-token : Formless token
unfolding token no_rows
n-token = record { none = λ c k. refl; domestic = λ c k. refl }

pub n-both : {p q : Fragment} → Formless p → Formless q → Formless (both p q)
unfolding both joined
n-both {p} {q} f g = record { none = λ c k. ap₂ (λ (xs ys : List TypePart). xs ++ ys) (f.none c k) (g.none c (k + p.width)); domestic = both_none p q f.domestic g.domestic }

pub n-with_rows : (own : Context → ℕ → Rows) {p : Fragment} → ((c : Context) (k : ℕ) → (own c k).parts ≡ []) → ((c : Context) (k : ℕ) → (own c k).imports ≡ []) → Formless p → Formless (with_rows own p)
unfolding with_rows joined
n-with_rows own {p} n i f = record { none = λ c k. ap₂ (λ (xs ys : List TypePart). xs ++ ys) (n c k) (f.none c k); domestic = tells_none own p i f.domestic }

pub n-there : {X : Type 0} (f : X → Fragment) (o : Option X) → ((x : X) → Formless (f x)) → Formless (if_present f o)
n-there f None w = n-nothing
n-there f (Some x) w = w x

pub n-so : (b : Bool) {p : Fragment} → Formless p → Formless (if_true b p)
n-so true w = w
n-so false w = n-nothing

pub n-each : {X : Type 0} (f : X → Fragment) (xs : List X) → ((x : X) → Formless (f x)) → Formless (each f xs)
n-each f [] w = n-nothing
n-each f (x ∷ xs) w = n-both (w x) (n-each f xs w)

-- ---- the declaration around the fragment

pub o-none : {p : Fragment} → Formless p → Forms p
o-none {p} f = record { rising = λ c k. rising_none c.decl_group c.decl_group (p.rows c k).parts (omega arith) (f.none c k); domestic = f.domestic }

pub o-both : {p q : Fragment} → Forms p → Forms q → Forms (both p q)
unfolding both joined
o-both {p} {q} f g = record { rising = λ c k. rising_both c.decl_group c.decl_group c.decl_group (p.rows c k).parts (q.rows c (k + p.width)).parts (f.rising c k) (g.rising c (k + p.width)); domestic = both_none p q f.domestic g.domestic }

pub o-with_rows : (own : Context → ℕ → Rows) {p : Fragment} → ((c : Context) (k : ℕ) → Rising c.decl_group c.decl_group (own c k).parts) → ((c : Context) (k : ℕ) → (own c k).imports ≡ []) → Forms p → Forms (with_rows own p)
unfolding with_rows joined
o-with_rows own {p} n i f = record { rising = λ c k. rising_both c.decl_group c.decl_group c.decl_group (own c k).parts (p.rows c k).parts (n c k) (f.rising c k); domestic = tells_none own p i f.domestic }

pub o-each : {X : Type 0} (f : X → Fragment) (xs : List X) → ((x : X) → Forms (f x)) → Forms (each f xs)
o-each f [] w = o-none n-nothing
o-each f (x ∷ xs) w = o-both (w x) (o-each f xs w)

pub o-is : {p q : Fragment} → p ≡ q → Forms q → Forms p
o-is e m = subst Forms (sym e) m

-- ---- declarations

pub f-none : {p : Fragment} → Formless p → Free p
f-none {p} f = record { rising = λ c k. rising_none k (k + p.width) (p.rows c k).parts (omega arith) (f.none c k); domestic = f.domestic }

pub f-both : {p q : Fragment} → Free p → Free q → Free (both p q)
unfolding both joined
f-both {p} {q} f g = record {
  rising = λ c k.
      rising_further k (k + p.width + q.width) (k + (p.width + q.width)) ((p.rows c k).parts ++ (q.rows c (k + p.width)).parts) (omega arith)
      (rising_both k (k + p.width) (k + p.width + q.width) (p.rows c k).parts (q.rows c (k + p.width)).parts (f.rising c k) (g.rising c (k + p.width)));
  domestic = both_none p q f.domestic g.domestic;
}

pub f-with_rows : (own : Context → ℕ → Rows) {p : Fragment} → ((c : Context) (k : ℕ) → (own c k).parts ≡ []) → ((c : Context) (k : ℕ) → (own c k).imports ≡ []) → Free p → Free (with_rows own p)
unfolding with_rows joined
f-with_rows own {p} n i f = record { rising = λ c k. subst (λ (ps : List TypePart). Rising k (k + p.width) (ps ++ (p.rows c k).parts)) (sym (n c k)) (f.rising c k); domestic = tells_none own p i f.domestic }

pub f-within : (around : Context → ℕ → Context) {p : Fragment} → Free p → Free (within around p)
unfolding within
f-within around f = record { rising = λ c k. f.rising (around c k) k; domestic = λ c k. f.domestic (around c k) k }

pub f-opens_block : {p : Fragment} → Free p → Free (opens_block p)
f-opens_block f = f-with_rows _ (λ c k. refl) (λ c k. refl) (f-within _ f)

pub f-declaring : (decl_kind : DeclKind) {p : Fragment} → Leads p → Free (declaring decl_kind p)
unfolding declaring joined
f-declaring decl_kind f = record { rising = λ c k. f.rising _ k (omega arith); domestic = λ c k. f.domestic _ k }

pub f-there : {X : Type 0} (f : X → Fragment) (o : Option X) → ((x : X) → Free (f x)) → Free (if_present f o)
f-there f None w = f-none n-nothing
f-there f (Some x) w = w x

pub f-each : {X : Type 0} (f : X → Fragment) (xs : List X) → ((x : X) → Free (f x)) → Free (each f xs)
f-each f [] w = f-none n-nothing
f-each f (x ∷ xs) w = f-both (w x) (f-each f xs w)

pub f-map : {X Y : Type 0} (f : Y → Fragment) (h : X → Y) (xs : List X) → ((x : X) → Free (f (h x))) → Free (each f (map h xs))
f-map f h [] w = f-none n-nothing
f-map f h (x ∷ xs) w = f-both (w x) (f-map f h xs w)

pub f-separated : {X : Type 0} (f : X → Fragment) (l : OneOrMore X) → ((x : X) → Free (f x)) → Free (both (f l.first) (each_after f l.rest.items))
f-separated f l w = f-both (w l.first) (f-each (λ x. both token (f x)) l.rest.items (λ x. f-both (f-none n-token) (w x)))

pub f-is : {p q : Fragment} → p ≡ q → Free q → Free p
f-is e m = subst Free (sym e) m

-- ---- the declaration around the fragment, and then declarations in it

pub l-own : {p : Fragment} → Forms p → Leads p
l-own {p} f = record { rising = λ c k l. rising_further c.decl_group c.decl_group (k + p.width) (p.rows c k).parts (omega arith) (f.rising c k); domestic = f.domestic }

pub l-free : {p : Fragment} → Free p → Leads p
l-free {p} f = record { rising = λ c k l. rising_before k (k + p.width) c.decl_group (p.rows c k).parts l (f.rising c k); domestic = f.domestic }

pub l-behind : {p q : Fragment} → Forms p → Leads q → Leads (both p q)
unfolding both joined
l-behind {p} {q} f g = record {
  rising = λ c k l.
      rising_further c.decl_group (k + p.width + q.width) (k + (p.width + q.width)) ((p.rows c k).parts ++ (q.rows c (k + p.width)).parts) (omega arith)
      (rising_both c.decl_group c.decl_group (k + p.width + q.width) (p.rows c k).parts (q.rows c (k + p.width)).parts (f.rising c k) (g.rising c (k + p.width) (omega arith)));
  domestic = both_none p q f.domestic g.domestic;
}

pub l-with_rows : (own : Context → ℕ → Rows) {p : Fragment} → ((c : Context) (k : ℕ) → Rising c.decl_group c.decl_group (own c k).parts) → ((c : Context) (k : ℕ) → (own c k).imports ≡ []) → Leads p → Leads (with_rows own p)
unfolding with_rows joined
l-with_rows own {p} n i f = record { rising = λ c k l. rising_both c.decl_group c.decl_group (k + p.width) (own c k).parts (p.rows c k).parts (n c k) (f.rising c k l); domestic = tells_none own p i f.domestic }

pub l-within : (around : Context → ℕ → Context) {p : Fragment} → ((c : Context) (k : ℕ) → (around c k).decl_group ≡ c.decl_group) → Leads p → Leads (within around p)
unfolding within
l-within around {p} same f = record {
  rising = λ c k l.
      subst (λ (d : ℕ). Rising d (k + p.width) (p.rows (around c k) k).parts) (same c k)
      (f.rising (around c k) k (let e = same c k in omega (arith, e, l)));
  domestic = λ c k. f.domestic (around c k) k;
}

pub l-is : {p q : Fragment} → p ≡ q → Leads q → Leads p
l-is e m = subst Leads (sym e) m

-- ---- also with import items

-- the declaration groups of the components increase
pub record Rises (p : Fragment) : Type 0 where
  pub rising : (c : Context) (k : ℕ) → Rising k (k + p.width) (p.rows c k).parts

-- there is no component
pub record Lacks (p : Fragment) : Type 0 where
  pub none : (c : Context) (k : ℕ) → (p.rows c k).parts ≡ []

pub r-free : {p : Fragment} → Free p → Rises p
r-free f = record { rising = f.rising }

pub r-lacks : {p : Fragment} → Lacks p → Rises p
r-lacks {p} f = record { rising = λ c k. rising_none k (k + p.width) (p.rows c k).parts (omega arith) (f.none c k) }

pub r-both : {p q : Fragment} → Rises p → Rises q → Rises (both p q)
unfolding both joined
r-both {p} {q} f g = record {
  rising = λ c k.
      rising_further k (k + p.width + q.width) (k + (p.width + q.width)) ((p.rows c k).parts ++ (q.rows c (k + p.width)).parts) (omega arith)
      (rising_both k (k + p.width) (k + p.width + q.width) (p.rows c k).parts (q.rows c (k + p.width)).parts (f.rising c k) (g.rising c (k + p.width)));
}

pub lacks : {p : Fragment} → Formless p → Lacks p
lacks f = record { none = f.none }

pub k-both : {p q : Fragment} → Lacks p → Lacks q → Lacks (both p q)
unfolding both joined
k-both {p} {q} f g = record { none = λ c k. ap₂ (λ (xs ys : List TypePart). xs ++ ys) (f.none c k) (g.none c (k + p.width)) }

pub k-with_rows : (own : Context → ℕ → Rows) {p : Fragment} → ((c : Context) (k : ℕ) → (own c k).parts ≡ []) → Lacks p → Lacks (with_rows own p)
unfolding with_rows joined
k-with_rows own n f = record { none = λ c k. ap₂ (λ (xs ys : List TypePart). xs ++ ys) (n c k) (f.none c k) }

pub k-declaring : (decl_kind : DeclKind) {p : Fragment} → Lacks p → Lacks (declaring decl_kind p)
unfolding declaring joined
k-declaring decl_kind f = record { none = λ c k. f.none _ k }

pub k-there : {X : Type 0} (f : X → Fragment) (o : Option X) → ((x : X) → Lacks (f x)) → Lacks (if_present f o)
k-there f None w = lacks n-nothing
k-there f (Some x) w = w x

pub k-each : {X : Type 0} (f : X → Fragment) (xs : List X) → ((x : X) → Lacks (f x)) → Lacks (each f xs)
k-each f [] w = lacks n-nothing
k-each f (x ∷ xs) w = k-both (w x) (k-each f xs w)
