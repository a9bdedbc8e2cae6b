-- Fragments whose entries of one kind are sorted and have numbers within the fragment.
use Rattle.std.proofs.Common.{◌≡◌, ℕ, ◌+◌, Bool, true, false, List, [], ◌∷◌, ◌++◌, map, Option, Some, None, refl, sym, ap, ◌∙◌, subst, arith, append_assoc}
use Rattle.ob_tree.specs.declared.name.OneOrMore.{OneOrMore}
use Rattle.module_table.specs.declared.rows.DeclGroup.{DeclGroup}
use Rattle.module_table.specs.declared.rows.DeclKind.{DeclKind}
use Rattle.module_table.specs.declared.builder.Context.{Context}
use Rattle.module_table.specs.Parts.{Fragment, Rows, no_rows, nothing, token, both, with_rows, within, if_present, if_true, each, declaring, decl_group, declaring_at, one_decl_group}
use Rattle.table_rules.specs.Expressions.{each_after, used}
use Rattle.table_rules.proofs.Lined.{Lined, lower, higher, lined_both, lined_end}
use Rattle.table_rules.proofs.LinedKinds.{Kind}

-- within the fragment
pub record Ordered {X : Type 0} (K : Kind X) (p : Fragment) : Type 0 where
  pub lined : (c : Context) (k : ℕ) → Lined K.number K.next k (k + p.width) (K.of (p.rows c k))

-- and none at its first token
pub record Later {X : Type 0} (K : Kind X) (p : Fragment) : Type 0 where
  pub lined : (c : Context) (k : ℕ) → Lined K.number K.next (k + 1) (k + p.width) (K.of (p.rows c k))

-- or only these at its first token
pub record Headed {X : Type 0} (K : Kind X) (own : Context → ℕ → List X) (p : Fragment) : Type 0 where
  pub rest : (c : Context) (k : ℕ) → List X
  pub is : (c : Context) (k : ℕ) → K.of (p.rows c k) ≡ own c k ++ rest c k
  pub lined : (c : Context) (k : ℕ) → Lined K.number K.next (k + 1) (k + p.width) (rest c k)

-- also after the entry of a declaration group that begins with the fragment
pub record Beside {X : Type 0} (K : Kind X) (p : Fragment) : Type 0 where
  pub lined : (c : Context) (k : ℕ) (by : DeclGroup) → by.first ≡ k → Lined K.number K.next k (k + p.width) (K.of (one_decl_group by) ++ K.of (p.rows c k))

module _ {X : Type 0} (K : Kind X) where
  abbrev L : ℕ → ℕ → List X → Type 0
  L a b xs = Lined K.number K.next a b xs

  pub o-nothing : Ordered K nothing
  unfolding nothing
  o-nothing = record { lined = λ c k. subst (λ (xs : List X). L k (k + 0) xs) (sym K.none) (lined_end K.number K.next k (k + 0) (omega arith)) }

  pub l-token : Later K token
  unfolding token
  l-token = record { lined = λ c k. subst (λ (xs : List X). L (k + 1) (k + 1) xs) (sym K.none) (lined_end K.number K.next (k + 1) (k + 1) (omega arith)) }

  pub o-later : {p : Fragment} → Later K p → Ordered K p
  o-later {p} f = record { lined = λ c k. lower K.number K.next k (k + 1) (k + p.width) (K.of (p.rows c k)) (omega arith) (f.lined c k) }

  pub o-token : Ordered K token
  o-token = o-later l-token

  -- two fragments, one after the other
  behind : (a k v w : ℕ) (xs ys : List X) → L a (k + v) xs → L (k + v) (k + v + w) ys → L a (k + (v + w)) (xs ++ ys)
  behind a k v w xs ys f g = higher K.number K.next a (k + v + w) (k + (v + w)) (xs ++ ys) (omega arith) (lined_both K.number K.next a (k + v) (k + v + w) xs ys f g)

  pub o-both : {p q : Fragment} → Ordered K p → Ordered K q → Ordered K (both p q)
  unfolding both
  o-both {p} {q} f g = record {
    lined = λ c k.
        subst (λ (xs : List X). L k (k + (p.width + q.width)) xs) (sym (K.join (p.rows c k) (q.rows c (k + p.width))))
        (behind k k p.width q.width (K.of (p.rows c k)) (K.of (q.rows c (k + p.width))) (f.lined c k) (g.lined c (k + p.width)));
  }

  pub l-both : {p q : Fragment} → Later K p → Ordered K q → Later K (both p q)
  unfolding both
  l-both {p} {q} f g = record {
    lined = λ c k.
        subst (λ (xs : List X). L (k + 1) (k + (p.width + q.width)) xs) (sym (K.join (p.rows c k) (q.rows c (k + p.width))))
        (behind (k + 1) k p.width q.width (K.of (p.rows c k)) (K.of (q.rows c (k + p.width))) (f.lined c k) (g.lined c (k + p.width)));
  }

  pub h-both : {own : Context → ℕ → List X} {p q : Fragment} → Headed K own p → Ordered K q → Headed K own (both p q)
  unfolding both
  h-both {own} {p} {q} f g = record {
    rest = λ c k. f.rest c k ++ K.of (q.rows c (k + p.width));
    is = λ c k. K.join (p.rows c k) (q.rows c (k + p.width)) ∙ ap (λ (xs : List X). xs ++ K.of (q.rows c (k + p.width))) (f.is c k) ∙ append_assoc (own c k) (f.rest c k) (K.of (q.rows c (k + p.width)));
    lined = λ c k. behind (k + 1) k p.width q.width (f.rest c k) (K.of (q.rows c (k + p.width))) (f.lined c k) (g.lined c (k + p.width));
  }

  pub h-with_rows : (own : Context → ℕ → Rows) {p : Fragment} → Later K p → Headed K (λ c k. K.of (own c k)) (with_rows own p)
  unfolding with_rows
  h-with_rows own {p} f = record { rest = λ c k. K.of (p.rows c k); is = λ c k. K.join (own c k) (p.rows c k); lined = f.lined }

  pub h-before : (a : Context → ℕ → Rows) {own : Context → ℕ → List X} {p : Fragment} → Headed K own p → Headed K (λ c k. K.of (a c k) ++ own c k) (with_rows a p)
  unfolding with_rows
  h-before a {own} {p} f = record {
    rest = f.rest;
    is = λ c k. K.join (a c k) (p.rows c k) ∙ ap (λ (xs : List X). K.of (a c k) ++ xs) (f.is c k) ∙ sym (append_assoc (K.of (a c k)) (own c k) (f.rest c k));
    lined = f.lined;
  }

  pub h-within : (around : Context → ℕ → Context) {own : Context → ℕ → List X} {p : Fragment} → Headed K own p → Headed K (λ c k. own (around c k) k) (within around p)
  unfolding within
  h-within around f = record { rest = λ c k. f.rest (around c k) k; is = λ c k. f.is (around c k) k; lined = λ c k. f.lined (around c k) k }

  pub o-within : (around : Context → ℕ → Context) {p : Fragment} → Ordered K p → Ordered K (within around p)
  unfolding within
  o-within around f = record { lined = λ c k. f.lined (around c k) k }

  pub l-within : (around : Context → ℕ → Context) {p : Fragment} → Later K p → Later K (within around p)
  unfolding within
  l-within around f = record { lined = λ c k. f.lined (around c k) k }

  pub o-headed : {own : Context → ℕ → List X} {p : Fragment} → Headed K own p → ((c : Context) (k : ℕ) → L k (k + 1) (own c k)) → Ordered K p
  o-headed {own} {p} f t = record {
    lined = λ c k.
        subst (λ (xs : List X). L k (k + p.width) xs) (sym (f.is c k)) (lined_both K.number K.next k (k + 1) (k + p.width) (own c k) (f.rest c k) (t c k) (f.lined c k));
  }

  pub n-headed : {own : Context → ℕ → List X} {p : Fragment} → Headed K own p → ((c : Context) (k : ℕ) (by : DeclGroup) → by.first ≡ k → L k (k + 1) (K.of (one_decl_group by) ++ own c k)) → Beside K p
  n-headed {own} {p} f t = record {
    lined = λ c k by e.
        subst (λ (xs : List X). L k (k + p.width) (K.of (one_decl_group by) ++ xs)) (sym (f.is c k))
        (subst (λ (xs : List X). L k (k + p.width) xs) (append_assoc (K.of (one_decl_group by)) (own c k) (f.rest c k))
        (lined_both K.number K.next k (k + 1) (k + p.width) (K.of (one_decl_group by) ++ own c k) (f.rest c k) (t c k by e) (f.lined c k)));
  }

  pub n-later : {p : Fragment} → Later K p → Beside K p
  n-later {p} f = record { lined = λ c k by e. lined_both K.number K.next k (k + 1) (k + p.width) (K.of (one_decl_group by)) (K.of (p.rows c k)) (K.decl_group k by e) (f.lined c k) }

  pub n-nothing : {q : Fragment} → Beside K q → Beside K (both nothing q)
  unfolding both nothing
  n-nothing {q} f = record {
    lined = λ c k by e.
        let s : k + 0 ≡ k = omega arith in
        let g : L (k + 0) (k + 0 + q.width) (K.of (one_decl_group by) ++ K.of (q.rows c (k + 0))) = f.lined c (k + 0) by (omega (arith, e)) in
        subst (λ (xs : List X). L k (k + (0 + q.width)) (K.of (one_decl_group by) ++ xs)) (sym (K.join no_rows (q.rows c (k + 0)) ∙ ap (λ (xs : List X). xs ++ K.of (q.rows c (k + 0))) K.none))
        (lower K.number K.next k (k + 0) (k + (0 + q.width)) (K.of (one_decl_group by) ++ K.of (q.rows c (k + 0))) (omega arith)
        (higher K.number K.next (k + 0) (k + 0 + q.width) (k + (0 + q.width)) (K.of (one_decl_group by) ++ K.of (q.rows c (k + 0))) (omega arith) g));
  }

  pub o-declaring : (decl_kind : DeclKind) {p : Fragment} → Beside K p → Ordered K (declaring decl_kind p)
  unfolding declaring
  o-declaring decl_kind {p} f = record {
    lined = λ c k.
        subst (λ (xs : List X). L k (k + p.width) xs) (sym (K.join (one_decl_group (decl_group decl_kind c k _)) (p.rows (declaring_at c k) k))) (f.lined (declaring_at c k) k _ refl);
  }

  -- ---- fragments without entries at their first token

  pub o-there : {Y : Type 0} (f : Y → Fragment) (o : Option Y) → ((y : Y) → Ordered K (f y)) → Ordered K (if_present f o)
  o-there f None w = o-nothing
  o-there f (Some y) w = w y

  pub o-so : (b : Bool) {p : Fragment} → Ordered K p → Ordered K (if_true b p)
  o-so true w = w
  o-so false w = o-nothing

  pub o-each : {Y : Type 0} (f : Y → Fragment) (ys : List Y) → ((y : Y) → Ordered K (f y)) → Ordered K (each f ys)
  o-each f [] w = o-nothing
  o-each f (y ∷ ys) w = o-both (w y) (o-each f ys w)

  pub o-map : {Y Z : Type 0} (f : Z → Fragment) (h : Y → Z) (ys : List Y) → ((y : Y) → Ordered K (f (h y))) → Ordered K (each f (map h ys))
  o-map f h [] w = o-nothing
  o-map f h (y ∷ ys) w = o-both (w y) (o-map f h ys w)

  pub o-separated : {Y : Type 0} (f : Y → Fragment) (l : OneOrMore Y) → ((y : Y) → Ordered K (f y)) → Ordered K (both (f l.first) (each_after f l.rest.items))
  o-separated f l w = o-both (w l.first) (o-each (λ y. both token (f y)) l.rest.items (λ y. o-both o-token (w y)))

  pub o-is : {p q : Fragment} → p ≡ q → Ordered K q → Ordered K p
  o-is e m = subst (Ordered K) (sym e) m

  pub n-is : {p q : Fragment} → p ≡ q → Beside K q → Beside K p
  n-is e m = subst (Beside K) (sym e) m

  pub o-use : (member : Option ℕ) → Ordered K (used member)
  o-use member = o-headed (h-with_rows _ l-token) (λ c k. K.used k _ refl)
