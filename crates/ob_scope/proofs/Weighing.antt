-- The uses of the aliases of a module, added up.
use Rattle.std.proofs.Common.{◌≡◌, ℕ, zero, suc, ◌<◌, ◌≤◌, ◌⊎◌, inl, inr, List, [], ◌∷◌, length, slice_get, Some, bytes_eq, Bool, true, false, if◌then◌else◌, sum_by, Contains, refl, sym, ap, ◌∙◌, subst, arith}
use Rattle.std.proofs.lemmas.Bool.{cases_Bool, false≢true}
use Rattle.std.proofs.lemmas.List.Sums.{sum_by-cons}
use Rattle.std.proofs.lemmas.Slice.Eq.{bytes_eq-Decides}
use Rattle.std.proofs.lemmas.Option.{slice_get_within}
use Rattle.ob_scan.specs.declared.token.Token.{Token}
use Rattle.ob_scan.specs.Texts.{text_at}
use Rattle.module_table.specs.declared.rows.Import.{Import}
use Rattle.module_table.specs.declared.rows.Used.{Used}
use Rattle.module_table.specs.Parts.{Rows}
use Rattle.scopes.specs.declared.members.Member.{Member}
use Rattle.module_table.specs.Order.{IsIncreasingBy}
use Rattle.scopes.specs.Members.{members_of}
use Rattle.scopes.specs.Scope.{HasNoDuplicates}
use Rattle.scopes.specs.QualifiedUses.{Counts, IsQualifiedBy, Crosses, HasWeight}
use Rattle.scopes.specs.Scoped.{AliasUses, IsAlias, AreAliases, ModuleScopes, AreScopes}
use Rattle.scopes.specs.Weights.{uses_of_import, uses_for, uses_of_all}
use Rattle.ob_scope.proofs.Ascending.{Ascends, ascends_by}
use Rattle.scopes.proofs.Counting.{counts-none, counts-same, counts-within, counts-either}
use Rattle.module_table.proofs.Elements.{slice_there}
use Rattle.scopes.proofs.Meanings.{at_from_contains, means_once}

-- an element of the list has the property
abbrev pub IsAny : {X : Type 0} → (X → Type 0) → List X → Type 0
IsAny P [] = ⊥
IsAny P (x ∷ xs) = P x ⊎ IsAny P xs

any-at : {X : Type 0} (P : X → Type 0) (xs : List X) (i : ℕ) (x : X) → slice_get xs i ≡ Some x → P x → IsAny P xs
any-at P [] i x e p = absurd cc
any-at P (y ∷ ys) zero x e p = let s : y ≡ x = cc in inl (subst (λ (z : _). P z) (sym s) p)
any-at P (y ∷ ys) (suc i) x e p = inr (any-at P ys i x e p)

any-contained : {X : Type 0} (P : X → Type 0) (xs : List X) (x : X) → Contains xs x → P x → IsAny P xs
any-contained P xs x c p = let a = at_from_contains xs x c in any-at P xs a.place x a.there p

-- the element is a member
contained : {X : Type 0} (P : X → Type 0) (xs : List X) → IsAny P xs → (x : X) × Contains xs x × P x
contained P [] h = absurd h
contained P (y ∷ ys) (inl p) = (y, (0, omega arith, refl), p)
contained P (y ∷ ys) (inr h) = let c = contained P ys h in (c.0, (suc c.1.0, (let l : c.1.0 < length ys = c.1.1 in omega arith), c.1.2), c.2)

-- its number is at least that of the first element
any-above : {X : Type 0} (P : X → Type 0) (f : X → ℕ) (low k : ℕ) (xs : List X) → Ascends f low xs → ((x : X) → P x → f x ≡ k) → IsAny P xs → low ≤ k
any-above P f low k [] a is h = absurd h
any-above P f low k (x ∷ xs) a is (inl p) = let e : f x ≡ k = is x p in let l : low ≤ f x = a.0 in omega arith
any-above P f low k (x ∷ xs) a is (inr h) =
    let g : suc (f x) ≤ k = any-above P f (suc (f x)) k xs a.1 is h in
    let l : low ≤ f x = a.0 in
    omega arith

-- if each alias counts uses of its own, the sum is the count of the uses that any alias qualifies
counts-total : (P : Import → Used → Type 0) (f : AliasUses → ℕ) (uses : List Used) → ((m n : Import) (u : Used) → P m u → P n u → m.alias ≡ n.alias) →
    (low : ℕ) (ms : List Import) (rows : List AliasUses) → Ascends (λ (m : Import). m.alias) low ms → length rows ≡ length ms →
    ((i : ℕ) (m : Import) (a : AliasUses) → slice_get ms i ≡ Some m → slice_get rows i ≡ Some a → Counts (P m) uses (f a)) →
    Counts (λ u. IsAny (λ m. P m u) ms) uses (sum_by f rows)
counts-total P f uses one low [] [] up as_many each = counts-none (λ u. IsAny (λ m. P m u) []) uses (λ u h. h)
counts-total P f uses one low [] (a ∷ rows) up as_many each = absurd (omega arith)
counts-total P f uses one low (m ∷ ms) [] up as_many each = absurd (omega arith)
counts-total P f uses one low (m ∷ ms) (a ∷ rows) up as_many each =
    rw (sum_by-cons f a rows) (counts-either (P m) (λ u. IsAny (λ n. P n u) ms) uses (f a) (sum_by f rows)
    (λ u p h. let l : suc m.alias ≤ m.alias = any-above (λ n. P n u) (λ (n : Import). n.alias) (suc m.alias) m.alias ms up.1 (λ n q. one n m u q p) h in omega arith)
    (each 0 m a refl refl)
    (counts-total P f uses one (suc m.alias) ms rows up.1 (omega arith) (λ i n b e g. each (suc i) n b e g)))

---- a qualified use is a use of one alias

one_alias : (name : ℕ → List ℕ) (r : Rows) (a b : ℕ) (u : Used) → HasNoDuplicates name (members_of r) → IsQualifiedBy name r.blocks (members_of r) a u → IsQualifiedBy name r.blocks (members_of r) b u → a ≡ b
one_alias name r a b u once p q =
    let same : p.declared ≡ q.declared = means_once name r.blocks (members_of r) u p.declared q.declared once p.means q.means in
    sym p.is_alias ∙ ap (λ (d : Member). d.number) same ∙ q.is_alias

-- the uses of an alias if it denotes the module, otherwise none
abbrev Of : (ℕ → List ℕ) → Rows → List ℕ → Import → Used → Type 0
Of name r imported m u = (name m.imported ≡ imported) × IsQualifiedBy name r.blocks (members_of r) m.alias u

of_one : (name : ℕ → List ℕ) (r : Rows) (imported : List ℕ) (m : Import) (a : AliasUses) → IsAlias name r m a → Counts (Of name r imported m) r.uses (uses_for imported a)
of_one name r imported m a is = elim (cases_Bool (bytes_eq a.imported imported)) [
  | inl t ↦ (let e : name m.imported ≡ imported = sym is.imported ∙ (bytes_eq-Decides a.imported imported).0 t in
      rw t (counts-same (IsQualifiedBy name r.blocks (members_of r) m.alias) (Of name r imported m) r.uses a.uses (λ u q. (e, q)) (λ u p. p.1) is.uses))
  | inr f ↦ rw f (counts-none (Of name r imported m) r.uses (λ u p. false≢true (sym f ∙ (bytes_eq-Decides a.imported imported).1 (is.imported ∙ p.0))))
]

crosses_any : (name : ℕ → List ℕ) (r : Rows) (imported : List ℕ) (u : Used) → Crosses name r imported u → IsAny (λ m. Of name r imported m u) r.imports
crosses_any name r imported u c = any-contained (λ m. Of name r imported m u) r.imports c.item c.is_item (c.of, c.qualified)

any_crosses : (name : ℕ → List ℕ) (r : Rows) (imported : List ℕ) (u : Used) → IsAny (λ m. Of name r imported m u) r.imports → Crosses name r imported u
any_crosses name r imported u h =
    let c = contained (λ m. Of name r imported m u) r.imports h in
    record { item = c.0; is_item = c.1; of = c.2.0; qualified = c.2.1 }

-- the items have the token numbers of their aliases
items_ascend : (name : ℕ → List ℕ) (r : Rows) (aliases : List AliasUses) → IsIncreasingBy (λ (a : AliasUses). a.alias) aliases → AreAliases name r aliases → Ascends (λ (m : Import). m.alias) 0 r.imports
items_ascend name r aliases up are =
    ascends_by (λ (m : Import). m.alias) 0 r.imports
    (λ i j x y below p q.
    let long : length aliases ≡ length r.imports = are.as_many in
    let v = slice_there aliases i (let s = slice_get_within r.imports i x p in omega (arith, s)) in
    let w = slice_there aliases j (let s = slice_get_within r.imports j y q in omega (arith, s)) in
    let h : v.0.alias < w.0.alias = up i j v.0 w.0 below v.1 w.1 in
    omega (arith, (are.each i x v.0 p v.1).alias, (are.each j y w.0 q w.1).alias))
    (λ x e. omega arith)

-- the weight of a module is the sum of the uses of its aliases
weight_sum : (name : ℕ → List ℕ) (r : Rows) (aliases : List AliasUses) (imported : List ℕ) → HasNoDuplicates name (members_of r) → Ascends (λ (m : Import). m.alias) 0 r.imports →
    AreAliases name r aliases → HasWeight name r imported (uses_of_import aliases imported)
weight_sum name r aliases imported once up are =
    let sum : Counts (λ u. IsAny (λ m. Of name r imported m u) r.imports) r.uses (sum_by (uses_for imported) aliases) =
    counts-total (Of name r imported) (uses_for imported) r.uses (λ m n u p q. one_alias name r m.alias n.alias u once p.1 q.1)
    0 r.imports aliases up are.as_many (λ i m a e g. of_one name r imported m a (are.each i m a e g)) in
    counts-same (λ u. IsAny (λ m. Of name r imported m u) r.imports) (Crosses name r imported) r.uses (uses_of_import aliases imported) (any_crosses name r imported) (crosses_any name r imported)
    sum

-- the aliases have at most as many uses as there are
pub uses_within : (name : ℕ → List ℕ) (r : Rows) (aliases : List AliasUses) → HasNoDuplicates name (members_of r) → IsIncreasingBy (λ (a : AliasUses). a.alias) aliases →
    AreAliases name r aliases → uses_of_all aliases ≤ length r.uses
uses_within name r aliases once up are =
    let sum = counts-total (λ m u. IsQualifiedBy name r.blocks (members_of r) m.alias u) (λ a. a.uses) r.uses (λ m n u p q. one_alias name r m.alias n.alias u once p q)
    0 r.imports aliases (items_ascend name r aliases up are) are.as_many (λ i m a e g. (are.each i m a e g).uses) in
    counts-within _ r.uses _ sum

pub weight_of_aliases : (bytes : List ℕ) (ts : List Token) (r : Rows) (s : ModuleScopes) (imported : List ℕ) →
    AreScopes bytes ts r s → HasWeight (text_at bytes ts) r imported (uses_of_import s.aliases imported)
weight_of_aliases bytes ts r s imported a = weight_sum (text_at bytes ts) r s.aliases imported a.once (items_ascend (text_at bytes ts) r s.aliases a.aliases_ordered a.aliased) a.aliased

pub weights_are_bounded : (bytes : List ℕ) (ts : List Token) (r : Rows) (s : ModuleScopes) → AreScopes bytes ts r s → uses_of_all s.aliases ≤ length r.uses
weights_are_bounded bytes ts r s a = uses_within (text_at bytes ts) r s.aliases a.once a.aliases_ordered a.aliased

-- the uses of a module's aliases are at most those of all aliases
pub across_within : (rows : List AliasUses) (imported : List ℕ) → uses_of_import rows imported ≤ uses_of_all rows
across_within [] imported = omega arith
across_within (a ∷ rows) imported =
    let h : uses_of_import rows imported ≤ uses_of_all rows = across_within rows imported in
    let g : uses_for imported a ≤ a.uses = go (bytes_eq a.imported imported) in
    rw (sum_by-cons (uses_for imported) a rows, sum_by-cons (λ (x : AliasUses). x.uses) a rows) (omega arith)
  where
    go : (b : Bool) → (if b then a.uses else 0) ≤ a.uses
    go true = omega arith
    go false = omega arith
