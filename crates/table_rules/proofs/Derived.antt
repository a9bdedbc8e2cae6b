-- If a tree derives tokens, the positions of its identifiers are their indices.
use Rattle.std.proofs.Common.{◌≡◌, ℕ, zero, suc, ◌+◌, ◌<◌, ◌≤◌, inl, inr, List, [], ◌∷◌, ◌++◌, length, get_or, map, Some, refl, sym, ap, ap₂, ◌∙◌, subst, arith}
use Rattle.std.specs.Prelude.{Contains, slice_get}
use Rattle.std.proofs.lemmas.Option.{get_or_from_slice_get, slice_get-get_or, slice_get_within}
use Rattle.ob_scan.specs.declared.kind.Kind.{Kind}
use Rattle.ob_scan.specs.declared.kind.Kind.TheVariants as kinds
use Rattle.ob_tree.specs.declared.declaration.Module.{Module}
use Rattle.ob_tree.specs.declared.expression.Literal.{Literal}
use Rattle.ob_tree.specs.declared.role.Role.{Role}
use Rattle.ob_tree.specs.declared.role.Role.TheVariants.{Declares, Aliases, Imports, Uses, Completes, Selects, Names, Repeats}
use Rattle.ob_tree.specs.declared.token.Leaf.{Leaf}
use Rattle.ob_tree.specs.declared.token.Leaf.TheVariants as leafs
use Rattle.ob_tree.specs.Declaring.{declarations_events, module_events}
use Rattle.ob_tree.specs.Derives.{Derives, declared_in, end_names_in, used_in, spelling}
use Rattle.ob_tree.proofs.EndNames.{append_module_end_names}
use Rattle.ob_tree.specs.Leaves.{leaf_of, leaves_from}
use Rattle.ob_tree.specs.TreeEvents.{Events, Begins, Ends, Identifier, Value, Word, construct, tokens_of}
use Rattle.module_table.specs.declared.rows.Declared.{Declared}
use Rattle.module_table.specs.declared.rows.Import.{Import}
use Rattle.module_table.specs.declared.rows.Used.{Used}
use Rattle.module_table.specs.Order.{IsIncreasingBy}
use Rattle.module_table.specs.Tables.{module_name_token}
use Rattle.table_rules.specs.Declaring.{rows_of, outermost}
use Rattle.table_rules.specs.Naming.{IsNamed, ending_of}
use Rattle.table_rules.proofs.Closing.{AreCounted, module_closes}
use Rattle.table_rules.proofs.LinedModules.{rows_in_order}
use Rattle.table_rules.proofs.Mirrored.{declares_at, uses_at}
use Rattle.table_rules.proofs.Named.{AtNames}
use Rattle.table_rules.proofs.Roles.{HasRole, OfDeclared, OfImport, OfUse, each_one, role_at}
use Rattle.table_rules.proofs.NamedModules.{m-module, module_named, module_roles}

-- one token with the tokens after it
record IsStep (k : ℕ) (l : Leaf) (ls : List Leaf) : Type 0 where
  kind : Kind
  rest : List Kind
  head : leaf_of k kind ≡ l
  tail : leaves_from (suc k) rest ≡ ls

step : (k : ℕ) (ks : List Kind) (l : Leaf) (ls : List Leaf) → leaves_from k ks ≡ l ∷ ls → IsStep k l ls
step k [] l ls e = absurd cc
step k (x ∷ ks) l ls e =
    let n : suc k ≡ k + 1 = omega arith in
    record { kind = x; rest = ks; head = cc; tail = ap (λ (j : ℕ). leaves_from j ks) n ∙ cc }

-- an identifier has its token's number
number_of : (k n : ℕ) (x : Kind) → leaf_of k x ≡ leafs.Name n → k ≡ n
number_of k n kinds.Ident e = cc
number_of k n x e = absurd cc

counted_derived : (k : ℕ) (ks : List Kind) (o : Events) → leaves_from k ks ≡ tokens_of o → AreCounted k o
unfolding AreCounted
counted_derived k ks [] e = tt
counted_derived k ks (Begins c m ∷ ms) e = counted_derived k ks ms e
counted_derived k ks (Ends c ∷ ms) e = counted_derived k ks ms e
counted_derived k ks (Identifier r m ∷ ms) e =
    let s = step k ks (leafs.Name m) (tokens_of ms) e in
    (sym (number_of k m s.kind s.head), counted_derived (suc k) s.rest ms s.tail)
counted_derived k ks (Value l m ∷ ms) e = let s = step k ks (leafs.Value l m) (tokens_of ms) e in counted_derived (suc k) s.rest ms s.tail
counted_derived k ks (Word w ∷ ms) e = let s = step k ks (leafs.Word w) (tokens_of ms) e in counted_derived (suc k) s.rest ms s.tail

declares_counted : (k : ℕ) (o : Events) → AreCounted k o → declares_at k o ≡ declared_in o
unfolding AreCounted
declares_counted k [] h = refl
declares_counted k (Begins c n ∷ ms) h = declares_counted k ms h
declares_counted k (Ends c ∷ ms) h = declares_counted k ms h
declares_counted k (Identifier (Declares is_exported) n ∷ ms) h = ap₂ (λ (i : ℕ) (is : List ℕ). i ∷ is) (sym h.0) (declares_counted (suc k) ms h.1)
declares_counted k (Identifier Aliases n ∷ ms) h = ap₂ (λ (i : ℕ) (is : List ℕ). i ∷ is) (sym h.0) (declares_counted (suc k) ms h.1)
declares_counted k (Identifier Imports n ∷ ms) h = declares_counted (suc k) ms h.1
declares_counted k (Identifier Uses n ∷ ms) h = declares_counted (suc k) ms h.1
declares_counted k (Identifier Completes n ∷ ms) h = declares_counted (suc k) ms h.1
declares_counted k (Identifier Selects n ∷ ms) h = declares_counted (suc k) ms h.1
declares_counted k (Identifier Names n ∷ ms) h = declares_counted (suc k) ms h.1
declares_counted k (Identifier (Repeats r) n ∷ ms) h = declares_counted (suc k) ms h.1
declares_counted k (Value l n ∷ ms) h = declares_counted (suc k) ms h
declares_counted k (Word w ∷ ms) h = declares_counted (suc k) ms h

uses_counted : (k : ℕ) (o : Events) → AreCounted k o → uses_at k o ≡ used_in o
unfolding AreCounted
uses_counted k [] h = refl
uses_counted k (Begins c n ∷ ms) h = uses_counted k ms h
uses_counted k (Ends c ∷ ms) h = uses_counted k ms h
uses_counted k (Identifier (Declares is_exported) n ∷ ms) h = uses_counted (suc k) ms h.1
uses_counted k (Identifier Aliases n ∷ ms) h = uses_counted (suc k) ms h.1
uses_counted k (Identifier Imports n ∷ ms) h = uses_counted (suc k) ms h.1
uses_counted k (Identifier Uses n ∷ ms) h = ap₂ (λ (i : ℕ) (is : List ℕ). i ∷ is) (sym h.0) (uses_counted (suc k) ms h.1)
uses_counted k (Identifier Completes n ∷ ms) h = uses_counted (suc k) ms h.1
uses_counted k (Identifier Selects n ∷ ms) h = uses_counted (suc k) ms h.1
uses_counted k (Identifier Names n ∷ ms) h = uses_counted (suc k) ms h.1
uses_counted k (Identifier (Repeats r) n ∷ ms) h = uses_counted (suc k) ms h.1
uses_counted k (Value l n ∷ ms) h = uses_counted (suc k) ms h
uses_counted k (Word w ∷ ms) h = uses_counted (suc k) ms h

pub counted_declared : (ks : List Kind) (m : Module) → Derives ks m → map (λ (d : Declared). d.number) (rows_of m).declared ≡ declared_in (module_events m)
counted_declared ks m d = (m-module m).declares outermost 0 ∙ declares_counted 0 (module_events m) (counted_derived 0 ks (module_events m) d)

pub counted_used : (ks : List Kind) (m : Module) → Derives ks m → map (λ (u : Used). u.number) (rows_of m).uses ≡ used_in (module_events m)
counted_used ks m d = (m-module m).uses outermost 0 ∙ uses_counted 0 (module_events m) (counted_derived 0 ks (module_events m) d)

-- ---- the kinds of identifiers

ident_of : (k n : ℕ) (x : Kind) → leaf_of k x ≡ leafs.Name n → x ≡ kinds.Ident
ident_of k n kinds.Ident e = refl
ident_of k n x e = absurd cc

tail_of : (k : ℕ) (x : Kind) (ks : List Kind) (l : Leaf) (ls : List Leaf) → leaves_from k (x ∷ ks) ≡ l ∷ ls → leaves_from (suc k) ks ≡ ls
tail_of k x ks l ls e = let t : leaves_from (k + 1) ks ≡ ls = cc in let s : suc k ≡ k + 1 = omega arith in ap (λ (j : ℕ). leaves_from j ks) s ∙ t

-- a token that has a role is an identifier
role_ident : (o : Events) (k : ℕ) (ks : List Kind) (i : ℕ) (r : Role) → leaves_from k ks ≡ tokens_of o → role_at o i ≡ Some r → slice_get ks i ≡ Some kinds.Ident
role_ident [] k ks i r e h = absurd cc
role_ident (Begins c m ∷ ms) k ks i r e h = role_ident ms k ks i r e h
role_ident (Ends c ∷ ms) k ks i r e h = role_ident ms k ks i r e h
role_ident (Identifier s m ∷ ms) k [] i r e h = absurd cc
role_ident (Identifier s m ∷ ms) k (x ∷ ks) zero r e h = let head : leaf_of k x ≡ leafs.Name m = cc in ap Some (ident_of k m x head)
role_ident (Identifier s m ∷ ms) k (x ∷ ks) (suc i) r e h = role_ident ms (suc k) ks i r (tail_of k x ks (leafs.Name m) (tokens_of ms) e) h
role_ident (Value l m ∷ ms) k ks zero r e h = absurd cc
role_ident (Value l m ∷ ms) k [] (suc i) r e h = absurd cc
role_ident (Value l m ∷ ms) k (x ∷ ks) (suc i) r e h = role_ident ms (suc k) ks i r (tail_of k x ks (leafs.Value l m) (tokens_of ms) e) h
role_ident (Word w ∷ ms) k ks zero r e h = absurd cc
role_ident (Word w ∷ ms) k [] (suc i) r e h = absurd cc
role_ident (Word w ∷ ms) k (x ∷ ks) (suc i) r e h = role_ident ms (suc k) ks i r (tail_of k x ks (leafs.Word w) (tokens_of ms) e) h

module _ (ks : List Kind) (m : Module) (e : Derives ks m) where
  abbrev P : Role → ℕ → Type 0
  P = HasRole 0 (module_events m)

  ident_at : (r : Role) (n : ℕ) → P r n → slice_get ks n ≡ Some kinds.Ident
  ident_at r n h = subst (λ (j : ℕ). slice_get ks j ≡ Some kinds.Ident) (let f : 0 + h.0 ≡ n = h.1 in omega (arith, f)) (role_ident (module_events m) 0 ks h.0 r e h.2)

  pub declared_ident : (d : Declared) → Contains (rows_of m).declared d → slice_get ks d.number ≡ Some kinds.Ident
  declared_ident d h = ident_at Aliases d.number (each_one (OfDeclared P) (rows_of m).declared d (module_roles m).1 h)

  pub used_ident : (u : Used) → Contains (rows_of m).uses u → slice_get ks u.number ≡ Some kinds.Ident
  used_ident u h = ident_at Uses u.number (each_one (OfUse P) (rows_of m).uses u (module_roles m).3 h).0

  pub imported_ident : (i : Import) → Contains (rows_of m).imports i → slice_get ks i.imported ≡ Some kinds.Ident
  imported_ident i h =
      let role = each_one (OfImport P) (rows_of m).imports i (module_roles m).0 h in
      elim role.1 [
        | inl same ↦ subst (λ (n : ℕ). slice_get ks n ≡ Some kinds.Ident) same (ident_at Aliases i.alias role.0)
        | inr named ↦ ident_at Imports i.imported named
      ]

-- ---- the number of uses

module _ {X : Type 0} (n : X → ℕ) (xs : List X) (up : IsIncreasingBy n xs) where
  at_least : (i : ℕ) (x : X) → slice_get xs i ≡ Some x → i ≤ n x
  at_least zero x e = omega arith
  at_least (suc i) x e =
      let within = slice_get_within xs (suc i) x e in
      let before = slice_get-get_or xs i x (omega arith) in
      let l : n (get_or xs i x) < n x = up i (suc i) (get_or xs i x) x (omega arith) before e in
      let m : i ≤ n (get_or xs i x) = at_least i (get_or xs i x) before in
      omega (arith, l, m)

  at_most : (k high : ℕ) → length xs ≡ suc k → ((x : X) → Contains xs x → n x < high) → (d : X) → length xs ≤ high
  at_most k high long below d =
      let last = get_or xs k d in
      let there : slice_get xs k ≡ Some last = slice_get-get_or xs k d (omega (arith, long)) in
      let low : k ≤ n last = at_least k last there in
      let l : n last < high = below last (k, omega (arith, long), get_or_from_slice_get xs k last last there) in
      omega (arith, low, l, long)

few_below : {X : Type 0} (n : X → ℕ) (xs : List X) (high : ℕ) → IsIncreasingBy n xs → ((x : X) → Contains xs x → n x < high) → length xs ≤ high
few_below n [] high up below = omega arith
few_below n (x ∷ xs) high up below = at_most n (x ∷ xs) up (length xs) high (omega arith) below x

pub uses_few : (ks : List Kind) (m : Module) → Derives ks m → length (rows_of m).uses ≤ length ks
uses_few ks m d =
    few_below (λ (u : Used). u.number) (rows_of m).uses (length ks) (rows_in_order m).uses (λ u h. slice_get_within ks u.number kinds.Ident (used_ident ks m d u h))

-- the second token of a module is its name
name_spelled : (m : Module) → (l : Leaf) × (ls : List Leaf) × (spelling m ≡ l ∷ leafs.Name m.name ∷ ls)
unfolding module_events construct
name_spelled m = (_, _, refl)

second : (ks : List Kind) (l : Leaf) (n : ℕ) (ls : List Leaf) → leaves_from 0 ks ≡ l ∷ leafs.Name n ∷ ls → (n ≡ module_name_token) × (slice_get ks module_name_token ≡ Some kinds.Ident)
second [] l n ls e = absurd cc
second (x ∷ []) l n ls e = absurd cc
second (x ∷ y ∷ ks) l n ls e = let s : leaf_of 1 y ≡ leafs.Name n = cc in (sym (number_of 1 n y s), ap Some (ident_of 1 n y s))

pub own_ident : (ks : List Kind) (m : Module) → Derives ks m → (m.name ≡ module_name_token) × (slice_get ks module_name_token ≡ Some kinds.Ident)
own_ident ks m d = let (l, ls, e) = name_spelled m in second ks l m.name ls (d ∙ e)

pub counted_endings : (ks : List Kind) (m : Module) → Derives ks m → map ending_of (rows_of m).ends ≡ end_names_in (module_events m)
counted_endings ks m d =
    module_closes m outermost (counted_derived 0 ks (module_events m) d)
    ∙ ap (λ (n : ℕ). end_names_in (declarations_events m.declarations) ++ (n, m.end_name) ∷ []) (sym (own_ident ks m d).0) ∙ sym (append_module_end_names m)

-- ---- each identifier

no_value : (k : ℕ) (x : Kind) (ks : List Kind) (l : Literal) (n : ℕ) (ls : List Leaf) → leaves_from k (x ∷ ks) ≡ leafs.Value l n ∷ ls → Some x ≡ Some kinds.Ident → ⊥
no_value k x ks l n ls e g =
    let h : leaf_of k x ≡ leafs.Value l n = cc in
    let i : x ≡ kinds.Ident = cc in
    let j : leafs.Name k ≡ leafs.Value l n = subst (λ (y : Kind). leaf_of k y ≡ leafs.Value l n) i h in cc

no_word : (k : ℕ) (x : Kind) (ks : List Kind) (w : Kind) (ls : List Leaf) → leaves_from k (x ∷ ks) ≡ leafs.Word w ∷ ls → Some x ≡ Some kinds.Ident → ⊥
no_word k x ks w ls e g =
    let h : leaf_of k x ≡ leafs.Word w = cc in
    let i : x ≡ kinds.Ident = cc in
    let j : leafs.Name k ≡ leafs.Word w = subst (λ (y : Kind). leaf_of k y ≡ leafs.Word w) i h in cc

module _ (P : ℕ → Type 0) where
  moved_on : (k i : ℕ) → P (suc k + i) → P (k + suc i)
  moved_on k i h = subst P (omega arith) h

  -- a property of all positions of identifiers holds for each token that is an identifier
  at_each : (o : Events) (k : ℕ) (ks : List Kind) (i : ℕ) → leaves_from k ks ≡ tokens_of o → AtNames P k o → slice_get ks i ≡ Some kinds.Ident → P (k + i)
  unfolding AtNames
  at_each [] k [] i e a g = absurd cc
  at_each [] k (x ∷ ks) i e a g = absurd cc
  at_each (Begins c m ∷ ms) k ks i e a g = at_each ms k ks i e a g
  at_each (Ends c ∷ ms) k ks i e a g = at_each ms k ks i e a g
  at_each (Identifier r m ∷ ms) k [] i e a g = absurd cc
  at_each (Identifier r m ∷ ms) k (x ∷ ks) zero e a g = subst P (omega arith) a.0
  at_each (Identifier r m ∷ ms) k (x ∷ ks) (suc i) e a g = moved_on k i (at_each ms (suc k) ks i (tail_of k x ks (leafs.Name m) (tokens_of ms) e) a.1 g)
  at_each (Value l m ∷ ms) k [] i e a g = absurd cc
  at_each (Value l m ∷ ms) k (x ∷ ks) zero e a g = absurd (no_value k x ks l m (tokens_of ms) e g)
  at_each (Value l m ∷ ms) k (x ∷ ks) (suc i) e a g = moved_on k i (at_each ms (suc k) ks i (tail_of k x ks (leafs.Value l m) (tokens_of ms) e) a g)
  at_each (Word w ∷ ms) k [] i e a g = absurd cc
  at_each (Word w ∷ ms) k (x ∷ ks) zero e a g = absurd (no_word k x ks w (tokens_of ms) e g)
  at_each (Word w ∷ ms) k (x ∷ ks) (suc i) e a g = moved_on k i (at_each ms (suc k) ks i (tail_of k x ks (leafs.Word w) (tokens_of ms) e) a g)

pub each_named : (ks : List Kind) (m : Module) (k : ℕ) → Derives ks m → slice_get ks k ≡ Some kinds.Ident → IsNamed (rows_of m) k
each_named ks m k d g = subst (IsNamed (rows_of m)) (omega arith) (at_each (IsNamed (rows_of m)) (module_events m) 0 ks k d (module_named m) g)
