-- Parts of a tree whose entries contain each of their identifiers: the entries mirror the event sequence, with an entry for each
-- identifier, and each entry has identifiers of its role.
use Rattle.std.proofs.Common.{◌≡◌, ℕ, zero, suc, ◌+◌, inl, inr, Bool, true, false, List, [], ◌∷◌, ◌++◌, Option, Some, None, refl, ap, subst, arith}
use Rattle.std.specs.Prelude.{Contains}
use Rattle.std.proofs.lemmas.List.Elements.{Contains-append_left, Contains-append_right, Contains-append_cases}
use Rattle.ob_scan.specs.declared.kind.Kind.{Kind}
use Rattle.ob_scan.specs.declared.kind.Kind.TheVariants as kinds
use Rattle.ob_tree.specs.Constructs.{Construct}
use Rattle.ob_tree.specs.Constructs as constructs
use Rattle.ob_tree.specs.declared.expression.Literal.{Literal}
use Rattle.ob_tree.specs.declared.role.Role.{Role}
use Rattle.ob_tree.specs.declared.role.Role.TheVariants.{Declares, Aliases, Imports, Uses, Completes, Selects, Names, Repeats}
use Rattle.ob_tree.specs.TreeEvents.{Events, Begins, Ends, Identifier, Value, Word, construct, word, completed, imported}
use Rattle.ob_tree.specs.TreeEvents.{if_present as outline_there, if_true as outline_so}
use Rattle.module_table.specs.declared.rows.Declared.{Declared}
use Rattle.module_table.specs.declared.rows.End.{End}
use Rattle.module_table.specs.declared.rows.Import.{Import}
use Rattle.module_table.specs.declared.rows.Selector.{Selector}
use Rattle.module_table.specs.declared.rows.DeclKind.{DeclKind}
use Rattle.module_table.specs.declared.rows.Step.TheVariants as steps
use Rattle.module_table.specs.declared.rows.Used.{Used}
use Rattle.module_table.specs.declared.builder.Context.{Context}
use Rattle.table_rules.specs.Declaring.{named_by, outermost}
use Rattle.table_rules.specs.Expressions.{SelectorPhrase, after_dot, first_name, selector_rows, used}
use Rattle.table_rules.specs.Naming.{IsNamed}
use Rattle.table_rules.specs.Naming as names
use Rattle.module_table.specs.Parts.{Fragment, Rows, no_rows, joined, nothing, token, both, with_rows, within, if_present, if_true, each, declaring, opens_block, one_decl_group, one_end, one_import, one_used, these_selectors, decl_group, declaring_at}
use Rattle.table_rules.specs.Types.{declared_row}
use Rattle.module_table.specs.Tables.{module_name_token}
use Rattle.table_rules.proofs.Compatible.{IsNoField}
use Rattle.table_rules.proofs.Roles.{Each, HasRole, HaveRoles, NameNothing, OfSelector, common_role, role_at, roles_first, roles_joined, roles_later, roles_of_none, roles_of_unnamed, roles_second, roles_split}
use Rattle.table_rules.proofs.Mirrored.{IsDeclaring, Mirrors, aliases_it, declared_numbers, m-both, m-declared, m-declaring, m-first_declares, m-first_uses, m-held, m-name, m-nothing, m-with_rows, m-use, m-value, m-within, m-word, used_numbers, width_of}

-- this holds of the place of each identifier of an event sequence, if its first token has this one
unfoldable pub AtNames : (ℕ → Type 0) → ℕ → Events → Type 0
AtNames P k [] = Unit {0}
AtNames P k (Begins c n ∷ ms) = AtNames P k ms
AtNames P k (Ends c ∷ ms) = AtNames P k ms
AtNames P k (Identifier r n ∷ ms) = P k × AtNames P (suc k) ms
AtNames P k (Value l n ∷ ms) = AtNames P (suc k) ms
AtNames P k (Word w ∷ ms) = AtNames P (suc k) ms

at_both : (P : ℕ → Type 0) (k : ℕ) (a b : Events) → AtNames P k a → AtNames P (k + width_of a) b → AtNames P k (a ++ b)
unfolding AtNames
at_both P k [] b f g = subst (λ (n : ℕ). AtNames P n b) (omega arith) g
at_both P k (Begins c n ∷ ms) b f g = at_both P k ms b f g
at_both P k (Ends c ∷ ms) b f g = at_both P k ms b f g
at_both P k (Identifier r n ∷ ms) b f g = (f.0, at_both P (suc k) ms b f.1 (subst (λ (n : ℕ). AtNames P n b) (omega arith) g))
at_both P k (Value l n ∷ ms) b f g = at_both P (suc k) ms b f (subst (λ (n : ℕ). AtNames P n b) (omega arith) g)
at_both P k (Word w ∷ ms) b f g = at_both P (suc k) ms b f (subst (λ (n : ℕ). AtNames P n b) (omega arith) g)

at_all : (P Q : ℕ → Type 0) (k : ℕ) (o : Events) → ((n : ℕ) → P n → Q n) → AtNames P k o → AtNames Q k o
unfolding AtNames
at_all P Q k [] w f = tt
at_all P Q k (Begins c n ∷ ms) w f = at_all P Q k ms w f
at_all P Q k (Ends c ∷ ms) w f = at_all P Q k ms w f
at_all P Q k (Identifier r n ∷ ms) w f = (w k f.0, at_all P Q (suc k) ms w f.1)
at_all P Q k (Value l n ∷ ms) w f = at_all P Q (suc k) ms w f
at_all P Q k (Word w2 ∷ ms) w f = at_all P Q (suc k) ms w f

-- ---- entries among others

record AreAmong (a b : Rows) : Type 0 where
  imports : (x : Import) → Contains a.imports x → Contains b.imports x
  declared : (x : Declared) → Contains a.declared x → Contains b.declared x
  ends : (x : End) → Contains a.ends x → Contains b.ends x
  uses : (x : Used) → Contains a.uses x → Contains b.uses x
  selectors : (x : Selector) → Contains a.selectors x → Contains b.selectors x

among_first : (a b : Rows) → AreAmong a (joined a b)
unfolding joined
among_first a b = record {
  imports = Contains-append_left a.imports b.imports;
  declared = Contains-append_left a.declared b.declared;
  ends = Contains-append_left a.ends b.ends;
  uses = Contains-append_left a.uses b.uses;
  selectors = Contains-append_left a.selectors b.selectors;
}

among_second : (a b : Rows) → AreAmong b (joined a b)
unfolding joined
among_second a b = record {
  imports = Contains-append_right a.imports b.imports;
  declared = Contains-append_right a.declared b.declared;
  ends = Contains-append_right a.ends b.ends;
  uses = Contains-append_right a.uses b.uses;
  selectors = Contains-append_right a.selectors b.selectors;
}

among_later : (a b c : Rows) → AreAmong a b → AreAmong b c → AreAmong a c
among_later a b c f g = record {
  imports = λ x h. g.imports x (f.imports x h);
  declared = λ x h. g.declared x (f.declared x h);
  ends = λ x h. g.ends x (f.ends x h);
  uses = λ x h. g.uses x (f.uses x h);
  selectors = λ x h. g.selectors x (f.selectors x h);
}

either : {X : Type 0} (xs ys zs : List X) (x : X) → (Contains xs x → Contains zs x) → (Contains ys x → Contains zs x) → Contains (xs ++ ys) x → Contains zs x
either xs ys zs x f g h = elim (Contains-append_cases xs ys x h) [ inl l ↦ f l | inr r ↦ g r ]

among_joined : (a b c : Rows) → AreAmong a c → AreAmong b c → AreAmong (joined a b) c
unfolding joined
among_joined a b c f g = record {
  imports = λ x. either a.imports b.imports c.imports x (f.imports x) (g.imports x);
  declared = λ x. either a.declared b.declared c.declared x (f.declared x) (g.declared x);
  ends = λ x. either a.ends b.ends c.ends x (f.ends x) (g.ends x);
  uses = λ x. either a.uses b.uses c.uses x (f.uses x) (g.uses x);
  selectors = λ x. either a.selectors b.selectors c.selectors x (f.selectors x) (g.selectors x);
}

named_among : (a b : Rows) → AreAmong a b → (k : ℕ) → IsNamed a k → IsNamed b k
named_among a b f k (names.own e) = names.own e
named_among a b f k (names.imported i h e) = names.imported i (f.imports i h) e
named_among a b f k (names.declared d h e) = names.declared d (f.declared d h) e
named_among a b f k (names.ended x h e) = names.ended x (f.ends x h) e
named_among a b f k (names.used u h e) = names.used u (f.uses u h) e
named_among a b f k (names.selected s h e) = names.selected s (f.selectors s h) e
named_among a b f k (names.second u h e) = names.second u (f.uses u h) e

at_among : (a b : Rows) (k : ℕ) (o : Events) → AreAmong a b → AtNames (IsNamed a) k o → AtNames (IsNamed b) k o
at_among a b k o f h = at_all (IsNamed a) (IsNamed b) k o (named_among a b f) h

-- ---- pieces and event sequences

pub record Named (p : Fragment) (o : Events) : Type 0 where
  pub mirrors : Mirrors p o
  pub has_row : (c : Context) (k : ℕ) → AtNames (IsNamed (p.rows c k)) k o
  pub has_role : (c : Context) (k : ℕ) → HaveRoles (HasRole k o) (p.rows c k)

pub n-nothing : Named nothing []
unfolding AtNames nothing
n-nothing = record { mirrors = m-nothing; has_row = λ c k. tt; has_role = λ c k. roles_of_none (HasRole k []) }

pub n-word : (w : Kind) → Named token (word w)
unfolding AtNames token
n-word w = record { mirrors = m-word w; has_row = λ c k. tt; has_role = λ c k. roles_of_none (HasRole k (word w)) }

pub n-value : (l : Literal) (n : ℕ) → Named token (Value l n ∷ [])
unfolding AtNames token
n-value l n = record { mirrors = m-value l n; has_row = λ c k. tt; has_role = λ c k. roles_of_none (HasRole k (Value l n ∷ [])) }

pub n-both : {p q : Fragment} {a b : Events} → Named p a → Named q b → Named (both p q) (a ++ b)
unfolding both
n-both {p} {q} {a} {b} f g = record {
  mirrors = m-both f.mirrors g.mirrors;
  has_row = λ c k.
      let R = joined (p.rows c k) (q.rows c (k + p.width)) in
      at_both (IsNamed R) k a b (at_among (p.rows c k) R k a (among_first (p.rows c k) (q.rows c (k + p.width))) (f.has_row c k))
      (subst (λ (w : ℕ). AtNames (IsNamed R) (k + w) b) f.mirrors.width
      (at_among (q.rows c (k + p.width)) R (k + p.width) b (among_second (p.rows c k) (q.rows c (k + p.width))) (g.has_row c (k + p.width))));
  has_role = λ c k.
      roles_joined (HasRole k (a ++ b)) (p.rows c k) (q.rows c (k + p.width)) (roles_first k a b (p.rows c k) (f.has_role c k))
      (roles_second k p.width a b (q.rows c (k + p.width)) f.mirrors.width (g.has_role c (k + p.width)));
}

pub n-held : (x : Construct) {p : Fragment} {o : Events} → Named p o → Named p (construct x o)
unfolding construct AtNames
n-held x {p} {o} f = record {
  mirrors = m-held x f.mirrors;
  has_row = λ c k. at_both (IsNamed (p.rows c k)) k o (Ends x ∷ []) (f.has_row c k) tt;
  has_role = λ c k. roles_first k o (Ends x ∷ []) (p.rows c k) (f.has_role c k);
}

-- entries of its own that neither declare nor look up
n-own_rows : (own : Context → ℕ → Rows) {p : Fragment} {o : Events} → ((c : Context) (k : ℕ) → declared_numbers (own c k) ≡ []) → ((c : Context) (k : ℕ) → used_numbers (own c k) ≡ []) →
    ((c : Context) (k : ℕ) → HaveRoles (HasRole k o) (own c k)) → Named p o → Named (with_rows own p) o
unfolding with_rows
n-own_rows own {p} {o} d u t f = record {
  mirrors = m-with_rows own d u f.mirrors;
  has_row = λ c k. at_among (p.rows c k) (joined (own c k) (p.rows c k)) k o (among_second (own c k) (p.rows c k)) (f.has_row c k);
  has_role = λ c k. roles_joined (HasRole k o) (own c k) (p.rows c k) (t c k) (f.has_role c k);
}

pub n-with_rows : (own : Context → ℕ → Rows) {p : Fragment} {o : Events} → ((c : Context) (k : ℕ) → NameNothing (own c k)) → Named p o → Named (with_rows own p) o
n-with_rows own {p} {o} silent f = n-own_rows own (λ c k. ap declared_numbers (silent c k)) (λ c k. ap used_numbers (silent c k)) (λ c k. roles_of_unnamed (HasRole k o) (own c k) (silent c k)) f

pub n-within : (around : Context → ℕ → Context) {p : Fragment} {o : Events} → Named p o → Named (within around p) o
unfolding within
n-within around f = record { mirrors = m-within around f.mirrors; has_row = λ c k. f.has_row (around c k) k; has_role = λ c k. f.has_role (around c k) k }

pub n-declaring : (decl_kind : DeclKind) {p : Fragment} {o : Events} → Named p o → Named (declaring decl_kind p) o
unfolding declaring
n-declaring decl_kind {p} {o} f = record {
  mirrors = m-declaring decl_kind f.mirrors;
  has_row = λ c k.
      let own = one_decl_group (decl_group decl_kind c k _) in
      at_among (p.rows (declaring_at c k) k) (joined own (p.rows (declaring_at c k) k)) k o (among_second own (p.rows (declaring_at c k) k)) (f.has_row (declaring_at c k) k);
  has_role = λ c k. roles_joined (HasRole k o) (one_decl_group (decl_group decl_kind c k _)) (p.rows (declaring_at c k) k) (tt, tt, tt, tt, tt) (f.has_role (declaring_at c k) k);
}

pub n-opens_block : {p : Fragment} {o : Events} → Named p o → Named (opens_block p) o
n-opens_block f = n-with_rows _ (λ c k. refl) (n-within _ f)

pub n-so : (b : Bool) {p : Fragment} {o : Events} → Named p o → Named (if_true b p) (outline_so b o)
n-so true w = w
n-so false w = n-nothing

-- ---- identifiers

at_front : {X : Type 0} (x : X) (xs : List X) → Contains (x ∷ xs) x
at_front x xs = (zero, omega arith, refl)

-- a name alone
pub n-use : (n : ℕ) → Named (used None) (Identifier Uses n ∷ [])
unfolding AtNames with_rows token joined no_rows
n-use n = record { mirrors = m-use None n; has_row = λ c k. (names.used _ (at_front _ []) refl, tt); has_role = λ c k. (tt, tt, tt, (((zero, omega arith, refl), λ j e. absurd cc), tt), tt) }

pub n-declared : (is_exported : Bool) (n : ℕ) → Named (with_rows (declared_row is_exported) token) (Identifier (Declares is_exported) n ∷ [])
unfolding AtNames with_rows token joined no_rows
n-declared is_exported n = record {
  mirrors = m-declared is_exported n;
  has_row = λ c k. (names.declared _ (at_front _ []) refl, tt);
  has_role = λ c k. (tt, ((zero, omega arith, refl), tt), tt, tt, tt);
}

-- the name after END
pub n-ends : (of : Context → ℕ → Option ℕ) (m n : ℕ) → Named (with_rows (λ c k. one_end (record { number = k; of = of c k })) token) (Identifier (Repeats m) n ∷ [])
unfolding AtNames with_rows token joined no_rows
n-ends of m n = record {
  mirrors = m-with_rows (λ c k. one_end (record { number = k; of = of c k })) (λ c k. refl) (λ c k. refl) (m-name (Repeats m) n (λ k. refl) (λ k. refl));
  has_row = λ c k. (names.ended _ (at_front _ []) refl, tt);
  has_role = λ c k. (tt, tt, ((zero, omega arith, refl), tt), tt, tt);
}

-- a first token that is declared
pub n-first_declares : (is_exported : Bool) {p : Fragment} {o : Events} {r : Role} → IsDeclaring r → common_role r ≡ Aliases → (n : ℕ) → Named p o → Named (with_rows (declared_row is_exported) (both token p)) (Identifier r n ∷ o)
unfolding AtNames with_rows both token
n-first_declares is_exported {p} {o} {r} role kind n f = record {
  mirrors = m-first_declares (declared_row is_exported) role n (λ c k. refl) (λ c k. refl) f.mirrors;
  has_row = λ c k.
      let own = declared_row is_exported c k in
      let rest = p.rows c (k + 1) in
      let R = joined own (joined no_rows rest) in (
        named_among own R (among_first own (joined no_rows rest)) k (names.declared _ (at_front _ []) refl),
        subst (λ (i : ℕ). AtNames (IsNamed R) i o) (omega arith)
            (at_among rest R (k + 1) o (among_later rest (joined no_rows rest) R (among_second no_rows rest) (among_second own (joined no_rows rest))) (f.has_row c (k + 1))),
      );
  has_role = λ c k.
      let P = HasRole k (Identifier r n ∷ o) in
      let rest = p.rows c (k + 1) in
      roles_joined P (declared_row is_exported c k) (joined no_rows rest) (tt, ((zero, omega arith, ap Some kind), tt), tt, tt, tt)
      (roles_joined P no_rows rest (roles_of_none P) (roles_later k n r o rest (f.has_role c (k + 1))));
}

-- the name after a dot
member_role : (k n i j : ℕ) (r : Role) → Some (k + 2) ≡ Some j → HasRole k (Identifier Uses n ∷ Word kinds.Dot ∷ Identifier r i ∷ []) (common_role r) j
member_role k n i j r e = let f : k + 2 ≡ j = cc in (2, f, refl)

-- the second name of a qualident
pub n-qualified : (member : Option ℕ) (n : ℕ) → Named (both (used member) (if_present (λ m. both token token) member)) (Identifier Uses n ∷ outline_there (λ m. word kinds.Dot ++ completed m) member)
unfolding AtNames with_rows both token joined no_rows
n-qualified None n = n-both (n-use n) n-nothing
n-qualified (Some m) n = record {
  mirrors = m-both (m-use (Some m) n) (m-both (m-word kinds.Dot) (m-name Completes m (λ k. refl) (λ k. refl)));
  has_row = λ c k. (names.used _ (at_front _ []) refl, (names.second _ (at_front _ []) (ap Some (omega arith)), tt));
  has_role = λ c k. (tt, tt, tt, (((zero, omega arith, refl), λ j e. member_role k n m j Completes e), tt), tt);
}

-- a name as a type, with what makes its use a target or not
pub n-type_use_row : (is_target : Option ℕ → Context → Bool) (member : Option ℕ) (n : ℕ) →
    Named (with_rows (λ c k. one_used (record { number = k; block = c.block; is_target = is_target member c; member = after_dot member k })) (both token (if_present (λ m. both token token) member)))
    (Identifier Uses n ∷ outline_there (λ m. word kinds.Dot ++ completed m) member)
unfolding AtNames nothing with_rows both token joined no_rows
n-type_use_row t None n = record {
  mirrors = m-first_uses (λ c k. one_used (record { number = k; block = c.block; is_target = t None c; member = after_dot None k })) n (λ c k. refl) (λ c k. refl) m-nothing;
  has_row = λ c k. (names.used _ (at_front _ []) refl, tt);
  has_role = λ c k. (tt, tt, tt, (((zero, omega arith, refl), λ j e. absurd cc), tt), tt);
}
n-type_use_row t (Some m) n = record {
  mirrors = m-first_uses (λ c k. one_used (record { number = k; block = c.block; is_target = t (Some m) c; member = after_dot (Some m) k })) n (λ c k. refl) (λ c k. refl) (m-both (m-word kinds.Dot) (m-name Completes m (λ k. refl) (λ k. refl)));
  has_row = λ c k. (names.used _ (at_front _ []) refl, (names.second _ (at_front _ []) (ap Some (omega arith)), tt));
  has_role = λ c k. (tt, tt, tt, (((zero, omega arith, refl), λ j e. member_role k n m j Completes e), tt), tt);
}

-- an import item: its alias, and the module that it names
pub n-item : (of : Option ℕ) (n : ℕ) →
    Named (with_rows (λ c k. one_import (record { alias = k; imported = named_by of k })) (with_rows (declared_row false) (both token (if_present (λ m. both token token) of))))
    (Identifier Aliases n ∷ outline_there (λ m. word kinds.Assign ++ imported m) of)
unfolding AtNames nothing with_rows both token joined no_rows
n-item None n = n-own_rows (λ c k. one_import (record { alias = k; imported = named_by None k })) (λ c k. refl) (λ c k. refl) (λ c k. ((((zero, omega arith, refl), inl refl), tt), tt, tt, tt, tt)) (n-first_declares false aliases_it refl n n-nothing)
n-item (Some m) n = record {
  mirrors = m-with_rows (λ c k. one_import (record { alias = k; imported = named_by (Some m) k })) (λ c k. refl) (λ c k. refl) (m-first_declares (declared_row false) aliases_it n (λ c k. refl) (λ c k. refl) (m-both (m-word kinds.Assign) (m-name Imports m (λ k. refl) (λ k. refl))));
  has_row = λ c k. (names.declared _ (at_front _ []) refl, (names.imported _ (at_front _ []) (omega arith), tt));
  has_role = λ c k. ((((zero, omega arith, refl), inr (2, refl, refl)), tt), ((zero, omega arith, refl), tt), tt, tt, tt);
}

-- ---- selectors

abbrev pub selector_row : ℕ → SelectorPhrase → Context → ℕ → Rows
selector_row head s c k = these_selectors (record { of = head; step = s.step k } ∷ [])

abbrev pub rows_from : ℕ → List SelectorPhrase → Context → ℕ → Rows
rows_from head ss c k = these_selectors (selector_rows head ss k)

abbrev pieces_of : List SelectorPhrase → Fragment
pieces_of ss = each (λ (s : SelectorPhrase). s.piece) ss

-- a dot and a name
pub n-field : (head n : ℕ) → Named (with_rows (λ c k. these_selectors (record { of = head; step = steps.Field (k + 1) } ∷ [])) (both token token)) (Word kinds.Dot ∷ Identifier Selects n ∷ [])
unfolding AtNames with_rows both token joined no_rows
n-field head n = record {
  mirrors = m-with_rows (λ c k. these_selectors (record { of = head; step = steps.Field (k + 1) } ∷ [])) (λ c k. refl) (λ c k. refl) (m-both (m-word kinds.Dot) (m-name Selects n (λ k. refl) (λ k. refl)));
  has_row = λ c k. (names.selected _ (at_front _ []) (ap steps.Field (omega arith)), tt);
  has_role = λ c k. (tt, tt, tt, tt, (λ j e. (let f : k + 1 ≡ j = cc in (1, f, refl)), tt));
}

-- a selector that is no dot and name
pub n-other : (head : ℕ) (s : SelectorPhrase) {o : Events} → IsNoField s → Named s.piece o → Named (with_rows (selector_row head s) s.piece) o
n-other head s other f = n-own_rows (selector_row head s) (λ c k. refl) (λ c k. refl) (λ c k. (tt, tt, tt, tt, (λ j e. absurd (other.step k j e), tt))) f

-- a piece without the selectors that are contributed before it
untold : (own : Context → ℕ → List Selector) {p : Fragment} {o : Events} → Mirrors (with_rows (λ c k. these_selectors (own c k)) p) o → Mirrors p o
unfolding with_rows joined
untold own f = record { width = f.width; declares = f.declares; uses = f.uses }

pub n-none : (head : ℕ) → Named (with_rows (rows_from head []) (pieces_of [])) []
n-none head = n-with_rows (rows_from head []) (λ c k. refl) n-nothing

selectors_first : (s : Selector) (ss : List Selector) → AreAmong (these_selectors (s ∷ [])) (these_selectors (s ∷ ss))
selectors_first s ss = record { imports = λ x h. h; declared = λ x h. h; ends = λ x h. h; uses = λ x h. h; selectors = Contains-append_left (s ∷ []) ss }

selectors_rest : (s : Selector) (ss : List Selector) → AreAmong (these_selectors ss) (these_selectors (s ∷ ss))
selectors_rest s ss = record { imports = λ x h. h; declared = λ x h. h; ends = λ x h. h; uses = λ x h. h; selectors = Contains-append_right (s ∷ []) ss }

among_both : (a b c d : Rows) → AreAmong a c → AreAmong b d → AreAmong (joined a b) (joined c d)
among_both a b c d f g = among_joined a b (joined c d) (among_later a c (joined c d) f (among_first c d)) (among_later b d (joined c d) g (among_second c d))

pub n-more : (head : ℕ) (s : SelectorPhrase) (ss : List SelectorPhrase) {a b : Events} → Named (with_rows (selector_row head s) s.piece) a → Named (with_rows (rows_from head ss) (pieces_of ss)) b →
    Named (with_rows (rows_from head (s ∷ ss)) (both s.piece (pieces_of ss))) (a ++ b)
unfolding with_rows both
n-more head s ss {a} {b} f g = record {
  mirrors = m-with_rows (rows_from head (s ∷ ss)) (λ c k. refl) (λ c k. refl) (m-both (untold (λ c k. record { of = head; step = s.step k } ∷ []) f.mirrors) (untold (λ c k. selector_rows head ss k) g.mirrors));
  has_row = λ c k.
      let own : Selector = record { of = head; step = s.step k } in
      let j = k + s.piece.width in
      let rest = selector_rows head ss j in
      let P = s.piece.rows c k in
      let Q = (pieces_of ss).rows c j in
      let R = joined (these_selectors (own ∷ rest)) (joined P Q) in
      at_both (IsNamed R) k a b
      (at_among (joined (these_selectors (own ∷ [])) P) R k a (among_both (these_selectors (own ∷ [])) P (these_selectors (own ∷ rest)) (joined P Q) (selectors_first own rest) (among_first P Q)) (f.has_row c k))
      (subst (λ (w : ℕ). AtNames (IsNamed R) (k + w) b) f.mirrors.width
      (at_among (joined (these_selectors rest) Q) R j b (among_both (these_selectors rest) Q (these_selectors (own ∷ rest)) (joined P Q) (selectors_rest own rest) (among_second P Q)) (g.has_row c j)));
  has_role = λ c k.
      let own : Selector = record { of = head; step = s.step k } in
      let j = k + s.piece.width in
      let rest = selector_rows head ss j in
      let P = s.piece.rows c k in
      let Q = (pieces_of ss).rows c j in
      let T = HasRole k (a ++ b) in
      let first = roles_split T (these_selectors (own ∷ [])) P (roles_first k a b (joined (these_selectors (own ∷ [])) P) (f.has_role c k)) in
      let others = roles_split T (these_selectors rest) Q (roles_second k s.piece.width a b (joined (these_selectors rest) Q) f.mirrors.width (g.has_role c j)) in
      roles_joined T (these_selectors (own ∷ rest)) (joined P Q) (tt, tt, tt, tt, (first.0.4.0, others.0.4)) (roles_joined T P Q first.1 others.1);
}

-- if a selector selects a name, its step is the number of the name's token
abbrev pub HasNameStep : SelectorPhrase → Type 0
HasNameStep s = (m k : ℕ) → s.name ≡ Some m → s.step k ≡ steps.Field (k + 1)

abbrev pub FirstHasNameStep : List SelectorPhrase → Type 0
FirstHasNameStep [] = Unit {0}
FirstHasNameStep (s ∷ ss) = HasNameStep s

behind_first : (o : Option ℕ) (k n : ℕ) → after_dot o k ≡ Some n → (m : ℕ) × (o ≡ Some m) × (k + 2 ≡ n)
behind_first None k n e = absurd cc
behind_first (Some m) k n e = (m, refl, cc)

-- a designator's second name is the name of its first selector
second_role : (P : Role → ℕ → Type 0) (head k n : ℕ) (ss : List SelectorPhrase) → FirstHasNameStep ss → Each (OfSelector P) (selector_rows head ss (k + 1)) → after_dot (first_name ss) k ≡ Some n → P Selects n
second_role P head k n [] dot all e = absurd cc
second_role P head k n (s ∷ ss) dot all e =
    let r = behind_first s.name k n e in
    subst (P Selects) (let g : k + 2 ≡ n = r.2 in omega (arith, g)) (all.0 (k + 1 + 1) (dot r.0 (k + 1) r.1))

use_row : (member : Option ℕ) (c : Context) (k : ℕ) → IsNamed ((used member).rows c k) k
unfolding with_rows token joined no_rows
use_row member c k = names.used _ (at_front _ []) refl

use_role : (P : Role → ℕ → Type 0) (member : Option ℕ) (c : Context) (k : ℕ) → P Uses k → ((n : ℕ) → after_dot member k ≡ Some n → P Selects n) → HaveRoles P ((used member).rows c k)
unfolding with_rows token joined no_rows
use_role P member c k first second = (tt, tt, tt, ((first, second), tt), tt)

-- a designator: its head, and its selectors after it
pub n-designated : (row : Context → ℕ → Rows) (ss : List SelectorPhrase) (n : ℕ) {o : Events} → ((c : Context) (k : ℕ) → NameNothing (row c k)) → FirstHasNameStep ss → ((head : ℕ) → Named (with_rows (rows_from head ss) (pieces_of ss)) o) →
    Named (with_rows row (with_rows (λ c k. these_selectors (selector_rows k ss (k + 1))) (both (used (first_name ss)) (pieces_of ss)))) (Identifier Uses n ∷ o)
unfolding AtNames with_rows both token
n-designated row ss n {o} silent dot f = record {
  mirrors = m-with_rows row (λ c k. ap declared_numbers (silent c k)) (λ c k. ap used_numbers (silent c k))
      (m-with_rows (λ c k. these_selectors (selector_rows k ss (k + 1))) (λ c k. refl) (λ c k. refl) (m-both (m-use (first_name ss) n) (untold (λ c k. selector_rows 0 ss k) (f 0).mirrors)));
  has_row = λ c k.
      let own = these_selectors (selector_rows k ss (k + 1)) in
      let P = (used (first_name ss)).rows c k in
      let Q = (pieces_of ss).rows c (k + 1) in
      let I = joined own (joined P Q) in
      let R = joined (row c k) I in (
        named_among P R (among_later P I R (among_later P (joined P Q) I (among_first P Q) (among_second own (joined P Q))) (among_second (row c k) I)) k (use_row (first_name ss) c k),
        subst (λ (i : ℕ). AtNames (IsNamed R) i o) (omega arith)
            (at_among (joined own Q) R (k + 1) o
            (among_later (joined own Q) I R (among_joined own Q I (among_first own (joined P Q)) (among_later Q (joined P Q) I (among_second P Q) (among_second own (joined P Q)))) (among_second (row c k) I))
            ((f k).has_row c (k + 1))),
      );
  has_role = λ c k.
      let own = these_selectors (selector_rows k ss (k + 1)) in
      let Q = (pieces_of ss).rows c (k + 1) in
      let T = HasRole k (Identifier Uses n ∷ o) in
      let behind = roles_split T own Q (roles_later k n Uses o (joined own Q) ((f k).has_role c (k + 1))) in
      let second = λ (j : ℕ) (e : after_dot (first_name ss) k ≡ Some j). second_role T k k j ss dot behind.0.4 e in
      roles_joined T (row c k) (joined own (joined ((used (first_name ss)).rows c k) Q)) (roles_of_unnamed T (row c k) (silent c k))
      (roles_joined T own (joined ((used (first_name ss)).rows c k) Q) behind.0 (roles_joined T ((used (first_name ss)).rows c k) Q (use_role T (first_name ss) c k (zero, omega arith, refl) second) behind.1));
}

-- ---- modules

-- a module whose first token and name are before a part
pub named_module : (n : ℕ) {p : Fragment} {o : Events} → Named p o →
    AtNames (IsNamed ((both token (both token p)).rows outermost 0)) 0 (construct constructs.Module (Word kinds.Module ∷ Identifier Names n ∷ o))
unfolding AtNames construct both token
named_module n {p} {o} f =
    let rest = p.rows outermost 2 in
    let R = joined no_rows (joined no_rows rest) in (
      names.own refl,
      at_both (IsNamed R) 2 o (Ends constructs.Module ∷ []) (at_among rest R 2 o (among_later rest (joined no_rows rest) R (among_second no_rows rest) (among_second no_rows (joined no_rows rest))) (f.has_row outermost 2)) tt,
    )

pub role_of_name : (n : ℕ) (o : Events) → role_at (construct constructs.Module (Word kinds.Module ∷ Identifier Names n ∷ o)) module_name_token ≡ Some Names
unfolding construct
role_of_name n o = refl

pub named_module_roles : (n : ℕ) {p : Fragment} {o : Events} → Named p o → HaveRoles (HasRole 0 (construct constructs.Module (Word kinds.Module ∷ Identifier Names n ∷ o))) ((both token (both token p)).rows outermost 0)
unfolding construct both token
named_module_roles n {p} {o} f =
    let whole = Word kinds.Module ∷ Identifier Names n ∷ o in
    let T = HasRole 0 (construct constructs.Module whole) in
    let rest = p.rows outermost 2 in
    roles_joined T no_rows (joined no_rows rest) (roles_of_none T) (roles_joined T no_rows rest (roles_of_none T)
    (roles_first 0 whole (Ends constructs.Module ∷ []) rest (roles_second 0 2 (Word kinds.Module ∷ Identifier Names n ∷ []) o rest refl (f.has_role outermost 2))))
