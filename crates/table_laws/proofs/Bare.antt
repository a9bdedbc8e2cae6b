-- Fragments of a tree that contain no record.
use Rattle.std.proofs.Common.{◌≡◌, ℕ, ◌+◌, Bool, true, false, List, [], ◌∷◌, ◌++◌, map, Option, Some, None, refl, sym, ap, ap₂, subst}
use Rattle.ob_tree.specs.declared.name.OneOrMore.{OneOrMore}
use Rattle.module_table.specs.declared.rows.Record.{Record}
use Rattle.module_table.specs.declared.rows.DeclKind.{DeclKind}
use Rattle.module_table.specs.Parts.{Fragment, Rows, no_rows, joined, nothing, token, both, with_rows, within, if_present, if_true, each, declaring, opens_block}
use Rattle.table_rules.specs.Expressions.{each_after, used}
use Rattle.table_rules.specs.Types.{declared_row}
use Rattle.table_rules.proofs.Quiet.{Quiet, Told}

abbrev domain : {A B : Type 0} → (A → B) → Type 0
domain {A} f = A

-- the context of a fragment
abbrev pub Context : Type 0
Context = domain token.rows

pub record Bare (p : Fragment) : Type 0 where
  pub none : (c : Context) (k : ℕ) → (p.rows c k).records ≡ []

pub b-nothing : Bare nothing
unfolding nothing no_rows
b-nothing = record { none = λ c k. refl }

pub b-token : Bare token
unfolding token no_rows
b-token = record { none = λ c k. refl }

pub b-both : {p q : Fragment} → Bare p → Bare q → Bare (both p q)
unfolding both joined
b-both {p} {q} f g = record { none = λ c k. ap₂ (λ (xs ys : List Record). xs ++ ys) (f.none c k) (g.none c (k + p.width)) }

pub b-with_rows : (own : Context → ℕ → Rows) {p : Fragment} → ((c : Context) (k : ℕ) → (own c k).records ≡ []) → Bare p → Bare (with_rows own p)
unfolding with_rows joined
b-with_rows own n f = record { none = λ c k. ap₂ (λ (xs ys : List Record). xs ++ ys) (n c k) (f.none c k) }

pub b-within : (around : Context → ℕ → Context) {p : Fragment} → Bare p → Bare (within around p)
unfolding within
b-within around f = record { none = λ c k. f.none (around c k) k }

pub b-declaring : (decl_kind : DeclKind) {p : Fragment} → Bare p → Bare (declaring decl_kind p)
unfolding declaring joined
b-declaring decl_kind f = record { none = λ c k. f.none _ k }

pub b-opens_block : {p : Fragment} → Bare p → Bare (opens_block p)
b-opens_block f = b-with_rows _ (λ c k. refl) (b-within _ f)

pub b-there : {X : Type 0} (f : X → Fragment) (o : Option X) → ((x : X) → Bare (f x)) → Bare (if_present f o)
b-there f None w = b-nothing
b-there f (Some x) w = w x

pub b-so : (b : Bool) {p : Fragment} → Bare p → Bare (if_true b p)
b-so true w = w
b-so false w = b-nothing

pub b-each : {X : Type 0} (f : X → Fragment) (xs : List X) → ((x : X) → Bare (f x)) → Bare (each f xs)
b-each f [] w = b-nothing
b-each f (x ∷ xs) w = b-both (w x) (b-each f xs w)

pub b-map : {X Y : Type 0} (f : Y → Fragment) (h : X → Y) (xs : List X) → ((x : X) → Bare (f (h x))) → Bare (each f (map h xs))
b-map f h [] w = b-nothing
b-map f h (x ∷ xs) w = b-both (w x) (b-map f h xs w)

pub b-separated : {X : Type 0} (f : X → Fragment) (l : OneOrMore X) → ((x : X) → Bare (f x)) → Bare (both (f l.first) (each_after f l.rest.items))
b-separated f l w = b-both (w l.first) (b-each (λ x. both token (f x)) l.rest.items (λ x. b-both b-token (w x)))

pub b-is : {p q : Fragment} → p ≡ q → Bare q → Bare p
b-is {p} {q} e m = subst Bare (sym e) m

pub b-use : (member : Option ℕ) → Bare (used member)
b-use member = b-with_rows _ (λ c k. refl) b-token

pub b-declared : (is_exported : Bool) → Bare (with_rows (declared_row is_exported) token)
b-declared is_exported = b-with_rows _ (λ c k. refl) b-token

-- a first token with entries
pub b-first : (own : Context → ℕ → Rows) {p : Fragment} → ((c : Context) (k : ℕ) → (own c k).records ≡ []) → Bare p → Bare (with_rows own (both token p))
b-first own n f = b-with_rows own n (b-both b-token f)

-- a fragment that only looks names up contains no record
pub bare : {p : Fragment} → Quiet p → Bare p
bare f = record { none = λ c k. ap (λ (t : Told). t.records) (f.none c k) }
