-- Fragments of a tree that declare nothing.
use Rattle.std.proofs.Common.{◌≡◌, ℕ, ◌+◌, Bool, true, false, List, [], ◌∷◌, ◌++◌, map, Option, Some, None, refl, sym, ap, ap₂, subst}
use Rattle.module_table.specs.declared.rows.Record.{Record}
use Rattle.module_table.specs.declared.rows.Declared.{Declared}
use Rattle.module_table.specs.declared.rows.TypePart.{TypePart}
use Rattle.module_table.specs.declared.rows.DeclGroup.{DeclGroup}
use Rattle.module_table.specs.Parts.{Fragment, Rows, no_rows, joined, nothing, token, both, with_rows, if_present, if_true, each}
use Rattle.table_rules.specs.Expressions.{used}
use Rattle.table_laws.proofs.Bare.{Context}
use Rattle.table_rules.proofs.Quiet as quiet
use Rattle.table_rules.proofs.Quiet.{Quiet}

-- the records, the type components, the declaration groups and the declared identifiers
pub record Told : Type 0 where
  pub records : List Record
  pub parts : List TypePart
  pub decl_groups : List DeclGroup
  pub declared : List Declared

abbrev pub told : Rows → Told
told r = record { records = r.records; parts = r.parts; decl_groups = r.decl_groups; declared = r.declared }

abbrev pub none : Told
none = record { records = []; parts = []; decl_groups = []; declared = [] }

abbrev pub and : Told → Told → Told
and a b = record { records = a.records ++ b.records; parts = a.parts ++ b.parts; decl_groups = a.decl_groups ++ b.decl_groups; declared = a.declared ++ b.declared }

pub record Plain (p : Fragment) : Type 0 where
  pub none : (c : Context) (k : ℕ) → told (p.rows c k) ≡ none

-- a fragment that only looks names up declares nothing
pub plain : {p : Fragment} → Quiet p → Plain p
plain f = record { none = λ c k. ap (λ (t : quiet.Told). record { records = t.records; parts = t.parts; decl_groups = t.decl_groups; declared = t.declared }) (f.none c k) }

pub b-nothing : Plain nothing
unfolding nothing no_rows
b-nothing = record { none = λ c k. refl }

pub b-token : Plain token
unfolding token no_rows
b-token = record { none = λ c k. refl }

pub b-both : {p q : Fragment} → Plain p → Plain q → Plain (both p q)
unfolding both joined
b-both {p} {q} f g = record { none = λ c k. ap₂ and (f.none c k) (g.none c (k + p.width)) }

pub b-with_rows : (own : Context → ℕ → Rows) {p : Fragment} → ((c : Context) (k : ℕ) → told (own c k) ≡ none) → Plain p → Plain (with_rows own p)
unfolding with_rows joined
b-with_rows own n f = record { none = λ c k. ap₂ and (n c k) (f.none c k) }

pub b-there : {X : Type 0} (f : X → Fragment) (o : Option X) → ((x : X) → Plain (f x)) → Plain (if_present f o)
b-there f None w = b-nothing
b-there f (Some x) w = w x

pub b-so : (b : Bool) {p : Fragment} → Plain p → Plain (if_true b p)
b-so true w = w
b-so false w = b-nothing

pub b-each : {X : Type 0} (f : X → Fragment) (xs : List X) → ((x : X) → Plain (f x)) → Plain (each f xs)
b-each f [] w = b-nothing
b-each f (x ∷ xs) w = b-both (w x) (b-each f xs w)

pub b-map : {X Y : Type 0} (f : Y → Fragment) (h : X → Y) (xs : List X) → ((x : X) → Plain (f (h x))) → Plain (each f (map h xs))
b-map f h [] w = b-nothing
b-map f h (x ∷ xs) w = b-both (w x) (b-map f h xs w)

pub b-is : {p q : Fragment} → p ≡ q → Plain q → Plain p
b-is {p} {q} e m = subst Plain (sym e) m

pub b-use : (member : Option ℕ) → Plain (used member)
b-use member = b-with_rows _ (λ c k. refl) b-token

-- a first token with entries
pub b-first : (own : Context → ℕ → Rows) {p : Fragment} → ((c : Context) (k : ℕ) → told (own c k) ≡ none) → Plain p → Plain (with_rows own (both token p))
b-first own n f = b-with_rows own n (b-both b-token f)
