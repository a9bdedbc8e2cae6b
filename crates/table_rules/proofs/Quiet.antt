-- Fragments that only look names up: they contain no declaration, type, block, import or name after END, and look names up in
-- the block around them.
use Rattle.std.proofs.Common.{◌≡◌, ℕ, zero, suc, ◌+◌, ◌<◌, ◌≤◌, inl, inr, arith, Bool, true, false, List, [], ◌∷◌, ◌++◌, Option, Some, None, refl, sym, ap, ap₂, subst}
use Rattle.std.specs.Prelude.{Contains}
use Rattle.std.proofs.lemmas.List.Elements.{Contains-append_cases}
use Rattle.module_table.specs.declared.builder.Context.{Context}
use Rattle.module_table.specs.declared.rows.Block.{Block}
use Rattle.module_table.specs.declared.rows.Declared.{Declared}
use Rattle.module_table.specs.declared.rows.DeclGroup.{DeclGroup}
use Rattle.module_table.specs.declared.rows.End.{End}
use Rattle.module_table.specs.declared.rows.TypePart.{TypePart}
use Rattle.module_table.specs.declared.rows.Import.{Import}
use Rattle.module_table.specs.declared.rows.Record.{Record}
use Rattle.module_table.specs.declared.rows.Used.{Used}
use Rattle.module_table.specs.Parts.{Fragment, Rows, no_rows, joined, nothing, token, both, with_rows, if_present, if_true}
use Rattle.table_rules.specs.Expressions.{used}

-- all entries other than uses
pub record Told : Type 0 where
  pub declared : List Declared
  pub decl_groups : List DeclGroup
  pub ends : List End
  pub records : List Record
  pub parts : List TypePart
  pub imports : List Import
  pub blocks : List Block

abbrev pub told : Rows → Told
told r = record { declared = r.declared; decl_groups = r.decl_groups; ends = r.ends; records = r.records; parts = r.parts; imports = r.imports; blocks = r.blocks }

abbrev pub untold : Told
untold = record { declared = []; decl_groups = []; ends = []; records = []; parts = []; imports = []; blocks = [] }

abbrev beside : Told → Told → Told
beside a b = record {
  declared = a.declared ++ b.declared;
  decl_groups = a.decl_groups ++ b.decl_groups;
  ends = a.ends ++ b.ends;
  records = a.records ++ b.records;
  parts = a.parts ++ b.parts;
  imports = a.imports ++ b.imports;
  blocks = a.blocks ++ b.blocks;
}

-- the uses are in this block, between two tokens
abbrev pub UsedIn : ℕ → ℕ → ℕ → Used → Type 0
UsedIn b low high u = (u.block ≡ b) × (low ≤ u.number) × (u.number < high)

no_use : {P : Type 0} (u : Used) → Contains [] u → P
no_use u (i, l, e) = absurd (omega arith)

pub record Quiet (p : Fragment) : Type 0 where
  pub none : (c : Context) (k : ℕ) → told (p.rows c k) ≡ untold
  pub context : (c : Context) (k : ℕ) (u : Used) → Contains (p.rows c k).uses u → UsedIn c.block k (k + p.width) u

pub q-nothing : Quiet nothing
unfolding nothing no_rows
q-nothing = record { none = λ c k. refl; context = λ c k u h. no_use u h }

pub q-token : Quiet token
unfolding token no_rows
q-token = record { none = λ c k. refl; context = λ c k u h. no_use u h }

pub q-both : {p q : Fragment} → Quiet p → Quiet q → Quiet (both p q)
unfolding both joined
q-both {p} {q} f g = record {
  none = λ c k. ap₂ beside (f.none c k) (g.none c (k + p.width));
  context = λ c k u h. elim (Contains-append_cases (p.rows c k).uses (q.rows c (k + p.width)).uses u h) [
    | inl l ↦ (let i = f.context c k u l in let v : u.number < k + p.width = i.2 in (i.0, i.1, omega arith))
    | inr r ↦ (let i = g.context c (k + p.width) u r in let v : k + p.width ≤ u.number = i.1 in let w : u.number < k + p.width + q.width = i.2 in (i.0, omega arith, omega arith))
  ];
}

-- a fragment preceded by entries without uses
pub q-with_rows : (own : Context → ℕ → Rows) {p : Fragment} → ((c : Context) (k : ℕ) → told (own c k) ≡ untold) → ((c : Context) (k : ℕ) → (own c k).uses ≡ []) → Quiet p → Quiet (with_rows own p)
unfolding with_rows joined
q-with_rows own {p} n u f = record {
  none = λ c k. ap₂ beside (n c k) (f.none c k);
  context = λ c k x h. f.context c k x (subst (λ (us : List Used). Contains (us ++ (p.rows c k).uses) x) (u c k) h);
}

pub q-there : {X : Type 0} (f : X → Fragment) (o : Option X) → ((x : X) → Quiet (f x)) → Quiet (if_present f o)
q-there f None w = q-nothing
q-there f (Some x) w = w x

pub q-so : (b : Bool) {p : Fragment} → Quiet p → Quiet (if_true b p)
q-so true w = w
q-so false w = q-nothing

only : (x u : Used) → Contains (x ∷ []) u → x ≡ u
only x u (zero, l, e) = e
only x u (suc i, l, e) = absurd (omega arith)

pub q-use : (member : Option ℕ) → Quiet (used member)
unfolding with_rows token joined no_rows
q-use member = record { none = λ c k. refl; context = λ c k u h. (let e = only _ u h in (ap (λ (x : Used). x.block) (sym e), (let n = ap (λ (x : Used). x.number) e in omega arith), (let n = ap (λ (x : Used). x.number) e in omega arith))) }
