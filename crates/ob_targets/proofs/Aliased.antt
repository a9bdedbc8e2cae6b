-- An import item's alias is declared in the module's block, as an import.
use Rattle.std.proofs.Common.{◌≡◌, ℕ, zero, suc, ◌+◌, ◌<◌, inl, inr, false, List, [], ◌∷◌, ◌++◌, Option, Some, None, refl, sym, ap, subst, arith}
use Rattle.std.specs.Prelude.{Contains}
use Rattle.std.proofs.lemmas.List.Elements.{Contains-append_left, Contains-append_right, Contains-append_cases}
use Rattle.ob_tree.specs.declared.declaration.ImportItem.{ImportItem}
use Rattle.ob_tree.specs.declared.declaration.Module.{Module}
use Rattle.ob_scan.specs.declared.kind.Kind.TheVariants as kinds
use Rattle.ob_tree.specs.declared.name.OneOrMore.{OneOrMore}
use Rattle.ob_tree.specs.TreeEvents.{Events, word}
use Rattle.ob_tree.specs.Statements.{block_events}
use Rattle.module_table.specs.declared.builder.Context.{Context}
use Rattle.module_table.specs.declared.rows.Declared.{Declared}
use Rattle.module_table.specs.declared.rows.DeclGroup.{DeclGroup}
use Rattle.module_table.specs.declared.rows.Import.{Import}
use Rattle.module_table.specs.declared.rows.DeclKind.TheVariants as decl_kinds
use Rattle.module_table.specs.declared.rows.Used.{Used}
use Rattle.module_table.specs.Parts.{Fragment, Rows, no_rows, joined, nothing, token, both, with_rows, declaring, one_import}
use Rattle.module_table.specs.Parts.{if_present as there, each as pieces}
use Rattle.table_rules.specs.Declaring.{import_inner, import_rows, imports_rows, module_rows, named_by, outermost, rows_of}
use Rattle.table_rules.specs.Statements.{block_rows}
use Rattle.table_rules.specs.Types.{declared_row}
use Rattle.table_rules.proofs.Compatible.{c-there}
use Rattle.table_rules.proofs.FormedModules.{f-declarations, n-end}
use Rattle.table_rules.proofs.Roles.{HasRole, OfUse, each_one}
use Rattle.table_rules.proofs.Named.{Named, n-both, n-ends, n-word}
use Rattle.table_rules.proofs.NamedExpressions.{named}
use Rattle.table_rules.proofs.NamedModules.{n-declarations}
use Rattle.table_rules.proofs.NamedStatements.{n-block}

-- the entries declare the alias in this block
pub record IsAliasIn (r : Rows) (block : ℕ) (i : Import) : Type 0 where
  pub row : Declared
  pub by : DeclGroup
  pub is_row : Contains r.declared row
  pub is_construct : Contains r.decl_groups by
  pub number : row.number ≡ i.alias
  pub begins : by.first ≡ row.declared_by
  pub an_import : by.decl_kind ≡ decl_kinds.Import
  pub in_block : by.block ≡ block
  pub no_field : by.of_record ≡ None

in_first : (a b : Rows) (n : ℕ) (i : Import) → IsAliasIn a n i → IsAliasIn (joined a b) n i
unfolding joined
in_first a b n i h = record {
  row = h.row;
  by = h.by;
  is_row = Contains-append_left a.declared b.declared h.row h.is_row;
  is_construct = Contains-append_left a.decl_groups b.decl_groups h.by h.is_construct;
  number = h.number;
  begins = h.begins;
  an_import = h.an_import;
  in_block = h.in_block;
  no_field = h.no_field;
}

in_second : (a b : Rows) (n : ℕ) (i : Import) → IsAliasIn b n i → IsAliasIn (joined a b) n i
unfolding joined
in_second a b n i h = record {
  row = h.row;
  by = h.by;
  is_row = Contains-append_right a.declared b.declared h.row h.is_row;
  is_construct = Contains-append_right a.decl_groups b.decl_groups h.by h.is_construct;
  number = h.number;
  begins = h.begins;
  an_import = h.an_import;
  in_block = h.in_block;
  no_field = h.no_field;
}

-- a part of a tree that uses nothing: it declares the aliases of its import items, which are among its tokens
record Imported (p : Fragment) : Type 0 where
  declares : (c : Context) (k : ℕ) (i : Import) → Contains (p.rows c k).imports i → IsAliasIn (p.rows c k) c.block i
  below : (c : Context) (k : ℕ) (i : Import) → Contains (p.rows c k).imports i → i.alias < k + p.width
  unused : (c : Context) (k : ℕ) → (p.rows c k).uses ≡ []

none_there : {X T : Type 0} (xs : List X) (x : X) → xs ≡ [] → Contains xs x → T
none_there xs x e h = let (j, l, f) = subst (λ (ys : List _). Contains ys x) e h in absurd (omega arith)

i-token : Imported token
unfolding token no_rows
i-token = record { declares = λ c k i h. none_there [] i refl h; below = λ c k i h. none_there [] i refl h; unused = λ c k. refl }

i-nothing : Imported nothing
unfolding nothing no_rows
i-nothing = record { declares = λ c k i h. none_there [] i refl h; below = λ c k i h. none_there [] i refl h; unused = λ c k. refl }

i-both : (p q : Fragment) → Imported p → Imported q → Imported (both p q)
unfolding both joined
i-both p q f g = record {
  declares = λ c k i h. elim (Contains-append_cases (p.rows c k).imports (q.rows c (k + p.width)).imports i h) [
    | inl l ↦ in_first (p.rows c k) (q.rows c (k + p.width)) c.block i (f.declares c k i l)
    | inr r ↦ in_second (p.rows c k) (q.rows c (k + p.width)) c.block i (g.declares c (k + p.width) i r)
  ];
  below = λ c k i h. elim (Contains-append_cases (p.rows c k).imports (q.rows c (k + p.width)).imports i h) [
    | inl l ↦ (let e : i.alias < k + p.width = f.below c k i l in omega (arith, e))
    | inr r ↦ (let e : i.alias < k + p.width + q.width = g.below c (k + p.width) i r in omega (arith, e))
  ];
  unused = λ c k. rw (f.unused c k, g.unused c (k + p.width)) refl;
}

i-there : {X : Type 0} (f : X → Fragment) (o : Option X) → ((x : X) → Imported (f x)) → Imported (there f o)
i-there f None w = i-nothing
i-there f (Some x) w = w x

i-each : {X : Type 0} (f : X → Fragment) (xs : List X) → ((x : X) → Imported (f x)) → Imported (pieces f xs)
i-each f [] w = i-nothing
i-each f (x ∷ xs) w = i-both (f x) (pieces f xs) (w x) (i-each f xs w)

-- the one import item
only : (k n : ℕ) (i : Import) → Contains (record { alias = k; imported = n } ∷ []) i → i.alias ≡ k
only k n i (zero, l, e) = ap (λ (x : Import). x.alias) (sym e)
only k n i (suc j, l, e) = absurd (omega arith)

abbrev item_piece : Option ℕ → Fragment
item_piece of = with_rows (λ c k. one_import (record { alias = k; imported = named_by of k })) (with_rows (declared_row false) (both token (there (λ m. both token token) of)))

alias_of : (of : Option ℕ) (c : Context) (k : ℕ) (i : Import) → Contains ((item_piece of).rows c k).imports i → i.alias ≡ k
unfolding nothing with_rows both token joined no_rows
alias_of None c k i h = only k k i h
alias_of (Some m) c k i h = only k (k + 2) i h

item_unused : (of : Option ℕ) (c : Context) (k : ℕ) → ((item_piece of).rows c k).uses ≡ []
unfolding nothing with_rows both token joined no_rows
item_unused None c k = refl
item_unused (Some m) c k = refl

item_wide : (of : Option ℕ) → 0 < (item_piece of).width
unfolding nothing with_rows both token
item_wide None = omega arith
item_wide (Some m) = omega arith

i-import : (i : ImportItem) → Imported (import_rows i)
unfolding import_rows import_inner declaring with_rows joined
i-import item = record {
  declares = λ c k i h. record {
    row = record { number = k; exported = false; declared_by = k };
    by = record { decl_kind = decl_kinds.Import; first = k; last = _; block = c.block; of_record = None };
    is_row = (zero, omega arith, refl);
    is_construct = (zero, omega arith, refl);
    number = sym (alias_of item.of _ k i h);
    begins = refl;
    an_import = refl;
    in_block = refl;
    no_field = refl;
  };
  below = λ c k i h. let e = alias_of item.of _ k i h in let wide = item_wide item.of in omega (arith, e, wide);
  unused = λ c k. item_unused item.of _ k;
}

i-imports : (l : OneOrMore ImportItem) → Imported (imports_rows l)
unfolding imports_rows
i-imports l = i-both token _ i-token (i-both (import_rows l.first) _ (i-import l.first)
    (i-both _ token (i-each (λ x. both token (import_rows x)) l.rest.items (λ x. i-both token (import_rows x) i-token (i-import x))) i-token))

-- ---- the module

-- the aliases of a part are declared, and come before the part's uses
record AreAliasesFirst (p : Fragment) : Type 0 where
  declares : (c : Context) (k : ℕ) (i : Import) → Contains (p.rows c k).imports i → IsAliasIn (p.rows c k) c.block i
  before : (c : Context) (k : ℕ) (i : Import) (u : Used) → Contains (p.rows c k).imports i → Contains (p.rows c k).uses u → i.alias < u.number

both_none : (p q : Fragment) → ((c : Context) (k : ℕ) → (p.rows c k).imports ≡ []) → ((c : Context) (k : ℕ) → (q.rows c k).imports ≡ []) → (c : Context) (k : ℕ) → ((both p q).rows c k).imports ≡ []
unfolding both joined
both_none p q f g c k = rw (f c k, g c (k + p.width)) refl

-- import items before a part without any
first_in : (p q : Fragment) (o : Events) → Imported p → Named q o → ((c : Context) (k : ℕ) → (q.rows c k).imports ≡ []) → AreAliasesFirst (both p q)
unfolding both joined
first_in p q o f g none = record {
  declares = λ c k i h. elim (Contains-append_cases (p.rows c k).imports (q.rows c (k + p.width)).imports i h) [
    | inl l ↦ in_first (p.rows c k) (q.rows c (k + p.width)) c.block i (f.declares c k i l)
    | inr r ↦ none_there (q.rows c (k + p.width)).imports i (none c (k + p.width)) r
  ];
  before = λ c k i u h v. elim (Contains-append_cases (p.rows c k).imports (q.rows c (k + p.width)).imports i h) [
    | inl l ↦ elim (Contains-append_cases (p.rows c k).uses (q.rows c (k + p.width)).uses u v) [
      | inl used ↦ none_there (p.rows c k).uses u (f.unused c k) used
      | inr used ↦
          let role = (each_one (OfUse (HasRole (k + p.width) o)) (q.rows c (k + p.width)).uses u (g.has_role c (k + p.width)).3 used).0 in
          let at : k + p.width + role.0 ≡ u.number = role.1 in
          let e : i.alias < k + p.width = f.below c k i l in
          omega (arith, at, e)
    ]
    | inr r ↦ none_there (q.rows c (k + p.width)).imports i (none c (k + p.width)) r
  ];
}

-- a token before it
behind_token : (q : Fragment) → AreAliasesFirst q → AreAliasesFirst (both token q)
unfolding both token joined no_rows
behind_token q f = record {
  declares = λ c k i h. in_second no_rows (q.rows c (k + 1)) c.block i (f.declares c (k + 1) i h);
  before = λ c k i u h v. f.before c (k + 1) i u h v;
}

first_of_all : (m : Module) → AreAliasesFirst (module_rows m)
unfolding module_rows
first_of_all m = behind_token _ (behind_token _ (behind_token _ (first_in (there imports_rows m.imports) _ _ (i-there imports_rows m.imports i-imports)
    (n-both (n-declarations m.declarations) (n-both (c-there named (λ b. both token (block_rows b)) (λ b. word kinds.Begin ++ block_events b) m.body (λ b. n-both (n-word kinds.Begin) (n-block b)))
    (n-both (n-word kinds.End) (n-both (n-ends (λ c k. None) m.name m.end_name) (n-word kinds.Dot)))))
    (both_none _ _ (f-declarations m.declarations).domestic (n-end m).domestic))))

pub aliased : (m : Module) (i : Import) → Contains (rows_of m).imports i → IsAliasIn (rows_of m) 0 i
aliased m i h = (first_of_all m).declares outermost 0 i h

pub alias_before : (m : Module) (i : Import) (u : Used) → Contains (rows_of m).imports i → Contains (rows_of m).uses u → i.alias < u.number
alias_before m i u h v = (first_of_all m).before outermost 0 i u h v
